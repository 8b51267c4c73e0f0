-- `deadend::on_loops` meets its contract. Assumes nothing.
use mathlib.Core.Bool.{◌&&◌}
use Prim.Native.Nat.{ℕ}
use Rattle.std.proofs.Common.{rules, tests}
use Rattle.automaton.specs.Sets.{bit}
use Rattle.relations.specs.Closure.{row_has}
use Rattle.deadend.proofs.Tested.{tested_bits}
use Rattle.deadend.proofs.on_loops.Goals as goal

pub returns : goal.returns
returns c =
    tested_bits (λ (q : ℕ). bit c.args.accepting q && row_has c.args.rows.now q q) c.args.n c.states_where.result
    (λ k h. let t = c.states_where.ensures.tested k h in search (rules, tests)) c.states_where.ensures.others
