-- `deadend::dead_among` meets its contract. Assumes nothing.
use mathlib.Core.Bool.{◌&&◌, not}
use Prim.Native.Nat.{ℕ}
use Rattle.std.proofs.Common.{rules, tests}
use Rattle.automaton.specs.Ranges.{some}
use Rattle.automaton.specs.Sets.{bit}
use Rattle.relations.specs.Closure.{row_has}
use Rattle.deadend.proofs.Tested.{tested_bits}
use Rattle.deadend.proofs.dead_among.Goals as goal

pub returns : goal.returns
returns c =
    tested_bits (λ (q : ℕ). bit c.args.reached q && not (some (λ r. row_has c.args.rows.now q r && bit c.args.loops r) 32 0)) c.args.n c.states_where.result
    (λ k h. let t = c.states_where.ensures.tested k h in search (rules, tests)) c.states_where.ensures.others
