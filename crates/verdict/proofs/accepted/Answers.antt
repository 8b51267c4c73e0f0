-- `verdict::accepted` meets its contract: what the functions that it calls ensure are the facts from which the verdict in words is the
-- verdict. Assumes nothing.
use mathlib.Core.Path.{◌∙◌}
use Prim.Native.Nat.{◌<◌}
use native.Mathlib.Omega.{arith}
use Rattle.std.proofs.Common.{rules, tests}
use Rattle.relations.proofs.Rows.{closed_rows_lem, diagonal_rows_lem}
use Rattle.verdict.proofs.WordVerdict.{words_decide}
use Rattle.verdict.proofs.accepted.Goals as goal

pub returns : goal.returns
returns c =
    let A = c.args.valid.automaton.now in
    let few = c.args.valid.in_range.few_states in
    let pairs = c.of_word-pairs in
    let runs = c.map-runs.result in
    let closed = c.close.new.rows in
    let joined = c.add_diagonal.new.rows in
    c.some_returns.ensures
    ∙ words_decide A c.args.stem.now c.args.cycle.now c.ends-ends.result runs closed joined c.map.result
    c.ends-ends.ensures
    (λ p q hp hq. let h : p < 32 = omega arith in let x = c.map-runs.ensures.items.at p 0 0 h in search (rules, tests))
    (λ p q hp hq. let h : p < 32 = omega arith in let x = c.map.ensures.items.at p 0 0 h in search (rules, tests))
    (closed_rows_lem A.states runs closed c.close.ensures (omega (arith, c.map-runs.ensures.items.long)))
    (diagonal_rows_lem A.states closed joined c.add_diagonal.ensures (omega (arith, c.map-runs.ensures.items.long)))
