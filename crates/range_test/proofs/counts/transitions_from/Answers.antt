-- `transitions_from` meets its contract: on each letter there are 32 targets at the most. Assumes nothing.
use mathlib.Core.Path.{◌≡◌}
use Prim.Native.Nat.{ℕ}
use native.Mathlib.Omega.{arith}
use Rattle.std.proofs.Common.{rules, tests}
use Rattle.automaton.specs.Ranges.{total}
use Rattle.automaton.specs.Automata.{one, transition}
use Rattle.range_test.proofs.OverRanges.{sum_fits, total_from_sum, total_few, passing_few}
use Rattle.range_test.proofs.counts.transitions_from.Goals as goal

pub sum-requires-clause-fits : goal.sum-requires-clause-fits
sum-requires-clause-fits c =
    sum_fits _ _ c.args.automaton.now.letters 16 _ (omega arith) c.map.ensures.source c.map.ensures.closure (omega arith)
    (λ x r q k. search (rules, tests))

pub returns : goal.returns
returns c =
    let A = c.args.automaton.now in
    let f = λ (a : ℕ). total (λ r. one (transition A c.args.q a r)) A.states 0 in
    let e : c.sum.result ≡ total f A.letters 0 =
    total_from_sum f A.letters _ _ c.sum.ensures.ran c.map.ensures.source c.map.ensures.closure (λ x r q k. search (rules, tests)) in
    (e, omega (arith, e, total_few f 32 A.letters 0 (λ a. omega (arith, passing_few (transition A c.args.q a) A.states))))
