-- `transition_count` meets its contract: from each state there are 512 transitions at the most. Assumes nothing.
use Prim.Native.Nat.{ℕ}
use native.Mathlib.Omega.{arith}
use Rattle.std.proofs.Common.{rules, tests}
use Rattle.automaton.specs.Ranges.{total}
use Rattle.automaton.specs.Automata.{one, transition, transition_count}
use Rattle.range_test.proofs.OverRanges.{sum_fits, total_from_sum}
use Rattle.range_test.proofs.transition_count.Goals as goal

pub sum-requires-clause-fits : goal.sum-requires-clause-fits
sum-requires-clause-fits c =
    sum_fits _ _ c.args.automaton.now.states 32 _ (omega arith) c.map.ensures.source c.map.ensures.closure (omega arith)
    (λ x r q k. search (rules, tests))

pub returns : goal.returns
unfolding transition_count
returns c =
    let A = c.args.automaton.now in
    total_from_sum (λ (q : ℕ). total (λ a. total (λ r. one (transition A q a r)) A.states 0) A.letters 0) A.states _ _ c.sum.ensures.ran
    c.map.ensures.source c.map.ensures.closure (λ x r q k. search (rules, tests))
