-- `step::tops_of` meets its contract. The loop's invariant: the tops written so far are those of the table. Assumes nothing.
use mathlib.Core.Bool.{cond}
use Rattle.automaton.specs.Sets.{member}
use Rattle.step.proofs.SteppedBytes.{TableWritten}
use Rattle.step.proofs.tops_of.Given as goal

abbrev pub invariant-loop-r : goal.invariant-loop-r
invariant-loop-r l = TableWritten (λ k. cond (member l.automaton.accepting k) l.top 0) l.tops l.r
