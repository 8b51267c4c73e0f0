-- `step::largest_into` meets its contract. The loop's invariant: after the first listed states, each right state has the largest counter of
-- its predecessors among them. Assumes nothing.
use mathlib.Core.Path.{◌≡◌}
use Rattle.step.proofs.PresentStates.{raised_by}
use Rattle.step.proofs.largest_into.Given as goal

abbrev pub invariant-loop-place : goal.invariant-loop-place
invariant-loop-place l = l.largest ≡ raised_by l.masks l.states l.letter l.counters l.place-items l.place-index
