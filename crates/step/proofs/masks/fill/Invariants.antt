-- `step::masks::fill` meets its contract. The loop's invariant: the masks of the letters below a are written. Assumes nothing.
use mathlib.Core.Path.{◌≡◌}
use Rattle.step.specs.Masks.{masks_after}
use Rattle.step.proofs.masks.fill.Given as goal

abbrev pub invariant-loop-a : goal.invariant-loop-a
invariant-loop-a l = l.masks ≡ masks_after l.automaton.transitions l.automaton.states l.a l.initial.masks
