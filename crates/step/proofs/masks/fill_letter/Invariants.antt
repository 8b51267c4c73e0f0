-- `step::masks::fill_letter` meets its contract. The loop's invariant: the masks of the states below p are written. Assumes nothing.
use mathlib.Core.Path.{◌≡◌}
use Rattle.step.proofs.MaskRows.{first_rows}
use Rattle.step.proofs.masks.fill_letter.Given as goal

abbrev pub invariant-loop-p : goal.invariant-loop-p
invariant-loop-p l = l.masks ≡ first_rows l.automaton.transitions l.automaton.states l.p l.letter l.initial.masks
