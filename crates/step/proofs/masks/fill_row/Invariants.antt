-- `step::masks::fill_row` meets its contract. The loop's invariant: the masks of the targets below r are written. Assumes nothing.
use mathlib.Core.Path.{◌≡◌}
use Rattle.automaton.specs.Members.{transition_in}
use Rattle.relations.specs.Rows.{changed_rows}
use Rattle.step.specs.Masks.{mask}
use Rattle.step.proofs.masks.fill_row.Given as goal

abbrev pub invariant-loop-r : goal.invariant-loop-r
invariant-loop-r l = l.masks ≡ changed_rows l.at l.r (λ k. mask (transition_in l.automaton.transitions l.p l.letter k)) l.initial.masks
