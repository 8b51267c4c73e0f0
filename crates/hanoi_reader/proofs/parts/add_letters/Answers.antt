-- `add_letters` meets its contract: with the letters from the present one on added, it is what all letters come to. Assumes nothing.
use Rattle.std.proofs.Common.{sym, ◌∙◌}
use Rattle.hanoi_reader.proofs.LetterLaws.{letter_taken, letter_passed, no_letter}
use Rattle.hanoi_reader.proofs.parts.add_letters.Goals as goal
use Rattle.hanoi_reader.proofs.parts.add_letters.Goals.{then-has, else-has}

pub loop-a-preserved : goal.loop-a-preserved
loop-a-preserved c =
    elim c.if-has.branch [
      | then-has w ↦ rw (w.automaton-is, w.add_transition.ensures) (c.loop-a.invariant ∙ letter_taken _ _ _ _ _ _ c.loop-a-test.true (sym (rw c.from.ensures at w.if-has.ensures)))
      | else-has w ↦ rw w.automaton-is (c.loop-a.invariant ∙ letter_passed _ _ _ _ _ _ c.loop-a-test.true (sym (rw c.from.ensures at w.if-has.ensures)))
    ]

pub returns : goal.returns
returns c = sym (c.loop-a.invariant ∙ no_letter _ _ _ _ _ _ c.loop-a-test.false)
