-- `contain::compare` meets its contract: the word of a final vertex is the walk's word. Assumes nothing.
use mathlib.Core.Path.{sym, ap, ◌∙◌}
use Rattle.std.specs.Prelude.{Err}
use Rattle.contain.proofs.WalkAnswers.{final_readable, final_answer, final_letters}
use Rattle.contain.proofs.compare.Goals as goal

pub final_word-len-requires : goal.final_word-len-requires
final_word-len-requires c =
    let a = c.args in
    let g = c.in-Err-Final in
    final_readable a.left.automaton.now a.right.automaton.now a.bound.value a.work.now _ _ _ _ a.left.in_range
    (sym (g.is ∙ ap Err g.field-0-is) ∙ c.walk.ensures.answer) c.walk.ensures.bytes

pub returns-in-Err-Final-clause-answer : goal.returns-in-Err-Final-clause-answer
returns-in-Err-Final-clause-answer c =
    let a = c.args in
    let g = c.in-Err-Final in
    c.differing.ensures
    ∙ final_answer a.left.automaton.now a.right.automaton.now a.bound.value a.work.now _ _ _ _ a.left.in_range
    (sym (g.is ∙ ap Err g.field-0-is) ∙ c.walk.ensures.answer) c.walk.ensures.bytes a.word.now _ _ c.final_word-len.auto.word
    c.final_word-len.ensures.count

pub returns-in-Err-Final-clause-word : goal.returns-in-Err-Final-clause-word
returns-in-Err-Final-clause-word c =
    let a = c.args in
    let g = c.in-Err-Final in
    final_letters a.left.automaton.now a.right.automaton.now a.bound.value a.work.now _ _ _ _ a.left.in_range
    (sym (g.is ∙ ap Err g.field-0-is) ∙ c.walk.ensures.answer) c.walk.ensures.bytes a.word.now _ c.final_word-len.ensures.letters
