-- `report::answer_lines::put_offered` meets its contract: the front, the back count and what stands behind it, one after another. Assumes
-- nothing.
use Rattle.text.specs.Text.{letters}
use Rattle.report.specs.Line.{newline, word_text, offer_line}
use Rattle.buffers.proofs.Cursors.{added_append, added_three}
use Rattle.report.proofs.answer_lines.put_offered.Goals as goal

pub returns-in-Taken : goal.returns-in-Taken
unfolding offer_line
returns-in-Taken c = rw c.in-Taken.is (added_append (added_append c.put_front.ensures.added c.put_decimal.ensures.added) c.put_byte.ensures)

pub returns-in-Forward : goal.returns-in-Forward
unfolding offer_line
returns-in-Forward c = rw c.in-Forward.is
    (added_three word_text (letters _) newline
    (added_append c.put_front-in-Forward.ensures.added c.put_byte-in-Forward.ensures) c.put_word.ensures)

pub returns-in-Back : goal.returns-in-Back
unfolding offer_line
returns-in-Back c = rw c.in-Back.is
    (added_three word_text (letters _) newline
    (added_append c.put_front-in-Back.ensures.added c.put_decimal-in-Back.ensures.added) c.put_word-in-Back.ensures)
