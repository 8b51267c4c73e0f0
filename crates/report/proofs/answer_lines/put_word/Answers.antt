-- `report::answer_lines::put_word` meets its contract: the text, the letters and the newline, one after another. Assumes nothing.
use Rattle.buffers.proofs.Cursors.{added_append}
use Rattle.report.proofs.answer_lines.put_word.Goals as goal

pub returns : goal.returns
returns c = added_append (added_append c.put_text.ensures c.put_letters.ensures.added) c.put_byte.ensures
