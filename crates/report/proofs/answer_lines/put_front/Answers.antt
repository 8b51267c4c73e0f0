-- `report::answer_lines::put_front` meets its contract: the outcome, the fields, the count and a space, one after another. Assumes nothing.
use Rattle.buffers.proofs.Cursors.{added_append}
use Rattle.report.proofs.answer_lines.put_front.Goals as goal

pub returns-clause-added : goal.returns-clause-added
returns-clause-added c =
    added_append (added_append (added_append c.put_text.ensures c.put_fields.ensures.added) c.put_decimal.ensures.added) c.put_byte.ensures
