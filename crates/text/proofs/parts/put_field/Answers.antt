-- `text::parts::put_field` meets its contract: a text and a number behind it. Assumes nothing.
use Rattle.buffers.proofs.Cursors.{added_append}
use Rattle.text.proofs.parts.put_field.Goals as goal

pub returns-clause-added : goal.returns-clause-added
returns-clause-added c = added_append c.put_text.ensures c.put_decimal.ensures.added
