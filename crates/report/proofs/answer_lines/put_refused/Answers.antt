-- `report::answer_lines::put_refused` meets its contract: the text, the number and the newline, one after another. Assumes nothing.
use Rattle.std.proofs.Common.{ap}
use Rattle.report.specs.Line.{refused_line}
use Rattle.buffers.proofs.Cursors.{added_append, added_as}
use Rattle.report.proofs.answer_lines.put_refused.Goals as goal

pub returns : goal.returns
unfolding refused_line
returns g c = added_as (ap refused_line c.number.ensures) (added_append c.put_field.ensures.added c.put_byte.ensures)
