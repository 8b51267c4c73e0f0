-- `report::answer_lines::put_answer` meets its contract: a refusal's line is that of its row's number. Assumes nothing.
use Rattle.std.proofs.Common.{sym}
use Rattle.buffers.proofs.Cursors.{added_as}
use Rattle.report.proofs.Lines.{row_shown}
use Rattle.report.proofs.answer_lines.put_answer.Goals as goal

pub returns-in-Err : goal.returns-in-Err
returns-in-Err g c = rw (c.in-Err.is, sym c.table_row.ensures) (added_as (row_shown _ _ c.table_row.result) c.put_refused.ensures)
