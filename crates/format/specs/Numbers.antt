-- The numbers of a file's refusals (01, the table of refusals).
--   file_number r   the number of the refusal r
-- Assumes nothing.
use Rattle.std.specs.Prelude.{ℕ}
use Rattle.format.specs.declared.FileRefusal.{FileRefusal}
use Rattle.format.specs.declared.FileRefusal.TheVariants.{CutShort, UnknownMark, HeaderValues, OutsideHeader, Repeated}

abbrev pub file_number : FileRefusal → ℕ
file_number CutShort = 1
file_number UnknownMark = 2
file_number HeaderValues = 3
file_number OutsideHeader = 4
file_number Repeated = 5
