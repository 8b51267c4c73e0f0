-- How the code answers for a label at a place: by its truth on letters 0 to 15 and the place behind it; only contracts between functions name these.
--   answer_of x        what was found, as the code answers
-- Assumes nothing.
use Rattle.std.specs.Prelude.{ℕ, Option, Some, None}
use Rattle.labels.specs.Labels.{mask_of}
use Rattle.labels.specs.LabelReading.{Found, absent, found}

unfoldable pub answer_of : Found → Option (ℕ × ℕ)
answer_of absent = None
answer_of (found L j) = Some (mask_of L, j)
