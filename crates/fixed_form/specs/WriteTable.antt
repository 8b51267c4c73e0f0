-- What the call that writes a file answers under which condition, in the order of the checks (02, S-1).
--   write_rows f out  the rows: 1-5 of the file, 16; then the length written
--   write_place x     the place of the row of x, counted from 0
-- Shown by `write_table` and `write_answer`. Assumes nothing.
use Rattle.std.specs.Prelude.{◌≡◌, List, [], ◌∷◌, ℕ, ◌<◌, length}
use Rattle.format.specs.Refusals.{Refusal}
use Rattle.checks.specs.Checks.{Row, answers_by, FileHolds}
use Rattle.fixed_form.specs.WriteAnswers.{WriteAnswer}
use Rattle.fixed_form.specs.WriteAnswers.{Wrote, Refused, NoRoom}
use Rattle.fixed_form.specs.FixedForm.{written}

abbrev pub write_rows : List ℕ → List ℕ → List (Row WriteAnswer)
write_rows f out =
    answers_by Refused (Refusal f)
    ∷ answers_by NoRoom (λ len. FileHolds f (λ A. (len ≡ length (written A)) × (length out < len)))
    ∷ answers_by Wrote (λ len. FileHolds f (λ A. len ≡ length (written A)))
    ∷ []

abbrev pub write_place : WriteAnswer → ℕ
write_place (Refused n) = 0
write_place (NoRoom len) = 1
write_place (Wrote len) = 2
