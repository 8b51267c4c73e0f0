-- What contain answers (01, "Contain" and the table of refusals), by the table's numbers.
--   Comparison        what the walk of two automata comes to: the number of vertices, none of which is final; the final vertex's place and its word's
--                     length; refusal 10 with the slots; refusal 11 with the length needed
--   Outcome           a refusal 1 to 8 with the file, 1 or 2, and 0 where none is meant; or what the walk comes to
--   comparison_of x, outcome_for x   what the code's result x stands for
--   outcome_by row x                 the same of a result whose refusals have the rows of the table that `row` says
--   contain_row r                    the row of the refusal r: its number and the file, or the walk's refusal
--   row_outcome r                    what the row r stands for
--   walk_refusal_number r            the number of a walk's refusal
-- Assumes nothing.
use Rattle.std.specs.Prelude.{ℕ, Result, Ok, Err}
use Rattle.format.specs.Numbers.{file_number}
use Rattle.answers.specs.declared.Containment.{Containment}
use Rattle.answers.specs.declared.Containment.TheVariants as found
use Rattle.answers.specs.declared.WalkRefusal.{WalkRefusal}
use Rattle.answers.specs.declared.WalkRefusal.TheVariants as walks
use Rattle.answers.specs.declared.ContainRefusal.{ContainRefusal}
use Rattle.answers.specs.declared.ContainRefusal.TheVariants.{First, Second, Bound, Letters, FirstDead, SecondDead, Walk}
use Rattle.answers.specs.declared.ContainRow.{ContainRow}
use Rattle.answers.specs.declared.ContainRow.TheVariants as rows

pub data Comparison : Type 0 where
  Contained : ℕ → Comparison
  Differs : ℕ → ℕ → Comparison
  NoSlots : ℕ → Comparison
  NoRoom : ℕ → Comparison

pub data Outcome : Type 0 where
  Refused : ℕ → ℕ → Outcome
  Compared : Comparison → Outcome

abbrev pub walk_refusal_number : WalkRefusal → ℕ
walk_refusal_number (walks.NoSlots slots) = 10
walk_refusal_number (walks.NoRoom len) = 11

abbrev pub comparison_of : Result Containment WalkRefusal → Comparison
comparison_of (Ok (found.Contained count)) = Contained count
comparison_of (Ok (found.Differs place len)) = Differs place len
comparison_of (Err (walks.NoSlots slots)) = NoSlots slots
comparison_of (Err (walks.NoRoom len)) = NoRoom len

abbrev pub contain_row : ContainRefusal → ContainRow
contain_row (First r) = rows.Refused (file_number r) 1
contain_row (Second r) = rows.Refused (file_number r) 2
contain_row Bound = rows.Refused 8 0
contain_row Letters = rows.Refused 7 0
contain_row FirstDead = rows.Refused 6 1
contain_row SecondDead = rows.Refused 6 2
contain_row (Walk r) = rows.Walk r

abbrev pub row_outcome : ContainRow → Outcome
row_outcome (rows.Refused n file) = Refused n file
row_outcome (rows.Walk r) = Compared (comparison_of (Err r))

abbrev pub outcome_by : {R : Type 0} → (R → ContainRow) → Result Containment R → Outcome
outcome_by row (Ok x) = Compared (comparison_of (Ok x))
outcome_by row (Err r) = row_outcome (row r)

abbrev pub outcome_for : Result Containment ContainRefusal → Outcome
outcome_for = outcome_by contain_row
