-- What offer answers (01, "Entry, open, offer" and the table of refusals), by the table's numbers: taken with the forward and the back count; forward with its
-- count and the word's length; back with both counts and the word's length; a refusal's number; 10 with the walk, 1 forward or 2 back, and the slots; 11
-- with the walk and the length needed.
--   offer_answer_of x           the answer that the code's result x stands for
--   offer_answer_by row x       the same of a result whose refusals have the rows of the table that `row` says
--   offer_row r                 the row of the refusal r: its number, with its values where it has any
--   row_answer r, row_number r  the answer that the row r stands for, and its number
--   offer_refusal_number r   the number of the refusal r
-- Assumes nothing.
use Rattle.std.specs.Prelude.{ℕ, Result, Ok, Err}
use Rattle.format.specs.Numbers.{file_number}
use Rattle.answers.specs.declared.WalkRefusal.TheVariants as walks
use Rattle.answers.specs.Outcomes.{walk_refusal_number}
use Rattle.history.specs.declared.Offered.{Offered}
use Rattle.history.specs.declared.Offered.TheVariants as offered
use Rattle.history.specs.declared.Walk.{Walk}
use Rattle.history.specs.declared.Walk.TheVariants as which
use Rattle.history.specs.declared.OfferRefusal.{OfferRefusal}
use Rattle.history.specs.declared.OfferRefusal.TheVariants as refusals
use Rattle.history.specs.declared.OfferRow.{OfferRow}
use Rattle.history.specs.declared.OfferRow.TheVariants as rows

pub data OfferAnswer : Type 0 where
  Taken : ℕ → ℕ → OfferAnswer
  Forward : ℕ → ℕ → OfferAnswer
  Back : ℕ → ℕ → ℕ → OfferAnswer
  Refused : ℕ → OfferAnswer
  NoSlots : ℕ → ℕ → OfferAnswer
  NoRoom : ℕ → ℕ → OfferAnswer

abbrev pub walk_number : Walk → ℕ
walk_number which.Forward = 1
walk_number which.Back = 2

abbrev pub offer_refusal_number : OfferRefusal → ℕ
offer_refusal_number refusals.Malformed = 9
offer_refusal_number refusals.Empty = 13
offer_refusal_number (refusals.File r) = file_number r
offer_refusal_number refusals.Bound = 8
offer_refusal_number refusals.Letters = 7
offer_refusal_number refusals.Dead = 6
offer_refusal_number refusals.NotSmaller = 14
offer_refusal_number (refusals.Walk w r) = walk_refusal_number r

abbrev pub offer_row : OfferRefusal → OfferRow
offer_row refusals.Malformed = rows.Refused 9
offer_row refusals.Empty = rows.Refused 13
offer_row (refusals.File r) = rows.Refused (file_number r)
offer_row refusals.Bound = rows.Refused 8
offer_row refusals.Letters = rows.Refused 7
offer_row refusals.Dead = rows.Refused 6
offer_row refusals.NotSmaller = rows.Refused 14
offer_row (refusals.Walk w (walks.NoSlots slots)) = rows.NoSlots (walk_number w) slots
offer_row (refusals.Walk w (walks.NoRoom len)) = rows.NoRoom (walk_number w) len

abbrev pub row_number : OfferRow → ℕ
row_number (rows.Refused n) = n
row_number (rows.NoSlots i n) = 10
row_number (rows.NoRoom i len) = 11

abbrev pub row_answer : OfferRow → OfferAnswer
row_answer (rows.Refused n) = Refused n
row_answer (rows.NoSlots i n) = NoSlots i n
row_answer (rows.NoRoom i len) = NoRoom i len

abbrev pub offer_answer_by : {R : Type 0} → (R → OfferRow) → Result Offered R → OfferAnswer
offer_answer_by row (Ok (offered.Taken forward back)) = Taken forward back
offer_answer_by row (Ok (offered.Forward forward len)) = Forward forward len
offer_answer_by row (Ok (offered.Back forward back len)) = Back forward back len
offer_answer_by row (Err r) = row_answer (row r)

abbrev pub offer_answer_of : Result Offered OfferRefusal → OfferAnswer
offer_answer_of = offer_answer_by offer_row
