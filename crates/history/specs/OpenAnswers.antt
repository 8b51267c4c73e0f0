-- What open answers (01, "Entry, open, offer" and the table of refusals), by the table's numbers: opened, or a refusal's number.
--   open_answer_of x           the answer that the code's result x stands for
--   open_answer_by number x    the same of a result whose refusals have the numbers that `number` says
--   open_refusal_number r   the number of the refusal r
-- Assumes nothing.
use Rattle.std.specs.Prelude.{ℕ, Result, Ok, Err}
use Rattle.format.specs.Numbers.{file_number}
use Rattle.history.specs.declared.OpenRefusal.{OpenRefusal}
use Rattle.history.specs.declared.OpenRefusal.TheVariants.{Malformed, Filled, File, Dead}

pub data OpenAnswer : Type 0 where
  Opened : OpenAnswer
  Refused : ℕ → OpenAnswer

abbrev pub open_refusal_number : OpenRefusal → ℕ
open_refusal_number Malformed = 9
open_refusal_number Filled = 12
open_refusal_number (File r) = file_number r
open_refusal_number Dead = 6

abbrev pub open_answer_by : {R : Type 0} → (R → ℕ) → Result (Unit {0}) R → OpenAnswer
open_answer_by number (Ok _) = Opened
open_answer_by number (Err r) = Refused (number r)

abbrev pub open_answer_of : Result (Unit {0}) OpenRefusal → OpenAnswer
open_answer_of = open_answer_by open_refusal_number
