-- What verdict answers (01, "Verdict" and the table of refusals), by the table's numbers: accepted, not accepted, or a refusal's number.
--   verdict_answer_of x           the answer that the code's result x stands for
--   verdict_answer_by number x    the same of a result whose refusals have the numbers that `number` says
--   verdict_refusal_number r   the number of the refusal r
-- Assumes nothing.
use Rattle.std.specs.Prelude.{ℕ, Bool, true, false, Result, Ok, Err}
use Rattle.history.specs.declared.VerdictRefusal.{VerdictRefusal}
use Rattle.history.specs.declared.VerdictRefusal.TheVariants.{Malformed, Empty, BadLasso}

pub data VerdictAnswer : Type 0 where
  Yes : VerdictAnswer
  No : VerdictAnswer
  Refused : ℕ → VerdictAnswer

abbrev pub verdict_refusal_number : VerdictRefusal → ℕ
verdict_refusal_number Malformed = 9
verdict_refusal_number Empty = 13
verdict_refusal_number BadLasso = 15

abbrev pub verdict_answer_by : {R : Type 0} → (R → ℕ) → Result Bool R → VerdictAnswer
verdict_answer_by number (Ok true) = Yes
verdict_answer_by number (Ok false) = No
verdict_answer_by number (Err r) = Refused (number r)

abbrev pub verdict_answer_of : Result Bool VerdictRefusal → VerdictAnswer
verdict_answer_of = verdict_answer_by verdict_refusal_number
