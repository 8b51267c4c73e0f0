-- How the code answers for an item of the header; only contracts between functions name these.
--   onward_by n x go      how the reading goes on after an answer: a refusal, which has its number by n, ends it
--   onward x go           the same where the refusal is a text's
-- Assumes nothing.
use Rattle.std.specs.Prelude.{ℕ, Result, Ok, Err}
use Rattle.hanoi.specs.declared.TextRefusal.{TextRefusal}
use Rattle.hanoi.specs.Numbers.{text_number}
use Rattle.hanoi.specs.Reading.{Step, over, refused}

abbrev pub onward_by : {A R : Type 0} → (R → ℕ) → Result A R → (A → Step) → Step
onward_by n (Err f) go = over (refused (n f))
onward_by n (Ok x) go = go x

abbrev pub onward : {A : Type 0} → Result A TextRefusal → (A → Step) → Step
onward x go = onward_by text_number x go
