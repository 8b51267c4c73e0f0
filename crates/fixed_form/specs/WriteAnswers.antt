-- What a call that writes a file answers (02, S-1), by the table's numbers: the length written; the refusal of what it was to write; refusal 16 with the
-- length needed.
--   write_answer_of number x   the answer that the code's result x stands for, where `number` numbers the refusals of what was to be written
-- Assumes nothing.
use Rattle.std.specs.Prelude.{ℕ, Result, Ok, Err}
use Rattle.fixed_form.specs.declared.WriteRefusal.{WriteRefusal}
use Rattle.fixed_form.specs.declared.WriteRefusal.TheVariants as refusals

pub data WriteAnswer : Type 0 where
  Wrote : ℕ → WriteAnswer
  Refused : ℕ → WriteAnswer
  NoRoom : ℕ → WriteAnswer

abbrev pub write_answer_of : {R : Type 0} → (R → ℕ) → Result ℕ (WriteRefusal R) → WriteAnswer
write_answer_of number (Ok len) = Wrote len
write_answer_of number (Err (refusals.Unread r)) = Refused (number r)
write_answer_of number (Err (refusals.NoRoom len)) = NoRoom len
