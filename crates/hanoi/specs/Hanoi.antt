-- The call that takes a Hanoi text (02, S-2): the refusal of the text that is read, or its automaton written in the fixed form, with refusal 16 where the
-- output buffer is too short for it. Only what is written changes the buffer.
--   on_text         what follows a text: by the refusal's number, or by what it describes
--   hanoi_of s out  the whole call, of the text s
-- Shown by `hanoi_demand_1`. Assumes nothing.
use Rattle.std.specs.Prelude.{List, ℕ}
use Rattle.fixed_form.specs.WriteAnswers.{Refused}
use Rattle.fixed_form.specs.Write.{Write, writing}
use Rattle.hanoi.specs.Descriptions.{Description}
use Rattle.hanoi.specs.Reading.{Read, refused, describes, read_hanoi}
use Rattle.hanoi.specs.Meaning.{automaton_of}

abbrev pub on_text : {X : Type 0} → Read → (ℕ → X) → (Description → X) → X
on_text (refused n) stop go = stop n
on_text (describes D) stop go = go D

unfoldable pub hanoi_of : List ℕ → List ℕ → Write
hanoi_of s out = on_text (read_hanoi s) (λ n. record { answer = Refused n; out = out }) (λ D. writing (automaton_of D) out)
