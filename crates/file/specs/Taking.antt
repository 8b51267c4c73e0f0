-- How the code holds a step of the reading, and what it leaves. `File` says what the step is.
--   started h A        the automaton of the header h alone, with the transitions of A
--   start_step x       what the first record comes to, as a step of the reading
--   Headed s A         the first record of the file s is the header of A, which has nothing else
--   added x j          what adding a record came to, with j the position after it
--   progress_step p A  what a record came to, as a step of the reading, with A the automaton after it
--   automaton_after x A        the automaton after the step x, with A before it: a refusal and the end leave it as it is
--   automaton_past n s x A     the automaton after the step x of the file s and the records past it, at most n of them, with A before the step
--   automaton_read s   the automaton of the file's header and its records before the first fault, or before the end; with no header the bare one
--                      of no states
--   RecordTaken x p A B  the step x came to p, and left B of A
--   read_of x A        what the file holds, by what reading answers, x, and the automaton A that it leaves
-- Only contracts of the reader name these. Shown by `reading_advances`, `reading_ends` and `reading_refused`: how the reading goes on after a step
-- that came to p; by `headed_automaton` and `unheaded_automaton`: what a reading leaves, in the terms of the file's records; and by
-- `held_automaton`: a file that is read leaves its automaton. Assumes nothing.
use Rattle.std.specs.Prelude.{◌≡◌, List, ℕ, zero, suc, length, replicate, Option, Some, None, Result, Ok, Err}
use Rattle.automaton.specs.declared.Automaton.{Automaton}
use Rattle.automaton.specs.Automata.{bare}
use Rattle.file.specs.declared.Header.{Header}
use Rattle.format.specs.declared.FileRefusal.{FileRefusal}
use Rattle.format.specs.Numbers.{file_number}
use Rattle.format.specs.File.{Read, Step, over, next, refused, holds, header, record_at}

abbrev pub started : Header → Automaton → Automaton
started h A =
    record { states = h.states; letters = h.letters; initial = h.initial; accepting = replicate 4 0; transitions = A.transitions }

abbrev pub start_step : Result Header FileRefusal → Step
start_step (Err f) = over (refused (file_number f))
start_step (Ok h) = next 5 (bare h.states h.letters h.initial)

abbrev pub Headed : List ℕ → Automaton → Type 0
Headed s A = next 5 A ≡ header s

abbrev pub added : Result (Unit {0}) FileRefusal → ℕ → Result (Option ℕ) FileRefusal
added (Err f) j = Err f
added (Ok _) j = Ok (Some j)

abbrev pub progress_step : Result (Option ℕ) FileRefusal → Automaton → Step
progress_step (Err f) A = over (refused (file_number f))
progress_step (Ok None) A = over (holds A)
progress_step (Ok (Some j)) A = next j A

abbrev pub automaton_after : Step → Automaton → Automaton
automaton_after (over r) A = A
automaton_after (next i B) A = B

unfoldable pub automaton_past : ℕ → List ℕ → Step → Automaton → Automaton
automaton_past zero s x A = automaton_after x A
automaton_past (suc n) s (over r) A = A
automaton_past (suc n) s (next i B) A = automaton_past n s (record_at s i B) B

-- a record has two bytes or more, so there are at most as many as bytes
unfoldable pub automaton_read : List ℕ → Automaton
automaton_read s = automaton_past (length s) s (header s) (bare 0 0 0)

pub record RecordTaken (x : Step) (p : Result (Option ℕ) FileRefusal) (A B : Automaton) : Type 0 where
  pub step : x ≡ progress_step p B
  pub after : B ≡ automaton_after x A

abbrev pub read_of : Result (Unit {0}) FileRefusal → Automaton → Read
read_of (Ok _) A = holds A
read_of (Err f) A = refused (file_number f)
