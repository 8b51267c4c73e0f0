-- Demand 1 of the call that writes a file (02, S-1): what it answers, the numbers that can occur, and every byte of the output buffer after each
-- answer; and what it does with two files that describe the same automaton, and with a file that it wrote.
--   shortest_file, longest_file  the lengths of the fixed form of one state and one letter without records, and of the full automaton
--   WriteListed room x          no other answer x occurs with a buffer of so many bytes
--   AfterWrite x out'           the buffer out' after the answer x
--   WriteDemand1 f out          demand 1
--   WriteAlike s t              files of the same automaton are written alike, and no others
--   WriteAgain f                what was written is the fixed form of the file's automaton, holds it, and is written as itself
-- Shown by `write_demand_1`, `write_alike` and `write_again`; the two lengths by `shortest_met` and `longest_met`. Assumes nothing.
use Rattle.std.specs.Prelude.{◌≡◌, List, ◌++◌, ◌↔◌, ℕ, ◌≤◌, ◌<◌, length, take, drop}
use Rattle.automaton.specs.declared.Automaton.{Automaton}
use Rattle.format.specs.File.{holds, read_file}
use Rattle.format.specs.Refusals.{ReadsAs}
use Rattle.checks.specs.Checks.{First, FileHolds}
use Rattle.fixed_form.specs.WriteAnswers.{WriteAnswer}
use Rattle.fixed_form.specs.WriteAnswers.{Wrote, Refused, NoRoom}
use Rattle.fixed_form.specs.FixedForm.{FixedForm, written, SameAutomaton}
use Rattle.fixed_form.specs.Write.{write_of}
use Rattle.fixed_form.specs.WriteTable.{write_rows}

abbrev pub shortest_file : ℕ
shortest_file = 7

abbrev pub longest_file : ℕ
longest_file = 82023

abbrev pub WriteListed : ℕ → WriteAnswer → Type 0
WriteListed room (Refused n) = (1 ≤ n) × (n ≤ 5)
WriteListed room (NoRoom len) = (shortest_file ≤ len) × (len ≤ longest_file) × (room < len)
WriteListed room (Wrote len) = (shortest_file ≤ len) × (len ≤ longest_file) × (len ≤ room)

module _ (f out : List ℕ) where
  abbrev pub AfterWrite : WriteAnswer → List ℕ → Type 0
  AfterWrite (Refused n) out' = out' ≡ out
  AfterWrite (NoRoom len) out' = out' ≡ out
  AfterWrite (Wrote len) out' = FileHolds f (λ A. (len ≡ length (written A)) × (out' ≡ written A ++ drop len out))

  pub record WriteDemand1 : Type 0 where
    -- the first row of the table whose condition holds gives the answer
    pub table : (x : WriteAnswer) → ((write_of f out).answer ≡ x) ↔ First (write_rows f out) x
    -- its rows 1-5 in the table's terms, and the automaton of a file that is read
    pub reads : ReadsAs f
    pub occurs : WriteListed (length out) (write_of f out).answer
    pub leaves : AfterWrite (write_of f out).answer (write_of f out).out

pub record WriteAlike (s t : List ℕ) : Type 0 where
  -- files of the same automaton get the same answer and leave the same bytes in any buffer
  pub alike : (A B : Automaton) → read_file s ≡ holds A → read_file t ≡ holds B → SameAutomaton A B → (out : List ℕ) → write_of s out ≡ write_of t out
  -- and only those: where both are written, each into a buffer of its own, with the same length and the same bytes, they hold the same automaton
  pub only : (out new : List ℕ) (len : ℕ) → (write_of s out).answer ≡ Wrote len → (write_of t new).answer ≡ Wrote len
      → take len (write_of s out).out ≡ take len (write_of t new).out
      → FileHolds s (λ A. FileHolds t (λ B. SameAutomaton A B))

pub record WriteAgain (f : List ℕ) : Type 0 where
  -- what was written spells the file's automaton, with ascending records
  pub fixed : (out : List ℕ) (len : ℕ) → (write_of f out).answer ≡ Wrote len → FileHolds f (λ A. FixedForm (take len (write_of f out).out) A)
  -- so it holds it
  pub reads : (out : List ℕ) (len : ℕ) → (write_of f out).answer ≡ Wrote len → read_file (take len (write_of f out).out) ≡ read_file f
  -- and is written as itself, into any buffer that has the room
  pub again : (out new : List ℕ) (len : ℕ) → (write_of f out).answer ≡ Wrote len → len ≤ length new
      → ((write_of (take len (write_of f out).out) new).answer ≡ Wrote len)
      × (take len (write_of (take len (write_of f out).out) new).out ≡ take len (write_of f out).out)
