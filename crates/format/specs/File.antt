-- The file (01, "The file"): the header, then record after record, until a fault, or the end record, decides.
--   Read            what a file holds: a refusal, or an automaton
--   Step            what one record does: the reading is over, or goes on at a position with the automaton so far
--   header s        the record at the start of the file
--   takes x A       what the record x does, with A the automaton of what stands before it
--   record_at s i A  the same of the record at position i, past the header
--   read_file s     the whole file
-- A header's faults are, in this order: bytes of the mark missing (1), another mark (2), fields missing (1), values outside their ranges (3). Those
-- of another record are first what `record_in` of `Records` finds in its bytes, 1 or 2, then a state or a letter that the header
-- lacks (4), then a repeat (5).
-- Shown by `file_reads_as`, in the terms of the table of refusals. Assumes nothing.
use Rattle.std.specs.Prelude.{Result, Ok, Err, Bool, true, false, ◌&&◌, not, List, ℕ, zero, suc, ltb, length, get_or}
use Rattle.automaton.specs.declared.Automaton.{Automaton}
use Rattle.automaton.specs.Automata.{accepts, transition, bare, with_accepting, with_transition, header_values}
use Rattle.format.specs.declared.Record.{Record}
use Rattle.format.specs.declared.Record.TheVariants.{Accepting, Transition, End}
use Rattle.format.specs.declared.FileRefusal.{FileRefusal}
use Rattle.format.specs.Numbers.{file_number}
use Rattle.format.specs.Marks.{has, marked, header_mark}
use Rattle.format.specs.Records.{record_in}

pub data Read : Type 0 where
  refused : ℕ → Read
  holds : Automaton → Read

pub data Step : Type 0 where
  over : Read → Step
  next : ℕ → Automaton → Step

-- the step is taken where the test passes; else the reading is over with the refusal
abbrev pub check : Bool → ℕ → Step → Step
check true n s = s
check false n s = over (refused n)

-- its fields are the number of states, the number of letters and the initial state
unfoldable pub header : List ℕ → Step
header s =
    check (has s 0 2) 1
    (check (marked s 0 header_mark) 2
    (check (has s 0 5) 1
    (check (header_values (get_or s 2 0) (get_or s 3 0) (get_or s 4 0)) 3
    (next 5 (bare (get_or s 2 0) (get_or s 3 0) (get_or s 4 0))))))

-- with j the position after the record
unfoldable pub takes : Result Record FileRefusal → Automaton → Step
takes (Err n) A = over (refused (file_number n))
takes (Ok (Accepting q j)) A =
    check (ltb q A.states) 4
    (check (not (accepts A q)) 5
    (next j (with_accepting A q)))
takes (Ok (Transition q a r j)) A =
    check (ltb q A.states && ltb a A.letters && ltb r A.states) 4
    (check (not (transition A q a r)) 5
    (next j (with_transition A q a r)))
takes (Ok End) A = over (holds A)

abbrev pub record_at : List ℕ → ℕ → Automaton → Step
record_at s i A = takes (record_in s i) A

-- the records that are left after a step, at most n of them
unfoldable pub records : ℕ → List ℕ → Step → Read
records zero s (over r) = r
records zero s (next i A) = refused 1
records (suc n) s (over r) = r
records (suc n) s (next i A) = records n s (record_at s i A)

-- a record has two bytes or more, so there are at most as many as bytes
unfoldable pub read_file : List ℕ → Read
read_file s = records (length s) s (header s)
