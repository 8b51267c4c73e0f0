-- A record past the header, read (01, "The file"): the mark bytes are tested first, then whether the mark is known, then whether the fields
-- are there. What is cut short gives 1, an unknown or misplaced mark 2, and so do bytes after the end record.
--   accepting_record, transition_record, end_record  the record at a position, by its mark
--   record_in s i                                  the record at position i
-- Shown by `record_stands` and `stands_record`: it is the record whose bytes, as `Writing` has them, stand at i. Assumes nothing.
use Rattle.std.specs.Prelude.{Bool, true, false, cond, List, ℕ, ◌+◌, eqb, length, get_or, Result, Ok, Err}
use Rattle.format.specs.declared.Record.{Record}
use Rattle.format.specs.declared.Record.TheVariants.{Accepting, Transition, End}
use Rattle.format.specs.declared.FileRefusal.{FileRefusal}
use Rattle.format.specs.declared.FileRefusal.TheVariants.{CutShort, UnknownMark}
use Rattle.format.specs.Marks.{has, marked, accepting_mark, transition_mark, end_mark}

-- the record is there where the test passes; else a refusal
abbrev pub check_record : Bool → FileRefusal → Result Record FileRefusal → Result Record FileRefusal
check_record true n x = x
check_record false n x = Err n

-- one field, a state
abbrev pub accepting_record : List ℕ → ℕ → Result Record FileRefusal
accepting_record s i = check_record (has s i 3) CutShort (Ok (Accepting (get_or s (i + 2) 0) (i + 3)))

-- three fields: the state that it starts from, the letter, the target
abbrev pub transition_record : List ℕ → ℕ → Result Record FileRefusal
transition_record s i = check_record (has s i 5) CutShort (Ok (Transition (get_or s (i + 2) 0) (get_or s (i + 3) 0) (get_or s (i + 4) 0) (i + 5)))

-- no field, and the file is over
abbrev pub end_record : List ℕ → ℕ → Result Record FileRefusal
end_record s i = check_record (eqb (length s) (i + 2)) UnknownMark (Ok End)

unfoldable pub record_in : List ℕ → ℕ → Result Record FileRefusal
record_in s i =
    check_record (has s i 2) CutShort
    (cond (marked s i accepting_mark) (accepting_record s i)
    (cond (marked s i transition_mark) (transition_record s i)
    (cond (marked s i end_mark) (end_record s i) (Err UnknownMark))))
