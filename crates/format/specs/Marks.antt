-- The bytes of a file (01, "The file"): where bytes stand, and the two-byte marks that tell the records apart. The first byte of a mark is
-- always 41, and each field is a byte of its own.
--   has s i n      n bytes stand from position i on
--   marked s i m   the mark 41 m stands at position i
--   header_mark, accepting_mark, transition_mark, end_mark  the second bytes of the four marks
--   HeaderMark m fields, RecordMark m fields   41 m is the mark of the header, or of a record past it, with so many fields
-- Shown by `small_1` to `small_6` and `worked_h`, byte for byte on small files. Assumes nothing.
use Rattle.std.specs.Prelude.{Bool, ◌&&◌, List, ℕ, ◌+◌, eqb, leb, length, get_or}

abbrev pub has : List ℕ → ℕ → ℕ → Bool
has s i n = leb (i + n) (length s)

abbrev pub marked : List ℕ → ℕ → ℕ → Bool
marked s i m = eqb (get_or s i 0) 0x41 && eqb (get_or s (i + 1) 0) m

abbrev pub header_mark : ℕ
header_mark = 0x48

abbrev pub accepting_mark : ℕ
accepting_mark = 0x46

abbrev pub transition_mark : ℕ
transition_mark = 0x54

abbrev pub end_mark : ℕ
end_mark = 0x45

pub data HeaderMark : ℕ → ℕ → Type 0 where
  header_marked : HeaderMark header_mark 3

pub data RecordMark : ℕ → ℕ → Type 0 where
  accepting_marked : RecordMark accepting_mark 1
  transition_marked : RecordMark transition_mark 3
  end_marked : RecordMark end_mark 0
