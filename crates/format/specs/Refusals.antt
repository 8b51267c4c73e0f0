-- Refusals 1 to 5 in the terms of their table, without the reader (01, "The file" and the table): the file's records fit up to a place, and the
-- record there has the fault.
--   Front              what stands before a place: nothing, or a header (states, letters, initial state) and records past it
--   FrontFits          that header is in range, and these records are within it and distinct
--   Marks              the marks known at a place, with their number of fields: the header's at the start, the others past it
--   Ends, BadMark      conditions 1 and 2 of the bytes l from a place on
--   Fault F l n        the record at the start of l, after F, has fault n
--   Refusal s n        the file s meets n first
--   ReadsAs s          what the reader says of s, in these terms
-- Shown by `file_reads_as`. Assumes nothing.
use Rattle.std.specs.Prelude.{◌≡◌, ◌↔◌, ℕ, ◌<◌, T, length}
use mathlib.Core.List.{List, [], ◌∷◌, ◌++◌, Memᴰ}
use Rattle.automaton.specs.declared.Automaton.{Automaton}
use Rattle.automaton.specs.Automata.{header_values}
use Rattle.format.specs.Marks.{end_mark, HeaderMark, RecordMark}
use Rattle.format.specs.Writing.{Item, header_bytes, item_bytes, items_bytes, end_bytes}
use Rattle.format.specs.File.{refused, holds, read_file}
use Rattle.format.specs.Spelling.{Within, Distinct, Spells}

pub data Front : Type 0 where
  nothing : Front
  past : ℕ → ℕ → ℕ → List Item → Front

abbrev pub front_bytes : Front → List ℕ
front_bytes nothing = []
front_bytes (past n k i xs) = header_bytes n k i ++ items_bytes xs

abbrev pub FrontFits : Front → Type 0
FrontFits nothing = Unit {0}
FrontFits (past n k i xs) = T (header_values n k i) × ((x : Item) → Memᴰ x xs → Within n k x) × Distinct xs

abbrev pub Marks : Front → ℕ → ℕ → Type 0
Marks nothing = HeaderMark
Marks (past n k i xs) = RecordMark

-- a mark byte is missing, or the mark is known and a field is missing
pub data Ends (M : ℕ → ℕ → Type 0) (l : List ℕ) : Type 0 where
  in_mark : length l < 2 → Ends M l
  in_fields : {m fields : ℕ} {t : List ℕ} → M m fields → l ≡ 0x41 ∷ m ∷ t → length t < fields → Ends M l

-- the mark is not one of this place, or a byte stands after the end record
pub data BadMark (M : ℕ → ℕ → Type 0) (l : List ℕ) : Type 0 where
  misplaced : {x y : ℕ} {t : List ℕ} → l ≡ x ∷ y ∷ t → ((fields : ℕ) → x ≡ 0x41 → M y fields → ⊥) → BadMark M l
  after_end : {z : ℕ} {t : List ℕ} → M end_mark 0 → l ≡ end_bytes ++ (z ∷ t) → BadMark M l

pub data Fault : Front → List ℕ → ℕ → Type 0 where
  -- the file ends inside a record, or before the end record
  one : {F : Front} {l : List ℕ} → Ends (Marks F) l → Fault F l 1
  two : {F : Front} {l : List ℕ} → BadMark (Marks F) l → Fault F l 2
  -- a value of the header is outside its range
  three : {n k i : ℕ} {l t : List ℕ} → l ≡ header_bytes n k i ++ t → (T (header_values n k i) → ⊥) → Fault nothing l 3
  -- the header lacks a state or the letter
  four : {n k i : ℕ} {xs : List Item} {l : List ℕ} (x : Item) (t : List ℕ) → l ≡ item_bytes x ++ t → (Within n k x → ⊥)
      → Fault (past n k i xs) l 4
  -- the record stands before
  five : {n k i : ℕ} {xs : List Item} {l : List ℕ} (x : Item) (t : List ℕ) → l ≡ item_bytes x ++ t → Within n k x → Memᴰ x xs
      → Fault (past n k i xs) l 5

pub record Refusal (s : List ℕ) (n : ℕ) : Type 0 where
  pub front : Front
  pub rest : List ℕ
  pub bytes : s ≡ front_bytes front ++ rest
  pub fits : FrontFits front
  pub fault : Fault front rest n

pub record ReadsAs (s : List ℕ) : Type 0 where
  pub refused_iff : (n : ℕ) → (read_file s ≡ refused n) ↔ Refusal s n
  pub holds_iff : (A : Automaton) → (read_file s ≡ holds A) ↔ Spells s A
