-- Records and files written (01, "The file"): the bytes of each record, and of a file that is a header, records past it and the end record.
--   Item                 what a record past the header says: an accepting state, or a transition
--   header_bytes n k i   the header of n states and k letters with the initial state i
--   item_bytes x         the record that says x
--   items_bytes xs       records one after another
--   end_bytes            the end record
--   file_bytes n k i xs  the file
-- Shown by `stands_record`: the reader takes the bytes of a record for that record. Assumes nothing.
use Rattle.std.specs.Prelude.{List, [], ◌∷◌, ◌++◌, ℕ}
use Rattle.format.specs.Marks.{header_mark, accepting_mark, transition_mark, end_mark}

pub data Item : Type 0 where
  accepting_item : ℕ → Item
  -- from a state, on a letter, to a state
  transition_item : ℕ → ℕ → ℕ → Item

abbrev pub header_bytes : ℕ → ℕ → ℕ → List ℕ
header_bytes n k i = 0x41 ∷ header_mark ∷ n ∷ k ∷ i ∷ []

abbrev pub item_bytes : Item → List ℕ
item_bytes (accepting_item q) = 0x41 ∷ accepting_mark ∷ q ∷ []
item_bytes (transition_item q a r) = 0x41 ∷ transition_mark ∷ q ∷ a ∷ r ∷ []

abbrev pub end_bytes : List ℕ
end_bytes = 0x41 ∷ end_mark ∷ []

unfoldable pub items_bytes : List Item → List ℕ
items_bytes [] = []
items_bytes (x ∷ xs) = item_bytes x ++ items_bytes xs

abbrev pub file_bytes : ℕ → ℕ → ℕ → List Item → List ℕ
file_bytes n k i xs = header_bytes n k i ++ (items_bytes xs ++ end_bytes)
