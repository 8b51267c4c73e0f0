-- What the bytes of the work buffer say (01, "The walk"), for the contracts of the code that writes and reads slots.
--   with_slot work s v a p  the work buffer with the slot of the vertex v, found by letter a from slot p, written as slot s
--   vertex_at work s      the vertex in slot s, by its bytes 0 to 32
--   letter_at, parent_at  the letter and the parent of slot s, by its bytes 33 to 35
--   Falls work s          the slots 1 to s have parents with lower numbers
--   word_at work s         the letters on the way to slot s, read back by the parents, first letter first
-- Shown by the contracts of `write_slot`, `load` and `read_back`. Assumes nothing.
use Rattle.std.specs.Prelude.{List, [], ◌∷◌, ◌++◌, ℕ, zero, suc, ◌+◌, ◌*◌, ◌≤◌, ◌<◌, get_or, take, drop}
use Rattle.automaton.specs.Automata.{max_states}
use Rattle.slots.specs.declared.Vertex.{Vertex}
use Rattle.slots.specs.Slots.{slot_size, slot_bytes}

unfoldable pub with_slot : List ℕ → ℕ → Vertex → ℕ → ℕ → List ℕ
with_slot work s v a p = take (s * slot_size) work ++ (slot_bytes v a p ++ drop (s * slot_size + slot_size) work)

unfoldable pub vertex_at : List ℕ → ℕ → Vertex
vertex_at work s = record { left = get_or work (s * slot_size) 0; counters = take max_states (drop (s * slot_size + 1) work) }

abbrev pub letter_at : List ℕ → ℕ → ℕ
letter_at work s = get_or work (s * slot_size + 33) 0

abbrev pub parent_at : List ℕ → ℕ → ℕ
parent_at work s = get_or work (s * slot_size + 34) 0 + get_or work (s * slot_size + 35) 0 * 256

abbrev pub Falls : List ℕ → ℕ → Type 0
Falls work s = (i : ℕ) → 0 < i → i ≤ s → parent_at work i < i

-- the letters on the way to slot s, by at most k parents
abbrev pub back_from : ℕ → List ℕ → ℕ → List ℕ
back_from zero work s = []
back_from (suc k) work zero = []
back_from (suc k) work (suc s) = back_from k work (parent_at work (suc s)) ++ letter_at work (suc s) ∷ []

-- where parents have lower numbers, s of them are enough
unfoldable pub word_at : List ℕ → ℕ → List ℕ
word_at work s = back_from s work s
