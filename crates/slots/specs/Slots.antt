-- Vertices and slots, 01's term (01, "The walk").
--   same_vertex u v      the same left state and the same counters
--   all_zero cs          every counter is 0, which makes a vertex final
--   slot_count n         the slots S of a work buffer of n bytes: as many as fit, 40 bytes each, and no more than 4,096
--   slot_bytes v a p     a slot's 40 bytes for the vertex v, found by letter a from the slot p: the left state, the 32 counters,
--                        the letter, the number of slot p, low byte in front, and four zeros
-- Shown by the contracts of `slot_count` and `put_slot`, and by `same_vertex_eq`. Assumes nothing.
use Rattle.std.specs.Prelude.{Bool, true, false, ◌&&◌, List, [], ◌∷◌, ◌++◌, ℕ, ◌/◌, ◌%◌, min, eqb}
use Rattle.slots.specs.declared.Vertex.{Vertex}

-- the bytes of a slot
abbrev pub slot_size : ℕ
slot_size = 40

-- the most slots that a walk uses
abbrev pub max_slots : ℕ
max_slots = 4096

abbrev pub slot_count : ℕ → ℕ
slot_count n = min (n / slot_size) max_slots

-- the two lists have the same numbers
unfoldable pub same_list : List ℕ → List ℕ → Bool
same_list [] [] = true
same_list [] (y ∷ ys) = false
same_list (x ∷ xs) [] = false
same_list (x ∷ xs) (y ∷ ys) = eqb x y && same_list xs ys

unfoldable pub same_vertex : Vertex → Vertex → Bool
same_vertex u v = eqb u.left v.left && same_list u.counters v.counters

unfoldable pub all_zero : List ℕ → Bool
all_zero [] = true
all_zero (c ∷ cs) = eqb c 0 && all_zero cs

-- the initial vertex was found by no letter and from no slot: FF in bytes 33 to 35
abbrev pub no_letter : ℕ
no_letter = 0xff

abbrev pub no_parent : ℕ
no_parent = 0xffff

unfoldable pub slot_bytes : Vertex → ℕ → ℕ → List ℕ
slot_bytes v a p = v.left ∷ v.counters ++ a ∷ p % 256 ∷ p / 256 ∷ 0 ∷ 0 ∷ 0 ∷ 0 ∷ []
