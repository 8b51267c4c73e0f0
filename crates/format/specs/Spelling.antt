-- What a file that is read spells (01, "The file"): a header in range, records within it and without repeats, in any order, and the end
-- record.
--   Within, Distinct     the header has the record's states and its letter; no record is repeated
--   with_item, with_items  what the records say is added to an automaton
--   Spells s A           the file s spells the automaton A
-- Shown by `file_held_iff`. Assumes nothing.
use Rattle.std.specs.Prelude.{◌≡◌, ℕ, ◌<◌, T}
use mathlib.Core.List.{List, [], ◌∷◌, Memᴰ}
use Rattle.automaton.specs.declared.Automaton.{Automaton}
use Rattle.automaton.specs.Automata.{bare, with_accepting, with_transition, header_values}
use Rattle.format.specs.Writing.{Item, accepting_item, transition_item, file_bytes}

-- n states and k letters, each numbered from 0
abbrev pub Within : ℕ → ℕ → Item → Type 0
Within n k (accepting_item q) = q < n
Within n k (transition_item q a r) = (q < n) × (a < k) × (r < n)

unfoldable pub Distinct : List Item → Type 0
Distinct [] = Unit {0}
Distinct (x ∷ xs) = (Memᴰ x xs → ⊥) × Distinct xs

-- what the record says is added
abbrev pub with_item : Automaton → Item → Automaton
with_item A (accepting_item q) = with_accepting A q
with_item A (transition_item q a r) = with_transition A q a r

-- one record after the other
unfoldable pub with_items : Automaton → List Item → Automaton
with_items A [] = A
with_items A (x ∷ xs) = with_items (with_item A x) xs

-- the file s is the header of A, records within it and without repeats, and the end record, and A has what they say
pub record Spells (s : List ℕ) (A : Automaton) : Type 0 where
  pub items : List Item
  pub bytes : s ≡ file_bytes A.states A.letters A.initial items
  pub values : T (header_values A.states A.letters A.initial)
  pub within : (x : Item) → Memᴰ x items → Within A.states A.letters x
  pub distinct : Distinct items
  pub all : A ≡ with_items (bare A.states A.letters A.initial) items
