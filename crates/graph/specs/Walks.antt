-- The walk with S slots, and the work buffer after it (01, "The walk").
--   walk_of A B b S    the walk of the lag-checking graph of A and B at bound b
--   slots_of ns        the slots of the listed vertices, one after the other
--   work_after work w  the work buffer after the walk w: the slots of its vertices in front, a final one left out, and the rest as it was
--   word_of            the word of the final vertex
--   word_after word w  the word buffer after the word w: w in front where it has room, else unchanged; the rest as it was
--   Fits A B b S w    w is the discovery list, and its vertices that are not final fit S slots
--   NeedsMore A B b S the discovery list does not fit, which is refusal 10
-- Shown by `walk_decides_containment`, `list_differs`, `walk_full`, `walk_full_front`, `word_with_room` and `word_without_room`. Assumes
-- nothing.
use Rattle.std.specs.Prelude.{cond, ℕ, ◌*◌, ◌≤◌, leb, length, drop}
use mathlib.Core.List.{List, flat_map, ◌++◌}
use Rattle.automaton.specs.declared.Automaton.{Automaton}
use Rattle.slots.specs.declared.Vertex.{Vertex}
use Rattle.slots.specs.Slots.{slot_size, slot_bytes}
use Rattle.graph.specs.Discovery.{Node, Walk, nodes_of, DiscoveryList, walk, final_word}
use Rattle.graph.specs.LagGraph.{lag_graph}

unfoldable pub walk_of : Automaton → Automaton → ℕ → ℕ → Walk Vertex
walk_of A B b S = walk (lag_graph A B b) S

unfoldable pub slots_of : List (Node Vertex) → List ℕ
slots_of ns = flat_map (λ n. slot_bytes n.vertex n.letter n.parent) ns

unfoldable pub work_after : List ℕ → Walk Vertex → List ℕ
work_after work w = slots_of (nodes_of w) ++ drop (slot_size * length (nodes_of w)) work

unfoldable pub word_of : Automaton → Automaton → ℕ → List (Node Vertex) → Node Vertex → List ℕ
word_of A B b ns n = final_word (lag_graph A B b) ns n

abbrev pub word_after : List ℕ → List ℕ → List ℕ
word_after word w = cond (leb (length w) (length word)) (w ++ drop (length w) word) word

pub record Fits (A B : Automaton) (b S : ℕ) (w : Walk Vertex) : Type 0 where
  pub list : DiscoveryList (lag_graph A B b) w
  pub room : length (nodes_of w) ≤ S

unfoldable pub NeedsMore : Automaton → Automaton → ℕ → ℕ → Type 0
NeedsMore A B b S = (w : Walk Vertex) → Fits A B b S w → ⊥
