-- A walk keeps the length of the work buffer: each slot has 40 bytes, since every listed vertex has 32 counters, and the slots fit. Assumes
-- nothing.
use mathlib.Core.Path.{◌≡◌, refl}
use mathlib.Core.List.{List, [], ◌∷◌, flat_map}
use Prim.Native.Nat.{ℕ, suc, ◌*◌, ◌≤◌, ◌<◌}
use native.Mathlib.Omega.{arith}
use lib.ListN.{length, get_or, drop, length-append, length-drop}
use Rattle.automaton.specs.declared.Automaton.{Automaton}
use Rattle.automaton.specs.Automata.{max_states}
use Rattle.slots.specs.declared.Vertex.{Vertex}
use Rattle.slots.specs.Slots.{slot_size, slot_count, slot_bytes}
use Rattle.slots.proofs.SlotLayout.{slot_long}
use Rattle.graph.specs.Discovery.{Node, going, root}
use Rattle.graph.specs.LagGraph.{lag_graph}
use Rattle.graph.specs.Walks.{walk_of, slots_of, work_after}
use Rattle.graph.proofs.WalkTheorem.{walk_going, list_in_range}

slots_length : (ns : List (Node Vertex)) (d : Node Vertex) → ((i : ℕ) → i < length ns → length (get_or ns i d).vertex.counters ≡ max_states)
    → length (slots_of ns) ≡ slot_size * length ns
unfolding slots_of flat_map
slots_length [] d h = refl
slots_length (n ∷ ns) d h =
    omega (
      arith,
      length-append (slot_bytes n.vertex n.letter n.parent) (slots_of ns),
      slot_long n.vertex n.letter n.parent (h 0 (omega arith)),
      slots_length ns d (λ i l. h (suc i) (omega arith)),
    )

slots_fit : (k len : ℕ) → k ≤ slot_count len → slot_size * k ≤ len
slots_fit k len h = omega arith

pub work_length_kept : (A B : Automaton) (b : ℕ) (work : List ℕ) (ns : List (Node Vertex)) → A.initial < A.states
    → walk_of A B b (slot_count (length work)) ≡ going ns → length (work_after work (going ns)) ≡ length work
unfolding work_after
work_length_kept A B b work ns inside e =
    let f = (walk_going A B b (slot_count (length work)) ns).0 e in
    let k = length ns in
    omega (
      arith,
      length-append (slots_of ns) (drop (slot_size * k) work),
      slots_length ns (root (lag_graph A B b))
          (λ i h. (list_in_range A B b (slot_count (length work)) inside (going ns) f i h).all_counters),
      length-drop (slot_size * k) work,
      slots_fit k (length work) f.room,
    )
