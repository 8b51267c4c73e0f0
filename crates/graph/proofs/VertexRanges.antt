-- The ranges of the vertices that the walk lists: a left state of the automaton, and 32 counters, each at most b + 1. The initial vertex is
-- in range, and so are the successors of one that is. Assumes nothing.
use mathlib.Core.Path.{◌≡◌, subst}
use mathlib.Core.Logic.{⊎_elim}
use mathlib.Core.List.{List, Memᴰ}
use Prim.Native.Nat.{ℕ, ◌+◌, ◌≤◌, ◌<◌}
use native.Mathlib.Omega.{arith}
use lib.ListN.{length, get_or, get_or-eq_default}
use Rattle.automaton.specs.declared.Automaton.{Automaton}
use Rattle.automaton.specs.Automata.{max_states, accepts}
use Rattle.automaton.proofs.Transitions.{transition_into}
use Rattle.slots.specs.declared.Vertex.{Vertex}
use Rattle.graph.specs.Discovery.{Path, stay, along, Node, at}
use Rattle.graph.specs.LagGraph.{initial_vertex, successor, successors, lag_graph}
use Rattle.graph.proofs.Discoveries.{lt_or_le}
use Rattle.graph.proofs.Parents.{Linked}
use Rattle.graph.proofs.Words.{word_path}
use Rattle.graph.proofs.CounterSteps.{next_le, length_stepped, stepped_le}
use Rattle.graph.proofs.Counters.{initial_only, length_initial}
use Rattle.graph.proofs.Paths.{successors_are}

pub record VertexInRange (A : Automaton) (b : ℕ) (v : Vertex) : Type 0 where
  pub left_below : v.left < A.states
  pub all_counters : length v.counters ≡ max_states
  pub counters_le : (r : ℕ) → get_or v.counters r 0 ≤ b + 1

module _ (A B : Automaton) (b : ℕ) where
  initial_le : (r : ℕ) → get_or (initial_vertex A B b).counters r 0 ≤ b + 1
  initial_le r = ⊎_elim inside past (lt_or_le r max_states)
    where
      inside : r < max_states → get_or (initial_vertex A B b).counters r 0 ≤ b + 1
      inside h =
          ⊎_elim
          (λ g.
          rw (initial_only A B b r h g).1
          (next_le A B b (accepts A A.initial) (accepts B B.initial) (b + 1) (omega arith)))
          (λ g. omega arith)
          (lt_or_le 0 (get_or (initial_vertex A B b).counters r 0))

      past : max_states ≤ r → get_or (initial_vertex A B b).counters r 0 ≤ b + 1
      past h =
          let e = get_or-eq_default (initial_vertex A B b).counters 0 {n = r} (omega (arith, length_initial A B b)) in
          omega arith

  pub initial_in_range : A.initial < A.states → VertexInRange A b (initial_vertex A B b)
  unfolding initial_vertex
  initial_in_range h = record { left_below = h; all_counters = length_initial A B b; counters_le = initial_le }

  pub successor_in_range : (v : Vertex) (e : ℕ × Vertex) → VertexInRange A b v → Memᴰ e (successors A B b v)
      → VertexInRange A b e.1
  unfolding successor
  successor_in_range v e R m =
      let c = successors_are A B b v e m in
      subst (λ (d : ℕ × Vertex). VertexInRange A b d.1) c.3
      (record {
        left_below = transition_into A v.left c.0 c.1 c.2;
        all_counters = length_stepped A B b c.0 c.1 v.counters;
        counters_le = stepped_le A B b c.0 c.1 v.counters R.counters_le;
      })

  path_in_range : {u v : Vertex} {w : List ℕ} → Path (lag_graph A B b) u w v → VertexInRange A b u → VertexInRange A b v
  path_in_range stay R = R
  path_in_range (along {u = u} {v = v} {a = a} m k) R = path_in_range k (successor_in_range u (a, v) R m)

  -- the nodes of a list whose parents fall
  module _ (inside : A.initial < A.states) (p : ℕ) (ns : List (Node Vertex)) (L : Linked (lag_graph A B b) p ns) where
    pub listed_in_range : (i : ℕ) → i < length ns → VertexInRange A b (at (lag_graph A B b) ns i).vertex
    listed_in_range i h = path_in_range (word_path (lag_graph A B b) p ns L i h) (initial_in_range inside)
