-- The lag-checking graph of a left and a right automaton at bound b (01, "The walk"; the paper, section 3.2, Definition 1). A counter says how
-- many further left visits a right run in that state can still let pass before its lag exceeds b, plus 1; 0 stands for no such run.
--   max_bound          the largest bound
--   initial_vertex     the two initial states; the right one has b + 1, or b where the left one accepts and it does not, and all others 0
--   counter a t f r    the counter of the right state r after a step on letter a to the left target t, from the counters f: an accepting r
--                      is back at b + 1 if a predecessor is above 0; any other has the largest of its predecessors' counters, each less
--                      by 1 if t accepts; without a predecessor above 0 it is 0, also where the paper leaves a maximum of nothing
--   stepped a t f      the counters of all 32 right states after that step
--   successors v       by letter, then by left target, both upwards
--   lag_graph          the graph, whose final vertices have no counter above 0
-- Shown by `counters_mean` and `contained_no_final`. Assumes nothing.
use Rattle.std.specs.Prelude.{cond, ◌&&◌, not, List, map, ℕ, ◌+◌, ◌-◌, eqb, ltb, get_or}
use Rattle.automaton.specs.declared.Automaton.{Automaton}
use Rattle.automaton.specs.Ranges.{some, chained, table, largest}
use Rattle.automaton.specs.Automata.{max_states, accepts, transition, targets}
use Rattle.slots.specs.declared.Vertex.{Vertex}
use Rattle.slots.specs.Slots.{same_vertex, all_zero}
use Rattle.graph.specs.Discovery.{Graph}

abbrev pub max_bound : ℕ
max_bound = 14

module _ (A B : Automaton) (b : ℕ) where
  unfoldable pub initial_counter : ℕ → ℕ
  initial_counter r =
      cond (eqb r B.initial) (cond (accepts A A.initial && not (accepts B B.initial)) b (b + 1)) 0

  unfoldable pub initial_vertex : Vertex
  initial_vertex = record { left = A.initial; counters = table initial_counter max_states 0 }

  unfoldable pub counter : ℕ → ℕ → List ℕ → ℕ → ℕ
  counter a t f r =
      cond (accepts B r)
      (cond (some (λ p. transition B p a r && ltb 0 (get_or f p 0)) max_states 0) (b + 1) 0)
      (largest (λ p. cond (transition B p a r) (cond (accepts A t) (get_or f p 0 - 1) (get_or f p 0)) 0) max_states 0)

  unfoldable pub stepped : ℕ → ℕ → List ℕ → List ℕ
  stepped a t f = table (counter a t f) max_states 0

  unfoldable pub successor : Vertex → ℕ → ℕ → ℕ × Vertex
  successor v a t = (a, record { left = t; counters = stepped a t v.counters })

  unfoldable pub successors : Vertex → List (ℕ × Vertex)
  successors v = chained (λ a. map (successor v a) (targets A v.left a)) A.letters 0

  abbrev pub lag_graph : Graph
  lag_graph =
      record {
        Vertices = Vertex;
        same = same_vertex;
        successors = successors;
        final = λ v. all_zero v.counters;
        initial = initial_vertex;
      }
