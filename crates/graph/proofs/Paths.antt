-- The paths of the lag-checking graph are the left runs with the counters along them: a successor of a vertex is a transition from its
-- left state with the counters stepped. Assumes nothing.
use mathlib.Core.Path.{◌≡◌, refl, subst}
use mathlib.Core.List.Memᴰ
use mathlib.Core.List.{List, [], ◌∷◌, map, Memᴰ}
use Prim.Native.Nat.{ℕ}
use lib.Dec.{T}
use Rattle.automaton.specs.declared.Automaton.{Automaton}
use Rattle.automaton.specs.Automata.{transition, targets}
use Rattle.runs.specs.Runs.{Run, here, step}
use Rattle.automaton.proofs.Ranges.{those_pass}
use Rattle.automaton.proofs.Lists.{those_at, chained_from, chained_at}
use Rattle.automaton.proofs.Transitions.{transition_on, transition_into}
use Rattle.slots.specs.declared.Vertex.{Vertex}
use Rattle.graph.specs.LagGraph.{initial_vertex, stepped, successor, successors, lag_graph}
use Rattle.graph.specs.Discovery.{Path, stay, along}
use Rattle.graph.specs.Meaning.{counters_from, counters_after}

module _ (A B : Automaton) (b : ℕ) where
  pub successors_have : (v : Vertex) (a t : ℕ) → T (transition A v.left a t)
      → Memᴰ (successor A B b v a t) (successors A B b v)
  unfolding successors targets
  successors_have v a t x =
      chained_at (λ c. map (successor A B b v c) (targets A v.left c)) A.letters a (successor A B b v a t)
      (transition_on A v.left a t x)
      (Memᴰ.map (successor A B b v a) (those_at (transition A v.left a) A.states t (transition_into A v.left a t x) x))

  pub successors_are : (v : Vertex) (e : ℕ × Vertex) → Memᴰ e (successors A B b v)
      → (a : ℕ) × (t : ℕ) × T (transition A v.left a t) × (successor A B b v a t ≡ e)
  unfolding successors targets
  successors_are v e m =
      let c = chained_from (λ a. map (successor A B b v a) (targets A v.left a)) A.letters 0 e m in
      let k = Memᴰ.of_map (successor A B b v c.0) (targets A v.left c.0) c.3 in
      (c.0, k.0, those_pass (transition A v.left c.0) A.states 0 k.0 k.1, k.2)

  -- a left run on w that leads from u to v, with the counters along it
  record RunTo (u : Vertex) (w : List ℕ) (v : Vertex) : Type 0 where
    states : List ℕ
    run : Run A u.left w v.left states
    counters : counters_from A B b u.counters w states ≡ v.counters

  first_step : (u : Vertex) (a t : ℕ) (w : List ℕ) (x : Vertex) → T (transition A u.left a t)
      → RunTo (successor A B b u a t).1 w x → RunTo u ((successor A B b u a t).0 ∷ w) x
  unfolding successor counters_from
  first_step u a t w x h r = record { states = t ∷ r.states; run = step h r.run; counters = r.counters }

  path_run_to : {u v : Vertex} {w : List ℕ} → Path (lag_graph A B b) u w v → RunTo u w v
  unfolding counters_from
  path_run_to stay = record { states = []; run = here; counters = refl }
  path_run_to (along {u = u} {v = v} {x = x} {a = a} {w = w} m k) =
      let c = successors_are u (a, v) m in
      subst (λ (e : ℕ × Vertex). RunTo e.1 w x → RunTo u (e.0 ∷ w) x) c.3 (first_step u c.0 c.1 w x c.2)
      (path_run_to k)

  run_to_path : {q z : ℕ} {w ts : List ℕ} (f : List ℕ) → Run A q w z ts
      → Path (lag_graph A B b) (record { left = q; counters = f }) w (record { left = z; counters = counters_from A B b f w ts })
  unfolding counters_from successor
  run_to_path f here = stay
  run_to_path f (step {p = p} {a = a} {t = t} x k) =
      along (successors_have (record { left = p; counters = f }) a t x) (run_to_path (stepped A B b a t f) k)

  -- a path from the initial vertex is a left run prefix
  pub record PrefixTo (w : List ℕ) (v : Vertex) : Type 0 where
    pub states : List ℕ
    pub run : Run A A.initial w v.left states
    pub counters : counters_after A B b w states ≡ v.counters

  pub path_prefix : {w : List ℕ} {v : Vertex} → Path (lag_graph A B b) (initial_vertex A B b) w v → PrefixTo w v
  unfolding initial_vertex counters_after
  path_prefix r = let k = path_run_to r in record { states = k.states; run = k.run; counters = k.counters }

  -- and a left run prefix is such a path
  pub prefix_path : {q : ℕ} {w ts : List ℕ} → Run A A.initial w q ts
      → Path (lag_graph A B b) (initial_vertex A B b) w (record { left = q; counters = counters_after A B b w ts })
  unfolding initial_vertex counters_after
  prefix_path k = run_to_path (initial_vertex A B b).counters k
