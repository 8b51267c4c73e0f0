-- The counters after a word, along the targets of a left run, say which right run prefixes on that word have a lag of at most b (the
-- paper, Lemmas 2 and 3, at every bound): a counter above 0 is followed back to the initial vertex, predecessor by predecessor, and a
-- right run that stays above 0 keeps the counters of its states above 0. Assumes nothing.
use mathlib.Core.Path.{◌≡◌, refl, sym, ap, subst, ◌∙◌}
use mathlib.Core.Bool.{Bool, true, false}
use mathlib.Core.Logic.{◌↔◌, ⊎_elim}
use mathlib.Core.List.{List, [], ◌∷◌}
use Prim.Native.Nat.{ℕ, ◌+◌, ◌≤◌, ◌<◌}
use native.Mathlib.Omega.{arith}
use lib.Dec.{T, eqb, eqb→eq, eqb_refl}
use lib.ListN.{length, get_or, get_or-eq_default}
use Rattle.automaton.specs.declared.Automaton.{Automaton}
use Rattle.automaton.specs.Automata.{max_states, accepts}
use Rattle.runs.specs.Runs.{Run, here, step}
use Rattle.automaton.proofs.Booleans.{is_true, T_true}
use Rattle.automaton.proofs.Ranges.{table_at, length-table}
use Rattle.automaton.proofs.Transitions.{transition_from, transition_into}
use Rattle.runs.proofs.LagSteps.{next, Ok, LagIn, lag_iff}
use Rattle.runs.proofs.FollowedBy.{FollowedBy}
use Rattle.slots.specs.Slots.{all_zero}
use Rattle.slots.proofs.Vertices.{not_all_zero, all_zero_at}
use Rattle.graph.specs.LagGraph.{initial_counter, initial_vertex, stepped}
use Rattle.graph.specs.Meaning.{counters_from, counters_after}
use Rattle.graph.proofs.Discoveries.{lt_or_le}
use Rattle.graph.proofs.CounterSteps.{counter_from, counter_to, stepped_at, length_stepped}

module _ (A B : Automaton) (b : ℕ) where
  -- what is left of the budget c along two run prefixes, in which the counter of one right run is followed alone
  abbrev pub remaining : ℕ → List ℕ → List ℕ → ℕ
  remaining c [] ρ = c
  remaining c (p ∷ π) [] = c
  remaining c (p ∷ π) (r ∷ ρ) = remaining (next A B b (accepts A p) (accepts B r) c) π ρ

  -- a run of B that a counter after the word comes from
  record Trace (f w ts : List ℕ) (s : ℕ) : Type 0 where
    first : ℕ
    below : first < max_states
    above : 0 < get_or f first 0
    states : List ℕ
    run : Run B first w s states
    ok : Ok A B b (get_or f first 0) ts states
    left : get_or (counters_from A B b f w ts) s 0 ≡ remaining (get_or f first 0) ts states

  trace_counter : B.states ≤ max_states → {q z : ℕ} {w ts : List ℕ} (f : List ℕ) → Run A q w z ts → (s : ℕ) → s < max_states
      → 0 < get_or (counters_from A B b f w ts) s 0 → Trace f w ts s
  unfolding counters_from
  trace_counter small f here s i h = record { first = s; below = i; above = h; states = []; run = here; ok = tt; left = refl }
  trace_counter small f (step {a = a} {t = t} {w = w} {ts = ts} x k) s i h = go (trace_counter small (stepped A B b a t f) k s i h)
    where
      go : Trace (stepped A B b a t f) w ts s → Trace f (a ∷ w) (t ∷ ts) s
      go n =
          let e = stepped_at A B b a t f n.first n.below in
          let c = counter_from A B b a t f n.first (rw e at n.above) in
          let g = e ∙ c.is in
          let i = transition_from B c.state a n.first c.into in
          record {
            first = c.state;
            below = omega arith;
            above = c.above;
            states = n.first ∷ n.states;
            run = step c.into n.run;
            ok = (subst (λ (x : ℕ). 0 < x) g n.above, subst (λ (x : ℕ). Ok A B b x ts n.states) g n.ok);
            left = n.left ∙ ap (λ (x : ℕ). remaining x ts n.states) g;
          }

  -- a run of B that stays above 0 from a counter on
  run_keeps_counter : B.states ≤ max_states → {q z r s : ℕ} {w ts us : List ℕ} (f : List ℕ) (c : ℕ) → Run A q w z ts → Run B r w s us
      → 0 < c → c ≤ get_or f r 0 → Ok A B b c ts us
      → (0 < remaining c ts us) × (remaining c ts us ≤ get_or (counters_from A B b f w ts) s 0)
  unfolding counters_from
  run_keeps_counter small f c here here h g o = (h, g)
  run_keeps_counter small f c (step {a = a} {t = t} x m) (step {p = r} {t = u} y k) h g o =
      let j = transition_into B r a u y in
      let v : u < max_states = omega arith in
      let d = counter_to A B b small a t f r u c y h g in
      run_keeps_counter small (stepped A B b a t f) (next A B b (accepts A t) (accepts B u) c) m k o.0
      (subst (λ (n : ℕ). next A B b (accepts A t) (accepts B u) c ≤ n) (sym (stepped_at A B b a t f u v)) d)
      o.1

  -- The initial vertex.

  -- the budget of a right run after its first position
  abbrev pub first_budget : ℕ
  first_budget = next A B b (accepts A A.initial) (accepts B B.initial) (b + 1)

  initial_at : (r : ℕ) → r < max_states → get_or (initial_vertex A B b).counters r 0 ≡ initial_counter A B b r
  unfolding initial_vertex
  initial_at r h = table_at (initial_counter A B b) max_states r 0 h

  pub length_initial : length (initial_vertex A B b).counters ≡ max_states
  unfolding initial_vertex
  length_initial = length-table (initial_counter A B b) max_states 0

  -- B's initial state has what the first position leaves of b + 1
  initial_first : (r : ℕ) → eqb r B.initial ≡ true → initial_counter A B b r ≡ first_budget
  unfolding initial_counter
  initial_first r e = go (accepts A A.initial) refl (accepts B B.initial) refl
    where
      go : (l : Bool) → accepts A A.initial ≡ l → (y : Bool) → accepts B B.initial ≡ y
          → initial_counter A B b r ≡ next A B b l y (b + 1)
      go true x true y = rw (e, x, y)
      go true x false y = rw (e, x, y) (omega arith)
      go false x true y = rw (e, x)
      go false x false y = rw (e, x)

  -- and no other state has a counter above 0
  pub initial_only : (r : ℕ) → r < max_states → 0 < get_or (initial_vertex A B b).counters r 0
      → (r ≡ B.initial) × (get_or (initial_vertex A B b).counters r 0 ≡ first_budget)
  unfolding initial_counter
  initial_only r h g = go (eqb r B.initial) refl (initial_at r h)
    where
      go : (s : Bool) → eqb r B.initial ≡ s → get_or (initial_vertex A B b).counters r 0 ≡ initial_counter A B b r
          → (r ≡ B.initial) × (get_or (initial_vertex A B b).counters r 0 ≡ first_budget)
      go true e k = (eqb→eq r B.initial (is_true _ e), k ∙ initial_first r e)
      go false e k = let z : initial_counter A B b r ≡ 0 = rw e in absurd (omega (arith, k, z))

  initial_is : B.initial < max_states → get_or (initial_vertex A B b).counters B.initial 0 ≡ first_budget
  initial_is h = initial_at B.initial h ∙ initial_first B.initial (T_true _ (eqb_refl B.initial))

  from_length : (f w ts : List ℕ) → length f ≡ max_states → length (counters_from A B b f w ts) ≡ max_states
  unfolding counters_from
  from_length f [] ts h = h
  from_length f (a ∷ w) [] h = h
  from_length f (a ∷ w) (t ∷ ts) h = from_length (stepped A B b a t f) w ts (length_stepped A B b a t f)

  pub counters_length : (w ts : List ℕ) → length (counters_after A B b w ts) ≡ max_states
  unfolding counters_after
  counters_length w ts = from_length (initial_vertex A B b).counters w ts length_initial

  above_inside : (w ts : List ℕ) (r : ℕ) → 0 < get_or (counters_after A B b w ts) r 0 → r < max_states
  above_inside w ts r h =
      ⊎_elim (λ l. l)
      (λ l.
      let e = get_or-eq_default (counters_after A B b w ts) 0 {n = r} (omega (arith, counters_length w ts)) in
      absurd (omega arith))
      (lt_or_le r max_states)

  -- The counters and the right run prefixes.

  -- a right run prefix that a counter above 0 comes from: its lag is at most b, and the counter is what is left of its budget
  pub record Source (w ts : List ℕ) (r : ℕ) : Type 0 where
    pub states : List ℕ
    pub run : Run B B.initial w r states
    pub lag : LagIn A B b (A.initial ∷ ts) (B.initial ∷ states)
    pub left : get_or (counters_after A B b w ts) r 0 ≡ remaining (b + 1) (A.initial ∷ ts) (B.initial ∷ states)

  module _ (small : B.states ≤ max_states) (inside : B.initial < B.states) where
    pub counter_source : {q : ℕ} {w ts : List ℕ} → Run A A.initial w q ts → (r : ℕ) → 0 < get_or (counters_after A B b w ts) r 0
        → Source w ts r
    unfolding counters_after
    counter_source {w = w} {ts = ts} k r h =
        let n = trace_counter small (initial_vertex A B b).counters k r (above_inside w ts r h) h in
        let o = initial_only n.first n.below n.above in
        record {
          states = n.states;
          run = subst (λ (s : ℕ). Run B s w r n.states) o.0 n.run;
          lag =
              (lag_iff A B b (A.initial ∷ ts) (B.initial ∷ n.states)).0
              (subst (λ (c : ℕ). 0 < c) o.1 n.above, subst (λ (c : ℕ). Ok A B b c ts n.states) o.1 n.ok);
          left = n.left ∙ ap (λ (c : ℕ). remaining c ts n.states) o.1;
        }

    -- and a right run prefix with a lag of at most b has a counter no less than what is left of its budget
    pub run_counter : {q r : ℕ} {w ts us : List ℕ} → Run A A.initial w q ts → Run B B.initial w r us
        → LagIn A B b (A.initial ∷ ts) (B.initial ∷ us)
        → (0 < remaining (b + 1) (A.initial ∷ ts) (B.initial ∷ us))
        × (remaining (b + 1) (A.initial ∷ ts) (B.initial ∷ us) ≤ get_or (counters_after A B b w ts) r 0)
    unfolding counters_after
    run_counter {ts = ts} {us = us} k x l =
        let o = (lag_iff A B b (A.initial ∷ ts) (B.initial ∷ us)).1 l in
        let e = initial_is (omega arith) in
        run_keeps_counter small (initial_vertex A B b).counters first_budget k x o.0 (omega arith) o.1

    -- some right run prefix follows exactly if some counter is above 0
    pub counters_followed : {q : ℕ} {w ts : List ℕ} → Run A A.initial w q ts
        → (T (all_zero (counters_after A B b w ts)) → ⊥) ↔ FollowedBy A B b w ts
    counters_followed {w = w} {ts = ts} k = (
      λ h.
          let z = not_all_zero (counters_after A B b w ts) h in
          let s = counter_source k z.0 z.2 in
          record { end = z.0; states = s.states; run = s.run; lag = s.lag },
      λ f z.
          let c = run_counter k f.run f.lag in
          omega (arith, c.0, c.1, all_zero_at (counters_after A B b w ts) z f.end),
    )
