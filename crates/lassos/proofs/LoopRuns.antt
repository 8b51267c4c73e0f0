-- The relations of the loop word: the one relates what a run on the loop joins, the other what a run joins that meets an accepting state,
-- and the closure of the first what a run on copies of the loop joins. Assumes nothing.
use mathlib.Core.Path.{◌≡◌, refl, sym, subst}
use mathlib.Core.Bool.{Bool, false, ◌&&◌, ◌||◌}
use mathlib.Core.Logic.{◌⊎◌, inl, inr}
use mathlib.Core.List.Memᴰ
use mathlib.Core.List.{List, [], ◌∷◌, append-nil, Memᴰ}
use Prim.Native.Nat.{ℕ, zero, suc, ◌+◌, ◌<◌}
use lib.Dec.{T, eqb, eqb→eq, eqb_refl}
use Rattle.automaton.specs.declared.Automaton.{Automaton}
use Rattle.automaton.specs.Ranges.{some}
use Rattle.automaton.specs.Automata.{accepts, transition}
use Rattle.runs.specs.Runs.{Run, here, step}
use Rattle.runs.specs.Lassos.{repeated, Meets}
use Rattle.relations.specs.Closure.{related, closure, reaches}
use Rattle.automaton.proofs.Booleans.{or_cases, or_left, or_right, and_both, both_and}
use Rattle.automaton.proofs.Ranges.{some_at, some_below}
use Rattle.automaton.proofs.Transitions.{transition_into}
use Rattle.runs.proofs.Runs.{run_below}
use Rattle.relations.proofs.Closure.{Steps, one, more, related_relation, closure_sound, closure_complete}
use Rattle.runs.proofs.LassoRuns.{Via, Visit, copies_add, via_append, via_split}
use Rattle.lassos.specs.Verdict.{loop_runs, loop_visits}

-- One copy of the loop.

module _ (A : Automaton) where
  -- a step on a leads from p to t, and a run on v from there to q
  abbrev run_by : ℕ → List ℕ → ℕ → ℕ → ℕ → Bool
  run_by a v p q t = transition A p a t && related (loop_runs A v) t q

  -- a run on v from t to q meets an accepting state, t included
  abbrev visit_at : List ℕ → ℕ → ℕ → Bool
  visit_at v q t = related (loop_visits A v) t q || (accepts A t && related (loop_runs A v) t q)

  abbrev visit_by : ℕ → List ℕ → ℕ → ℕ → ℕ → Bool
  visit_by a v p q t = transition A p a t && visit_at v q t

  runs_sound : (v : List ℕ) (p q : ℕ) → p < A.states → q < A.states → T (related (loop_runs A v) p q) → Via A p v q
  unfolding loop_runs
  runs_sound [] p q hp hq t =
      subst (Via A p []) (eqb→eq p q (subst T (related_relation A.states eqb p q hp hq) t)) ([], here)
  runs_sound (a ∷ v) p q hp hq t =
      let k = some_below (run_by a v p q) A.states
      (subst T (related_relation A.states (λ x y. some (run_by a v x y) A.states 0) p q hp hq) t) in
      let b = and_both (transition A p a k.0) (related (loop_runs A v) k.0 q) k.2 in
      let r = runs_sound v k.0 q k.1 hq b.1 in
      (k.0 ∷ r.0, step b.0 r.1)

  runs_complete : {v ts : List ℕ} {p q : ℕ} → p < A.states → q < A.states → Run A p v q ts → T (related (loop_runs A v) p q)
  unfolding loop_runs
  runs_complete {p = p} hp hq here = subst T (sym (related_relation A.states eqb p p hp hq)) (eqb_refl p)
  runs_complete {q = q} hp hq (step {p = p} {a = a} {t = t} {w = v} x k) =
      let l = transition_into A p a t x in
      subst T (sym (related_relation A.states (λ x y. some (run_by a v x y) A.states 0) p q hp hq))
      (some_at (run_by a v p q) A.states t l (both_and (transition A p a t) (related (loop_runs A v) t q) x (runs_complete l hq k)))

  visits_sound : (v : List ℕ) (p q : ℕ) → p < A.states → q < A.states → T (related (loop_visits A v) p q) → Visit A p v q
  unfolding loop_visits Meets
  visits_sound [] p q hp hq t = absurd (subst T (related_relation A.states (λ x y. false) p q hp hq) t)
  visits_sound (a ∷ v) p q hp hq t =
      let k = some_below (visit_by a v p q) A.states
      (subst T (related_relation A.states (λ x y. some (visit_by a v x y) A.states 0) p q hp hq) t) in
      let b = and_both (transition A p a k.0) (visit_at v q k.0) k.2 in
      go k.0 k.1 b.0 (visits_sound v k.0 q k.1 hq)
      (or_cases (related (loop_visits A v) k.0 q) (accepts A k.0 && related (loop_runs A v) k.0 q) b.1)
    where
      go : (t : ℕ) → t < A.states → T (transition A p a t) → (T (related (loop_visits A v) t q) → Visit A t v q)
          → T (related (loop_visits A v) t q) ⊎ T (accepts A t && related (loop_runs A v) t q) → Visit A p (a ∷ v) q
      go t l x ih (inl s) = let k = ih s in (t ∷ k.0, step x k.1, (k.2.0, Memᴰ.tail k.2.1, k.2.2))
      go t l x ih (inr s) =
          let b = and_both (accepts A t) (related (loop_runs A v) t q) s in
          let k = runs_sound v t q l hq b.1 in
          (t ∷ k.0, step x k.1, (t, Memᴰ.head refl, b.0))

  visits_complete : {v ts : List ℕ} {p q : ℕ} → p < A.states → q < A.states → Run A p v q ts → Meets A ts
      → T (related (loop_visits A v) p q)
  unfolding loop_visits Meets
  visits_complete hp hq here m = absurd (Memᴰ.not-nil m.1)
  visits_complete {q = q} hp hq (step {p = p} {a = a} {t = t} {w = v} {ts = ts} x k) m =
      subst T (sym (related_relation A.states (λ x y. some (visit_by a v x y) A.states 0) p q hp hq))
      (some_at (visit_by a v p q) A.states t l (both_and (transition A p a t) (visit_at v q t) x
      (go (λ n. visits_complete l hq k (m.0, n, m.2)) (Memᴰ.cases_cons m.1))))
    where
      l : t < A.states
      l = transition_into A p a t x

      go : (Memᴰ m.0 ts → T (related (loop_visits A v) t q)) → (m.0 ≡ t) ⊎ Memᴰ m.0 ts → T (visit_at v q t)
      go ih (inl e) =
          or_right (related (loop_visits A v) t q) (accepts A t && related (loop_runs A v) t q)
          (both_and (accepts A t) (related (loop_runs A v) t q) (subst (λ (z : ℕ). T (accepts A z)) e m.2) (runs_complete l hq k))
      go ih (inr n) = or_left (related (loop_visits A v) t q) (accepts A t && related (loop_runs A v) t q) (ih n)

module _ (A : Automaton) (v : List ℕ) where
  pub loop_visits_sound : (p q : ℕ) → p < A.states → q < A.states → T (related (loop_visits A v) p q) → Visit A p v q
  loop_visits_sound = visits_sound A v

  pub loop_visits_complete : (p q : ℕ) → p < A.states → q < A.states → Visit A p v q → T (related (loop_visits A v) p q)
  loop_visits_complete p q hp hq k = visits_complete A hp hq k.1 k.2

  -- Copies of the loop.

  -- a run on some number of copies of v goes from p to q
  abbrev pub Copies : ℕ → ℕ → Type 0
  Copies p q = (i : ℕ) × Via A p (repeated i v) q

  pub copies_none : (p : ℕ) → Copies p p
  unfolding repeated
  copies_none p = (0, ([], here))

  pub copies_one : (p q : ℕ) → Via A p v q → Copies p q
  unfolding repeated
  copies_one p q k = (1, subst (λ (w : List ℕ). Via A p w q) (sym (append-nil v)) k)

  pub copies_append : (p r q : ℕ) → Copies p r → Copies r q → Copies p q
  copies_append p r q s t = (
    s.0 + t.0,
    subst (λ (w : List ℕ). Via A p w q) (copies_add s.0 t.0 v)
        (via_append A p (repeated s.0 v) r (repeated t.0 v) q s.1 t.1),
  )

  steps_copies : {p q : ℕ} → p < A.states → q < A.states → Steps (related (loop_runs A v)) A.states p q → Copies p q
  steps_copies {p} {q} hp hq (one s) = copies_one p q (runs_sound A v p q hp hq s)
  steps_copies {p} {q} hp hq (more {r = r} l s k) =
      copies_append p r q (copies_one p r (runs_sound A v p r hp l s)) (steps_copies l hq k)

  run_steps : (i p q : ℕ) → p < A.states → q < A.states → Via A p (repeated (suc i) v) q → Steps (related (loop_runs A v)) A.states p q
  unfolding repeated
  run_steps zero p q hp hq k = one (runs_complete A hp hq (subst (λ (w : List ℕ). Via A p w q) (append-nil v) k).1)
  run_steps (suc i) p q hp hq k =
      let s = via_split v (repeated (suc i) v) k in
      let l = run_below hp s.1.1 in
      more l (runs_complete A hp l s.1.1) (run_steps i s.0 q l hq s.2)

  pub reaches_sound : (p q : ℕ) → p < A.states → q < A.states → T (reaches (closure A.states (loop_runs A v)) p q) → Copies p q
  reaches_sound p q hp hq t = go (or_cases (eqb p q) (related C p q) t)
    where
      C : List (List Bool)
      C = closure A.states (loop_runs A v)

      go : T (eqb p q) ⊎ T (related C p q) → Copies p q
      go (inl e) = subst (Copies p) (eqb→eq p q e) (copies_none p)
      go (inr s) = steps_copies hp hq (closure_sound A.states (loop_runs A v) p q hp hq s)

  pub reaches_complete : (p q : ℕ) → p < A.states → q < A.states → Copies p q → T (reaches (closure A.states (loop_runs A v)) p q)
  unfolding repeated
  reaches_complete p q hp hq k = go k.0 k.1
    where
      C : List (List Bool)
      C = closure A.states (loop_runs A v)

      none : {x y : ℕ} {ts : List ℕ} → Run A x [] y ts → T (eqb x y)
      none {x} here = eqb_refl x

      go : (i : ℕ) → Via A p (repeated i v) q → T (reaches C p q)
      go zero s = or_left (eqb p q) (related C p q) (none s.1)
      go (suc i) s = or_right (eqb p q) (related C p q) (closure_complete A.states (loop_runs A v) p q hp hq (run_steps i p q hp hq s))
