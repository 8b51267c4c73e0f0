-- The computed dead states are the dead states of 01: a path of the closure is a run of one or more steps, so what the computed
-- tests reach is what runs reach, and a state passes `live` exactly if it reaches an accepting state on a loop. Assumes nothing.
use mathlib.Core.Path.{sym, subst}
use mathlib.Core.Bool.{Bool, false, ◌&&◌, not}
use mathlib.Core.Logic.{◌↔◌, ⊎_elim}
use mathlib.Core.List.{List, [], ◌∷◌}
use Prim.Native.Nat.{ℕ, ◌≤◌, ◌<◌}
use native.Mathlib.Omega.{arith}
use lib.Dec.{T, T_not, not_T, eqb, eqb→eq, eqb_refl}
use lib.ListN.{get_or}
use Rattle.automaton.specs.declared.Automaton.{Automaton}
use Rattle.automaton.specs.Automata.{max_states, accepts, transition}
use Rattle.relations.specs.Closure.{related, relation, reaches}
use Rattle.runs.specs.Runs.{Run, here, step, Reaches, OnLoop}
use Rattle.runs.specs.DeadStates.{Dead}
use Rattle.automaton.proofs.Booleans.{or_cases, or_left, or_right, and_both, both_and}
use Rattle.automaton.proofs.Ranges.{table_at, some_at, some_below}
use Rattle.automaton.proofs.Transitions.{transition_from, transition_on, transition_into, accepts_below}
use Rattle.runs.proofs.Runs.{run_below}
use Rattle.relations.proofs.Closure.{Steps, one, more, table_below, related_relation, closure_sound, closure_complete, closure_below}
use Rattle.deadstates.specs.DeadEnds.{edge, paths, live, dead, dead_states, has_dead}

module _ (A : Automaton) where
  -- Paths and runs.

  -- a run of one or more steps goes from p to q
  abbrev Leads : ℕ → ℕ → Type 0
  Leads p q = (a : ℕ) × (w : List ℕ) × (ts : List ℕ) × Run A p (a ∷ w) q ts

  edge_transition : (p r : ℕ) → T (edge A p r) → (a : ℕ) × T (transition A p a r)
  unfolding edge
  edge_transition p r t = let x = some_below (λ a. transition A p a r) A.letters t in (x.0, x.2)

  transition_edge : (p a r : ℕ) → T (transition A p a r) → T (edge A p r)
  unfolding edge
  transition_edge p a r t = some_at (λ x. transition A p x r) A.letters a (transition_on A p a r t) t

  -- the table of the edges
  abbrev edges : List (List Bool)
  edges = relation A.states (edge A)

  edge_of : (p r : ℕ) → p < A.states → r < A.states → T (related edges p r) → (a : ℕ) × T (transition A p a r)
  edge_of p r hp hr t = edge_transition p r (subst T (related_relation A.states (edge A) p r hp hr) t)

  of_edge : (p a r : ℕ) → T (transition A p a r) → T (related edges p r)
  of_edge p a r t =
      subst T (sym (related_relation A.states (edge A) p r (transition_from A p a r t) (transition_into A p a r t)))
      (transition_edge p a r t)

  steps_lead : {p q : ℕ} → p < A.states → q < A.states → Steps (related edges) A.states p q → Leads p q
  steps_lead {p} {q} hp hq (one s) = let e = edge_of p q hp hq s in (e.0, [], q ∷ [], step e.1 here)
  steps_lead {p} {q} hp hq (more {r = r} h s k) =
      let e = edge_of p r hp h s in
      let m = steps_lead h hq k in
      (e.0, m.0 ∷ m.1, r ∷ m.2, step e.1 m.3)

  lead_steps : {p t q : ℕ} {w ts : List ℕ} (a : ℕ) → T (transition A p a t) → Run A t w q ts → Steps (related edges) A.states p q
  lead_steps {p} {t} a x here = one (of_edge p a t x)
  lead_steps {p} {t} a x (step {a = b} y k) = more (transition_into A p a t x) (of_edge p a t x) (lead_steps b y k)

  path_leads : (p q : ℕ) → T (related (paths A) p q) → Leads p q
  unfolding paths
  path_leads p q t =
      let h = closure_below A.states (edge A) p q t in
      steps_lead h.0 h.1 (closure_sound A.states edges p q h.0 h.1 t)

  leads_path : (p q : ℕ) → Leads p q → T (related (paths A) p q)
  unfolding paths
  leads_path p q m = go m.3
    where
      go : {a : ℕ} {w ts : List ℕ} → Run A p (a ∷ w) q ts → T (related (paths A) p q)
      go (step {a = a} {t = t} x k) =
          closure_complete A.states edges p q (transition_from A p a t x) (run_below (transition_into A p a t x) k) (lead_steps a x k)

  reaches_run : (p q : ℕ) → T (reaches (paths A) p q) → Reaches A p q
  unfolding Reaches
  reaches_run p q t =
      ⊎_elim (λ e. subst (Reaches A p) (eqb→eq p q e) ([], [], here)) (λ s. let m = path_leads p q s in (m.0 ∷ m.1, m.2, m.3))
      (or_cases (eqb p q) (related (paths A) p q) t)

  run_reaches : {p q : ℕ} {w ts : List ℕ} → Run A p w q ts → T (reaches (paths A) p q)
  run_reaches {p} here = or_left (eqb p p) (related (paths A) p p) (eqb_refl p)
  run_reaches {p} {q} (step {a = a} {t = t} {w = w} {ts = ts} x k) =
      or_right (eqb p q) (related (paths A) p q) (leads_path p q (a, w, t ∷ ts, step x k))

  -- Dead states.

  -- q reaches an accepting state that lies on a loop
  abbrev Live : ℕ → Type 0
  Live q = (r : ℕ) × T (accepts A r) × OnLoop A r × Reaches A q r

  -- the test for r in `live`
  abbrev live_at : ℕ → ℕ → Bool
  live_at q r = reaches (paths A) q r && (accepts A r && related (paths A) r r)

  live_said : (q : ℕ) → T (live A (paths A) q) → Live q
  unfolding live OnLoop
  live_said q t =
      let x = some_below (live_at q) A.states t in
      let b = and_both (reaches (paths A) q x.0) (accepts A x.0 && related (paths A) x.0 x.0) x.2 in
      let c = and_both (accepts A x.0) (related (paths A) x.0 x.0) b.1 in
      (x.0, c.0, path_leads x.0 x.0 c.1, reaches_run q x.0 b.0)

  live_computed : (q : ℕ) → Live q → T (live A (paths A) q)
  unfolding live OnLoop Reaches
  live_computed q m =
      let r = m.0 in
      some_at (live_at q) A.states r (accepts_below A r m.1)
      (both_and (reaches (paths A) q r) (accepts A r && related (paths A) r r) (run_reaches m.3.2)
      (both_and (accepts A r) (related (paths A) r r) m.1 (leads_path r r m.2)))

  pub dead_iff : (q : ℕ) → T (dead A (paths A) q) ↔ Dead A q
  unfolding dead Reaches
  dead_iff q = (
    λ t. let b = and_both (reaches (paths A) A.initial q) (not (live A (paths A) q)) t in
        record {
          reached = reaches_run A.initial q b.0;
          no_loop = λ r a l m. T_not (live A (paths A) q) b.1 (live_computed q (r, a, l, m));
        },
    λ d. both_and (reaches (paths A) A.initial q) (not (live A (paths A) q)) (run_reaches d.reached.2)
        (not_T (live A (paths A) q) (λ t. let m = live_said q t in d.no_loop m.0 m.1 m.2 m.3)),
  )

  module _ (inside : A.initial < A.states) (few : A.states ≤ max_states) where
    pub dead_below : (q : ℕ) → Dead A q → q < max_states
    unfolding Reaches
    dead_below q d = omega (arith, run_below inside d.reached.2)

    pub dead_states_right : (q : ℕ) → T (get_or (dead_states A) q false) ↔ Dead A q
    unfolding dead_states
    dead_states_right q = (
      λ t. let h = table_below (dead A (paths A)) max_states q t in
          (dead_iff q).0 (subst T (table_at (dead A (paths A)) max_states q false h) t),
      λ d. subst T (sym (table_at (dead A (paths A)) max_states q false (dead_below q d))) ((dead_iff q).1 d),
    )

    pub has_dead_right : T (has_dead A) ↔ ((q : ℕ) × Dead A q)
    unfolding has_dead
    has_dead_right = (
      λ t. let x = some_below (λ q. get_or (dead_states A) q false) max_states t in (x.0, (dead_states_right x.0).0 x.2),
      λ d. some_at (λ q. get_or (dead_states A) q false) max_states d.0 (dead_below d.0 d.1) ((dead_states_right d.0).1 d.1),
    )
