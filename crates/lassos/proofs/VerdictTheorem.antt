-- The chapter's theorem: the computed verdict is the acceptance of the lasso word. Of the copies of the loop on the accepting cycle,
-- one meets the accepting state: its run is the cycle that the verdict looks for. Assumes nothing.
use mathlib.Core.Path.{subst}
use mathlib.Core.Bool.{Bool, ◌&&◌}
use mathlib.Core.Logic.{◌⊎◌, inl, inr, ◌↔◌}
use mathlib.Core.List.Memᴰ
use mathlib.Core.List.{List}
use Prim.Native.Nat.{ℕ, zero, suc, ◌≤◌, ◌<◌}
use native.Mathlib.Omega.{arith}
use lib.Dec.{T}
use lib.ListN.{length}
use Rattle.automaton.specs.declared.Automaton.{Automaton}
use Rattle.automaton.specs.Ranges.{some}
use Rattle.runs.specs.Runs.{Run, here, step}
use Rattle.runs.specs.Lassos.{repeated, Meets, Accepted}
use Rattle.relations.specs.Closure.{related, closure, reaches}
use Rattle.automaton.proofs.Booleans.{and_both, both_and}
use Rattle.automaton.proofs.Ranges.{some_at, some_below}
use Rattle.runs.proofs.Runs.{run_below}
use Rattle.runs.proofs.LassoRuns.{Via, Visit, via_append, visit_append, via_split, visit_split, accepted_of, accepted_visit}
use Rattle.lassos.specs.Verdict.{in_set, only, on_word, loop_runs, loop_visits, accepted}
use Rattle.lassos.proofs.StateSets.{only_is, only_has, on_word_sound, on_word_complete}
use Rattle.lassos.proofs.LoopRuns.{Copies, copies_none, copies_one, copies_append}
use Rattle.lassos.proofs.LoopRuns.{loop_visits_sound, loop_visits_complete, reaches_sound, reaches_complete}

-- copies of v lead from p to some r, a run on v from r to some s meets an accepting state, and copies of v lead from s to q
pub record Cycle (A : Automaton) (v : List ℕ) (p q : ℕ) : Type 0 where
  pub from : ℕ
  pub to : ℕ
  pub before : Copies A v p from
  pub visit : Visit A from v to
  pub after : Copies A v to q

-- u leads to some p, and a cycle goes from p back to where its run on v began
pub record Found (A : Automaton) (u v : List ℕ) : Type 0 where
  pub state : ℕ
  pub stem : Via A A.initial u state
  pub from : ℕ
  pub before : Copies A v state from
  pub to : ℕ
  pub visit : Visit A from v to
  pub back : Copies A v to from

some_met : {A : Automaton} {p q : ℕ} {w ts : List ℕ} → Run A p w q ts → Meets A ts → 1 ≤ length w
unfolding Meets
some_met here m = absurd (Memᴰ.not-nil m.1)
some_met (step x k) m = omega arith

-- Acceptance is that a cycle is found.

cycle_of : (A : Automaton) (v : List ℕ) (j p q : ℕ) → Visit A p (repeated j v) q → Cycle A v p q
unfolding repeated
cycle_of A v zero p q t = absurd (omega (arith, some_met t.1 t.2))
cycle_of A v (suc j) p q t = let s = visit_split v (repeated j v) t in go s.0 (λ m k. cycle_of A v j m q k) s.1
  where
    go : (m : ℕ) → ((m' : ℕ) → Visit A m' (repeated j v) q → Cycle A v m' q)
        → (Visit A p v m × Via A m (repeated j v) q) ⊎ (Via A p v m × Visit A m (repeated j v) q) → Cycle A v p q
    go m ih (inl s) = record { from = p; to = m; before = copies_none A v p; visit = s.0; after = (j, s.1) }
    go m ih (inr s) =
        let k = ih m s.1 in
        record {
          from = k.from;
          to = k.to;
          before = copies_append A v p m k.from (copies_one A v p m s.0) k.before;
          visit = k.visit;
          after = k.after;
        }

accepted_found : {A : Automaton} {u v : List ℕ} → Accepted A u v → Found A u v
accepted_found {A} {u} {v} o =
    let s = via_split u (repeated o.i v) (o.stem, o.stem_run) in
    let t = cycle_of A v o.j o.state o.state (accepted_visit o) in
    record {
      state = s.0;
      stem = s.1;
      from = t.from;
      before = copies_append A v s.0 o.state t.from (o.i, s.2) t.before;
      to = t.to;
      visit = t.visit;
      back = copies_append A v t.to o.state t.from t.after t.before;
    }

found_accepted : {A : Automaton} {u v : List ℕ} → Found A u v → Accepted A u v
unfolding repeated
found_accepted {A} {u} {v} f =
    accepted_of A u v f.before.0 (suc f.back.0) f.from (some_met f.visit.1 f.visit.2) (omega arith)
    (via_append A A.initial u f.state (repeated f.before.0 v) f.from f.stem f.before.1)
    (visit_append A f.from v f.to (repeated f.back.0 v) f.from f.visit f.back.1)

-- The verdict finds a cycle where there is one.

module _ (A : Automaton) (u v : List ℕ) where
  -- the states that u leads to, and what copies of v join
  abbrev ends : List Bool
  ends = on_word A (only A A.initial) u

  abbrev joined : List (List Bool)
  joined = closure A.states (loop_runs A v)

  -- the tests that the verdict makes of r and s, and of p and r
  abbrev goes_back : ℕ → ℕ → Bool
  goes_back r s = related (loop_visits A v) r s && reaches joined s r

  abbrev returns_at : ℕ → ℕ → Bool
  returns_at p r = reaches joined p r && some (goes_back r) A.states 0

  verdict_found : T (accepted A u v) → Found A u v
  unfolding accepted
  verdict_found t =
      let p = some_below _ A.states t in
      let t₁ = and_both (in_set ends p.0) (some (returns_at p.0) A.states 0) p.2 in
      let r = some_below _ A.states t₁.1 in
      let t₂ = and_both (reaches joined p.0 r.0) (some (goes_back r.0) A.states 0) r.2 in
      let s = some_below _ A.states t₂.1 in
      let t₃ = and_both (related (loop_visits A v) r.0 s.0) (reaches joined s.0 r.0) s.2 in
      let k = on_word_sound A (only A A.initial) u p.0 t₁.0 in
      record {
        state = p.0;
        stem = subst (λ (x : ℕ). Via A x u p.0) (only_is A A.initial k.0 k.1) k.2;
        from = r.0;
        before = reaches_sound A v p.0 r.0 p.1 r.1 t₂.0;
        to = s.0;
        visit = loop_visits_sound A v r.0 s.0 r.1 s.1 t₃.0;
        back = reaches_sound A v s.0 r.0 s.1 r.1 t₃.1;
      }

  found_verdict : A.initial < A.states → Found A u v → T (accepted A u v)
  unfolding accepted
  found_verdict h f =
      let hp : f.state < A.states = run_below h f.stem.1 in
      let hr : f.from < A.states = run_below hp f.before.1.1 in
      let hs : f.to < A.states = run_below hr f.visit.1 in
      let t₁ : T (in_set ends f.state) = on_word_complete A (only A A.initial) (only_has A A.initial h) f.stem.1 in
      let t₂ : T (goes_back f.from f.to) =
      both_and (related (loop_visits A v) f.from f.to) (reaches joined f.to f.from)
      (loop_visits_complete A v f.from f.to hr hs f.visit) (reaches_complete A v f.to f.from hs hr f.back) in
      let t₃ : T (returns_at f.state f.from) =
      both_and (reaches joined f.state f.from) (some (goes_back f.from) A.states 0)
      (reaches_complete A v f.state f.from hp hr f.before) (some_at _ A.states f.to hs t₂) in
      some_at _ A.states f.state hp
      (both_and (in_set ends f.state) (some (returns_at f.state) A.states 0) t₁ (some_at _ A.states f.from hr t₃))

-- for every stem and loop, of any length; with an empty loop the verdict is no, and there is no lasso word
pub verdict_decides_acceptance : (A : Automaton) → A.initial < A.states → (u v : List ℕ) → T (accepted A u v) ↔ Accepted A u v
verdict_decides_acceptance A h u v =
    (λ t. found_accepted (verdict_found A u v t), λ o. found_verdict A u v h (accepted_found o))
