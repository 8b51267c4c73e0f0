-- What a counter means (the paper, Lemmas 2 and 3, at every bound): for c of at least 1, the counter of r is at least c exactly if some
-- right run prefix on the same word ends in r, with a lag of at most b and at most b + 1 - c left visits after its last visit. What is
-- left of a run's budget, and those left visits, together are b + 1. Assumes nothing.
use mathlib.Core.Path.{◌≡◌, refl, sym, ap, subst, ◌∙◌}
use mathlib.Core.Bool.{Bool, true, false}
use mathlib.Core.Logic.{◌↔◌}
use mathlib.Core.List.{List, [], ◌∷◌}
use Prim.Native.Nat.{ℕ, suc, ◌+◌, ◌≤◌, ◌<◌}
use native.Mathlib.Omega.{arith}
use lib.ListN.{length, get_or}
use Rattle.automaton.specs.declared.Automaton.{Automaton}
use Rattle.automaton.specs.Automata.{max_states, accepts}
use Rattle.runs.specs.Runs.{Run}
use Rattle.runs.specs.Lag.{LagIs}
use Rattle.runs.proofs.Runs.{run_length}
use Rattle.runs.proofs.LagSteps.{next, Ok, LagIn, lag_iff}
use Rattle.runs.proofs.LagNumber.{lag_at_most}
use Rattle.graph.specs.Meaning.{counters_after, counted, visits_from, visits_since, Witness}
use Rattle.graph.proofs.Counters.{remaining, counter_source, run_counter}

module _ (A B : Automaton) where
  module _ (b : ℕ) where
    budget_step : (l y : Bool) (c k : ℕ) → c + k ≡ b + 1 → 0 < next A B b l y c → next A B b l y c + counted A B l y k ≡ b + 1
    budget_step l true c k e h = omega arith
    budget_step true false c k e h = omega arith
    budget_step false false c k e h = e

    budget_split : (π ρ : List ℕ) (c k : ℕ) → c + k ≡ b + 1 → Ok A B b c π ρ → remaining A B b c π ρ + visits_from A B k π ρ ≡ b + 1
    budget_split [] ρ c k e o = e
    budget_split (p ∷ π) [] c k e o = e
    budget_split (p ∷ π) (r ∷ ρ) c k e o =
        budget_split π ρ (next A B b (accepts A p) (accepts B r) c) (counted A B (accepts A p) (accepts B r) k)
        (budget_step (accepts A p) (accepts B r) c k e o.0)
        o.1

    budget_visits : (π ρ : List ℕ) → LagIn A B b π ρ → remaining A B b (b + 1) π ρ + visits_since A B π ρ ≡ b + 1
    budget_visits π ρ l = budget_split π ρ (b + 1) 0 (omega arith) ((lag_iff A B b π ρ).1 l)

    module _ (small : B.states ≤ max_states) (inside : B.initial < B.states) where
      counter_witness : {q : ℕ} {w ts : List ℕ} → Run A A.initial w q ts → (r c : ℕ) → 1 ≤ c
          → c ≤ get_or (counters_after A B b w ts) r 0 → Witness A B b w (A.initial ∷ ts) r c
      counter_witness {ts = ts} k r c h g =
          let s = counter_source A B b small inside k r (omega arith) in
          let e : length (A.initial ∷ ts) ≡ length (B.initial ∷ s.states) = ap suc (run_length k ∙ sym (run_length s.run)) in
          let n = (lag_at_most A B b (A.initial ∷ ts) (B.initial ∷ s.states) e).0 s.lag in
          record {
            follows =
                record {
                  states = B.initial ∷ s.states;
                  prefix = record { end = r; rest = s.states; run = s.run; all = refl };
                  lag = n.0;
                  is = n.1;
                  bounded = n.2;
                };
            ends = refl;
            since = omega (arith, s.left, budget_visits (A.initial ∷ ts) (B.initial ∷ s.states) s.lag);
          }

      witness_counter : {q : ℕ} {w ts : List ℕ} → Run A A.initial w q ts → (r c : ℕ) → Witness A B b w (A.initial ∷ ts) r c
          → c ≤ get_or (counters_after A B b w ts) r 0
      witness_counter {w = w} {ts = ts} k r c x =
          let f = x.follows in
          let y = f.prefix in
          let e : length (A.initial ∷ ts) ≡ length (B.initial ∷ y.rest) = ap suc (run_length k ∙ sym (run_length y.run)) in
          let is = subst (λ (σ : List ℕ). LagIs A B (A.initial ∷ ts) σ f.lag) y.all f.is in
          let l = (lag_at_most A B b (A.initial ∷ ts) (B.initial ∷ y.rest) e).1 (f.lag, is, f.bounded) in
          let s = subst (λ (σ : List ℕ). visits_since A B (A.initial ∷ ts) σ + c ≤ b + 1) y.all x.since in
          let m = (run_counter A B b small inside k y.run l).1 in
          subst (λ (z : ℕ). c ≤ get_or (counters_after A B b w ts) z 0) x.ends
          (omega (arith, s, m, budget_visits (A.initial ∷ ts) (B.initial ∷ y.rest) l))

      pub counters_mean : {q : ℕ} {w ts : List ℕ} → Run A A.initial w q ts → (r c : ℕ) → 1 ≤ c
          → (c ≤ get_or (counters_after A B b w ts) r 0) ↔ Witness A B b w (A.initial ∷ ts) r c
      counters_mean k r c h = (counter_witness k r c h, witness_counter k r c)
