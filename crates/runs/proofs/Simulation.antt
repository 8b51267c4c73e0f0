-- A direct simulation gives containment at bound 0, hence at every bound: step by step it makes a run prefix of the second automaton that
-- is accepting wherever the first one's is, so no position counts. Assumes nothing.
use mathlib.Core.List.{List, [], ◌∷◌}
use Prim.Native.Nat.{ℕ, ◌≤◌}
use native.Mathlib.Nat.{le_trans}
use native.Mathlib.Omega.{arith}
use lib.Dec.{T, T_not}
use Rattle.automaton.specs.declared.Automaton.{Automaton}
use Rattle.automaton.specs.Automata.{accepts}
use Rattle.runs.specs.Runs.{Run, here, step}
use Rattle.runs.specs.Containment.{Contained}
use Rattle.runs.specs.Simulation.{DirectSimulation}
use Rattle.runs.proofs.LagSteps.{Stretch, stop, take, pass, Lag, start, skip, LagIn}
use Rattle.runs.proofs.FollowedBy.{AllFollowed}
use Rattle.runs.proofs.Contained.{contained_followed}

-- containment at a bound is containment at every larger one
pub contained_more : (A B : Automaton) (b c : ℕ) → b ≤ c → Contained A B b → Contained A B c
unfolding Contained
contained_more A B b c h k w π x =
    let f = k w π x in
    record { states = f.states; prefix = f.prefix; lag = f.lag; is = f.is; bounded = le_trans f.bounded h }

module _ (A B : Automaton) where
  -- position by position, the second is accepting where the first is
  abbrev Matched : List ℕ → List ℕ → Type 0
  Matched [] ρ = Unit {0}
  Matched (p ∷ π) [] = Unit {0}
  Matched (p ∷ π) (r ∷ ρ) = (T (accepts A p) → T (accepts B r)) × Matched π ρ

  matched_stretch : {j : ℕ} {π ρ : List ℕ} → Matched π ρ → Stretch A B j π ρ → j ≤ 0
  matched_stretch m stop = omega arith
  matched_stretch m (take {r = r} s t k) = absurd (T_not (accepts B r) t (m.0 s))
  matched_stretch m (pass t k) = matched_stretch m.1 k

  matched_lag : {j : ℕ} {π ρ : List ℕ} → Matched π ρ → Lag A B j π ρ → j ≤ 0
  matched_lag m (start k) = matched_stretch m k
  matched_lag m (skip k) = matched_lag m.1 k

  module _ (R : ℕ → ℕ → Type 0) (S : DirectSimulation A B R) where
    -- a run of B from q on w, accepting where the states ts of a run of A are
    record RunMatched (q : ℕ) (w ts : List ℕ) : Type 0 where
      end : ℕ
      states : List ℕ
      run : Run B q w end states
      matched : Matched ts states

    run_met : {p q e : ℕ} {w ts : List ℕ} → R p q → Run A p w e ts → RunMatched q w ts
    run_met {q = q} h here = record { end = q; states = []; run = here; matched = tt }
    run_met {q = q} h (step {p = p} {a = a} {t = t} x k) =
        let y = S.meets p q a t h x in
        let m = run_met y.2 k in
        record {
          end = m.end;
          states = y.0 ∷ m.states;
          run = step y.1 m.run;
          matched = (S.accepting_too t y.0 y.2, m.matched);
        }

    pub direct_simulation_contained : (b : ℕ) → Contained A B b
    unfolding LagIn AllFollowed
    direct_simulation_contained b =
        contained_more A B 0 b (omega arith) ((contained_followed A B 0).1 λ e w ts k.
        let m = run_met S.starts k in
        record {
          end = m.end;
          states = m.states;
          run = m.run;
          lag = λ j l. matched_lag (S.accepting_too A.initial B.initial S.starts, m.matched) l;
        })
