-- Containment, as the definition has it, is containment said of runs and of the lag by induction: the states of a run prefix are
-- the initial state and those of a run, and the lag is a number. Assumes nothing.
use mathlib.Core.Path.{◌≡◌, refl, sym, ap, subst, ◌∙◌}
use mathlib.Core.Logic.{◌↔◌}
use mathlib.Core.List.{List, ◌∷◌}
use Prim.Native.Nat.{ℕ, suc}
use lib.ListN.{length}
use Rattle.automaton.specs.declared.Automaton.{Automaton}
use Rattle.runs.specs.Runs.{Run}
use Rattle.runs.specs.Lag.{LagIs}
use Rattle.runs.specs.Containment.{Follows, Contained}
use Rattle.runs.proofs.Runs.{run_length}
use Rattle.runs.proofs.LagNumber.{lag_at_most}
use Rattle.runs.proofs.FollowedBy.{FollowedBy, AllFollowed}

module _ (A B : Automaton) (b : ℕ) where
  prefixes_length : {p q : ℕ} {w ts us : List ℕ} → Run A A.initial w p ts → Run B B.initial w q us
      → length (A.initial ∷ ts) ≡ length (B.initial ∷ us)
  prefixes_length k x = ap suc (run_length k ∙ sym (run_length x))

  -- a run prefix of B follows a run prefix of A by the definition exactly when it does by induction
  pub follows_followed : {q : ℕ} {w ts : List ℕ} → Run A A.initial w q ts
      → (Follows A B b w (A.initial ∷ ts) ↔ FollowedBy A B b w ts)
  follows_followed {q} {w} {ts} k = (
    λ f.
        let x = f.prefix in
        let is = subst (λ (σ : List ℕ). LagIs A B (A.initial ∷ ts) σ f.lag) x.all f.is in
        record {
          end = x.end;
          states = x.rest;
          run = x.run;
          lag = (lag_at_most A B b (A.initial ∷ ts) (B.initial ∷ x.rest) (prefixes_length k x.run)).1 (f.lag, is, f.bounded);
        },
    λ f.
        let n = (lag_at_most A B b (A.initial ∷ ts) (B.initial ∷ f.states) (prefixes_length k f.run)).0 f.lag in
        record {
          states = B.initial ∷ f.states;
          prefix = record { end = f.end; rest = f.states; run = f.run; all = refl };
          lag = n.0;
          is = n.1;
          bounded = n.2;
        },
  )

  pub contained_followed : Contained A B b ↔ AllFollowed A B b
  unfolding Contained AllFollowed
  contained_followed = (
    λ c q w ts k.
        (follows_followed k).0 (c w (A.initial ∷ ts) (record { end = q; rest = ts; run = k; all = refl })),
    λ c w π x.
        subst (Follows A B b w) (sym x.all) ((follows_followed x.run).1 (c x.end w x.rest x.run)),
  )
