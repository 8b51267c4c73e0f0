-- Containment said of runs and of the lag by induction. Assumes nothing.
use mathlib.Core.List.{List, ◌∷◌}
use Prim.Native.Nat.{ℕ}
use Rattle.automaton.specs.declared.Automaton.{Automaton}
use Rattle.runs.specs.Runs.{Run}
use Rattle.runs.proofs.LagSteps.{LagIn}

-- a run prefix of B on w that lags behind A's, whose states after the first are ts, by at most b
pub record FollowedBy (A B : Automaton) (b : ℕ) (w ts : List ℕ) : Type 0 where
  pub end : ℕ
  pub states : List ℕ
  pub run : Run B B.initial w end states
  pub lag : LagIn A B b (A.initial ∷ ts) (B.initial ∷ states)

unfoldable pub AllFollowed : Automaton → Automaton → ℕ → Type 0
AllFollowed A B b = (q : ℕ) (w ts : List ℕ) → Run A A.initial w q ts → FollowedBy A B b w ts
