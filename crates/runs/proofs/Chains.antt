-- A run of B on n copies of a word, beside a run of A that makes more than b visits on each copy: if its lag is at most b, B's run
-- accepts on each copy, so it is a chain of runs that each meet an accepting state. By induction over the copies. Assumes nothing.
use mathlib.Core.Path.{◌≡◌, refl, sym, ◌∙◌, subst}
use mathlib.Core.Logic.{◌⊎◌, inl, inr}
use mathlib.Core.List.{List, [], ◌++◌}
use Prim.Native.Nat.{ℕ, zero, suc, ◌+◌, ◌≤◌, ◌<◌}
use native.Mathlib.Nat.{add-zero, suc-add, add-suc}
use native.Mathlib.Omega.{arith}
use lib.ListN.{length}
use Rattle.automaton.specs.declared.Automaton.{Automaton}
use Rattle.runs.specs.Runs.{Run, here}
use Rattle.runs.specs.Lassos.{repeated, Meets}
use Rattle.runs.proofs.Runs.{run_length, run_below, Parts, run_split}
use Rattle.runs.proofs.LagSteps.{Lag, LagIn}
use Rattle.runs.proofs.LassoRuns.{Via, Visit, via_append, visit_append}
use Rattle.runs.proofs.VisitCounts.{visits, Quiet, meets_or_quiet, lag_append, quiet_lag}

-- n runs on x, one after another from p, each of which meets an accepting state: the states between them
abbrev pub Chain : Automaton → List ℕ → ℕ → ℕ → Type 0
Chain B x n p = (s : ℕ → ℕ) × (s 0 ≡ p) × ((g : ℕ) → g < n → Visit B (s g) x (s (suc g)))

-- p, and then the values of s
abbrev before : ℕ → (ℕ → ℕ) → ℕ → ℕ
before p s zero = p
before p s (suc g) = s g

chain_cons : {B : Automaton} {x : List ℕ} {p m : ℕ} (n : ℕ) → Visit B p x m → Chain B x n m → Chain B x (suc n) p
chain_cons {B} {x} {p} {m} n v c = (before p c.0, refl, next)
  where
    next : (g : ℕ) → g < suc n → Visit B (before p c.0 g) x (before p c.0 (suc g))
    next zero l = rw c.1 v
    next (suc g) l = c.2 g (omega arith)

module _ (A B : Automaton) (b : ℕ) (x ls : List ℕ) (size : length ls ≡ length x) (many : suc b ≤ visits A ls) where
  pub chain : (n p : ℕ) {r : ℕ} {qs : List ℕ} → Run B p (repeated n x) r qs → LagIn A B b (repeated n ls) qs → Chain B x n p
  unfolding repeated LagIn
  chain zero p k h = (λ g. p, refl, λ g l. absurd (omega arith))
  chain (suc n) p {r} {qs} k h = go (λ m us k' h'. chain n m k' h') (run_split x (repeated n x) k)
    where
      visit : (m : ℕ) (q₁ q₂ : List ℕ) → Run B p x m q₁ → qs ≡ q₁ ++ q₂ → Meets B q₁ ⊎ Quiet B q₁ → Visit B p x m
      visit m q₁ q₂ r₁ e (inl z) = (q₁, r₁, z)
      visit m q₁ q₂ r₁ e (inr z) =
          let s = quiet_lag A B ls q₁ (repeated n ls) q₂ (size ∙ sym (run_length r₁)) z in
          absurd (omega (arith, h (visits A ls) (subst (λ (l : List ℕ). Lag A B (visits A ls) (ls ++ repeated n ls) l) (sym e) s)))

      go : ((m : ℕ) (us : List ℕ) → Run B m (repeated n x) r us → LagIn A B b (repeated n ls) us → Chain B x n m)
          → Parts B p x (repeated n x) r qs → Chain B x (suc n) p
      go ih t =
          chain_cons n (visit t.mid t.ts₁ t.ts₂ t.run₁ t.all (meets_or_quiet B t.ts₁))
          (ih t.mid t.ts₂ t.run₂
          (λ j z. h j (subst (λ (l : List ℕ). Lag A B j (ls ++ repeated n ls) l) (sym t.all)
          (lag_append A B ls t.ts₁ (repeated n ls) t.ts₂ (size ∙ sym (run_length t.run₁)) z))))

module _ (B : Automaton) (x : List ℕ) (n p : ℕ) (c : Chain B x n p) where
  -- the runs of a chain, joined
  pub chain_via : (m g : ℕ) → g + m ≤ n → Via B (c.0 g) (repeated m x) (c.0 (g + m))
  unfolding repeated
  chain_via zero g h = rw add-zero ([], here)
  chain_via (suc m) g h =
      let v = c.2 g (omega arith) in
      rw (add-suc, ← suc-add)
      (via_append B (c.0 g) x (c.0 (suc g)) (repeated m x) (c.0 (suc g + m)) (v.0, v.1) (chain_via m (suc g) (omega arith)))

  pub chain_visit : (m g : ℕ) → g + suc m ≤ n → Visit B (c.0 g) (repeated (suc m) x) (c.0 (g + suc m))
  unfolding repeated
  chain_visit m g h =
      rw (add-suc, ← suc-add)
      (visit_append B (c.0 g) x (c.0 (suc g)) (repeated m x) (c.0 (suc g + m)) (c.2 g (omega arith))
      (chain_via m (suc g) (omega arith)))

  pub chain_below : p < B.states → (g : ℕ) → g ≤ n → c.0 g < B.states
  chain_below h zero l = rw c.1 h
  chain_below h (suc g) l = let v = c.2 g (omega arith) in run_below (chain_below h g (omega arith)) v.1
