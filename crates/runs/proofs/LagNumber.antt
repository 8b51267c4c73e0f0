-- The lag is a number: of two run prefixes of equal length there is exactly one, found by recursion over the two together as the
-- larger of the longest stretch from here and the lag of the rest. Assumes nothing.
use mathlib.Core.Path.{◌≡◌, refl, sym, subst}
use mathlib.Core.Bool.{Bool, true, false, not}
use mathlib.Core.Logic.{◌⊎◌, inl, inr, ◌↔◌}
use mathlib.Core.List.{List, [], ◌∷◌}
use Prim.Native.Nat.{ℕ, suc, ◌≤◌, max}
use native.Mathlib.Nat.{le-max_left, le-max_right, le_trans, le_antisymm}
use native.Mathlib.Omega.{arith}
use lib.Dec.{T}
use lib.ListN.{length}
use Rattle.automaton.specs.declared.Automaton.{Automaton}
use Rattle.automaton.specs.Automata.{accepts}
use Rattle.runs.specs.Lag.{LagIs}
use Rattle.automaton.proofs.Booleans.{is_true, is_false}
use Rattle.automaton.proofs.Ranges.{max_is}
use Rattle.runs.proofs.LagSteps.{Stretch, stop, take, pass, Lag, start, skip, LagIn}
use Rattle.runs.proofs.Positions.{lag_iff_positions}

-- the longest stretch from a position on: whether the first run accepts there, whether the second does, and the longest after it
abbrev longest_by : Bool → Bool → ℕ → ℕ
longest_by l true n = 0
longest_by true false n = suc n
longest_by false false n = n

module _ (A B : Automaton) where
  longest : List ℕ → List ℕ → ℕ
  longest [] ρ = 0
  longest (p ∷ π) [] = 0
  longest (p ∷ π) (r ∷ ρ) = longest_by (accepts A p) (accepts B r) (longest π ρ)

  lag_number : List ℕ → List ℕ → ℕ
  lag_number [] ρ = 0
  lag_number (p ∷ π) [] = 0
  lag_number (p ∷ π) (r ∷ ρ) = max (longest (p ∷ π) (r ∷ ρ)) (lag_number π ρ)

  longest_holds : (π ρ : List ℕ) → Stretch A B (longest π ρ) π ρ
  unfolding longest
  longest_holds [] ρ = stop
  longest_holds (p ∷ π) [] = stop
  longest_holds (p ∷ π) (r ∷ ρ) = go (accepts A p) (accepts B r) refl refl (longest_holds π ρ)
    where
      go : (l m : Bool) → accepts A p ≡ l → accepts B r ≡ m → Stretch A B (longest π ρ) π ρ
          → Stretch A B (longest_by l m (longest π ρ)) (p ∷ π) (r ∷ ρ)
      go l true d e k = stop
      go true false d e k = take (is_true (accepts A p) d) (is_false (accepts B r) e) k
      go false false d e k = pass (is_false (accepts B r) e) k

  longest_most : {j : ℕ} {π ρ : List ℕ} → Stretch A B j π ρ → j ≤ longest π ρ
  unfolding longest
  longest_most stop = omega arith
  longest_most (take {j = j} {p = p} {r = r} {π = π} {ρ = ρ} s t k) = go (accepts A p) (accepts B r) s t (longest_most k)
    where
      go : (l m : Bool) → T l → T (not m) → j ≤ longest π ρ → suc j ≤ longest_by l m (longest π ρ)
      go l true s t h = absurd t
      go true false s t h = omega arith
      go false false s t h = absurd s
  longest_most (pass {j = j} {p = p} {r = r} {π = π} {ρ = ρ} t k) = go (accepts A p) (accepts B r) t (longest_most k)
    where
      go : (l m : Bool) → T (not m) → j ≤ longest π ρ → j ≤ longest_by l m (longest π ρ)
      go l true t h = absurd t
      go true false t h = omega arith
      go false false t h = h

  lag_number_holds : (π ρ : List ℕ) → Lag A B (lag_number π ρ) π ρ
  unfolding lag_number
  lag_number_holds [] ρ = start stop
  lag_number_holds (p ∷ π) [] = start stop
  lag_number_holds (p ∷ π) (r ∷ ρ) = go (lag_number_holds π ρ) (max_is (longest (p ∷ π) (r ∷ ρ)) (lag_number π ρ))
    where
      go : Lag A B (lag_number π ρ) π ρ
          → (max (longest (p ∷ π) (r ∷ ρ)) (lag_number π ρ) ≡ longest (p ∷ π) (r ∷ ρ))
          ⊎ (max (longest (p ∷ π) (r ∷ ρ)) (lag_number π ρ) ≡ lag_number π ρ)
          → Lag A B (max (longest (p ∷ π) (r ∷ ρ)) (lag_number π ρ)) (p ∷ π) (r ∷ ρ)
      go k (inl e) = start (subst (λ (j : ℕ). Stretch A B j (p ∷ π) (r ∷ ρ)) (sym e) (longest_holds (p ∷ π) (r ∷ ρ)))
      go k (inr e) = skip (subst (λ (j : ℕ). Lag A B j π ρ) (sym e) k)

  longest_below : (π ρ : List ℕ) → longest π ρ ≤ lag_number π ρ
  unfolding longest lag_number
  longest_below [] ρ = omega arith
  longest_below (p ∷ π) [] = omega arith
  longest_below (p ∷ π) (r ∷ ρ) = le-max_left (longest (p ∷ π) (r ∷ ρ)) (lag_number π ρ)

  lag_number_most : {j : ℕ} {π ρ : List ℕ} → Lag A B j π ρ → j ≤ lag_number π ρ
  unfolding lag_number
  lag_number_most (start {π = π} {ρ = ρ} k) = le_trans (longest_most k) (longest_below π ρ)
  lag_number_most (skip {p = p} {r = r} {π = π} {ρ = ρ} k) =
      le_trans (lag_number_most k) (le-max_right (longest (p ∷ π) (r ∷ ρ)) (lag_number π ρ))

  -- two run prefixes of equal length have a lag
  pub lag_exists : (π ρ : List ℕ) → length π ≡ length ρ → (n : ℕ) × LagIs A B π ρ n
  unfolding LagIs
  lag_exists π ρ l = (
    lag_number π ρ,
    record {
      holds = (lag_iff_positions A B (lag_number π ρ) π ρ l).0 (lag_number_holds π ρ);
      most = λ m k. lag_number_most ((lag_iff_positions A B m π ρ l).1 k);
    },
  )

  -- and only one
  pub lag_unique : (π ρ : List ℕ) (m n : ℕ) → LagIs A B π ρ m → LagIs A B π ρ n → m ≡ n
  unfolding LagIs
  lag_unique π ρ m n h k = le_antisymm (k.most m h.holds) (h.most n k.holds)

  -- the lag, as a number, is at most b exactly when the lag by induction is
  pub lag_at_most : (b : ℕ) (π ρ : List ℕ) → length π ≡ length ρ
      → LagIn A B b π ρ ↔ ((n : ℕ) × LagIs A B π ρ n × (n ≤ b))
  unfolding LagIn LagIs
  lag_at_most b π ρ l = (
    λ h. let n = lag_exists π ρ l in (n.0, n.1, h n.0 ((lag_iff_positions A B n.0 π ρ l).1 n.1.holds)),
    λ n j k. le_trans (n.1.most j ((lag_iff_positions A B j π ρ l).0 k)) n.2,
  )
