-- Of n + 1 numbers below n, two are equal: either the last of them occurs earlier, or taking it out and closing the gap leaves n
-- numbers below n - 1. Assumes nothing.
use mathlib.Core.Path.{◌≡◌}
use mathlib.Core.Logic.{◌⊎◌, inl, inr, ◌≢◌}
use Prim.Native.Nat.{ℕ, zero, suc, ◌-◌, ◌≤◌, ◌<◌}
use native.Mathlib.Nat.{eq-or-lt_of_le}
use native.Mathlib.Decide.{dec_le, ℕ_discrete}
use native.Mathlib.Omega.{arith}

-- v is among the first n values of f, or it is none of them
value_or_none : (f : ℕ → ℕ) (v n : ℕ) → ((i : ℕ) × (i < n) × (f i ≡ v)) ⊎ ((i : ℕ) → i < n → f i ≢ v)
value_or_none f v zero = inr (λ i h. absurd (omega arith))
value_or_none f v (suc n) = go (value_or_none f v n) (ℕ_discrete (f n) v)
  where
    last : ((i : ℕ) → i < n → f i ≢ v) → f n ≢ v → (i : ℕ) → (suc i ≡ suc n) ⊎ (suc i < suc n) → f i ≢ v
    last h e i (inl d) = let d' : i ≡ n = omega arith in rw d' e
    last h e i (inr l) = h i (omega arith)

    go : ((i : ℕ) × (i < n) × (f i ≡ v)) ⊎ ((i : ℕ) → i < n → f i ≢ v) → Dec (f n ≡ v)
        → ((i : ℕ) × (i < suc n) × (f i ≡ v)) ⊎ ((i : ℕ) → i < suc n → f i ≢ v)
    go (inl t) d = inl (t.0, omega (arith, t.1), t.2)
    go (inr h) (yes e) = inl (n, omega arith, e)
    go (inr h) (no e) = inr (λ i l. last h e i (eq-or-lt_of_le l))

-- the numbers other than v, with the gap closed
punch : {v x : ℕ} → Dec (x ≤ v) → ℕ
punch {v} {x} (yes h) = x
punch {v} {x} (no h) = x - 1

punch_below : {v x : ℕ} (d : Dec (x ≤ v)) (m : ℕ) → x ≢ v → x < suc m → v < suc m → punch d < m
unfolding punch
punch_below (yes h) m n a b = omega arith
punch_below (no h) m n a b = omega arith

punch_injective : {v x y : ℕ} (d : Dec (x ≤ v)) (e : Dec (y ≤ v)) → x ≢ v → y ≢ v → punch d ≡ punch e → x ≡ y
unfolding punch
punch_injective (yes h) (yes k) n o p = omega arith
punch_injective (yes h) (no k) n o p = omega arith
punch_injective (no h) (yes k) n o p = omega arith
punch_injective (no h) (no k) n o p = omega arith

-- two places, the second at most n, at which f has the same value
abbrev pub EqualPair : (ℕ → ℕ) → ℕ → Type 0
EqualPair f n = (i : ℕ) × (j : ℕ) × (i < j) × (j ≤ n) × (f i ≡ f j)

pub pigeonhole : (n : ℕ) (f : ℕ → ℕ) → ((i : ℕ) → i ≤ n → f i < n) → EqualPair f n
pigeonhole zero f h = absurd (omega (arith, h 0 (omega arith)))
pigeonhole (suc m) f h = go (λ g k. pigeonhole m g k) (value_or_none f (f (suc m)) (suc m))
  where
    go : ((g : ℕ → ℕ) → ((i : ℕ) → i ≤ m → g i < m) → EqualPair g m)
        → ((i : ℕ) × (i < suc m) × (f i ≡ f (suc m))) ⊎ ((i : ℕ) → i < suc m → f i ≢ f (suc m)) → EqualPair f (suc m)
    go ih (inl t) = (t.0, suc m, t.1, omega arith, t.2)
    go ih (inr n) =
        let t =
        ih (λ i. punch (dec_le (f i) (f (suc m))))
        (λ i l. punch_below (dec_le (f i) (f (suc m))) m (n i (omega arith)) (h i (omega arith)) (h (suc m) (omega arith))) in (
          t.0,
          t.1,
          t.2,
          omega (arith, t.3),
          punch_injective (dec_le (f t.0) (f (suc m))) (dec_le (f t.1) (f (suc m))) (n t.0 (omega (arith, t.2, t.3)))
              (n t.1 (omega (arith, t.3))) t.4,
        )
