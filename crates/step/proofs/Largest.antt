-- Laws of largest values over a range: one number more, numbers that count for 0 left out, values of functions that agree, and the largest of
-- lowered values. A largest value is known by what it bounds and where it is taken. Assumes nothing.
use mathlib.Core.Path.{◌≡◌, refl, sym, ◌∙◌, ap, subst}
use mathlib.Core.Bool.{Bool, true, false, cond, ◌&&◌, ◌||◌}
use mathlib.Core.Logic.{⊎_elim}
use Prim.Native.Nat.{ℕ, zero, suc, ◌+◌, ◌-◌, ◌≤◌, ◌<◌, max}
use native.Mathlib.Nat.{add-zero, zero-add, max-zero, zero-max}
use native.Mathlib.Omega.{arith}
use borrow.Author.Tests.{lt-ltb, le-ltb}
use lib.Dec.{ltb}
use Rattle.automaton.specs.Ranges.{some, largest}
use Rattle.automaton.proofs.Ranges.{largest_ub}
use Rattle.graph.proofs.Discoveries.{lt_or_le}

pub largest_more : (f : ℕ → ℕ) (n i : ℕ) → largest f (suc n) i ≡ max (largest f n i) (f (i + n))
unfolding largest
largest_more f zero i = rw (add-zero i, max-zero (f i), zero-max (f i))
largest_more f (suc n) i =
    let e : i + suc n ≡ suc i + n = omega arith in
    rw e (ap (max (f i)) (largest_more f n (suc i)) ∙ omega arith)

largest_le_from : (f : ℕ → ℕ) (n i m : ℕ) → ((k : ℕ) → k < n → f (i + k) ≤ m) → largest f n i ≤ m
unfolding largest
largest_le_from f zero i m h = omega arith
largest_le_from f (suc n) i m h =
    let first : f i ≤ m = subst (λ (k : ℕ). f k ≤ m) (add-zero i) (h 0 (omega arith)) in
    let rest =
    largest_le_from f n (suc i) m
    (λ k l. subst (λ (j : ℕ). f j ≤ m) (let e : i + suc k ≡ suc i + k = omega arith in e) (h (suc k) (omega arith))) in
    omega arith

-- the same for ranges that start at 0
pub largest_le : (f : ℕ → ℕ) (n m : ℕ) → ((k : ℕ) → k < n → f k ≤ m) → largest f n 0 ≤ m
largest_le f n m h = largest_le_from f n 0 m (λ k l. subst (λ (j : ℕ). f j ≤ m) (sym (zero-add k)) (h k l))

pub largest_bound : (f : ℕ → ℕ) (n k : ℕ) → k < n → f k ≤ largest f n 0
largest_bound f n k h = subst (λ (j : ℕ). f j ≤ largest f n 0) (zero-add k) (largest_ub f n 0 k h)

-- numbers from n on that count for 0 may be left out
pub largest_cut : (f g : ℕ → ℕ) (n m : ℕ) → n ≤ m → ((k : ℕ) → k < n → f k ≡ g k) → ((k : ℕ) → n ≤ k → k < m → f k ≡ 0)
    → largest f m 0 ≡ largest g n 0
largest_cut f g n m l e none = omega (arith, most, least)
  where
    most : largest f m 0 ≤ largest g n 0
    most =
        largest_le f m (largest g n 0)
        (λ k h. ⊎_elim (λ q. omega (arith, e k q, largest_bound g n k q)) (λ q. omega (arith, none k q h)) (lt_or_le k n))

    least : largest g n 0 ≤ largest f m 0
    least = largest_le g n (largest f m 0) (λ k h. omega (arith, e k h, largest_bound f m k (omega arith)))

pub largest_same : (f g : ℕ → ℕ) (n : ℕ) → ((k : ℕ) → k < n → f k ≡ g k) → largest f n 0 ≡ largest g n 0
largest_same f g n e = largest_cut f g n n (omega arith) e (λ k l h. absurd (omega arith))

-- Some predecessor has a counter above 0 exactly if the largest of their counters is above 0, and the largest of the lowered
-- counters is the largest counter lowered.
module _ (x : ℕ → Bool) (g : ℕ → ℕ) where
  pub some_above : (n i : ℕ) → some (λ p. x p && ltb 0 (g p)) n i ≡ ltb 0 (largest (λ p. cond (x p) (g p) 0) n i)
  unfolding some largest
  some_above zero i = sym (le-ltb 0 0 (omega arith))
  some_above (suc n) i =
      ap (λ (b : Bool). (x i && ltb 0 (g i)) || b) (some_above n (suc i)) ∙ go (x i) (largest (λ p. cond (x p) (g p) 0) n (suc i))
    where
      above : (a m : ℕ) → (ltb 0 a || ltb 0 m) ≡ ltb 0 (max a m)
      above zero m = ap (λ (k : ℕ). ltb 0 k) (sym (zero-max m))
      above (suc a) m = rw (lt-ltb 0 (suc a) (omega arith)) (sym (lt-ltb 0 (max (suc a) m) (omega arith)))

      go : (c : Bool) (m : ℕ) → ((c && ltb 0 (g i)) || ltb 0 m) ≡ ltb 0 (max (cond c (g i) 0) m)
      go true m = above (g i) m
      go false m = ap (λ (k : ℕ). ltb 0 k) (sym (zero-max m))

  pub largest_lowered : (n i : ℕ) → largest (λ p. cond (x p) (g p - 1) 0) n i ≡ largest (λ p. cond (x p) (g p) 0) n i - 1
  unfolding largest
  largest_lowered zero i = refl
  largest_lowered (suc n) i =
      ap (max (cond (x i) (g i - 1) 0)) (largest_lowered n (suc i)) ∙ go (x i) (largest (λ p. cond (x p) (g p) 0) n (suc i))
    where
      go : (c : Bool) (m : ℕ) → max (cond c (g i - 1) 0) (m - 1) ≡ max (cond c (g i) 0) m - 1
      go true m = omega arith
      go false m = omega arith
