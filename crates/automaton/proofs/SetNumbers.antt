-- The number of a set of states, in which state q counts 2 ^ q: its bits are the members, and the set of n states is below 2 ^ n. By halving: the
-- number is that of the lowest state and twice that of the others. Assumes nothing.
use mathlib.Core.Path.{◌≡◌, refl, sym, ap, ap₂, subst, ◌∙◌}
use mathlib.Core.Bool.{Bool, true, false, ◌&&◌}
use Prim.Native.Nat.{ℕ, zero, suc, ◌+◌, ◌*◌, ◌/◌, ◌%◌, ◌^◌, ◌<◌}
use native.Mathlib.Nat.{pow-suc, pow-succ', mul-zero, one-mul, mul_comm, mul_assoc, mul-add, add-zero, zero-add}
use native.Mathlib.Omega.{arith}
use borrow.Author.Tests.{eq-eqb, le-ltb, lt-ltb, ltb-true, ltb-false}
use lib.Dec.{eqb, ltb}
use Rattle.automaton.specs.Ranges.{total}
use Rattle.automaton.specs.Sets.{bit}
use Rattle.automaton.specs.Automata.{one}
use Rattle.automaton.proofs.Bits.{bit_half, bit_first, bit_zero}

module _ (f : ℕ → Bool) where
  -- the number of the set of the n states from i on, in which i counts 1
  abbrev halved : ℕ → ℕ → ℕ
  halved zero i = 0
  halved (suc n) i = one (f i) + 2 * halved n (suc i)

  total_halved : (n i : ℕ) → total (λ q. one (f q) * 2 ^ q) n i ≡ 2 ^ i * halved n i
  unfolding total
  total_halved zero i = sym (mul-zero (2 ^ i))
  total_halved (suc n) i =
      ap (λ (x : ℕ). one (f i) * 2 ^ i + x) (total_halved n (suc i) ∙ ap (λ (x : ℕ). x * halved n (suc i)) (pow-suc 2 i))
      ∙ spread (one (f i)) (2 ^ i) (halved n (suc i))
    where
      spread : (a p h : ℕ) → a * p + p * 2 * h ≡ p * (a + 2 * h)
      spread a p h = ap₂ ◌+◌ (mul_comm a p) (mul_assoc p 2 h) ∙ sym (mul-add p a (2 * h))

  abbrev number : ℕ → ℕ
  number n = total (λ q. one (f q) * 2 ^ q) n 0

  number_halved : (n : ℕ) → number n ≡ halved n 0
  number_halved n = total_halved n 0 ∙ one-mul (halved n 0)

  halved_bit : (n i k : ℕ) → bit (halved n i) k ≡ (ltb k n && f (i + k))
  halved_bit zero i k = bit_zero k ∙ ap (λ (b : Bool). b && f (i + k)) (sym (le-ltb k 0 (omega arith)))
  halved_bit (suc n) i zero =
      bit_first (halved (suc n) i) ∙ lowest (f i) (halved n (suc i))
      ∙ sym (ap₂ ◌&&◌ (lt-ltb 0 (suc n) (omega arith)) (ap f (add-zero i)))
    where
      lowest : (c : Bool) (h : ℕ) → eqb ((one c + 2 * h) % 2) 1 ≡ c
      lowest true h = eq-eqb ((1 + 2 * h) % 2) 1 (omega arith)
      lowest false h = let e : (0 + 2 * h) % 2 ≡ 0 = omega arith in ap (λ (n : ℕ). eqb n 1) e
  halved_bit (suc n) i (suc k) =
      bit_half (halved (suc n) i) k
      ∙ ap (λ (w : ℕ). bit w k) (half (f i) (halved n (suc i)))
      ∙ halved_bit n (suc i) k
      ∙ ap₂ (λ (b : Bool) (j : ℕ). b && f j) (shifted (ltb k n) refl) along
    where
      along : suc i + k ≡ i + suc k
      along = omega arith

      shifted : (b : Bool) → ltb k n ≡ b → ltb k n ≡ ltb (suc k) (suc n)
      shifted true e = let h = ltb-true k n e in e ∙ sym (lt-ltb (suc k) (suc n) (omega arith))
      shifted false e = let h = ltb-false k n e in e ∙ sym (le-ltb (suc k) (suc n) (omega arith))

      half : (c : Bool) (h : ℕ) → (one c + 2 * h) / 2 ≡ h
      half true h = omega arith
      half false h = omega arith

  pub set_bit : (n k : ℕ) → bit (number n) k ≡ (ltb k n && f k)
  set_bit n k =
      ap (λ (w : ℕ). bit w k) (number_halved n) ∙ halved_bit n 0 k ∙ ap (λ (j : ℕ). ltb k n && f j) (zero-add k)

  halved_fits : (n i : ℕ) → halved n i < 2 ^ n
  halved_fits zero i = omega arith
  halved_fits (suc n) i =
      let l = halved_fits n (suc i) in
      let p = pow-succ' 2 n in
      omega (arith, one_small (f i))
    where
      one_small : (c : Bool) → one c < 2
      one_small true = omega arith
      one_small false = omega arith

  pub set_fits : (n : ℕ) → number n < 2 ^ n
  set_fits n = subst (λ (w : ℕ). w < 2 ^ n) (sym (number_halved n)) (halved_fits n 0)
