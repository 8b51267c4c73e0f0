-- Bits of a number with its low bits cleared, and the next member of a range, found byte by byte.
-- Then loops over ranges that test, sum and look for members that the header lacks: the rest from i on gives the answer of the whole. Last, that
-- between the header's states a transition is its bit. Assumes nothing.
use mathlib.Core.Path.{◌≡◌, refl, sym, ap, ◌∙◌}
use mathlib.Core.Bool.{Bool, true, false, ◌&&◌, ◌||◌, not}
use mathlib.Core.List.{List, ◌∷◌}
use Prim.Native.Nat.{ℕ, zero, suc, ◌+◌, ◌-◌, ◌*◌, ◌/◌, ◌%◌, ◌^◌, ◌≤◌, ◌<◌}
use native.Mathlib.Nat.{mul_assoc}
use native.Mathlib.Omega.{arith}
use lib.Bits.{shifted_even}
use lib.Dec.{eqb, ltb}
use lib.Pow.{pow-add, shl-shr, shr-shr}
use borrow.Author.Tests.{lt-ltb, le-ltb}
use Rattle.automaton.specs.declared.Automaton.{Automaton}
use Rattle.automaton.specs.Ranges.{some, next_from, those, total}
use Rattle.automaton.specs.Sets.{bit, least_member}
use Rattle.automaton.specs.Automata.{transition}
use Rattle.automaton.specs.Members.{transition_in}
use Rattle.automaton.proofs.Ranges.{same_along, next_skip, next_is}
use Rattle.automaton.proofs.LeastMembers.{least_holds, least_before}

-- Bits.

-- division and multiplication by 2 ^ k clear the bits below k ..
pub bit_cleared : (w k i : ℕ) → i < k → bit (w / 2 ^ k * 2 ^ k) i ≡ false
bit_cleared w k i h = go (k - suc i) (omega arith)
  where
    go : (d : ℕ) → k ≡ suc d + i → bit (w / 2 ^ k * 2 ^ k) i ≡ false
    go d e =
        ap (λ (n : ℕ). eqb (n / 2 ^ i % 2) 1)
        (ap (λ (x : ℕ). w / 2 ^ k * 2 ^ x) e
        ∙ ap (λ (x : ℕ). w / 2 ^ k * x) (pow-add 2 (suc d) i)
        ∙ sym (mul_assoc (w / 2 ^ k) (2 ^ suc d) (2 ^ i)))
        ∙ ap (λ (n : ℕ). eqb (n % 2) 1) (shl-shr (w / 2 ^ k * 2 ^ suc d) i)
        ∙ ap (λ (n : ℕ). eqb n 1) (shifted_even (w / 2 ^ k) d)

-- .. and keep the others
pub bit_kept : (w k i : ℕ) → k ≤ i → bit (w / 2 ^ k * 2 ^ k) i ≡ bit w i
bit_kept w k i h = go (i - k) (omega arith)
  where
    go : (d : ℕ) → i ≡ k + d → bit (w / 2 ^ k * 2 ^ k) i ≡ bit w i
    go d e =
        ap (λ (n : ℕ). eqb (n % 2) 1)
        (ap (λ (x : ℕ). w / 2 ^ k * 2 ^ k / 2 ^ x) e
        ∙ sym (shr-shr (w / 2 ^ k * 2 ^ k) k d)
        ∙ ap (λ (x : ℕ). x / 2 ^ d) (shl-shr (w / 2 ^ k) k)
        ∙ shr-shr w k d
        ∙ ap (λ (x : ℕ). w / 2 ^ x) (sym e))

-- The next member is found byte by byte: v is the byte of the numbers from b * 8 on, and n its least member.

module _ (f : ℕ → Bool) (b v n : ℕ) (least : n ≡ least_member v) (in-byte : (k : ℕ) → k < 8 → f (b * 8 + k) ≡ bit v k) where
  none_before : (j : ℕ) → b * 8 ≤ j → j < b * 8 + 8 → j < b * 8 + n → f j ≡ false
  none_before j h u l = go (j - b * 8) (omega arith)
    where
      go : (k : ℕ) → j ≡ b * 8 + k → f j ≡ false
      go k e = ap f e ∙ in-byte k (omega arith) ∙ least_before v k (omega arith)

  pub next_in_byte : (m : ℕ) → b * 8 + 8 ≤ m → n < 8 → next_from f (m - b * 8) (b * 8) ≡ b * 8 + n
  next_in_byte m h l =
      next_is f m (b * 8) (b * 8 + n) (omega arith) (omega arith) (in-byte n l ∙ rw least (least_holds v (rw least at l)))
      (λ j p q. none_before j p (omega arith) q)

  pub next_past_byte : (m j : ℕ) → j ≡ b * 8 + 8 → j ≤ m → 8 ≤ n → next_from f (m - b * 8) (b * 8) ≡ next_from f (m - j) j
  next_past_byte m j d h l = next_skip f m (b * 8) j (omega arith) h (λ k p q. none_before k p (omega arith) (omega arith))

-- Loops over a range of m numbers: at i the numbers below i are done, and the rest starts at i.

module _ (f : ℕ → Bool) where
  some_suc : (m i : ℕ) → f i ≡ false → some f (m - i) i ≡ some f (m - suc i) (suc i)
  unfolding some
  some_suc m i e = go (m - i) (m - suc i) (omega arith)
    where
      go : (n l : ℕ) → l ≡ n - 1 → some f n i ≡ some f l (suc i)
      go zero l q = let z : 0 ≡ l = omega arith in ap (λ (x : ℕ). some f x (suc i)) z
      go (suc n) l q =
          let z : n ≡ l = omega arith in
          ap (λ (b : Bool). b || some f n (suc i)) e ∙ ap (λ (x : ℕ). some f x (suc i)) z

  pub some_skip : (m i j : ℕ) → i ≤ j → ((k : ℕ) → i ≤ k → k < j → f k ≡ false) → some f (m - i) i ≡ some f (m - j) j
  some_skip m i j h none = same_along (λ k. some f (m - k) k) i j h (λ k p q. some_suc m k (none k p q))

  pub some_past : (m i : ℕ) → f i ≡ false → some f (m - i) i ≡ some f (m - (i + 1)) (i + 1)
  some_past m i e = some_suc m i e ∙ ap (λ (j : ℕ). some f (m - j) j) (omega arith)

  pub some_here : (m i : ℕ) → i < m → f i ≡ true → some f (m - i) i ≡ true
  unfolding some
  some_here m i h e = go (m - i) (m - suc i) (omega arith)
    where
      go : (n l : ℕ) → n ≡ suc l → some f n i ≡ true
      go n l q = ap (λ (x : ℕ). some f x i) q ∙ ap (λ (b : Bool). b || some f l (suc i)) e

  pub some_end : (m i : ℕ) → m ≤ i → some f (m - i) i ≡ false
  unfolding some
  some_end m i h = go (m - i) (omega arith)
    where
      go : (n : ℕ) → n ≡ 0 → some f n i ≡ false
      go n q = ap (λ (x : ℕ). some f x i) q

-- a sum over a range, with c the sum of the numbers done
pub total_start : (f : ℕ → ℕ) (m : ℕ) → total f m 0 ≡ 0 + total f (m - 0) 0
total_start f m = go (m - 0) (omega arith)
  where
    go : (n : ℕ) → n ≡ m → total f m 0 ≡ 0 + total f n 0
    go n q = let u : total f n 0 ≡ total f m 0 = ap (λ (y : ℕ). total f y 0) q in omega arith

pub total_past : (f : ℕ → ℕ) (m i c x : ℕ) → i < m → x ≡ f i → c + total f (m - i) i ≡ (c + x) + total f (m - (i + 1)) (i + 1)
unfolding total
total_past f m i c x h e = go (m - i) (m - (i + 1)) (i + 1) (omega arith) (omega arith)
  where
    go : (n l j : ℕ) → n ≡ suc l → j ≡ suc i → c + total f n i ≡ (c + x) + total f l j
    go n l j p q =
        let u : total f n i ≡ f i + total f l (suc i) = ap (λ (y : ℕ). total f y i) p in
        let v : total f l j ≡ total f l (suc i) = ap (total f l) q in
        omega arith

pub total_end : (f : ℕ → ℕ) (m i c : ℕ) → m ≤ i → c + total f (m - i) i ≡ c
unfolding total
total_end f m i c h = go (m - i) (omega arith)
  where
    go : (n : ℕ) → n ≡ 0 → c + total f n i ≡ c
    go n q = let u : total f n i ≡ 0 = ap (λ (y : ℕ). total f y i) q in omega arith

pub total_same : (f g : ℕ → ℕ) (n i : ℕ) → ((k : ℕ) → i ≤ k → k < i + n → f k ≡ g k) → total f n i ≡ total g n i
unfolding total
total_same f g zero i e = refl
total_same f g (suc n) i e =
    let u = e i (omega arith) (omega arith) in
    let v = total_same f g n (suc i) (λ k p q. e k (omega arith) (omega arith)) in
    omega arith

-- lists over a range of tests that agree there
pub those_same : (f g : ℕ → Bool) (n i : ℕ) → ((k : ℕ) → i ≤ k → k < i + n → f k ≡ g k) → those f n i ≡ those g n i
unfolding those
those_same f g zero i e = refl
those_same f g (suc n) i e =
    ap (λ (b : Bool). elim b [ true ↦ i ∷ those f n (suc i) | false ↦ those f n (suc i) ]) (e i (omega arith) (omega arith))
    ∙ ap (λ (l : List ℕ). elim (g i) [ true ↦ i ∷ l | false ↦ l ])
    (those_same f g n (suc i) (λ k p q. e k (omega arith) (omega arith)))

-- Members that are not among the first n numbers.

pub stray_below : (b : Bool) (k n : ℕ) → k < n → (b && not (ltb k n)) ≡ false
stray_below true k n h = ap not (lt-ltb k n h)
stray_below false k n h = refl

pub stray_above : (b : Bool) (k n : ℕ) → n ≤ k → (b && not (ltb k n)) ≡ b
stray_above true k n h = ap not (le-ltb k n h)
stray_above false k n h = refl

-- Between the header's states, on its letters, a transition is its bit.

module _ (A : Automaton) where
  pub transition_bit_lem : (q a r : ℕ) → q < A.states → a < A.letters → r < A.states
      → transition A q a r ≡ transition_in A.transitions q a r
  unfolding transition
  transition_bit_lem q a r h l u = rw (lt-ltb q A.states h, lt-ltb a A.letters l, lt-ltb r A.states u)
