-- The word that the slots spell: one letter more than the parent's word, written behind it. The idea: where parents have lower
-- numbers, the slot's own number is fuel enough. Assumes nothing.
use mathlib.Core.Path.{◌≡◌, refl, ap, sym, ◌∙◌}
use mathlib.Core.List.{List, [], ◌∷◌, ◌++◌}
use Prim.Native.Nat.{ℕ, zero, suc, ◌+◌, ◌<◌, ◌≤◌}
use native.Mathlib.Numerals.{add-one}
use native.Mathlib.Omega.{arith}
use lib.ListN.{length, get_or, drop, set, length-append}
use lib.Seq.{set_at, drop-cons, append_snoc}
use Rattle.slots.specs.Slots.{slot_count}
use Rattle.slots.specs.Bytes.{letter_at, parent_at, Falls, back_from, word_at}

-- one letter behind a front of the buffer
pub letter_put : (w word last : List ℕ) (n x : ℕ) → n ≡ length w → n < length word → last ≡ w ++ drop n word
    → set last n x ≡ (w ++ x ∷ []) ++ drop (n + 1) word
letter_put w word last n x e h q =
    rw (q, drop-cons word n 0 h, add-one)
    (set_at w (get_or word n 0) (drop (suc n) word) x n (sym e) ∙ sym (append_snoc w x (drop (suc n) word)))

module _ (work : List ℕ) where
  fuel_enough : (k l s : ℕ) → s ≤ k → s ≤ l → Falls work s → back_from k work s ≡ back_from l work s
  fuel_enough zero zero s a b F = refl
  fuel_enough zero (suc l) zero a b F = refl
  fuel_enough zero (suc l) (suc s) a b F = absurd (omega arith)
  fuel_enough (suc k) zero zero a b F = refl
  fuel_enough (suc k) zero (suc s) a b F = absurd (omega arith)
  fuel_enough (suc k) (suc l) zero a b F = refl
  fuel_enough (suc k) (suc l) (suc s) a b F =
      let c = F (suc s) (omega arith) (omega arith) in
      ap (λ (t : List ℕ). t ++ letter_at work (suc s) ∷ [])
      (fuel_enough k l (parent_at work (suc s)) (omega arith) (omega arith) (λ j x y. F j x (omega arith)))

  pub word_none : (s : ℕ) → s ≡ 0 → word_at work s ≡ []
  unfolding word_at
  word_none s e = rw e

  pub word_more : (s : ℕ) → (s ≡ 0 → ⊥) → Falls work s → word_at work s ≡ word_at work (parent_at work s) ++ letter_at work s ∷ []
  unfolding word_at
  word_more zero h F = absurd (h refl)
  word_more (suc s) h F =
      let c = F (suc s) (omega arith) (omega arith) in
      ap (λ (t : List ℕ). t ++ letter_at work (suc s) ∷ [])
      (fuel_enough s (parent_at work (suc s)) (parent_at work (suc s)) (omega arith) (omega arith) (λ j x y. F j x (omega arith)))

  pub falls_parent : (s : ℕ) → (s ≡ 0 → ⊥) → Falls work s → (parent_at work s < s) × Falls work (parent_at work s)
  falls_parent s h F =
      let b : parent_at work s < s = F s (omega arith) (omega arith) in
      (b, λ j x y. F j x (omega arith))

  pub word_longer : (s : ℕ) → (s ≡ 0 → ⊥) → Falls work s → length (word_at work s) ≡ length (word_at work (parent_at work s)) + 1
  word_longer s h F = ap length (word_more s h F) ∙ length-append (word_at work (parent_at work s)) (letter_at work s ∷ [])

  -- the word is no longer than the slot's number
  pub word_short : (k s : ℕ) → s ≤ k → Falls work s → length (word_at work s) ≤ s
  word_short zero zero l F = omega (arith, ap length (word_none 0 refl))
  word_short zero (suc s) l F = absurd (omega arith)
  word_short (suc k) zero l F = omega (arith, ap length (word_none 0 refl))
  word_short (suc k) (suc s) l F =
      let n : suc s ≡ 0 → ⊥ = λ e. omega arith in
      let p = falls_parent (suc s) n F in
      omega (arith, word_longer (suc s) n F, p.0, word_short k (parent_at work (suc s)) (omega (arith, p.0)) p.1)

  pub word_few : (s : ℕ) → Falls work s → length (word_at work s) ≤ s
  word_few s F = word_short s s (omega arith) F

  -- what the recursive call asks
  pub parent_asks : (word : List ℕ) (s p t : ℕ) → p ≡ parent_at work s → s ≡ t → (s ≡ 0 → ⊥) → s < slot_count (length work)
      → Falls work s
      → length (word_at work s) ≤ length word
      → (p < t) × ((p < slot_count (length work)) × Falls work p × (length (word_at work p) ≤ length word))
  parent_asks word s p t e q n h F l =
      let g = falls_parent s n F in
      let m = word_longer s n F in
      rw e (omega (arith, g.0), (omega (arith, g.0), g.1, omega arith))

  -- the parent's word and this slot's letter behind it
  pub letter_behind : (word last : List ℕ) (s p n x : ℕ) → p ≡ parent_at work s → x ≡ letter_at work s → (s ≡ 0 → ⊥) → Falls work s
      → length (word_at work s) ≤ length word → n ≡ length (word_at work p) → last ≡ word_at work p ++ drop n word
      → (n + 1 ≡ length (word_at work s)) × (set last n x ≡ word_at work s ++ drop (n + 1) word)
  letter_behind word last s p n x e y ne F l en el =
      let m = word_longer s ne F in
      let z : length (word_at work p) ≡ length (word_at work (parent_at work s)) = ap (λ (k : ℕ). length (word_at work k)) e in
      let u : n + 1 ≡ length (word_at work s) = omega arith in
      (u, rw (word_more s ne F, ← e, ← y) (letter_put (word_at work p) word last n x en (omega arith) el))
