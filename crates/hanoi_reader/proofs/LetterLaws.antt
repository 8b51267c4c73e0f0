-- The letters of an edge, one after the other, as the code's loop goes through them; and that they are the letters which make the label true. Assumes
-- nothing.
use mathlib.Core.Path.{◌≡◌, refl, ap, ap₂, ◌∙◌}
use mathlib.Core.Bool.{Bool, true, false}
use Prim.Native.Nat.{ℕ, zero, suc, ◌+◌, ◌-◌, ◌≤◌, ◌<◌}
use native.Mathlib.Omega.{arith}
use Rattle.automaton.specs.declared.Automaton.{Automaton}
use Rattle.automaton.specs.Sets.{bit}
use Rattle.automaton.specs.Automata.{with_transition}
use Rattle.labels.specs.Labels.{Label, truth, Below, mask_of}
use Rattle.labels.proofs.Masks.{mask_truth}
use Rattle.hanoi.specs.Meaning.{with_letters}
use Rattle.hanoi_reader.specs.Taking.{with_mask}

module _ (A : Automaton) (q m r n a : ℕ) where
  pub next_letter : (x : Bool) → bit m a ≡ x → a < n
      → with_mask A q m r (n - a) a ≡ with_mask (elim x [ true ↦ with_transition A q a r | false ↦ A ]) q m r (n - (a + 1)) (a + 1)
  unfolding with_mask
  next_letter x b h =
      let e : n - a ≡ suc (n - (a + 1)) = omega (arith, h) in
      let f : suc a ≡ a + 1 = omega arith in
      ap (λ k. with_mask A q m r k a) e
      ∙ ap₂ (λ y k. with_mask (elim y [ true ↦ with_transition A q a r | false ↦ A ]) q m r (n - (a + 1)) k) b f

  pub letter_taken : a < n → bit m a ≡ true → with_mask A q m r (n - a) a ≡ with_mask (with_transition A q a r) q m r (n - (a + 1)) (a + 1)
  letter_taken h e = next_letter true e h

  pub letter_passed : a < n → bit m a ≡ false → with_mask A q m r (n - a) a ≡ with_mask A q m r (n - (a + 1)) (a + 1)
  letter_passed h e = next_letter false e h

  pub no_letter : n ≤ a → with_mask A q m r (n - a) a ≡ A
  unfolding with_mask
  no_letter h = let e : n - a ≡ 0 = omega (arith, h) in ap (λ k. with_mask A q m r k a) e

pub letters_mask : (q : ℕ) (L : Label) (m : ℕ) → m ≡ mask_of L → Below 4 L → (r n a : ℕ) → a + n ≤ 16 → (A : Automaton)
    → with_mask A q m r n a ≡ with_letters A q L r n a
unfolding with_mask with_letters
letters_mask q L m e b r zero a l A = refl
letters_mask q L m e b r (suc n) a l A =
    ap (λ x. with_mask (elim x [ true ↦ with_transition A q a r | false ↦ A ]) q m r n (suc a))
    (ap (λ w. bit w a) e ∙ mask_truth L b a (omega (arith, l)))
    ∙ letters_mask q L m e b r n (suc a) (omega (arith, l)) _ ∙ by (truth L a)
  where
    by : (x : Bool) → with_letters (elim x [ true ↦ with_transition A q a r | false ↦ A ]) q L r n (suc a) ≡ elim x [
      | true ↦ with_letters (with_transition A q a r) q L r n (suc a)
      | false ↦ with_letters A q L r n (suc a)
    ]
    by true = refl
    by false = refl
