-- One state taken out of the states of a word: past the least one the word without it is the same. Assumes nothing.
use mathlib.Core.Path.{◌≡◌, refl, sym, ap, ◌∙◌}
use mathlib.Core.Bool.{Bool, true, false, ◌&&◌, ◌||◌, not}
use mathlib.Core.List.{◌∷◌}
use Prim.Native.Nat.{ℕ, zero, suc, ◌+◌, ◌<◌}
use native.Mathlib.Omega.{arith}
use borrow.Author.Tests.{eq-eqb, ne_eqb, eqb-true}
use lib.Bits.{bit_xor}
use lib.Dec.{eqb}
use Rattle.automaton.specs.Ranges.{next_from, those}
use Rattle.automaton.specs.Sets.{bit, with_bit}
use Rattle.automaton.proofs.Members.{those_same}
use Rattle.automaton.proofs.Bits.{bit_zero, bit_with}
use Rattle.classes.proofs.ListedStates.{other, bit_of_xor}

pub bit_less : (w q k : ℕ) → bit w q ≡ true → bit (bit_xor w (with_bit 0 q)) k ≡ (bit w k && not (eqb q k))
bit_less w q k e = bit_of_xor w (with_bit 0 q) k ∙ ap (other (bit w k)) (bit_with 0 q k ∙ ap (λ (c : Bool). c || eqb q k) (bit_zero k)) ∙ go (eqb q k) refl
  where
    kept : (x : Bool) → other x false ≡ (x && true)
    kept true = refl
    kept false = refl

    go : (c : Bool) → eqb q k ≡ c → other (bit w k) c ≡ (bit w k && not c)
    go true d = let f : bit w k ≡ true = ap (bit w) (sym (eqb-true q k d)) ∙ e in rw f
    go false d = kept (bit w k)

-- those for which f holds are the first of them and the others
those_without : (f g : ℕ → Bool) (n i q : ℕ) → q < i + n → q ≡ next_from f n i → ((k : ℕ) → g k ≡ (f k && not (eqb q k)))
    → those f n i ≡ q ∷ those g n i
unfolding those next_from
those_without f g zero i q h e d = absurd (omega arith)
those_without f g (suc n) i q h e d = go (f i) refl e (those_without f g n (suc i) q)
  where
    and_true : (x : Bool) → (x && true) ≡ x
    and_true true = refl
    and_true false = refl

    go : (c : Bool) → f i ≡ c → q ≡ elim c [ true ↦ i | false ↦ next_from f n (suc i) ]
        → (q < suc i + n → q ≡ next_from f n (suc i) → ((k : ℕ) → g k ≡ (f k && not (eqb q k))) → those f n (suc i) ≡ q ∷ those g n (suc i))
        → elim (f i) [ true ↦ i ∷ those f n (suc i) | false ↦ those f n (suc i) ]
        ≡ q ∷ elim (g i) [ true ↦ i ∷ those g n (suc i) | false ↦ those g n (suc i) ]
    go true c p again =
        let s : g i ≡ false = d i ∙ rw (c, eq-eqb q i p) in
        let r : those f n (suc i) ≡ those g n (suc i) =
        those_same f g n (suc i) (λ k l m. sym (d k ∙ ap (λ (b : Bool). f k && not b) (ne_eqb q k (λ z. absurd (omega arith))) ∙ and_true (f k))) in
        rw (c, s, r, p)
    go false c p again =
        let s : g i ≡ false = d i ∙ rw c in
        rw (c, s) (again (omega arith) p d)

module _ (w w' q : ℕ) (first : q ≡ next_from (bit w) 32 0) (less : (k : ℕ) → bit w' k ≡ (bit w k && not (eqb q k))) where
  pub states_without : q < 32 → those (bit w) 32 0 ≡ q ∷ those (bit w') 32 0
  states_without l = those_without (bit w) (bit w') 32 0 q (omega arith) first less
