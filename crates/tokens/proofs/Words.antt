-- Words at a place, as the library compares them and byte by byte, and the byte before a place. Assumes nothing.
use mathlib.Core.Path.{◌≡◌, refl, sym, ap, ◌∙◌}
use mathlib.Core.Bool.{Bool, true, false, ◌&&◌}
use mathlib.Core.List.{List, [], ◌∷◌}
use Prim.Native.Nat.{ℕ, zero, suc, ◌+◌, ◌-◌, ◌≤◌, ◌<◌}
use native.Mathlib.Nat.{lt_of_not-le}
use native.Mathlib.Omega.{arith}
use lib.Dec.{eqb}
use lib.ListN.{length, get_or, take, drop, drop_of_length-le, length-drop}
use lib.Seq.{drop-cons}
use borrow.Author.Tests.{eq-eqb, ne_eqb}
use Rattle.std.specs.Cmp.Lexicographic.{pointwise}
use Rattle.automaton.proofs.Booleans.{clash}
use Rattle.tokens.specs.Tokens.{touches, starts_with}

pub starts_with_lem : (w s : List ℕ) → pointwise eqb w (take (length w) s) ≡ starts_with w s
unfolding starts_with
starts_with_lem [] s = refl
starts_with_lem (b ∷ w) [] = refl
starts_with_lem (b ∷ w) (c ∷ s) = ap (λ x. eqb b c && x) (starts_with_lem w s)

pub starts_short : (w s : List ℕ) → length s < length w → starts_with w s ≡ false
unfolding starts_with
starts_short [] s h = absurd (omega arith)
starts_short (b ∷ w) [] h = refl
starts_short (b ∷ w) (c ∷ s) h = ap (λ (x : Bool). eqb b c && x) (starts_short w s (omega arith)) ∙ and_false (eqb b c)
  where
    and_false : (x : Bool) → (x && false) ≡ false
    and_false true = refl
    and_false false = refl

pub starts_end : (w s : List ℕ) (i : ℕ) → length w ≤ i → starts_with (drop i w) s ≡ true
unfolding starts_with
starts_end w s i h = ap (λ (v : List ℕ). starts_with v s) (drop_of_length-le w h)

step : (w s : List ℕ) (i j : ℕ) → i < length w → j + i < length s
    → starts_with (drop i w) (drop (j + i) s) ≡ (eqb (get_or w i 0) (get_or s (j + i) 0) && starts_with (drop (i + 1) w) (drop (j + (i + 1)) s))
unfolding starts_with
step w s i j h k =
    let e : suc (j + i) ≡ j + (i + 1) = omega arith in
    let d : suc i ≡ i + 1 = omega arith in
    ap (λ (v : List ℕ). starts_with v (drop (j + i) s)) (drop-cons w i 0 h)
    ∙ ap (starts_with (get_or w i 0 ∷ drop (suc i) w)) (drop-cons s (j + i) 0 k)
    ∙ ap (λ (n : ℕ). eqb (get_or w i 0) (get_or s (j + i) 0) && starts_with (drop n w) (drop (suc (j + i)) s)) d
    ∙ ap (λ (n : ℕ). eqb (get_or w i 0) (get_or s (j + i) 0) && starts_with (drop (i + 1) w) (drop n s)) e

pub starts_same : (w s : List ℕ) (i j : ℕ) → i < length w → j + i < length s → get_or s (j + i) 0 ≡ get_or w i 0
    → starts_with (drop i w) (drop (j + i) s) ≡ starts_with (drop (i + 1) w) (drop (j + (i + 1)) s)
starts_same w s i j h k e =
    step w s i j h k ∙ ap (λ (b : Bool). b && starts_with (drop (i + 1) w) (drop (j + (i + 1)) s)) (eq-eqb (get_or w i 0) (get_or s (j + i) 0) (sym e))

pub starts_other : (w s : List ℕ) (i j : ℕ) → i < length w → j + i < length s → (get_or s (j + i) 0 ≡ get_or w i 0 → ⊥)
    → starts_with (drop i w) (drop (j + i) s) ≡ false
starts_other w s i j h k n =
    step w s i j h k ∙ ap (λ (b : Bool). b && starts_with (drop (i + 1) w) (drop (j + (i + 1)) s)) (ne_eqb (get_or w i 0) (get_or s (j + i) 0) (λ e. n (sym e)))

pub touches_first : (s : List ℕ) (j : ℕ) → j ≡ 0 → false ≡ touches s j
touches_first s zero e = refl
touches_first s (suc j) e = absurd (omega arith)

pub byte_before_lem : (s : List ℕ) (j : ℕ) → (j ≡ 0 → ⊥) → get_or s (j - 1) 0 ≡ get_or (0x20 ∷ s) j 0
byte_before_lem s zero n = absurd (n refl)
byte_before_lem s (suc j) n = let e : suc j - 1 ≡ j = omega arith in ap (λ (k : ℕ). get_or s k 0) e

pub starts_within : (w s : List ℕ) (j : ℕ) → j ≤ length s → starts_with w (drop j s) ≡ true → j + length w ≤ length s
starts_within w s j h t =
    let x : j + length w < length s + 1 = lt_of_not-le (λ l. clash {X = ⊥} t (starts_short w (drop j s) (omega (arith, l, length-drop j s)))) in
    omega (arith, x)
