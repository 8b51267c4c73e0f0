-- The least member of a byte: it is a member, none is lower, and it is the number of trailing zeros, since both go through the bits from the lowest
-- on; and so it is of numbers of any width. Assumes nothing.
use mathlib.Core.Path.{◌≡◌, refl, sym, ap, ◌∙◌}
use mathlib.Core.Bool.{true, false}
use Prim.Native.Nat.{ℕ, zero, suc, ◌+◌, ◌/◌, ◌%◌, ◌^◌, ◌<◌}
use native.Mathlib.Nat.{add-zero, zero-add}
use native.Mathlib.Omega.{arith}
use lib.Count.{count_trailing_zeros, under}
use lib.Dec.{eqb}
use lib.Pow.{shr-shr}
use Rattle.automaton.specs.Ranges.{next_from}
use Rattle.automaton.specs.Sets.{bit, least_member}
use Rattle.automaton.proofs.Ranges.{next_holds, next_before}

pub least_holds : (w : ℕ) → least_member w < 8 → bit w (least_member w) ≡ true
unfolding least_member
least_holds w h = next_holds (bit w) _ _ h

pub least_before : (w k : ℕ) → k < least_member w → bit w k ≡ false
unfolding least_member
least_before w k h = next_before (bit w) _ _ k (omega arith) h

-- one binary digit d, at place i: where t zeros above it end at m, the zeros from d on end at i if d is set, and else at m
digit : (d i t m : ℕ) → d % 2 ≡ d → suc i + t ≡ m → i + under d t ≡ elim (eqb d 1) [ true ↦ i | false ↦ m ]
digit zero i t m h e = omega (arith, e)
digit (suc zero) i t m h e = add-zero i
digit (suc (suc d)) i t m h e = absurd (omega arith)

-- the first of the n bits from i on that is set comes after as many zeros as end the number without its i lowest bits
trailing_next : (w n i : ℕ) → i + count_trailing_zeros n (w / 2 ^ i) ≡ next_from (bit w) n i
unfolding count_trailing_zeros next_from
trailing_next w zero i = add-zero i
trailing_next w (suc n) i =
    digit (w / 2 ^ i % 2) i (count_trailing_zeros n (w / 2 ^ i / 2)) (next_from (bit w) n (suc i)) (omega arith)
    (ap (λ (x : ℕ). suc i + count_trailing_zeros n x) (shr-shr w i 1 ∙ ap (λ (k : ℕ). w / 2 ^ k) (omega arith)) ∙ trailing_next w n (suc i))

-- of the n lowest bits
pub trailing_first : (n w : ℕ) → count_trailing_zeros n w ≡ next_from (bit w) n 0
trailing_first n w = let e : w ≡ w / 2 ^ 0 = omega arith in ap (count_trailing_zeros n) e ∙ sym (zero-add _) ∙ trailing_next w n 0

pub trailing_least : (w : ℕ) → count_trailing_zeros 8 w ≡ least_member w
unfolding least_member
trailing_least w = trailing_first 8 w

-- the values at the ends, and at a byte with two members
pub least_ends : (least_member 0 ≡ 8) × (least_member 1 ≡ 0) × (least_member 96 ≡ 5) × (least_member 128 ≡ 7)
unfolding least_member next_from
least_ends = (refl, refl, refl, refl)
