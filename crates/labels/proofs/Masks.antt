-- A label's mask is its truth on letters 0 to 15: bit a of the one is the other at letter a, and the mask has 16 bits. The masks of the four propositions are
-- one computed table, and the rest goes by the bits of "and", "or" and the complement. Assumes nothing.
use mathlib.Core.Path.{◌≡◌, refl, sym, ap, ap₂, ◌∙◌}
use mathlib.Core.Bool.{true, false, ◌&&◌, ◌||◌, not}
use mathlib.Core.List.{[]}
use Prim.Native.Nat.{ℕ, zero, suc, ◌+◌, ◌-◌, ◌/◌, ◌%◌, ◌^◌, ◌<◌}
use native.Mathlib.Nat.{pow-succ'}
use native.Mathlib.Omega.{arith}
use lib.Bits.{and_lt, or_lt}
use lib.Dec.{eqb}
use lib.ListN.{get_or}
use Rattle.automaton.specs.Ranges.{table}
use Rattle.automaton.specs.Sets.{bit}
use Rattle.automaton.proofs.Bits.{bit_of_and, bit_of_or, bit_zero, bit_half, bit_first}
use Rattle.automaton.proofs.Ranges.{table_at}
use Rattle.labels.specs.Labels.{Label, always, never, proposition, negation, both, either, truth, Below, proposition_mask, mask_of}

-- The complement.

flips : (x y : ℕ) → x < 2 → y < 2 → x + y ≡ 1 → eqb x 1 ≡ not (eqb y 1)
flips zero zero h k e = absurd (omega arith)
flips zero (suc zero) h k e = refl
flips zero (suc (suc y)) h k e = absurd (omega arith)
flips (suc zero) zero h k e = refl
flips (suc zero) (suc y) h k e = absurd (omega arith)
flips (suc (suc x)) y h k e = absurd (omega arith)

complement_bit : (n m i : ℕ) → m < 2 ^ n → i < n → bit (2 ^ n - 1 - m) i ≡ not (bit m i)
complement_bit zero m i h k = absurd (omega arith)
complement_bit (suc n) m zero h k =
    let p = pow-succ' 2 n in
    bit_first (2 ^ suc n - 1 - m)
    ∙ flips ((2 ^ suc n - 1 - m) % 2) (m % 2) (omega arith) (omega arith) (omega (arith, p, h)) ∙ sym (ap not (bit_first m))
complement_bit (suc n) m (suc i) h k =
    let p = pow-succ' 2 n in
    let e : (2 ^ suc n - 1 - m) / 2 ≡ 2 ^ n - 1 - m / 2 = omega (arith, p, h) in
    bit_half (2 ^ suc n - 1 - m) i ∙ ap (λ (x : ℕ). bit x i) e ∙ complement_bit n (m / 2) i (omega (arith, p, h)) (omega arith)
    ∙ sym (ap not (bit_half m i))

-- Propositions, t and f.

tables_agree : {X : Type 0} (f g : ℕ → X) (n k : ℕ) (d : X) → table f n 0 ≡ table g n 0 → k < n → f k ≡ g k
tables_agree f g n k d e h = sym (table_at f n k d h) ∙ ap (λ t. get_or t k d) e ∙ table_at g n k d h

proposition_masks : table (λ p. table (λ a. bit (proposition_mask p) a) 16 0) 4 0 ≡ table (λ p. table (λ a. bit a p) 16 0) 4 0
unfolding table proposition_mask
proposition_masks = refl

proposition_truth : (p a : ℕ) → p < 4 → a < 16 → bit (proposition_mask p) a ≡ bit a p
proposition_truth p a h k =
    tables_agree (bit (proposition_mask p)) (λ i. bit i p) 16 a false
    (tables_agree (λ q. table (λ i. bit (proposition_mask q) i) 16 0) (λ q. table (λ i. bit i q) 16 0) 4 p [] proposition_masks h) k

all_bits : table (λ a. bit 0xFFFF a) 16 0 ≡ table (λ a. true) 16 0
unfolding table
all_bits = refl

-- Labels.

proposition_small : (p : ℕ) → proposition_mask p < 65536
unfolding proposition_mask
proposition_small zero = omega arith
proposition_small (suc zero) = omega arith
proposition_small (suc (suc zero)) = omega arith
proposition_small (suc (suc (suc p))) = omega arith

pub mask_small : (L : Label) → mask_of L < 65536
unfolding mask_of
mask_small always = omega arith
mask_small never = omega arith
mask_small (proposition p) = proposition_small p
mask_small (negation L) = omega arith
mask_small (both L M) = and_lt 16 (mask_of L) (mask_of M) (mask_small L) (mask_small M)
mask_small (either L M) = or_lt 16 (mask_of L) (mask_of M) (mask_small L) (mask_small M)

pub mask_truth : (L : Label) → Below 4 L → (a : ℕ) → a < 16 → bit (mask_of L) a ≡ truth L a
unfolding mask_of truth Below
mask_truth always w a h = tables_agree (bit 0xFFFF) (λ i. true) 16 a false all_bits h
mask_truth never w a h = bit_zero a
mask_truth (proposition p) w a h = proposition_truth p a w h
mask_truth (negation L) w a h = complement_bit 16 (mask_of L) a (mask_small L) h ∙ ap not (mask_truth L w a h)
mask_truth (both L M) w a h = bit_of_and (mask_of L) (mask_of M) a ∙ ap₂ ◌&&◌ (mask_truth L w.0 a h) (mask_truth M w.1 a h)
mask_truth (either L M) w a h = bit_of_or (mask_of L) (mask_of M) a ∙ ap₂ ◌||◌ (mask_truth L w.0 a h) (mask_truth M w.1 a h)
