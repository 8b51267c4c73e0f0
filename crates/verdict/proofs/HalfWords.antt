-- Pairs of sets in words of 64 bits: their halves, and the low half put into the high half. Assumes nothing.
use mathlib.Core.Path.{◌≡◌, sym, ap, ◌∙◌}
use mathlib.Core.Bool.{Bool, ◌||◌}
use Prim.Native.Nat.{ℕ, ◌+◌, ◌*◌, ◌/◌, ◌%◌, ◌<◌}
use native.Mathlib.Nat.{add-zero}
use native.Mathlib.Omega.{arith}
use lib.Bits.{bit_or}
use lib.Dec.{eqb}
use lib.Pow.{shr-shr}
use Rattle.automaton.specs.Sets.{bit}
use Rattle.automaton.proofs.Bits.{bit_zero, bit_of_or}
use Rattle.relations.proofs.Rows.{bit_low, bit_high}
use Rattle.unions.proofs.UnionTables.{or_false, low_bits}

pub low_half : (w q : ℕ) → q < 32 → bit (w % 4294967296) q ≡ bit w q
low_half w q h =
    let e : w ≡ w / 4294967296 * 4294967296 + w % 4294967296 = omega arith in
    low_bits w 32 q h (w % 4294967296) e

pub high_half : (w q : ℕ) → bit (w / 4294967296) q ≡ bit w (32 + q)
high_half w q = ap (λ (x : ℕ). eqb (x % 2) 1) (shr-shr w 32 q)

module _ (w : ℕ) where
  -- the low half put into the high half
  abbrev pub raised : ℕ
  raised = w % 4294967296 * 4294967296

  whole : raised + 0 ≡ raised
  whole = add-zero raised

  pub raised_low : (q : ℕ) → q < 32 → bit (bit_or w raised) q ≡ bit w q
  raised_low q h =
      bit_of_or w raised q
      ∙ ap (λ (c : Bool). bit w q || c) (ap (λ (x : ℕ). bit x q) (sym whole) ∙ bit_low 32 (w % 4294967296) 0 q h ∙ bit_zero q)
      ∙ or_false (bit w q)

  pub raised_high : (q : ℕ) → q < 32 → bit (bit_or w raised) (32 + q) ≡ (bit w (32 + q) || bit w q)
  raised_high q h =
      bit_of_or w raised (32 + q)
      ∙ ap (λ (c : Bool). bit w (32 + q) || c)
      (ap (λ (x : ℕ). bit x (32 + q)) (sym whole) ∙ bit_high 32 (w % 4294967296) 0 q (omega arith) ∙ low_half w q h)
