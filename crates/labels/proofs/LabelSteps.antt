-- What an operand is by its first byte, in one equation for each kind; likewise an atom. Assumes nothing.
use mathlib.Core.Path.{◌≡◌, refl, sym, ap, ◌∙◌}
use mathlib.Core.Bool.{Bool, true, false, ◌&&◌}
use mathlib.Core.List.{List}
use Prim.Native.Nat.{ℕ, zero, suc, ◌+◌, ◌-◌}
use native.Mathlib.Omega.{arith}
use lib.Dec.{eqb}
use lib.ListN.{drop}
use borrow.Author.Tests.{eq-eqb, ne_eqb}
use Rattle.tokens.specs.Tokens.{byte_at, skip, digit, digits, value, none, number, number_at}
use Rattle.tokens.proofs.Runs.{skip_here, skip_stops}
use Rattle.labels.specs.Labels.{always, never}
use Rattle.labels.specs.LabelReading.{found, proposition_of, atom_by, atom_at, negated, closed, disjunction, operand_at}

-- Operands.

module _ (s : List ℕ) (k : ℕ) where
  pub operand_bare : (d i : ℕ) → d ≡ 0 → operand_at s k d i ≡ atom_at s k (skip s i)
  unfolding operand_at
  operand_bare zero i e = refl
  operand_bare (suc d) i e = absurd (omega arith)

  -- an operand by the two tests of its first byte
  pub operand_by : (d i : ℕ) (x y : Bool) → eqb (byte_at s (skip s i)) 0x21 ≡ x → eqb (byte_at s (skip s i)) 0x28 ≡ y
      → operand_at s k (suc d) i ≡ elim x [
        | true ↦ negated (operand_at s k d (skip s i + 1))
        | false ↦ elim y [ true ↦ closed s (disjunction s (operand_at s k d) (skip s i + 1)) | false ↦ atom_at s k (skip s i) ]
      ]
  unfolding operand_at
  operand_by d i x y e f =
      ap (λ (z : Bool). elim z [
        | true ↦ negated (operand_at s k d (skip s i + 1))
        | false ↦ elim (eqb (byte_at s (skip s i)) 0x28) [
          | true ↦ closed s (disjunction s (operand_at s k d) (skip s i + 1))
          | false ↦ atom_at s k (skip s i)
        ]
      ]) e
      ∙ ap (λ (z : Bool). elim x [
        | true ↦ negated (operand_at s k d (skip s i + 1))
        | false ↦ elim z [ true ↦ closed s (disjunction s (operand_at s k d) (skip s i + 1)) | false ↦ atom_at s k (skip s i) ]
      ]) f

  pub operand_bang : (d i : ℕ) → (d ≡ 0 → ⊥) → byte_at s (skip s i) ≡ 0x21
      → operand_at s k d i ≡ negated (operand_at s k (d - 1) (skip s i + 1))
  operand_bang zero i n e = absurd (n refl)
  operand_bang (suc d) i n e =
      let p : suc d - 1 ≡ d = omega arith in
      operand_by d i true _ (eq-eqb (byte_at s (skip s i)) 0x21 e) refl
      ∙ ap (λ (c : ℕ). negated (operand_at s k c (skip s i + 1))) (sym p)

  pub operand_paren : (d i : ℕ) → (d ≡ 0 → ⊥) → byte_at s (skip s i) ≡ 0x28
      → operand_at s k d i ≡ closed s (disjunction s (operand_at s k (d - 1)) (skip s i + 1))
  operand_paren zero i n e = absurd (n refl)
  operand_paren (suc d) i n e =
      let p : suc d - 1 ≡ d = omega arith in
      operand_by d i false true (ne_eqb (byte_at s (skip s i)) 0x21 (λ h. omega (arith, h, e))) (eq-eqb (byte_at s (skip s i)) 0x28 e)
      ∙ ap (λ (c : ℕ). closed s (disjunction s (operand_at s k c) (skip s i + 1))) (sym p)

  pub operand_atom : (d i : ℕ) → (byte_at s (skip s i) ≡ 0x21 → ⊥) → (byte_at s (skip s i) ≡ 0x28 → ⊥)
      → operand_at s k d i ≡ atom_at s k (skip s i)
  operand_atom zero i n e = operand_bare 0 i refl
  operand_atom (suc d) i n e =
      operand_by d i false false (ne_eqb (byte_at s (skip s i)) 0x21 n) (ne_eqb (byte_at s (skip s i)) 0x28 e)

-- Atoms.

module _ (s : List ℕ) (k j : ℕ) where
  -- an atom by the two tests of its first byte
  pub atom_by_lem : (x y : Bool) → eqb (byte_at s j) 0x74 ≡ x → eqb (byte_at s j) 0x66 ≡ y
      → atom_at s k j ≡ atom_by x y (proposition_of k (number_at s j)) (j + 1)
  unfolding atom_at
  atom_by_lem x y a b = rw (a, b)

  pub atom_t : byte_at s j ≡ 0x74 → atom_at s k j ≡ found always (j + 1)
  atom_t e = atom_by_lem true _ (eq-eqb (byte_at s j) 0x74 e) refl

  pub atom_f : byte_at s j ≡ 0x66 → atom_at s k j ≡ found never (j + 1)
  atom_f e = atom_by_lem false true (ne_eqb (byte_at s j) 0x74 (λ h. omega (arith, h, e))) (eq-eqb (byte_at s j) 0x66 e)

  pub atom_other : (byte_at s j ≡ 0x74 → ⊥) → (byte_at s j ≡ 0x66 → ⊥) → atom_at s k j ≡ proposition_of k (number_at s j)
  atom_other a b = atom_by_lem false false (ne_eqb (byte_at s j) 0x74 a) (ne_eqb (byte_at s j) 0x66 b)

-- a number is the same with the white space before it and without
pub number_skip : (s : List ℕ) (i : ℕ) → number_at s (skip s i) ≡ number_at s i
unfolding number_at
number_skip s i =
    ap (λ (j : ℕ). elim (digit (byte_at s j)) [
      | true ↦ elim (eqb (byte_at s j) 0x30 && digit (byte_at s (j + 1))) [
        | true ↦ none
        | false ↦ number (value 0 (drop j s)) (j + digits (drop j s))
      ]
      | false ↦ none
    ]) (skip_here s (skip s i) (skip_stops s i))
