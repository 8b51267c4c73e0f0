-- How a label is read at a place of the text s (02, S-2): `!` binds tightest and `|` loosest, chains of `&` and `|` have any length, and at most 64 in all of
-- `!` and of parentheses are around any place.
--   Found             nothing that can be read, or a label and the place behind it
--   atom_at s k j     t, f or a proposition below k at place j
--   operand_at s k d i the operand at place i, in which d more `!` and parentheses may open
--   conjunction s f i    operands joined by `&`, where f reads an operand at a place
--   disjunction s f i    conjunctions joined by `|`
--   label_at s k i     the label at place i
-- The bytes are 21 `!`, 26 `&`, 28 `(`, 29 `)`, 66 f, 74 t and 7C `|`.
-- Shown by `label_grammar`: the reader reads the labels of `LabelGrammar`, as far as they go (no `|` follows), and no others. Assumes nothing.
use Rattle.std.specs.Prelude.{Bool, true, false, List, ℕ, zero, suc, ◌+◌, eqb, ltb, length}
use Rattle.tokens.specs.Tokens.{byte_at, skip, Number, none, number, number_at}
use Rattle.labels.specs.Labels.{max_depth, Label, always, never, proposition, negation, both, either}

pub data Found : Type 0 where
  absent : Found
  found : Label → ℕ → Found

abbrev pub known : Bool → ℕ → ℕ → Found
known true p j = found (proposition p) j
known false p j = absent

-- a proposition that there is
abbrev pub proposition_of : ℕ → Number → Found
proposition_of k none = absent
proposition_of k (number p j) = known (ltb p k) p j

abbrev pub atom_by : Bool → Bool → Found → ℕ → Found
atom_by true y x j = found always j
atom_by false true x j = found never j
atom_by false false x j = x

unfoldable pub atom_at : List ℕ → ℕ → ℕ → Found
atom_at s k j = atom_by (eqb (byte_at s j) 0x74) (eqb (byte_at s j) 0x66) (proposition_of k (number_at s j)) (j + 1)

abbrev pub negated : Found → Found
negated absent = absent
negated (found L j) = found (negation L) j

abbrev pub closing : Bool → Label → ℕ → Found
closing true L j = found L j
closing false L j = absent

-- what was read behind a `(`, with the `)` behind it
abbrev pub closed : List ℕ → Found → Found
closed s absent = absent
closed s (found L j) = closing (eqb (byte_at s (skip s j)) 0x29) L (skip s j + 1)

module _ (s : List ℕ) where
  -- operands at L's right, while `mark` stands before them; at most n of them
  unfoldable pub more : (mark : ℕ) → (Label → Label → Label) → (ℕ → Found) → ℕ → Label → ℕ → Found
  more mark join operand zero L j = found L j
  more mark join operand (suc n) L j =
      elim (eqb (byte_at s (skip s j)) mark) [
        | true ↦ elim (operand (skip s j + 1)) [ absent ↦ absent | found M i ↦ more mark join operand n (join L M) i ]
        | false ↦ found L j
      ]

  -- one operand or more: each takes a byte, so there are fewer than bytes
  abbrev pub chain : ℕ → (Label → Label → Label) → (ℕ → Found) → ℕ → Found
  chain mark join operand i = elim (operand i) [ absent ↦ absent | found L j ↦ more mark join operand (length s) L j ]

  unfoldable pub conjunction : (ℕ → Found) → ℕ → Found
  conjunction operand i = chain 0x26 both operand i

  unfoldable pub disjunction : (ℕ → Found) → ℕ → Found
  disjunction operand i = chain 0x7C either (conjunction operand) i

  unfoldable pub operand_at : ℕ → ℕ → ℕ → Found
  operand_at k zero i = atom_at s k (skip s i)
  operand_at k (suc d) i =
      elim (eqb (byte_at s (skip s i)) 0x21) [
        | true ↦ negated (operand_at k d (skip s i + 1))
        | false ↦ elim (eqb (byte_at s (skip s i)) 0x28) [
          | true ↦ closed s (disjunction (λ j. operand_at k d j) (skip s i + 1))
          | false ↦ atom_at s k (skip s i)
        ]
      ]

  unfoldable pub label_at : ℕ → ℕ → Found
  label_at k i = disjunction (operand_at k max_depth) i
