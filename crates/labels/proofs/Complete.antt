-- Every label of the grammar is read, so the reader reads the labels of the grammar and no others. Along the grammar's rules the reader comes by way of each
-- part of a chain, with fuel for the bytes that are left. Assumes nothing.
use mathlib.Core.Path.{◌≡◌, refl, sym, ap, ◌∙◌}
use mathlib.Core.Bool.{Bool, true, false}
use mathlib.Core.Logic.{◌↔◌}
use mathlib.Core.List.{List}
use Prim.Native.Nat.{ℕ, zero, suc, ◌+◌, ◌≤◌, ◌<◌}
use native.Mathlib.Nat.{add-zero}
use native.Mathlib.Omega.{arith}
use lib.Dec.{leb}
use lib.ListN.{length}
use borrow.Author.Tests.{eq-eqb, ne_eqb, leb-true, lt-ltb}
use Rattle.tokens.specs.Tokens.{byte_at, skip, digit}
use Rattle.tokens.specs.Lexical.{IsByte, NoByte, IsNumber, is_number}
use Rattle.tokens.proofs.Runs.{white_run, skip_end, byte_past}
use Rattle.tokens.proofs.LexicalLaws.{and_left, and_right, number_lexical, byte_stands, byte_behind, no_byte_iff}
use Rattle.labels.specs.Labels.{max_depth, Label, always, never, proposition, both, either}
use Rattle.labels.specs.LabelReading.{Found, absent, found, known, proposition_of, atom_at, negated, closing, closed, more, chain, conjunction, disjunction, operand_at, label_at}
use Rattle.labels.specs.LabelGrammar.{IsOperand, t_word, f_word, proposition_number, bang, parenthesis, IsConjunction, operand, and, IsDisjunction, conjunct, or, IsLabel}
use Rattle.labels.proofs.LabelSteps.{operand_by, operand_atom, atom_t, atom_f, atom_other, number_skip}
use Rattle.labels.proofs.Sound.{operand_forward, conjunction_forward, byte_forward, operand_sound, disjunction_sound}

-- Chains.

module _ (s : List ℕ) (mark : ℕ) (join : Label → Label → Label) (op : ℕ → Found) where
  -- a chain that comes to `whole` has read the label L up to place j
  record Reached (whole : Found) (L : Label) (j : ℕ) : Type 0 where
    fuel : ℕ
    enough : length s ≤ j + fuel
    onward : more s mark join op fuel L j ≡ whole

  reach_start : (i : ℕ) (L : Label) (j : ℕ) → op i ≡ found L j → Reached (chain s mark join op i) L j
  reach_start i L j e =
      record {
        fuel = length s;
        enough = omega arith;
        onward = sym (ap (λ (x : Found). elim x [ absent ↦ absent | found M l ↦ more s mark join op (length s) M l ]) e);
      }

  reach_more : (whole : Found) (L : Label) (j a : ℕ) (M : Label) (l : ℕ) → Reached whole L j → IsByte mark s j a → (mark ≡ 0 → ⊥)
      → op a ≡ found M l → a < l → Reached whole (join L M) l
  unfolding more
  reach_more whole L j a M l r b z x h = go r.fuel r.enough r.onward
    where
      go : (n : ℕ) → length s ≤ j + n → more s mark join op n L j ≡ whole → Reached whole (join L M) l
      go zero m o =
          absurd (z (sym (byte_stands b) ∙ ap (byte_at s) (skip_end s j (omega (arith, m, add-zero j))) ∙ byte_past s j (omega (arith, m, add-zero j))))
      go (suc n) m o =
          record {
            fuel = n;
            enough = omega (arith, m, h, byte_forward b);
            onward =
                sym (ap (λ (c : Bool). elim c [
                  | true ↦ elim (op (skip s j + 1)) [ absent ↦ absent | found N i ↦ more s mark join op n (join L N) i ]
                  | false ↦ found L j
                ]) (eq-eqb (byte_at s (skip s j)) mark (byte_stands b))
                ∙ ap (λ (y : Found). elim y [ absent ↦ absent | found N i ↦ more s mark join op n (join L N) i ]) (ap op (byte_behind b) ∙ x)) ∙ o;
          }

  reach_end : (whole : Found) (L : Label) (j : ℕ) → Reached whole L j → NoByte mark s j → whole ≡ found L j
  unfolding more
  reach_end whole L j r n = sym r.onward ∙ go r.fuel
    where
      go : (k : ℕ) → more s mark join op k L j ≡ found L j
      go zero = refl
      go (suc k) =
          ap (λ (b : Bool). elim b [
            | true ↦ elim (op (skip s j + 1)) [ absent ↦ absent | found N i ↦ more s mark join op k (join L N) i ]
            | false ↦ found L j
          ]) (ne_eqb (byte_at s (skip s j)) mark ((no_byte_iff mark s j).0 n))

-- Atoms.

letter_complete : (s : List ℕ) (k d i b : ℕ) (L : Label) (j : ℕ) → IsByte b s i j → 0x29 ≤ b → atom_at s k (skip s i) ≡ found L (skip s i + 1)
    → operand_at s k d i ≡ found L j
letter_complete s k d i b L j x h e =
    let y = byte_stands x in
    operand_atom s k d i (λ f. omega (arith, f, y, h)) (λ f. omega (arith, f, y, h)) ∙ e ∙ ap (found L) (byte_behind x)

number_digit : {s : List ℕ} {i v j : ℕ} → IsNumber s i v j → digit (byte_at s (skip s i)) ≡ true
number_digit {s = s} {i = i} (is_number {a = a} r d l x q) = ap (λ (n : ℕ). digit (byte_at s n)) (sym ((white_run s i a).0 r)) ∙ d

number_complete : (s : List ℕ) (k d i p j : ℕ) → IsNumber s i p j → p < k → operand_at s k d i ≡ found (proposition p) j
number_complete s k d i p j x h =
    let y = number_digit x in
    let low = leb-true 0x30 b (and_left (leb 0x30 b) (leb b 0x39) y) in
    let high = leb-true b 0x39 (and_right (leb 0x30 b) (leb b 0x39) y) in
    operand_atom s k d i (λ f. omega (arith, f, low)) (λ f. omega (arith, f, low))
    ∙ atom_other s k (skip s i) (λ f. omega (arith, f, high)) (λ f. omega (arith, f, high))
    ∙ ap (proposition_of k) (number_skip s i ∙ (number_lexical s i p j).1 x)
    ∙ ap (λ (c : Bool). known c p j) (lt-ltb p k h)
  where
    b : ℕ
    b = byte_at s (skip s i)

-- Labels.

closed_found : {s : List ℕ} {j l : ℕ} (L : Label) → IsByte 0x29 s j l → closed s (found L j) ≡ found L l
closed_found {s = s} {j = j} L x =
    ap (λ (b : Bool). closing b L (skip s j + 1)) (eq-eqb (byte_at s (skip s j)) 0x29 (byte_stands x)) ∙ ap (found L) (byte_behind x)

mutual
  unfolding conjunction disjunction

  pub operand_complete : {s : List ℕ} {k d i : ℕ} {L : Label} {j : ℕ} → IsOperand s k d i L j → operand_at s k d i ≡ found L j
  operand_complete {s = s} {k = k} (t_word {d = d} {i = i} {j = j} x) =
      letter_complete s k d i 0x74 always j x (omega arith) (atom_t s k (skip s i) (byte_stands x))
  operand_complete {s = s} {k = k} (f_word {d = d} {i = i} {j = j} x) =
      letter_complete s k d i 0x66 never j x (omega arith) (atom_f s k (skip s i) (byte_stands x))
  operand_complete {s = s} {k = k} (proposition_number {d = d} {i = i} {p = p} {j = j} x h) = number_complete s k d i p j x h
  operand_complete {s = s} {k = k} (bang {d = d} {i = i} {L = L} {j = j} e x) =
      operand_by s k d i true _ (eq-eqb (byte_at s (skip s i)) 0x21 (byte_stands e)) refl
      ∙ ap negated (ap (operand_at s k d) (byte_behind e) ∙ operand_complete x)
  operand_complete {s = s} {k = k} (parenthesis {d = d} {i = i} {L = L} {j = j} e x c) =
      operand_by s k d i false true (ne_eqb (byte_at s (skip s i)) 0x21 (λ h. omega (arith, h, byte_stands e)))
      (eq-eqb (byte_at s (skip s i)) 0x28 (byte_stands e))
      ∙ ap (closed s) (ap (disjunction s (operand_at s k d)) (byte_behind e)
      ∙ reach_end s 0x7C either (conjunction s (operand_at s k d)) _ L j (disjunction_reached x)
      ((no_byte_iff 0x7C s j).1 (λ h. omega (arith, h, byte_stands c))))
      ∙ closed_found L c

  conjunction_reached : {s : List ℕ} {k d i : ℕ} {L : Label} {j : ℕ} → IsConjunction s k d i L j
      → Reached s 0x26 both (operand_at s k d) (conjunction s (operand_at s k d) i) L j
  conjunction_reached {s = s} {k = k} (operand {d = d} {i = i} {L = L} {j = j} x) =
      reach_start s 0x26 both (operand_at s k d) i L j (operand_complete x)
  conjunction_reached {s = s} {k = k} (and {d = d} {i = i} {L = L} {j = j} {a = a} {M = M} {l = l} c e x) =
      reach_more s 0x26 both (operand_at s k d) _ L j a M l (conjunction_reached c) e (λ h. omega (arith, h)) (operand_complete x) (operand_forward x)

  disjunction_reached : {s : List ℕ} {k d i : ℕ} {L : Label} {j : ℕ} → IsDisjunction s k d i L j
      → Reached s 0x7C either (conjunction s (operand_at s k d)) (disjunction s (operand_at s k d) i) L j
  disjunction_reached {s = s} {k = k} (conjunct {d = d} {i = i} {L = L} {j = j} c n) =
      reach_start s 0x7C either (conjunction s (operand_at s k d)) i L j (reach_end s 0x26 both (operand_at s k d) _ L j (conjunction_reached c) n)
  disjunction_reached {s = s} {k = k} (or {d = d} {i = i} {L = L} {j = j} {a = a} {M = M} {l = l} c e x n) =
      reach_more s 0x7C either (conjunction s (operand_at s k d)) _ L j a M l (disjunction_reached c) e (λ h. omega (arith, h))
      (reach_end s 0x26 both (operand_at s k d) _ M l (conjunction_reached x) n) (conjunction_forward x)

-- a label ends where no `|` follows, and so it is read whole
pub label_grammar : (s : List ℕ) (k i : ℕ) (L : Label) (j : ℕ) → (label_at s k i ≡ found L j) ↔ (IsLabel s k i L j × NoByte 0x7C s j)
unfolding label_at
label_grammar s k i L j = (
  λ e. disjunction_sound s k max_depth (operand_at s k max_depth) (operand_sound s k max_depth) i L j e,
  λ x. reach_end s 0x7C either (conjunction s (operand_at s k max_depth)) _ L j (disjunction_reached x.0) x.1,
)
