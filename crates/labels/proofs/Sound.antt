-- What the label reader reads is a label of the grammar, and a label ends behind its beginning. A chain of operands keeps a relation between what is read and
-- where it ends, and it ends where its mark is not. Assumes nothing.
use mathlib.Core.Path.{◌≡◌, refl, sym, ap, subst, ◌∙◌}
use mathlib.Core.Bool.{Bool, true, false}
use mathlib.Core.List.{List}
use Prim.Native.Nat.{ℕ, zero, suc, ◌+◌, ◌≤◌, ◌<◌}
use native.Mathlib.Omega.{arith}
use lib.Dec.{eqb, ltb}
use lib.ListN.{length}
use borrow.Author.Tests.{eqb-true, eqb-false, ltb-true}
use Rattle.tokens.specs.Tokens.{byte_at, skip, Number, none, number, number_at}
use Rattle.tokens.specs.Lexical.{IsByte, NoByte, IsNumber, is_number}
use Rattle.tokens.proofs.Runs.{white_run, digit_run, digits_on, skip_from, skip_end, byte_past}
use Rattle.tokens.proofs.LexicalLaws.{byte_lexical, number_lexical, a_byte, byte_behind, no_byte_iff}
use Rattle.labels.specs.Labels.{Label, both, either}
use Rattle.labels.specs.LabelReading.{Found, absent, found, known, proposition_of, atom_by, atom_at, negated, closing, closed, more, chain, conjunction, disjunction, operand_at}
use Rattle.labels.specs.LabelGrammar.{IsOperand, t_word, f_word, proposition_number, bang, parenthesis, IsConjunction, operand, and, IsDisjunction, conjunct, or}
use Rattle.labels.proofs.LabelSteps.{operand_bare, operand_by, atom_by_lem, number_skip}

pub not_absent : {L : Label} {j : ℕ} {X : Type 0} → absent ≡ found L j → X
not_absent e = absurd (let z : ◌≡◌ {A = ℕ} 0 1 = cc in omega arith)

pub found_same : {L M : Label} {i j : ℕ} → found L i ≡ found M j → (L ≡ M) × (i ≡ j)
found_same e = (cc, cc)

-- What stands at a place ends behind it.

pub byte_forward : {b : ℕ} {s : List ℕ} {i j : ℕ} → IsByte b s i j → i < j
byte_forward {s = s} {i = i} x = omega (arith, byte_behind x, skip_from s i)

pub number_forward : {s : List ℕ} {i v j : ℕ} → IsNumber s i v j → i < j
number_forward {s = s} {i = i} {j = j} (is_number {a = a} r d l x q) =
    omega (arith, (white_run s i a).0 r, skip_from s i, (digit_run s a j).0 x, digits_on s a d)

mutual
  pub operand_forward : {s : List ℕ} {k d i : ℕ} {L : Label} {j : ℕ} → IsOperand s k d i L j → i < j
  operand_forward (t_word x) = byte_forward x
  operand_forward (f_word x) = byte_forward x
  operand_forward (proposition_number x h) = number_forward x
  operand_forward (bang e x) = omega (arith, byte_forward e, operand_forward x)
  operand_forward (parenthesis e x c) = omega (arith, byte_forward e, disjunction_forward x, byte_forward c)

  pub conjunction_forward : {s : List ℕ} {k d i : ℕ} {L : Label} {j : ℕ} → IsConjunction s k d i L j → i < j
  conjunction_forward (operand x) = operand_forward x
  conjunction_forward (and c e x) = omega (arith, conjunction_forward c, byte_forward e, operand_forward x)

  pub disjunction_forward : {s : List ℕ} {k d i : ℕ} {L : Label} {j : ℕ} → IsDisjunction s k d i L j → i < j
  disjunction_forward (conjunct c n) = conjunction_forward c
  disjunction_forward (or c e x n) = omega (arith, disjunction_forward c, byte_forward e, conjunction_forward x)

-- Chains, with the relation R that what is read is in.

module _ (s : List ℕ) (mark : ℕ) (join : Label → Label → Label) (op : ℕ → Found) (z : mark ≡ 0 → ⊥)
    (forward : (i : ℕ) (L : Label) (j : ℕ) → op i ≡ found L j → i < j) (R : Label → ℕ → Type 0)
    (extend : (L : Label) (j : ℕ) (M : Label) (l : ℕ) → R L j → IsByte mark s j (skip s j + 1) → op (skip s j + 1) ≡ found M l → R (join L M) l) where
  chain_ends : (L : Label) (j : ℕ) (M : Label) (l : ℕ) → R L j → (byte_at s (skip s j) ≡ mark → ⊥) → found L j ≡ found M l → R M l × NoByte mark s l
  chain_ends L j M l r n e =
      let f = found_same e in (
        subst (λ (x : Label). R x l) f.0 (subst (R L) f.1 r),
        (no_byte_iff mark s l).1 (λ c. n (ap (λ (u : ℕ). byte_at s (skip s u)) f.1 ∙ c)),
      )

  more_sound : (n : ℕ) (L : Label) (j : ℕ) (M : Label) (l : ℕ) → R L j → length s ≤ j + n → more s mark join op n L j ≡ found M l
      → R M l × NoByte mark s l
  unfolding more
  more_sound zero L j M l r h e =
      chain_ends L j M l r (λ b. z (sym b ∙ ap (byte_at s) (skip_end s j (omega (arith, h))) ∙ byte_past s j (omega (arith, h)))) e
  more_sound (suc n) L j M l r h e =
      go (λ N i. more_sound n (join L N) i M l) (eqb (byte_at s (skip s j)) mark) refl (op (skip s j + 1)) refl e
    where
      go : ((N : Label) (i : ℕ) → R (join L N) i → length s ≤ i + n → more s mark join op n (join L N) i ≡ found M l → R M l × NoByte mark s l)
          → (b : Bool) → eqb (byte_at s (skip s j)) mark ≡ b → (x : Found) → op (skip s j + 1) ≡ x
          → elim b [ true ↦ elim x [ absent ↦ absent | found N i ↦ more s mark join op n (join L N) i ] | false ↦ found L j ] ≡ found M l
          → R M l × NoByte mark s l
      go ih true b absent x f = not_absent f
      go ih true b (found N i) x f =
          ih N i (extend L j N i r (a_byte mark s j (eqb-true (byte_at s (skip s j)) mark b)) x)
          (omega (arith, h, forward (skip s j + 1) N i x, skip_from s j)) f
      go ih false b x y f = chain_ends L j M l r (eqb-false (byte_at s (skip s j)) mark b) f

  chain_sound : (i : ℕ) → ((L : Label) (j : ℕ) → op i ≡ found L j → R L j)
      → (M : Label) (l : ℕ) → chain s mark join op i ≡ found M l → R M l × NoByte mark s l
  chain_sound i start M l e = go (op i) refl e
    where
      go : (x : Found) → op i ≡ x → elim x [ absent ↦ absent | found L j ↦ more s mark join op (length s) L j ] ≡ found M l
          → R M l × NoByte mark s l
      go absent x f = not_absent f
      go (found L j) x f = more_sound (length s) L j M l (start L j x) (omega arith) f

-- Labels.

module _ (s : List ℕ) (k d : ℕ) (op : ℕ → Found) (sound : (i : ℕ) (L : Label) (j : ℕ) → op i ≡ found L j → IsOperand s k d i L j) where
  conjunction_sound : (i : ℕ) (L : Label) (j : ℕ) → conjunction s op i ≡ found L j → IsConjunction s k d i L j × NoByte 0x26 s j
  unfolding conjunction
  conjunction_sound i L j e =
      chain_sound s 0x26 both op (λ x. omega (arith, x)) (λ i' M l x. operand_forward (sound i' M l x)) (IsConjunction s k d i)
      (λ M l N n c b x. and c b (sound (skip s l + 1) N n x)) i (λ M l x. operand (sound i M l x)) L j e

  pub disjunction_sound : (i : ℕ) (L : Label) (j : ℕ) → disjunction s op i ≡ found L j → IsDisjunction s k d i L j × NoByte 0x7C s j
  unfolding disjunction
  disjunction_sound i L j e =
      chain_sound s 0x7C either (conjunction s op) (λ x. omega (arith, x))
      (λ i' M l x. conjunction_forward (conjunction_sound i' M l x).0) (IsDisjunction s k d i)
      (λ M l N n c b x. let y = conjunction_sound (skip s l + 1) N n x in or c b y.0 y.1) i
      (λ M l x. let c = conjunction_sound i M l x in conjunct c.0 c.1) L j e

module _ (s : List ℕ) (k d i : ℕ) (L : Label) (j : ℕ) where
  proposition_sound : (x : Number) → number_at s i ≡ x → proposition_of k x ≡ found L j → IsOperand s k d i L j
  proposition_sound none e f = not_absent f
  proposition_sound (number p l) e f = go (ltb p k) refl f
    where
      go : (b : Bool) → ltb p k ≡ b → known b p l ≡ found L j → IsOperand s k d i L j
      go true b g =
          let y = found_same g in
          subst (λ (N : Label). IsOperand s k d i N j) y.0
          (proposition_number ((number_lexical s i p j).0 (e ∙ ap (number p) y.1)) (ltb-true p k b))
      go false b g = not_absent g

  atom_sound : atom_at s k (skip s i) ≡ found L j → IsOperand s k d i L j
  atom_sound e = go (eqb b 0x74) (eqb b 0x66) refl refl (sym (atom_by_lem s k (skip s i) _ _ refl refl) ∙ e)
    where
      b : ℕ
      b = byte_at s (skip s i)

      go : (x y : Bool) → eqb b 0x74 ≡ x → eqb b 0x66 ≡ y
          → atom_by x y (proposition_of k (number_at s (skip s i))) (skip s i + 1) ≡ found L j → IsOperand s k d i L j
      go true y a c f =
          let g = found_same f in
          subst (λ (N : Label). IsOperand s k d i N j) g.0 (t_word ((byte_lexical 0x74 s i j).0 (eqb-true b 0x74 a, sym g.1)))
      go false true a c f =
          let g = found_same f in
          subst (λ (N : Label). IsOperand s k d i N j) g.0 (f_word ((byte_lexical 0x66 s i j).0 (eqb-true b 0x66 c, sym g.1)))
      go false false a c f = proposition_sound (number_at s (skip s i)) (sym (number_skip s i)) f

pub operand_sound : (s : List ℕ) (k d i : ℕ) (L : Label) (j : ℕ) → operand_at s k d i ≡ found L j → IsOperand s k d i L j
operand_sound s k zero i L j e = atom_sound s k 0 i L j (sym (operand_bare s k 0 i refl) ∙ e)
operand_sound s k (suc d) i L j e =
    by (λ i' M l x. operand_sound s k d i' M l x) (eqb (byte_at s (skip s i)) 0x21) (eqb (byte_at s (skip s i)) 0x28) refl refl
    (sym (operand_by s k d i _ _ refl refl) ∙ e)
  where
    by : ((i' : ℕ) (M : Label) (l : ℕ) → operand_at s k d i' ≡ found M l → IsOperand s k d i' M l) → (x y : Bool)
        → eqb (byte_at s (skip s i)) 0x21 ≡ x → eqb (byte_at s (skip s i)) 0x28 ≡ y
        → elim x [
          | true ↦ negated (operand_at s k d (skip s i + 1))
          | false ↦ elim y [ true ↦ closed s (disjunction s (operand_at s k d) (skip s i + 1)) | false ↦ atom_at s k (skip s i) ]
        ] ≡ found L j
        → IsOperand s k (suc d) i L j
    by ih true y a b e' = neg (operand_at s k d (skip s i + 1)) refl e'
      where
        neg : (x : Found) → operand_at s k d (skip s i + 1) ≡ x → negated x ≡ found L j → IsOperand s k (suc d) i L j
        neg absent x f = not_absent f
        neg (found M l) x f =
            let g = found_same f in
            subst (λ (N : Label). IsOperand s k (suc d) i N j) g.0
            (bang (a_byte 0x21 s i (eqb-true (byte_at s (skip s i)) 0x21 a)) (ih (skip s i + 1) M j (x ∙ ap (found M) g.1)))
    by ih false true a b e' = par (disjunction s (operand_at s k d) (skip s i + 1)) refl e'
      where
        shut : (M : Label) (l : ℕ) → IsDisjunction s k d (skip s i + 1) M l → (c : Bool) → eqb (byte_at s (skip s l)) 0x29 ≡ c
            → closing c M (skip s l + 1) ≡ found L j → IsOperand s k (suc d) i L j
        shut M l x true c f =
            let g = found_same f in
            subst (λ (N : Label). IsOperand s k (suc d) i N j) g.0
            (parenthesis (a_byte 0x28 s i (eqb-true (byte_at s (skip s i)) 0x28 b)) x
            ((byte_lexical 0x29 s l j).0 (eqb-true (byte_at s (skip s l)) 0x29 c, sym g.1)))
        shut M l x false c f = not_absent f

        par : (x : Found) → disjunction s (operand_at s k d) (skip s i + 1) ≡ x → closed s x ≡ found L j → IsOperand s k (suc d) i L j
        par absent x f = not_absent f
        par (found M l) x f = shut M l (disjunction_sound s k d (operand_at s k d) ih (skip s i + 1) M l x).0 (eqb (byte_at s (skip s l)) 0x29) refl f
    by ih false false a b e' = atom_sound s k (suc d) i L j e'
