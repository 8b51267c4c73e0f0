-- The propositions of a label that is read are below their count: each came by the grammar's rule for a number, which says so. Assumes nothing.
use mathlib.Core.Path.{◌≡◌}
use mathlib.Core.List.{List}
use Prim.Native.Nat.{ℕ, ◌≤◌}
use native.Mathlib.Omega.{arith}
use Rattle.labels.specs.Labels.{Label, always, never, proposition, negation, both, either, Below}
use Rattle.labels.specs.LabelReading.{found, label_at}
use Rattle.labels.specs.LabelGrammar.{IsOperand, t_word, f_word, proposition_number, bang, parenthesis, IsConjunction, operand, and, IsDisjunction, conjunct, or}
use Rattle.labels.proofs.Complete.{label_grammar}

mutual
  unfolding Below

  pub operand_below : {s : List ℕ} {k d i : ℕ} {L : Label} {j : ℕ} → IsOperand s k d i L j → Below k L
  operand_below (t_word x) = tt
  operand_below (f_word x) = tt
  operand_below (proposition_number x h) = h
  operand_below (bang e x) = operand_below x
  operand_below (parenthesis e x c) = disjunction_below x

  pub conjunction_below : {s : List ℕ} {k d i : ℕ} {L : Label} {j : ℕ} → IsConjunction s k d i L j → Below k L
  conjunction_below (operand x) = operand_below x
  conjunction_below (and c e x) = (conjunction_below c, operand_below x)

  pub disjunction_below : {s : List ℕ} {k d i : ℕ} {L : Label} {j : ℕ} → IsDisjunction s k d i L j → Below k L
  disjunction_below (conjunct c n) = conjunction_below c
  disjunction_below (or c e x n) = (disjunction_below c, conjunction_below x)

pub label_below : (s : List ℕ) (k i : ℕ) (L : Label) (j : ℕ) → label_at s k i ≡ found L j → Below k L
label_below s k i L j e = disjunction_below ((label_grammar s k i L j).0 e).0

pub below_more : (k m : ℕ) (L : Label) → Below k L → k ≤ m → Below m L
unfolding Below
below_more k m always b h = tt
below_more k m never b h = tt
below_more k m (proposition p) b h = omega arith
below_more k m (negation L) b h = below_more k m L b h
below_more k m (both L M) b h = (below_more k m L b.0 h, below_more k m M b.1 h)
below_more k m (either L M) b h = (below_more k m L b.0 h, below_more k m M b.1 h)
