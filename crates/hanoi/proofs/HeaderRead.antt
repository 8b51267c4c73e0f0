-- A header that goes by the grammar is read, and a fault in it is answered with its number, item by item. Assumes nothing.
use mathlib.Core.Path.{◌≡◌, refl, sym, ap, ◌∙◌}
use mathlib.Core.Bool.{Bool, true, false, ◌&&◌}
use mathlib.Core.List.{List, [], ◌∷◌}
use Prim.Native.Nat.{ℕ, ◌≤◌}
use lib.Dec.{leb, ltb}
use borrow.Author.Tests.{lt-ltb, le-ltb, le-leb, lt-leb}
use Rattle.automaton.specs.Automata.{max_states}
use Rattle.hanoi.specs.Words.{Start, AP, Buchi}
use Rattle.hanoi.specs.Descriptions.{max_propositions, Description, headed}
use Rattle.hanoi.specs.Reading.{refused, Step, over, next, expect_number, check, names, acc_name_item, header}
use Rattle.hanoi.specs.Grammar.{states_words, acceptance_words, HasStates, has_states, HasStart, has_start, HasPropositions, has_propositions, HasNames, has_names, IsHeader, header_stands}
use Rattle.hanoi.specs.Faults.{HeaderFault, no_states, states_outside, no_start, start_outside, no_propositions, many_propositions, no_names, other_acc_name, no_acceptance}
use Rattle.hanoi.proofs.Cases.{expect_all}
use Rattle.hanoi.proofs.Says.{states_in_range, in_range_states}
use Rattle.hanoi.proofs.TokensRead.{expect_refused, words_read, words_refused, numbered_read, numbered_refused, check_read, check_refused, names_read, names_refused, named_on, named_read}

abbrev after_names : List ℕ → ℕ → ℕ → ℕ → ℕ → Step
after_names s n q k i = acc_name_item s i (λ i. expect_all acceptance_words s i (λ i. next i (headed n q k)))

abbrev after_start : List ℕ → ℕ → ℕ → ℕ → Step
after_start s n q i = expect_all (AP ∷ []) s i (λ i. expect_number s i (λ k i. check (leb k max_propositions) 18 (names k s i (after_names s n q k))))

abbrev after_states : List ℕ → ℕ → ℕ → Step
after_states s n i = expect_all (Start ∷ []) s i (λ i. expect_number s i (λ q i. check (ltb q n) 3 (after_start s n q i)))

header_items : (s : List ℕ)
    → header s ≡ expect_all states_words s 0 (λ i. expect_number s i (λ n i. check (leb 1 n && leb n max_states) 3 (after_states s n i)))
unfolding header expect_all
header_items s = refl

states_not_in_range : (n : ℕ) → ((1 ≤ n) × (n ≤ max_states) → ⊥) → (leb 1 n && leb n max_states) ≡ false
states_not_in_range n h = by (leb 1 n && leb n max_states) refl
  where
    by : (b : Bool) → (leb 1 n && leb n max_states) ≡ b → b ≡ false
    by true e = absurd (h (states_in_range n e))
    by false e = refl

module _ {s : List ℕ} where
  states_read : {n j : ℕ} → HasStates s n j → header s ≡ after_states s n j
  states_read {n = n} (has_states x a b) = header_items s ∙ numbered_read _ x ∙ check_read _ _ _ (in_range_states n a b)

  start_read : {n q j : ℕ} → HasStart s n q j → header s ≡ after_start s n q j
  start_read {n = n} {q = q} (has_start h x a) = states_read h ∙ numbered_read _ x ∙ check_read _ _ _ (lt-ltb q n a)

  propositions_read : {n q k j : ℕ} → HasPropositions s n q k j → header s ≡ names k s j (after_names s n q k)
  propositions_read {k = k} (has_propositions h x a) = start_read h ∙ numbered_read _ x ∙ check_read _ _ _ (le-leb k max_propositions a)

  header_names_read : {n q k j : ℕ} → HasNames s n q k j → header s ≡ after_names s n q k j
  header_names_read {n = n} {q = q} {k = k} (has_names h x) = propositions_read h ∙ names_read s (after_names s n q k) x

  pub header_read : {D : Description} {j : ℕ} → IsHeader s D j → header s ≡ next j D
  header_read {j = j} (header_stands h a x e) = header_names_read h ∙ named_read s _ a ∙ words_read _ x ∙ ap (next j) (sym e)

  pub header_refused : {n : ℕ} → HeaderFault s n → header s ≡ over (refused n)
  header_refused (no_states x) = header_items s ∙ numbered_refused _ x
  header_refused (states_outside {n = n} x a) = header_items s ∙ numbered_read _ x ∙ check_refused _ _ _ (states_not_in_range n a)
  header_refused (no_start h x) = states_read h ∙ numbered_refused _ x
  header_refused (start_outside {n = n} {q = q} h x a) = states_read h ∙ numbered_read _ x ∙ check_refused _ _ _ (le-ltb q n a)
  header_refused (no_propositions h x) = start_read h ∙ numbered_refused _ x
  header_refused (many_propositions {k = k} h x a) = start_read h ∙ numbered_read _ x ∙ check_refused _ _ _ (lt-leb k max_propositions a)
  header_refused (no_names {n = n} {q = q} {k = k} h x) = propositions_read h ∙ names_refused s (after_names s n q k) x
  header_refused (other_acc_name {a = a} h e f) = header_names_read h ∙ named_on s _ e ∙ expect_refused Buchi s a _ f
  header_refused (no_acceptance h a x) = header_names_read h ∙ named_read s _ a ∙ words_refused _ x
