-- The reader's steps by cases: what is to be shown of a step, P, holds if it holds where the step's tokens stand and where one of them does not. Each step
-- tests, and both answers of the test are rules of the grammar or faults. Assumes nothing.
use mathlib.Core.Path.{◌≡◌, refl}
use mathlib.Core.Bool.{Bool, true, false}
use mathlib.Core.List.{List, [], ◌∷◌}
use Prim.Native.Nat.{ℕ, zero, suc, ◌+◌}
use lib.Dec.{eqb}
use lib.ListN.{get_or}
use borrow.Author.Tests.{eqb-true, eqb-false}
use Rattle.automaton.proofs.Booleans.{clash}
use Rattle.tokens.specs.Tokens.{stands, behind, Number, none, number, number_at}
use Rattle.tokens.specs.Lexical.{IsToken, NoToken}
use Rattle.tokens.proofs.LexicalLaws.{name_end, number_lexical, name_lexical, a_token, no_token, no_number_at}
use Rattle.hanoi.specs.Words.{acc_name, Buchi, zero_word, left_brace, right_brace, quote}
use Rattle.hanoi.specs.Reading.{refused, Step, over, outside, expect, expect_number, check, names, acc_name_item, acceptance}
use Rattle.hanoi.specs.Grammar.{Words, no_word, word, Numbered, numbered, Names, no_name, name, HasAccName, is_named, is_unnamed, Marked, accepting, rejecting}
use Rattle.hanoi.specs.Faults.{NoWords, first_word, later_word, NoNumbered, no_words, no_number, NoNames, first_name, later_name}

-- the tokens ws, one after the other
unfoldable pub expect_all : List (List ℕ) → List ℕ → ℕ → (ℕ → Step) → Step
expect_all [] s i go = go i
expect_all (w ∷ ws) s i go = expect w s i (λ j. expect_all ws s j go)

-- Steps by cases, with what is to be shown of the step in P.

module _ (P : Step → Type 0) (s : List ℕ) where
  pub words_case : (ws : List (List ℕ)) (i : ℕ) (go : ℕ → Step) → ((j : ℕ) → Words s ws i j → P (go j)) → (NoWords s ws i → P outside)
      → P (expect_all ws s i go)
  unfolding expect_all expect
  words_case [] i go h k = h i (no_word refl)
  words_case (w ∷ ws) i go h k = by (words_case ws (behind w s i) go) (stands w s i) refl
    where
      by : (((j : ℕ) → Words s ws (behind w s i) j → P (go j)) → (NoWords s ws (behind w s i) → P outside) → P (expect_all ws s (behind w s i) go))
          → (b : Bool) → stands w s i ≡ b → P (elim b [ true ↦ expect_all ws s (behind w s i) go | false ↦ outside ])
      by ih true e = let y = a_token w s i e in ih (λ j x. h j (word y x)) (λ x. k (later_word y x))
      by ih false e = k (first_word (no_token w s i e))

  pub number_case : (i : ℕ) (go : ℕ → ℕ → Step) → ((v j : ℕ) → number_at s i ≡ number v j → P (go v j)) → (number_at s i ≡ none → P outside)
      → P (expect_number s i go)
  unfolding expect_number
  number_case i go h k = by (number_at s i) refl
    where
      by : (x : Number) → number_at s i ≡ x → P (elim x [ none ↦ outside | number v j ↦ go v j ])
      by none e = k e
      by (number v j) e = h v j e

  pub numbered_case : (ws : List (List ℕ)) (i : ℕ) (go : ℕ → ℕ → Step) → ((v j : ℕ) → Numbered s ws i v j → P (go v j))
      → (NoNumbered s ws i → P outside) → P (expect_all ws s i (λ a. expect_number s a go))
  numbered_case ws i go h k =
      words_case ws i (λ a. expect_number s a go)
      (λ a x. number_case a go (λ v j e. h v j (numbered x ((number_lexical s a v j).0 e))) (λ e. k (no_number x (no_number_at s a e)))) (λ x. k (no_words x))

  pub check_case : (b : Bool) (n : ℕ) (x : Step) → (b ≡ true → P x) → (b ≡ false → P (over (refused n))) → P (check b n x)
  unfolding check
  check_case true n x h k = h refl
  check_case false n x h k = k refl

  pub names_case : (n i : ℕ) (go : ℕ → Step) → ((j : ℕ) → Names s n i j → P (go j)) → (NoNames s n i → P outside) → P (names n s i go)
  unfolding names expect
  names_case zero i go h k = h i (no_name refl)
  names_case (suc n) i go h k =
      by (names_case n (name_end s i + 1) go) (stands quote s i) (eqb (get_or s (name_end s i) 0) 0x22) refl refl
    where
      by : (((j : ℕ) → Names s n (name_end s i + 1) j → P (go j)) → (NoNames s n (name_end s i + 1) → P outside) → P (names n s (name_end s i + 1) go))
          → (a b : Bool) → stands quote s i ≡ a → eqb (get_or s (name_end s i) 0) 0x22 ≡ b
          → P (elim a [ true ↦ elim b [ true ↦ names n s (name_end s i + 1) go | false ↦ outside ] | false ↦ outside ])
      by ih true true e f =
          let y = (name_lexical s i (name_end s i + 1)).0 (e, eqb-true (get_or s (name_end s i) 0) 0x22 f, refl) in
          ih (λ j x. h j (name y x)) (λ x. k (later_name y x))
      by ih true false e f = k (first_name (λ j x. eqb-false (get_or s (name_end s i) 0) 0x22 f ((name_lexical s i j).1 x).1))
      by ih false b e f = k (first_name (λ j x. clash ((name_lexical s i j).1 x).0 e))

  pub named_case : (i : ℕ) (go : ℕ → Step) → ((j : ℕ) → HasAccName s i j → P (go j))
      → (IsToken acc_name s i (behind acc_name s i) → NoToken Buchi s (behind acc_name s i) → P outside) → P (acc_name_item s i go)
  unfolding acc_name_item expect
  named_case i go h k = by (stands acc_name s i) (stands Buchi s (behind acc_name s i)) refl refl
    where
      by : (a b : Bool) → stands acc_name s i ≡ a → stands Buchi s (behind acc_name s i) ≡ b
          → P (elim a [ true ↦ elim b [ true ↦ go (behind Buchi s (behind acc_name s i)) | false ↦ outside ] | false ↦ go i ])
      by true true e f = h (behind Buchi s (behind acc_name s i)) (is_named (word (a_token acc_name s i e) (word (a_token Buchi s (behind acc_name s i) f) (no_word refl))))
      by true false e f = k (a_token acc_name s i e) (no_token Buchi s (behind acc_name s i) f)
      by false b e f = h i (is_unnamed (no_token acc_name s i e) refl)

  pub marked_case : (i : ℕ) (go : Bool → ℕ → Step) → ((b : Bool) (j : ℕ) → Marked s i b j → P (go b j))
      → (IsToken left_brace s i (behind left_brace s i) → NoWords s (zero_word ∷ right_brace ∷ []) (behind left_brace s i) → P outside) → P (acceptance s i go)
  unfolding acceptance expect_all
  marked_case i go h k = by (stands left_brace s i) refl
    where
      by : (b : Bool) → stands left_brace s i ≡ b
          → P (elim b [ true ↦ expect_all (zero_word ∷ right_brace ∷ []) s (behind left_brace s i) (go true) | false ↦ go false i ])
      by true e = words_case (zero_word ∷ right_brace ∷ []) (behind left_brace s i) (go true) (λ j x. h true j (accepting (word (a_token left_brace s i e) x))) (k (a_token left_brace s i e))
      by false e = h false i (rejecting (no_token left_brace s i e) refl)
