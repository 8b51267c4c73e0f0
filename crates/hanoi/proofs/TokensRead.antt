-- Tokens, numbers and names that stand are read, and where one does not stand the refusal is 17: an equation of the reader for each rule and each fault.
-- What stands decides the reader's test. Assumes nothing.
use mathlib.Core.Path.{◌≡◌, refl, sym, ap, subst, ◌∙◌}
use mathlib.Core.Bool.{Bool, true, false}
use mathlib.Core.List.{List, [], ◌∷◌}
use Prim.Native.Nat.{ℕ, suc, ◌+◌}
use lib.Dec.{eqb}
use lib.ListN.{get_or}
use borrow.Author.Tests.{eqb-true, eq-eqb}
use Rattle.tokens.specs.Tokens.{stands, behind, Number, none, number}
use Rattle.tokens.specs.Lexical.{IsToken, NoToken, IsNumber, NoNumber, IsName}
use Rattle.tokens.proofs.LexicalLaws.{name_end, number_lexical, name_lexical, token_stands, token_behind, no_token_stands, number_at_none}
use Rattle.hanoi.specs.Words.{acc_name, Buchi, quote}
use Rattle.hanoi.specs.Reading.{refused, Step, over, outside, expect, expect_number, check, names, acc_name_item}
use Rattle.hanoi.specs.Grammar.{Words, no_word, word, Numbered, numbered, Names, no_name, name, HasAccName, is_named, is_unnamed}
use Rattle.hanoi.specs.Faults.{NoWords, first_word, later_word, NoNumbered, no_words, no_number, NoNames, first_name, later_name}
use Rattle.hanoi.proofs.Cases.{expect_all}

pub expect_read : {w s : List ℕ} {i j : ℕ} (go : ℕ → Step) → IsToken w s i j → expect w s i go ≡ go j
unfolding expect
expect_read {w = w} {s = s} {i = i} go x =
    ap (λ (b : Bool). elim b [ true ↦ go (behind w s i) | false ↦ outside ]) (token_stands x) ∙ ap go (token_behind x)

pub expect_refused : (w s : List ℕ) (i : ℕ) (go : ℕ → Step) → NoToken w s i → expect w s i go ≡ outside
unfolding expect
expect_refused w s i go n = ap (λ (b : Bool). elim b [ true ↦ go (behind w s i) | false ↦ outside ]) (no_token_stands w s i n)

pub words_read : {s : List ℕ} {ws : List (List ℕ)} {i j : ℕ} (go : ℕ → Step) → Words s ws i j → expect_all ws s i go ≡ go j
unfolding expect_all
words_read go (no_word e) = ap go e
words_read {s = s} go (word {ws = ws} x y) = expect_read (λ a. expect_all ws s a go) x ∙ words_read go y

pub words_refused : {s : List ℕ} {ws : List (List ℕ)} {i : ℕ} (go : ℕ → Step) → NoWords s ws i → expect_all ws s i go ≡ outside
unfolding expect_all
words_refused {s = s} {i = i} go (first_word {w = w} {ws = ws} n) = expect_refused w s i (λ a. expect_all ws s a go) n
words_refused {s = s} go (later_word {ws = ws} x y) = expect_read (λ a. expect_all ws s a go) x ∙ words_refused go y

pub number_read : {s : List ℕ} {i v j : ℕ} (go : ℕ → ℕ → Step) → IsNumber s i v j → expect_number s i go ≡ go v j
unfolding expect_number
number_read {s = s} {i = i} {v = v} {j = j} go x =
    ap (λ (y : Number). elim y [ none ↦ outside | number v j ↦ go v j ]) ((number_lexical s i v j).1 x)

pub number_refused : (s : List ℕ) (i : ℕ) (go : ℕ → ℕ → Step) → NoNumber s i → expect_number s i go ≡ outside
unfolding expect_number
number_refused s i go n = ap (λ (x : Number). elim x [ none ↦ outside | number v j ↦ go v j ]) (number_at_none s i n)

pub numbered_read : {s : List ℕ} {ws : List (List ℕ)} {i v j : ℕ} (go : ℕ → ℕ → Step) → Numbered s ws i v j
    → expect_all ws s i (λ a. expect_number s a go) ≡ go v j
numbered_read {s = s} go (numbered {a = a} x e) = words_read (λ a. expect_number s a go) x ∙ number_read go e

pub numbered_refused : {s : List ℕ} {ws : List (List ℕ)} {i : ℕ} (go : ℕ → ℕ → Step) → NoNumbered s ws i
    → expect_all ws s i (λ a. expect_number s a go) ≡ outside
numbered_refused {s = s} go (no_words x) = words_refused (λ a. expect_number s a go) x
numbered_refused {s = s} go (no_number {a = a} x e) = words_read (λ a. expect_number s a go) x ∙ number_refused s a go e

-- the token and the number behind it
pub one_numbered : {s w : List ℕ} {i v j : ℕ} → Numbered s (w ∷ []) i v j → (a : ℕ) × IsToken w s i a × IsNumber s a v j
one_numbered {s = s} {v = v} {j = j} (numbered (word {a = a} x (no_word p)) n) = (a, x, subst (λ (b : ℕ). IsNumber s b v j) (sym p) n)

pub check_read : (b : Bool) (n : ℕ) (x : Step) → b ≡ true → check b n x ≡ x
unfolding check
check_read b n x e = ap (λ (c : Bool). check c n x) e

pub check_refused : (b : Bool) (n : ℕ) (x : Step) → b ≡ false → check b n x ≡ over (refused n)
unfolding check
check_refused b n x e = ap (λ (c : Bool). check c n x) e

module _ (s : List ℕ) (go : ℕ → Step) where
  names_by : (k i : ℕ) (a b : Bool) → stands quote s i ≡ a → eqb (get_or s (name_end s i) 0) 0x22 ≡ b → names (suc k) s i go
      ≡ elim a [ true ↦ elim b [ true ↦ names k s (name_end s i + 1) go | false ↦ outside ] | false ↦ outside ]
  unfolding names expect
  names_by k i a b e f =
      ap (λ (x : Bool). elim x [
        | true ↦ elim (eqb (get_or s (name_end s i) 0) 0x22) [ true ↦ names k s (name_end s i + 1) go | false ↦ outside ]
        | false ↦ outside
      ]) e
      ∙ ap (λ (x : Bool). elim a [ true ↦ elim x [ true ↦ names k s (name_end s i + 1) go | false ↦ outside ] | false ↦ outside ]) f

  name_read : (k : ℕ) {i j : ℕ} → IsName s i j → names (suc k) s i go ≡ names k s j go
  name_read k {i = i} {j = j} x =
      let y = (name_lexical s i j).1 x in
      names_by k i true true y.0 (eq-eqb (get_or s (name_end s i) 0) 0x22 y.1) ∙ ap (λ (a : ℕ). names k s a go) (sym y.2)

  name_refused : (k i : ℕ) → ((j : ℕ) → IsName s i j → ⊥) → names (suc k) s i go ≡ outside
  name_refused k i n = by (stands quote s i) (eqb (get_or s (name_end s i) 0) 0x22) refl refl
    where
      by : (a b : Bool) → stands quote s i ≡ a → eqb (get_or s (name_end s i) 0) 0x22 ≡ b → names (suc k) s i go ≡ outside
      by true true e f = absurd (n (name_end s i + 1) ((name_lexical s i (name_end s i + 1)).0 (e, eqb-true (get_or s (name_end s i) 0) 0x22 f, refl)))
      by true false e f = names_by k i true false e f
      by false b e f = names_by k i false b e f

  pub names_read : {k i j : ℕ} → Names s k i j → names k s i go ≡ go j
  unfolding names
  names_read (no_name e) = ap go e
  names_read (name {k = k} x y) = name_read k x ∙ names_read y

  pub names_refused : {k i : ℕ} → NoNames s k i → names k s i go ≡ outside
  names_refused {i = i} (first_name {k = k} n) = name_refused k i n
  names_refused (later_name {k = k} x y) = name_read k x ∙ names_refused y

  named_by : (i : ℕ) (b : Bool) → stands acc_name s i ≡ b → acc_name_item s i go ≡ elim b [ true ↦ expect Buchi s (behind acc_name s i) go | false ↦ go i ]
  unfolding acc_name_item
  named_by i b e = ap (λ (x : Bool). elim x [ true ↦ expect Buchi s (behind acc_name s i) go | false ↦ go i ]) e

  pub named_on : {i a : ℕ} → IsToken acc_name s i a → acc_name_item s i go ≡ expect Buchi s a go
  named_on {i = i} x = named_by i true (token_stands x) ∙ ap (λ (a : ℕ). expect Buchi s a go) (token_behind x)

  pub named_read : {i j : ℕ} → HasAccName s i j → acc_name_item s i go ≡ go j
  unfolding expect_all
  named_read {i = i} (is_named (word e x)) = named_on e ∙ words_read go x
  named_read {i = i} (is_unnamed e p) = named_by i false (no_token_stands acc_name s i e) ∙ ap go p
