-- The items of the header, from what the calls answer: a token, a number and a name at a place, and what may be left out. Assumes nothing.
use mathlib.Core.Path.{◌≡◌, refl, sym, ap, ◌∙◌}
use mathlib.Core.Bool.{Bool, true, false, ◌&&◌}
use mathlib.Core.List.{List}
use Prim.Native.Nat.{ℕ, suc, ◌+◌, ◌≤◌, min}
use native.Mathlib.Omega.{arith}
use borrow.Author.Tests.{le-leb}
use lib.Dec.{eqb, leb, ltb}
use lib.ListN.{get_or, drop}
use Rattle.std.specs.Prelude.{Option, Some, None, option_and_then, Err}
use Rattle.std.specs.Bool.{then_some}
use Rattle.std.specs.Option.{ok_or, option_map_or}
use Rattle.std.proofs.lemmas.Option.{none-some, same_Some}
use Rattle.std.proofs.lemmas.Bool.Decides.{nat_tests}
use Rattle.tokens.specs.Tokens.{stands, behind, Number, none, number, number_at, name_bytes}
use Rattle.tokens.specs.Places.{token_at, name_from, name_at, capped}
use Rattle.hanoi.specs.Words.{acc_name, Buchi, quote}
use Rattle.hanoi.specs.Reading.{Step, over, refused, outside, expect, expect_number, check, names, acc_name_item}

-- Tokens.

-- go on behind the token where it stands, and otherwise elsewhere
pub token_test : (w s : List ℕ) (i : ℕ) (go : ℕ → Step) (otherwise : Step)
    → elim (stands w s i) [ true ↦ go (behind w s i) | false ↦ otherwise ] ≡ option_map_or go (token_at w s i) otherwise
unfolding token_at
token_test w s i go otherwise = by (stands w s i)
  where
    by : (b : Bool) → elim b [ true ↦ go (behind w s i) | false ↦ otherwise ]
        ≡ option_map_or go (elim b [ true ↦ Some (behind w s i) | false ↦ None ]) otherwise
    by true = refl
    by false = refl

-- by what a call for the token answered
pub token_answered : (w s : List ℕ) (i j : ℕ) (b : Bool) → then_some b j ≡ token_at w s i → (go : ℕ → Step) (otherwise : Step)
    → elim (stands w s i) [ true ↦ go (behind w s i) | false ↦ otherwise ] ≡ option_map_or go (then_some b j) otherwise
token_answered w s i j b e go otherwise = token_test w s i go otherwise ∙ ap (λ o. option_map_or go o otherwise) (sym e)

module _ (w s : List ℕ) (i j : ℕ) (b : Bool) (e : then_some b j ≡ token_at w s i) (go : ℕ → Step) where
  pub expect_passed : b ≡ true → expect w s i go ≡ go j
  unfolding expect
  expect_passed a = token_answered w s i j b e go outside ∙ ap (λ c. option_map_or go (then_some c j) outside) a

  pub expect_missed : b ≡ false → expect w s i go ≡ outside
  unfolding expect
  expect_missed a = token_answered w s i j b e go outside ∙ ap (λ c. option_map_or go (then_some c j) outside) a

-- `acc-name: Buchi`, by what a call for the first word answered
module _ (s : List ℕ) (i j : ℕ) (b : Bool) (e : then_some b j ≡ token_at acc_name s i) (go : ℕ → Step) where
  kind_answered : acc_name_item s i go ≡ option_map_or (λ k. expect Buchi s k go) (then_some b j) (go i)
  unfolding acc_name_item
  kind_answered = token_answered acc_name s i j b e (λ k. expect Buchi s k go) (go i)

  pub kind_passed : b ≡ true → acc_name_item s i go ≡ expect Buchi s j go
  kind_passed a = kind_answered ∙ ap (λ c. option_map_or (λ k. expect Buchi s k go) (then_some c j) (go i)) a

  pub kind_missed : b ≡ false → acc_name_item s i go ≡ go i
  kind_missed a = kind_answered ∙ ap (λ c. option_map_or (λ k. expect Buchi s k go) (then_some c j) (go i)) a

-- what an answer that is missing comes to
pub missing : {A F : Type 0} {d : F} (o : Option A) (f : F) → Err f ≡ ok_or o d → (o ≡ None) × (f ≡ d)
missing None f e = (refl, cc)
missing (Some x) f e = absurd (cc)

-- Numbers.

module _ (low below : ℕ) (small : below ≤ 1000) (ok : ℕ → Bool) (agrees : (v : ℕ) → ok v ≡ (leb low v && ltb v below)) (s : List ℕ) (i n : ℕ) (go : ℕ → ℕ → Step) where
  pub number_absent : None ≡ capped (number_at s i) → expect_number s i (λ v l. check (ok v) n (go v l)) ≡ outside
  unfolding expect_number
  number_absent = by (number_at s i)
    where
      by : (x : Number) → None ≡ capped x → elim x [ none ↦ outside | number v j ↦ check (ok v) n (go v j) ] ≡ outside
      by none e = refl
      by (number v j) e = absurd (none-some _ e)

  module _ (m k : ℕ) (e : Some (m, k) ≡ capped (number_at s i)) where
    pub number_within : (leb low m && ltb m below) ≡ true → expect_number s i (λ v l. check (ok v) n (go v l)) ≡ go m k
    unfolding expect_number check
    number_within a = by (number_at s i) e
      where
        by : (x : Number) → Some (m, k) ≡ capped x → elim x [ none ↦ outside | number v j ↦ check (ok v) n (go v j) ] ≡ go m k
        by none f = absurd (none-some (m, k) (sym f))
        by (number v j) f =
            let h = same_Some _ _ f in
            let p : m ≡ min v 1000 = ap (λ c. c.0) h in
            let q : v ≡ m = grind (arith, nat_tests, small) in
            rw (agrees v, q, a, ← ap (λ c. c.1) h) refl

    pub number_beyond : (leb low m && ltb m below) ≡ false → expect_number s i (λ v l. check (ok v) n (go v l)) ≡ over (refused n)
    unfolding expect_number check
    number_beyond a = by (number_at s i) e
      where
        by : (x : Number) → Some (m, k) ≡ capped x → elim x [ none ↦ outside | number v j ↦ check (ok v) n (go v j) ] ≡ over (refused n)
        by none f = absurd (none-some (m, k) (sym f))
        by (number v j) f =
            let p : m ≡ min v 1000 = ap (λ c. c.0) (same_Some _ _ f) in
            let q : (leb low v && ltb v below) ≡ false = grind (arith, nat_tests, small) in
            rw (agrees v, q) refl

-- the tests of the header's three numbers

pub states_in : (v : ℕ) → (leb 1 v && leb v 32) ≡ (leb 1 v && ltb v 33)
states_in v = grind (arith, nat_tests)

pub from_zero : (v : ℕ) (b : Bool) → b ≡ (leb 0 v && b)
from_zero v b = sym (ap (λ (x : Bool). x && b) (le-leb 0 v (omega arith)))

pub below_in : (n v : ℕ) → ltb v n ≡ (leb 0 v && ltb v n)
below_in n v = grind (arith, nat_tests)

pub propositions_in : (v : ℕ) → leb v 4 ≡ (leb 0 v && ltb v 5)
propositions_in v = grind (arith, nat_tests)

-- Names.

module _ (s : List ℕ) (i j : ℕ) (b : Bool) (e : then_some b j ≡ name_at s i) (k n : ℕ) (h : k ≡ suc n) (go : ℕ → Step) where
  name_answered : names k s i go ≡ option_map_or (λ j. names n s j go) (then_some b j) outside
  unfolding names expect name_from
  name_answered =
      ap (λ m. names m s i go) h
      ∙ token_test quote s i (λ j. elim (eqb (get_or s (j + name_bytes (drop j s)) 0) 0x22) [
        | true ↦ names n s (j + name_bytes (drop j s) + 1) go
        | false ↦ outside
      ]) outside ∙ by (token_at quote s i) ∙ ap (λ y. option_map_or (λ j. names n s j go) y outside) (sym e)
    where
      closes : (j : ℕ) (b : Bool) → elim b [ true ↦ names n s (j + 1) go | false ↦ outside ]
          ≡ option_map_or (λ j. names n s j go) (elim b [ true ↦ Some (j + 1) | false ↦ None ]) outside
      closes j true = refl
      closes j false = refl

      by : (y : Option ℕ) → option_map_or (λ j. elim (eqb (get_or s (j + name_bytes (drop j s)) 0) 0x22) [
        | true ↦ names n s (j + name_bytes (drop j s) + 1) go
        | false ↦ outside
      ]) y outside ≡ option_map_or (λ j. names n s j go) (option_and_then (name_from s) y) outside
      by None = refl
      by (Some j) = closes (j + name_bytes (drop j s)) (eqb (get_or s (j + name_bytes (drop j s)) 0) 0x22)

  pub name_passed : b ≡ true → names k s i go ≡ names n s j go
  name_passed a = name_answered ∙ ap (λ c. option_map_or (λ j. names n s j go) (then_some c j) outside) a

  pub name_missed : b ≡ false → names k s i go ≡ outside
  name_missed a = name_answered ∙ ap (λ c. option_map_or (λ j. names n s j go) (then_some c j) outside) a

pub no_names : (s : List ℕ) (i k : ℕ) (go : ℕ → Step) → k ≡ 0 → names k s i go ≡ go i
unfolding names
no_names s i k go e = rw e refl
