-- Numbers of any length, held as 1,000 at most: a larger value stays at 1,000 whatever digits follow. Assumes nothing.
use mathlib.Core.Path.{◌≡◌, refl, sym, ap, ◌∙◌}
use mathlib.Core.Bool.{Bool, true, false, ◌&&◌}
use mathlib.Core.List.{List, [], ◌∷◌}
use Prim.Native.Nat.{ℕ, suc, ◌+◌, ◌-◌, ◌*◌, ◌≤◌, ◌<◌, min}
use native.Mathlib.Omega.{arith}
use lib.Dec.{ltb, leb}
use lib.ListN.{length, get_or, drop, drop_of_length-le}
use lib.Seq.{drop-cons}
use borrow.Author.Tests.{leb-true, ltb-true, ltb-false}
use Rattle.tokens.specs.Tokens.{digit, value}

pub digit_low : (b : ℕ) → digit b ≡ true → 0x30 ≤ b
digit_low b e = leb-true 0x30 b (first (leb 0x30 b) (leb b 0x39) e)
  where
    first : (x y : Bool) → (x && y) ≡ true → x ≡ true
    first true y h = refl
    first false y h = h

pub cap_value : (t : List ℕ) (v : ℕ) → min (value v t) 1000 ≡ min (value (min v 1000) t) 1000
unfolding value
cap_value [] v = omega arith
cap_value (b ∷ t) v = go (cap_value t) (digit b)
  where
    go : ((w : ℕ) → min (value w t) 1000 ≡ min (value (min w 1000) t) 1000) → (c : Bool)
        → min (elim c [ true ↦ value (10 * v + (b - 0x30)) t | false ↦ v ]) 1000
        ≡ min (elim c [ true ↦ value (10 * min v 1000 + (b - 0x30)) t | false ↦ min v 1000 ]) 1000
    go ih true =
        let e : min (10 * v + (b - 0x30)) 1000 ≡ min (10 * min v 1000 + (b - 0x30)) 1000 = omega arith in
        ih (10 * v + (b - 0x30)) ∙ ap (λ (w : ℕ). min (value w t) 1000) e ∙ sym (ih (10 * min v 1000 + (b - 0x30)))
    go ih false = omega arith

module _ (s : List ℕ) (j : ℕ) where
  pub value_more : (v : ℕ) → j < length s → digit (get_or s j 0) ≡ true → value v (drop j s) ≡ value (10 * v + (get_or s j 0 - 0x30)) (drop (j + 1) s)
  unfolding value
  value_more v h e =
      let d : suc j ≡ j + 1 = omega arith in
      ap (value v) (drop-cons s j 0 h)
      ∙ ap (λ (c : Bool). elim c [ true ↦ value (10 * v + (get_or s j 0 - 0x30)) (drop (suc j) s) | false ↦ v ]) e
      ∙ ap (λ (n : ℕ). value (10 * v + (get_or s j 0 - 0x30)) (drop n s)) d

  pub value_end : (v : ℕ) → length s ≤ j → value v (drop j s) ≡ v
  unfolding value
  value_end v h = ap (value v) (drop_of_length-le s h)

  pub value_stop : (v : ℕ) → digit (get_or s j 0) ≡ false → value v (drop j s) ≡ v
  unfolding value
  value_stop v e = by (ltb j (length s)) refl
    where
      by : (b : Bool) → ltb j (length s) ≡ b → value v (drop j s) ≡ v
      by true h =
          ap (value v) (drop-cons s j 0 (ltb-true j (length s) h))
          ∙ ap (λ (c : Bool). elim c [ true ↦ value (10 * v + (get_or s j 0 - 0x30)) (drop (suc j) s) | false ↦ v ]) e
      by false h = value_end v (ltb-false j (length s) h)

-- the loop over the digits: it ends with the whole value and number of them, or goes on with one digit more
module _ (s : List ℕ) (v j : ℕ) (a : min (value 0 s) 1000 ≡ min (value v (drop j s)) 1000) where
  pub digits_value : v ≤ 1000 → digit (get_or s j 0) ≡ false → v ≡ min (value 0 s) 1000
  digits_value h e = let x = value_stop s j v e in omega (arith, a, x, h)

  pub digit_taken : (w : ℕ) → j < length s → digit (get_or s j 0) ≡ true → w ≡ min (10 * v + (get_or s j 0 - 0x30)) 1000
      → min (value 0 s) 1000 ≡ min (value w (drop (j + 1) s)) 1000
  digit_taken w h e q =
      a ∙ ap (λ (x : ℕ). min x 1000) (value_more s j v h e) ∙ cap_value (drop (j + 1) s) (10 * v + (get_or s j 0 - 0x30))
      ∙ ap (λ (x : ℕ). min (value x (drop (j + 1) s)) 1000) (sym q)
