-- The letters of a word, written one after another: one more letter is one more space and number at the end. Assumes nothing.
use mathlib.Core.Path.{◌≡◌, refl, sym, ap, ◌∙◌}
use mathlib.Core.List.{List, [], ◌∷◌, ◌++◌, append_assoc, append-nil}
use Prim.Native.Nat.{ℕ, ◌+◌, ◌<◌}
use native.Mathlib.Numerals.{add-one}
use lib.ListN.{length, take, get_or}
use lib.Seq.{take-suc}
use Rattle.text.specs.Text.{space, decimal, letters}

pub letters_append : (v w : List ℕ) → letters (v ++ w) ≡ letters v ++ letters w
unfolding letters
letters_append [] w = refl
letters_append (a ∷ v) w =
    ap (λ (l : List ℕ). space ++ decimal a ++ l) (letters_append v w)
    ∙ sym (append_assoc (space ++ decimal a) (letters v) (letters w))

letters_one : (a : ℕ) → letters (a ∷ []) ≡ space ++ decimal a
unfolding letters
letters_one a = append-nil (space ++ decimal a)

pub letters_more : (w : List ℕ) (i : ℕ) → i < length w → letters (take (i + 1) w) ≡ letters (take i w) ++ (space ++ decimal (get_or w i 0))
letters_more w i h =
    ap letters (ap (λ (k : ℕ). take k w) (add-one i) ∙ take-suc w i 0 h)
    ∙ letters_append (take i w) (get_or w i 0 ∷ [])
    ∙ ap (λ (l : List ℕ). letters (take i w) ++ l) (letters_one (get_or w i 0))
