-- What is left of a file behind a record whose two mark bytes and n fields the reader takes off. Assumes nothing.
use mathlib.Core.Path.{◌≡◌, refl, sym, ap, ◌∙◌}
use mathlib.Core.List.{List, [], ◌∷◌}
use Prim.Native.Nat.{ℕ, zero, suc, ◌+◌, ◌-◌}
use native.Mathlib.Omega.{arith}
use lib.ListN.{length, take, drop}
use Rattle.std.proofs.Math.Seq.{drop-nil}
use Rattle.std.proofs.lemmas.List.{take_rest}

drop_again : (a b : ℕ) (xs : List ℕ) → drop b (drop a xs) ≡ drop (a + b) xs
drop_again zero b xs = let e : 0 + b ≡ b = omega arith in rw e refl
drop_again (suc a) b [] = rw (drop-nil b) (sym (drop-nil (suc a + b)))
drop_again (suc a) b (x ∷ xs) = let e : suc a + b ≡ suc (a + b) = omega arith in rw e (drop_again a b xs)

pub rest_behind : (file rest : List ℕ) (at n : ℕ) → rest ≡ drop at file
    → take (length (take (length rest - 2) (drop 2 rest)) - n) (drop n (take (length rest - 2) (drop 2 rest))) ≡ drop (at + (2 + n)) file
rest_behind file rest at n e =
    take_rest (take (length rest - 2) (drop 2 rest)) n
    ∙ ap (drop n) (take_rest rest 2)
    ∙ drop_again 2 n rest
    ∙ ap (drop (2 + n)) e
    ∙ drop_again at (2 + n) file
