-- The set bits of a number, counted: of its n lowest digits there are as many as its members below n. Assumes nothing.
use mathlib.Core.Path.{◌≡◌, refl, ap, ap₂, ◌∙◌}
use Prim.Native.Nat.{ℕ, zero, suc, ◌+◌, ◌*◌, ◌/◌, ◌%◌, ◌^◌, ◌<◌}
use native.Mathlib.Nat.{add_comm}
use native.Mathlib.Omega.{arith}
use lib.Count.{ones, ones_cat}
use lib.Dec.{eqb}
use lib.Pow.{mod-pow-add, shr-shr}
use Rattle.automaton.specs.Ranges.{total}
use Rattle.automaton.specs.Sets.{bit}
use Rattle.automaton.specs.Automata.{one}

-- one binary digit
digit_one : (d : ℕ) → d < 2 → ones d ≡ one (eqb d 1)
unfolding ones
digit_one zero h = refl
digit_one (suc zero) h = refl
digit_one (suc (suc d)) h = absurd (omega arith)

ones_from : (w n i : ℕ) → ones (w / 2 ^ i % 2 ^ n) ≡ total (λ k. one (bit w k)) n i
unfolding total
ones_from w zero i = let z : w / 2 ^ i % 1 ≡ 0 = omega arith in ap ones z ∙ digit_one 0 (omega arith)
ones_from w (suc n) i =
    let x = w / 2 ^ i in
    let parts : x % 2 ^ suc n ≡ (x / 2 ^ 1 % 2 ^ n) * 2 ^ 1 + x % 2 ^ 1 = ap (λ (k : ℕ). x % 2 ^ k) (omega arith) ∙ mod-pow-add x n 1 in
    let half : x / 2 ^ 1 ≡ w / 2 ^ suc i = shr-shr w i 1 ∙ ap (λ (k : ℕ). w / 2 ^ k) (omega arith) in
    ap ones parts
    ∙ ones_cat 1 (x / 2 ^ 1 % 2 ^ n) (x % 2 ^ 1) (omega arith)
    ∙ add_comm (ones (x / 2 ^ 1 % 2 ^ n)) (ones (x % 2 ^ 1))
    ∙ ap₂ (λ (l m : ℕ). l + m) (digit_one (x % 2) (omega arith)) (ap (λ (y : ℕ). ones (y % 2 ^ n)) half ∙ ones_from w n (suc i))

pub ones_below : (w n : ℕ) → ones (w % 2 ^ n) ≡ total (λ k. one (bit w k)) n 0
ones_below w n = let e : w ≡ w / 2 ^ 0 = omega arith in ap (λ (x : ℕ). ones (x % 2 ^ n)) e ∙ ones_from w n 0
