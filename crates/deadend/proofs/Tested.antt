-- Sets of the states that pass a test, found one after another. Assumes nothing.
use mathlib.Core.Path.{◌≡◌, refl}
use mathlib.Core.Bool.{Bool, true, false, ◌&&◌}
use Prim.Native.Nat.{ℕ, ◌≤◌, ◌<◌}
use lib.Dec.{ltb}
use borrow.Author.Tests.{ltb-true, ltb-false}
use Rattle.automaton.specs.Sets.{bit}

-- P says of each state below q whether the word has it, and the word has no others
pub record Tested (P : ℕ → Bool → Type 0) (q w : ℕ) : Type 0 where
  pub tested : (k : ℕ) → k < q → P k (bit w k)
  pub others : (k : ℕ) → q ≤ k → bit w k ≡ false

-- of a test that is computed
pub tested_bits : (f : ℕ → Bool) (n w : ℕ) → ((k : ℕ) → k < n → bit w k ≡ f k) → ((k : ℕ) → n ≤ k → bit w k ≡ false)
    → (k : ℕ) → bit w k ≡ (ltb k n && f k)
tested_bits f n w e none k = go (ltb k n) refl
  where
    go : (c : Bool) → ltb k n ≡ c → bit w k ≡ (c && f k)
    go true d = e k (ltb-true k n d)
    go false d = none k (ltb-false k n d)
