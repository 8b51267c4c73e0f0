-- The percent saved from a division with rest: what is left counts as one more percent where it is half or more. Assumes nothing.
use mathlib.Core.Path.{◌≡◌, ap, ◌∙◌}
use Prim.Native.Nat.{ℕ, zero, suc, ◌+◌, ◌-◌, ◌*◌, ◌/◌, ◌≤◌, ◌<◌}
use native.Mathlib.Nat.{mul_left_comm, div-eq_of_lt, div-zero}
use native.Mathlib.Omega.{arith}
use lib.Arith.{digits_div}
use Rattle.text.specs.Text.{percent_saved}

-- nothing is saved
pub percent_none : (first held : ℕ) → first ≤ held → percent_saved first held ≡ 0
unfolding percent_saved
percent_none zero held h = div-zero _
percent_none (suc f) held h = div-eq_of_lt (omega arith)

module _ (first held p q : ℕ) (share : p * first + q ≡ 100 * (first - held)) (rest : q < first) where
  -- less than half is left
  pub percent_down : q < first - q → percent_saved first held ≡ p
  unfolding percent_saved
  percent_down h =
      let e : 200 * (first - held) + first ≡ p * (2 * first) + (2 * q + first) = omega (arith, mul_left_comm p 2 first) in
      ap (λ (x : ℕ). x / (2 * first)) e ∙ digits_div p (omega arith)

  -- half or more is left
  pub percent_up : first - q ≤ q → percent_saved first held ≡ p + 1
  unfolding percent_saved
  percent_up h =
      let e : 200 * (first - held) + first ≡ (p + 1) * (2 * first) + (2 * q - first) = omega (arith, mul_left_comm p 2 first) in
      ap (λ (x : ℕ). x / (2 * first)) e ∙ digits_div (p + 1) (omega arith)
