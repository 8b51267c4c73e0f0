-- Laws of any numbering N of answers: an answer that is known by its case has the number of that case, and a numbering that can be read
-- back shares no number. Assumes nothing.
use mathlib.Core.Path.{◌≡◌, sym, ap, subst, ◌∙◌}
use mathlib.Core.Logic.{◌↔◌}
use Prim.Native.Nat.{ℕ, ◌^◌, ◌<◌}

module _ {X : Type 0} (N : X → ℕ) where
  -- the answer x is the case y
  pub case_fits : {x y : X} → x ≡ y → N x < 2 ^ 64 → N y < 2 ^ 64
  case_fits e h = subst (λ (z : X). N z < 2 ^ 64) e h

  pub case_number : {x y : X} {r : ℕ} → x ≡ y → r ≡ N y → r ≡ N x
  case_number e h = h ∙ sym (ap N e)

  -- t reads an answer from its number
  pub read_back : (t : ℕ → X) {x y : X} → t (N x) ≡ x → t (N y) ≡ y → (N x ≡ N y) ↔ (x ≡ y)
  read_back t tx ty = (λ e. sym tx ∙ (ap t e ∙ ty), ap N)
