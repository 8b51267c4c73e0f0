-- A letter outside is one that the test finds. Assumes nothing.
use mathlib.Core.Path.{◌≡◌, refl, ap}
use mathlib.Core.Bool.{Bool, false, ◌||◌}
use mathlib.Core.List.{List, [], ◌∷◌}
use Prim.Native.Nat.{ℕ}
use lib.Dec.{leb}
use Rattle.std.specs.List.{list_any}
use Rattle.history.specs.Verdicts.{outside}

pub outside_any : (k : ℕ) (w : List ℕ) → list_any (leb k) w ≡ outside k w
unfolding outside
outside_any k [] = refl
outside_any k (a ∷ w) = ap (λ b. leb k a || b) (outside_any k w)

-- where the first test of a chain fails, the others decide
pub passed : {t a b c d : Bool} → t ≡ false → a ≡ c → b ≡ d → (a || b) ≡ (t || c || d)
passed e f g = rw (e, f, g) refl
