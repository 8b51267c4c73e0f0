-- A scanner that moves on twice. Assumes nothing.
use mathlib.Core.Path.{◌∙◌}
use mathlib.Core.Bool.{Bool, cond}
use Prim.Native.Nat.{ℕ}
use native.Mathlib.Omega.{arith}
use Rattle.tokens.specs.declared.scanner.Scanner.{Scanner}
use Rattle.tokens.specs.Scanners.{Ahead, Moved}

pub ahead_moved : {b : Bool} {k : ℕ} {x y : Scanner} → Moved b k x y → Ahead (cond b k 0) x y
ahead_moved m = record { text = m.text; forward = m.forward }

pub ahead_append : {j k : ℕ} {x y z : Scanner} → Ahead j x y → Ahead k y z → Ahead j x z
ahead_append a b = record { text = b.text ∙ a.text; forward = omega (arith, a.forward, b.forward) }
