-- A scanner that moves on in its text; only contracts between functions name these.
--   Ahead k x y      y is the scanner x, at a place that is k bytes further or more
--   Moved b k x y    so it is where b is true; else y is x
-- Assumes nothing.
use Rattle.std.specs.Prelude.{◌≡◌, Bool, false, cond, ℕ, ◌+◌, ◌≤◌}
use Rattle.tokens.specs.declared.scanner.Scanner.{Scanner}

pub record Ahead (k : ℕ) (x y : Scanner) : Type 0 where
  pub text : y.text ≡ x.text
  pub forward : x.at + k ≤ y.at

pub record Moved (b : Bool) (k : ℕ) (x y : Scanner) : Type 0 where
  pub text : y.text ≡ x.text
  pub forward : x.at + cond b k 0 ≤ y.at
  pub stays : b ≡ false → y.at ≡ x.at
