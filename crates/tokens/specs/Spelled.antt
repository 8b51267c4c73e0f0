-- Texts as bytes: the characters of a quoted text of ASCII, a byte for each.
--   spelled w   the bytes that the quoted text w spells
-- Assumes nothing.
use mathlib.Core.List as list
use Rattle.std.specs.Prelude.{List, ℕ}
use Prim.Native.Char.{code}
use Prim.Native.String.{String, [], ◌∷◌}

abbrev pub spelled : String → List ℕ
spelled [] = list.[]
spelled (c ∷ s) = list.◌∷◌ (code c) (spelled s)
