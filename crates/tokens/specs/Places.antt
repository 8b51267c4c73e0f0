-- What stands at a place, and the place behind it; only contracts between functions name these. A number is held as 1,000 at most: every limit that it is
-- compared with is below, and a larger one is outside all of them whatever its digits are.
--   token_at w s i   the place behind the token with the bytes w at place i, if it stands there
--   byte_from b s j  the place behind the byte b at place j, if it stands there
--   mark_at b s i    the same past white space from place i on
--   name_at s i      the place behind the quoted name at place i, if one stands there
--   capped n         a number as the code holds it, and the place behind it
-- Assumes nothing.
use Rattle.std.specs.Prelude.{true, false, List, [], ◌∷◌, ℕ, ◌+◌, min, eqb, drop, Option, Some, None, option_and_then}
use Rattle.tokens.specs.Tokens.{byte_at, skip, stands, behind, Number, none, number, name_bytes}

unfoldable pub token_at : List ℕ → List ℕ → ℕ → Option ℕ
token_at w s i = elim (stands w s i) [ true ↦ Some (behind w s i) | false ↦ None ]

unfoldable pub byte_from : ℕ → List ℕ → ℕ → Option ℕ
byte_from b s j = elim (eqb (byte_at s j) b) [ true ↦ Some (j + 1) | false ↦ None ]

abbrev pub mark_at : ℕ → List ℕ → ℕ → Option ℕ
mark_at b s i = byte_from b s (skip s i)

-- the name's bytes begin at place j
unfoldable pub name_from : List ℕ → ℕ → Option ℕ
name_from s j =
    elim (eqb (byte_at s (j + name_bytes (drop j s))) 0x22) [ true ↦ Some (j + name_bytes (drop j s) + 1) | false ↦ None ]

abbrev pub name_at : List ℕ → ℕ → Option ℕ
name_at s i = option_and_then (name_from s) (token_at (0x22 ∷ []) s i)

abbrev pub capped : Number → Option (ℕ × ℕ)
capped none = None
capped (number v j) = Some (min v 1000, j)
