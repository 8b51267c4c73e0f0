-- The tokens of a Hanoi text (02, S-2), computed at a place of it. A text is a list of bytes, and a place the number of bytes before it. White space is
-- passed before every token, and a token that begins with a letter or digit does not stand right behind one.
--   white, digit, alphanumeric, name_byte  the kinds of bytes: white space, digits, letters and digits, what a quoted name may hold
--   byte_at s j       the byte at place j; byte_before s j the one before it
--   skip s i         the first place from i on that holds no white space
--   touches s j      the bytes at place j and before it are both letters or digits
--   stands w s i     past white space from place i on stands the token with the bytes w
--   behind w s i     the place behind it
--   number_at s i    the number there and the place behind it; a number is all digits that stand together, and one with several begins with no 0
--   name_bytes s     the number of bytes in front of s that a name may hold
-- Shown by `token_lexical`, `number_lexical` and `name_lexical`: these are the tokens, numbers and names of `Lexical`. Assumes nothing.
use Rattle.std.specs.Prelude.{Bool, true, false, ◌&&◌, ◌||◌, not, List, [], ◌∷◌, ℕ, suc, ◌+◌, ◌-◌, ◌*◌, eqb, leb, length, get_or, drop}

-- space, tab, 0A and 0D
abbrev pub white : ℕ → Bool
white b = eqb b 0x20 || eqb b 0x09 || eqb b 0x0A || eqb b 0x0D

abbrev pub digit : ℕ → Bool
digit b = leb 0x30 b && leb b 0x39

abbrev pub alphanumeric : ℕ → Bool
alphanumeric b = digit b || (leb 0x41 b && leb b 0x5A) || (leb 0x61 b && leb b 0x7A)

-- what can be printed, but for the quote and the backslash
abbrev pub name_byte : ℕ → Bool
name_byte b = leb 0x20 b && leb b 0x7E && not (eqb b 0x22) && not (eqb b 0x5C)

-- past the end 0, which is in no token
abbrev pub byte_at : List ℕ → ℕ → ℕ
byte_at s j = get_or s j 0

-- the number of bytes of white space in front
unfoldable pub whites : List ℕ → ℕ
whites [] = 0
whites (b ∷ s) = elim (white b) [ true ↦ suc (whites s) | false ↦ 0 ]

unfoldable pub skip : List ℕ → ℕ → ℕ
skip s i = i + whites (drop i s)

-- a blank counts as standing before the first byte
abbrev pub byte_before : List ℕ → ℕ → ℕ
byte_before s j = get_or (0x20 ∷ s) j 0

abbrev pub touches : List ℕ → ℕ → Bool
touches s j = alphanumeric (byte_before s j) && alphanumeric (byte_at s j)

unfoldable pub starts_with : List ℕ → List ℕ → Bool
starts_with [] s = true
starts_with (b ∷ w) [] = false
starts_with (b ∷ w) (c ∷ s) = eqb b c && starts_with w s

unfoldable pub stands : List ℕ → List ℕ → ℕ → Bool
stands w s i = starts_with w (drop (skip s i) s) && not (touches s (skip s i))

abbrev pub behind : List ℕ → List ℕ → ℕ → ℕ
behind w s i = skip s i + length w

-- none, or a value and the place behind it
pub data Number : Type 0 where
  none : Number
  number : ℕ → ℕ → Number

-- the number of digits in front
unfoldable pub digits : List ℕ → ℕ
digits [] = 0
digits (b ∷ s) = elim (digit b) [ true ↦ suc (digits s) | false ↦ 0 ]

-- their value, behind digits of the value v; it has no limit
unfoldable pub value : ℕ → List ℕ → ℕ
value v [] = v
value v (b ∷ s) = elim (digit b) [ true ↦ value (10 * v + (b - 0x30)) s | false ↦ v ]

-- all digits from place j on
abbrev pub digits_at : List ℕ → ℕ → Number
digits_at s j = number (value 0 (drop j s)) (j + digits (drop j s))

unfoldable pub number_at : List ℕ → ℕ → Number
number_at s i =
    let j = skip s i in
    elim (digit (byte_at s j)) [
      | true ↦ elim (eqb (byte_at s j) 0x30 && digit (byte_at s (j + 1))) [
        | true ↦ none
        | false ↦ digits_at s j
      ]
      | false ↦ none
    ]

unfoldable pub name_bytes : List ℕ → ℕ
name_bytes [] = 0
name_bytes (b ∷ s) = elim (name_byte b) [ true ↦ suc (name_bytes s) | false ↦ 0 ]
