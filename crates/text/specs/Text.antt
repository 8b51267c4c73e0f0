-- Numbers and words of letters as text (01, "Listing").
--   digits k n             the last k digits of n, or all of them where there are fewer, highest first
--   decimal n              the digits of n
--   percent_saved          of so many first states, so many are held: the percent saved, halves up
--   letters w              the letters of a word in decimal, a space before each
-- Shown by `percents` and `decimals`, and by the contracts of `put_decimal`, `put_letters` and `percent_saved`. Assumes nothing.
use Rattle.std.specs.Prelude.{true, false, List, [], ◌∷◌, ◌++◌, ℕ, zero, suc, ◌+◌, ◌-◌, ◌*◌, ◌/◌, ◌%◌, ltb}

-- at most k digits
unfoldable pub digits : ℕ → ℕ → List ℕ
digits zero n = []
digits (suc k) n = elim (ltb n 10) [ true ↦ (0x30 + n) ∷ [] | false ↦ digits k (n / 10) ++ (0x30 + n % 10) ∷ [] ]

-- a number has no more digits than one more than itself
unfoldable pub decimal : ℕ → List ℕ
decimal n = digits (suc n) n

unfoldable pub percent_saved : ℕ → ℕ → ℕ
percent_saved first held = (200 * (first - held) + first) / (2 * first)

abbrev pub space : List ℕ
space = 0x20 ∷ []

-- the letters, each after a space
unfoldable pub letters : List ℕ → List ℕ
letters [] = []
letters (a ∷ w) = space ++ decimal a ++ letters w
