-- The percents that halves decide, and some numbers in decimal, computed from the definitions. Assumes nothing.
use mathlib.Core.Path.{◌≡◌, refl}
use mathlib.Core.List.{[], ◌∷◌}
use Rattle.text.specs.Text.{digits, decimal, percent_saved}

-- halves go up
pub percents : (percent_saved 4 3 ≡ 25) × (percent_saved 8 7 ≡ 13) × (percent_saved 8 5 ≡ 38) × (percent_saved 3 2 ≡ 33)
    × (percent_saved 32 1 ≡ 97)
unfolding percent_saved
percents = (refl, refl, refl, refl, refl)

pub decimals : (decimal 0 ≡ 0x30 ∷ []) × (decimal 10 ≡ 0x31 ∷ 0x30 ∷ [])
    × (decimal 183071 ≡ 0x31 ∷ 0x38 ∷ 0x33 ∷ 0x30 ∷ 0x37 ∷ 0x31 ∷ [])
unfolding decimal digits
decimals = (refl, refl, refl)
