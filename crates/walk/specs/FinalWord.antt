-- The word of a final vertex, for the contract of `final_word`.
--   final_word_in  the word of a final vertex at a place, read in the slots: the parent's word, and the letter by which it was found
-- Shown by `final_word_is`: after a walk that ended, the word read in the slots is the walk's. Assumes nothing.
use Rattle.std.specs.Prelude.{List, [], ◌∷◌, ◌++◌, ℕ, zero, suc}
use Rattle.slots.specs.Bytes.{word_at}

unfoldable pub final_word_in : List ℕ → ℕ → ℕ → ℕ → List ℕ
final_word_in work zero letter parent = []
final_word_in work (suc place) letter parent = word_at work parent ++ letter ∷ []
