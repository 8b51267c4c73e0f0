-- Labels of Hanoi edges and what they say (02, S-2).
--   max_depth      the most `!` and pairs of parentheses around a place of a label, counted together
--   Label          a label as a syntax tree
--   truth L a      the letter number a makes the label L true: proposition 0 is its lowest bit
--   Below k L      each proposition of L is below k
--   mask_of L       the truth on letters 0 to 15 as one number, a bit for each letter
-- Shown by `mask_truth`: bit a of `mask_of L` is the truth of L at letter a, for the 16 letters of four propositions. Assumes nothing.
use Rattle.std.specs.Prelude.{Bool, true, false, ◌&&◌, ◌||◌, not, ℕ, zero, suc, ◌-◌, ◌<◌}
use Rattle.std.specs.Int.Bits.{bit_and, bit_or}
use Rattle.automaton.specs.Sets.{bit}

-- the most `!` and parentheses around a place
abbrev pub max_depth : ℕ
max_depth = 64

pub data Label : Type 0 where
  always : Label
  never : Label
  proposition : ℕ → Label
  negation : Label → Label
  both : Label → Label → Label
  either : Label → Label → Label

unfoldable pub truth : Label → ℕ → Bool
truth always a = true
truth never a = false
truth (proposition p) a = bit a p
truth (negation L) a = not (truth L a)
truth (both L M) a = truth L a && truth M a
truth (either L M) a = truth L a || truth M a

unfoldable pub Below : ℕ → Label → Type 0
Below k always = Unit {0}
Below k never = Unit {0}
Below k (proposition p) = p < k
Below k (negation L) = Below k L
Below k (both L M) = Below k L × Below k M
Below k (either L M) = Below k L × Below k M

-- the letters 0 to 15 that have bit p
unfoldable pub proposition_mask : ℕ → ℕ
proposition_mask zero = 0xAAAA
proposition_mask (suc zero) = 0xCCCC
proposition_mask (suc (suc zero)) = 0xF0F0
proposition_mask (suc (suc (suc p))) = 0xFF00

unfoldable pub mask_of : Label → ℕ
mask_of always = 0xFFFF
mask_of never = 0
mask_of (proposition p) = proposition_mask p
mask_of (negation L) = 0xFFFF - mask_of L
mask_of (both L M) = bit_and (mask_of L) (mask_of M)
mask_of (either L M) = bit_or (mask_of L) (mask_of M)
