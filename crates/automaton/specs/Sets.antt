-- Sets of states, held eight states to a byte (01, "Dead ends").
--   bit w i         bit i of the number w is set
--   with_bit w i    w with bit i set
--   member S q      state q is in the set S: bit q % 8 of byte q / 8
--   least_member w  the lowest bit of a byte that is set; of 0 it is 8
--   Bytes n s       s are n bytes
-- Shown by `least_holds` and `least_before`: the least member is a member, and none is lower; by `trailing_least`: it is the number of zeros at
-- the end of the byte's eight binary digits, which the code counts (02, S-3); by `least_ends`: its values at 0, 1, 96 and 128. Assumes nothing.
use Rattle.std.specs.Prelude.{◌≡◌, Bool, List, ℕ, ◌/◌, ◌%◌, ◌^◌, ◌<◌, eqb, length, get_or}
use Rattle.std.specs.Int.Bits.{bit_or}
use Rattle.automaton.specs.Ranges.{next_from}

abbrev pub bit : ℕ → ℕ → Bool
bit w i = eqb (w / 2 ^ i % 2) 1

abbrev pub with_bit : ℕ → ℕ → ℕ
with_bit w i = bit_or w (2 ^ i)

abbrev pub member : List ℕ → ℕ → Bool
member S q = bit (get_or S (q / 8) 0) (q % 8)

unfoldable pub least_member : ℕ → ℕ
least_member w = next_from (bit w) 8 0

-- so many bytes, each below 256
pub record Bytes (n : ℕ) (s : List ℕ) : Type 0 where
  pub size : length s ≡ n
  pub small : (i : ℕ) → get_or s i 0 < 256
