-- Members as the code looks them up, in the bytes of a set and of an automaton's transitions; only contracts between functions name them.
-- Shown by `transition_bit_lem`: between the header's states, on its letters, the bit is the transition of `Automata`.
--   transition_in t q a r  the bit for the transition from q on letter a to r in the bytes t
--   with_member s q        the bytes s with the bit for state q set
-- Assumes nothing.
use Rattle.std.specs.Prelude.{Bool, List, ℕ, ◌/◌, ◌%◌, get_or, set}
use Rattle.automaton.specs.Sets.{bit, with_bit}
use Rattle.automaton.specs.Automata.{place}

abbrev pub transition_in : List ℕ → ℕ → ℕ → ℕ → Bool
transition_in t q a r = bit (get_or t (place q a r) 0) (r % 8)

abbrev pub with_member : List ℕ → ℕ → List ℕ
with_member s q = set s (q / 8) (with_bit (get_or s (q / 8) 0) (q % 8))
