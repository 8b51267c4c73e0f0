-- Counters with their key.
--   HasKey cs key    cs are 32 counters, and key is theirs
-- Nothing settles it: only contracts between functions name it. Assumes nothing.
use Rattle.std.specs.Prelude.{◌≡◌, List, ℕ, ◌<◌, length}
use Rattle.automaton.specs.Automata.{max_states}
use Rattle.classes.specs.Classes.{key_of, keys}

pub record HasKey (cs : List ℕ) (key : ℕ) : Type 0 where
  pub long : length cs ≡ max_states
  pub key_is : key ≡ key_of cs
  pub key_below : key < keys
