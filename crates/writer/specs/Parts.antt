-- The records of the fixed form part by part, as the code writes them; only contracts between functions name them.
--   target_items A q a  the records of the transitions from q on letter a
--   from_items A q      those of the transitions from q
-- Shown by the contract of `put_transitions`: those from all states are `transition_items`. Assumes nothing.
use Rattle.std.specs.Prelude.{List, map, ℕ}
use Rattle.automaton.specs.declared.Automaton.{Automaton}
use Rattle.automaton.specs.Ranges.{chained}
use Rattle.automaton.specs.Automata.{targets}
use Rattle.format.specs.Writing.{Item, transition_item}

abbrev pub target_items : Automaton → ℕ → ℕ → List Item
target_items A q a = map (transition_item q a) (targets A q a)

abbrev pub from_items : Automaton → ℕ → List Item
from_items A q = chained (target_items A q) A.letters 0
