-- `header_values` meets its contract: it is the same test. Assumes nothing.
use mathlib.Core.Path.{refl}
use Rattle.automaton.specs.Automata.{header_values}
use Rattle.automaton.proofs.header_values.Goals as goal

pub returns : goal.returns
unfolding header_values
returns c = refl
