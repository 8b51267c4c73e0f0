-- `states_of` meets its contract: all are below 32. Assumes nothing.
use Rattle.automaton.specs.Sets.{bit}
use Rattle.relations.proofs.StateLists.{all_below}
use Rattle.relations.proofs.states.states_of.Goals as goal

pub returns-clause-below : goal.returns-clause-below
returns-clause-below c = all_below (bit c.args.set) 32
