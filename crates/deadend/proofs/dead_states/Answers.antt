-- `deadend::dead_states` meets its contract: the flags of the set of dead states are their table. Assumes nothing.
use mathlib.Core.Path.{◌∙◌}
use mathlib.Core.Bool.{false}
use Rattle.std.proofs.Common.{rules, tests}
use Rattle.automaton.specs.Sets.{bit}
use Rattle.relations.proofs.Calls.{array_made}
use Rattle.deadend.proofs.WordDeadEnds.{dead_flags}
use Rattle.deadend.proofs.dead_states.Goals as goal

pub returns : goal.returns
returns c =
    let dead = c.dead_set-dead in
    array_made (bit dead.result) (λ x y q k. search (rules, tests)) c.from_fn.result false 32 c.from_fn.ensures.items
    ∙ dead_flags c.args.valid.automaton.now dead.result dead.ensures
