-- `relations::count_below` meets its contract: the digits of the word without those from n on are counted. Assumes nothing.
use mathlib.Core.Path.{ap, ◌∙◌}
use native.Mathlib.Omega.{arith}
use lib.Count.{ones, ones-le}
use Rattle.automaton.proofs.Counts.{ones_below}
use Rattle.relations.proofs.count_below.Goals as goal

pub returns : goal.returns
returns c =
    (ap ones c.below.ensures ∙ ones_below c.args.set c.args.n, ones-le 32 c.below.result (omega arith))
