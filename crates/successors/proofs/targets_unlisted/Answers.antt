-- `successors::targets_unlisted` meets its contract: the union of the two sets, bit by bit. Assumes nothing.
use mathlib.Core.Path.{◌∙◌, ap₂}
use mathlib.Core.Bool.{◌||◌}
use Rattle.automaton.proofs.Bits.{bit_of_or}
use Rattle.successors.proofs.targets_unlisted.Goals as goal

pub returns : goal.returns
returns c t = bit_of_or _ _ t ∙ ap₂ ◌||◌ (c.unlisted.ensures t) (c.unlisted-2.ensures t)
