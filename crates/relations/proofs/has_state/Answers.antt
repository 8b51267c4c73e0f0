-- `relations::has_state` meets its contract: a word with a bit set is not 0. Assumes nothing.
use native.Mathlib.Omega.{arith}
use Rattle.relations.proofs.Rows.{word_has}
use Rattle.relations.proofs.has_state.Goals as goal

pub returns : goal.returns
returns c = word_has c.args.set (omega arith)
