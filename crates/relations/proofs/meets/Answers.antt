-- `relations::meets` meets its contract: a word with a bit set is not 0. Assumes nothing.
use native.Mathlib.Omega.{arith}
use Rattle.relations.proofs.Rows.{words_meet}
use Rattle.relations.proofs.meets.Goals as goal

pub returns : goal.returns
returns c = words_meet c.args.left c.args.right (omega arith) (omega arith)
