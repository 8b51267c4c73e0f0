-- `start` meets its contract, by the call for the number. Assumes nothing.
use Rattle.hanoi_header.proofs.ItemLaws.{below_in}
use Rattle.hanoi_header.proofs.start.Goals as goal

pub returns-clause-meaning : goal.returns-clause-meaning
returns-clause-meaning c = λ go. c.numbered.ensures.meaning _ (below_in c.args.states) go
