-- `propositions` meets its contract, by the call for the number. Assumes nothing.
use Rattle.hanoi_header.proofs.ItemLaws.{propositions_in}
use Rattle.hanoi_header.proofs.propositions.Goals as goal

pub returns-clause-meaning : goal.returns-clause-meaning
returns-clause-meaning c = λ go. c.numbered.ensures.meaning _ propositions_in go
