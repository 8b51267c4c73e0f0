-- `numbered` meets its contract: the word, and then the number. Assumes nothing.
use Rattle.std.proofs.Common.{◌∙◌}
use Rattle.hanoi_header.proofs.numbered.Goals as goal

pub returns-in-Ok-clause-meaning : goal.returns-in-Ok-clause-meaning
returns-in-Ok-clause-meaning c = λ ok agrees go. c.in_ok-expect.ensures.meaning _ ∙ rw (← c.in_ok-expect.ensures.moved.text) (c.in-Ok.ensures.meaning ok agrees go)

pub returns-in-Err-clause-meaning : goal.returns-in-Err-clause-meaning
returns-in-Err-clause-meaning c = λ ok agrees go. c.in_ok-expect.ensures.meaning _ ∙ rw (← c.in_ok-expect.ensures.moved.text) (c.in-Err.ensures.meaning ok agrees go)
