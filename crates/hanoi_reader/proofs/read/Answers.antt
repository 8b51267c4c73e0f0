-- `read` meets its contract: the header decides, and the body is read from its end on. Assumes nothing.
use Rattle.std.proofs.Common.{rules}
use Rattle.hanoi_reader.proofs.ReadLaws.{unheaded, read_in_range}
use Rattle.hanoi_reader.proofs.read.Goals as goal

pub returns-in-Ok-clause-in_range : goal.returns-in-Ok-clause-in_range
returns-in-Ok-clause-in_range c = read_in_range _ _ _ c.read_body.ensures

pub returns-in-Err-clause-answer : goal.returns-in-Err-clause-answer
returns-in-Err-clause-answer c = unheaded _ _ _ (rw c.new-scanner.ensures.0 at c.in-Err.ensures.meaning c.new-scanner.ensures.1) (let a = c.start-in-Err.ensures in let b = c.default.ensures in search rules)
