-- `next_record` meets its contract: behind the record what is left of the file is what the pattern leaves. Assumes nothing.
use Rattle.records.proofs.Rests.{rest_behind}
use Rattle.records.proofs.Reader.next_record.Goals as goal

pub invariant_of-self : goal.invariant_of-self
invariant_of-self c = record { left = rest_behind c.args.self.now.file.now _ c.args.self.now.at 1 c.args.self.now.left }

pub invariant_of-self-in-65-eq84-len3-up : goal.invariant_of-self-in-65-eq84-len3-up
invariant_of-self-in-65-eq84-len3-up c = record { left = rest_behind c.args.self.now.file.now _ c.args.self.now.at 3 c.args.self.now.left }
