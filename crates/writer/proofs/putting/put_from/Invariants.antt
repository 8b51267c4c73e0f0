-- `put_from` meets its contract: the records on each letter, one after another. Assumes nothing.
use Rattle.writer.specs.Parts.{target_items}
use Rattle.writer.proofs.Records.{Chaining}
use Rattle.writer.proofs.putting.put_from.Given as goal

abbrev pub invariant-loop-a : goal.invariant-loop-a
invariant-loop-a l = let A = l.valid.automaton.now in Chaining (target_items A l.q) A.letters l.initial.out l.a l.out
