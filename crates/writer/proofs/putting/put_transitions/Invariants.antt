-- `put_transitions` meets its contract: the records from each state, one after another. Assumes nothing.
use Rattle.writer.specs.Parts.{from_items}
use Rattle.writer.proofs.Records.{Chaining}
use Rattle.writer.proofs.putting.put_transitions.Given as goal

abbrev pub invariant-loop-q : goal.invariant-loop-q
invariant-loop-q l = let A = l.valid.automaton.now in Chaining (from_items A) A.states l.initial.out l.q l.out
