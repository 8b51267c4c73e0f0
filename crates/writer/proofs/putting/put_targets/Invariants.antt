-- `put_targets` meets its contract: the records of the members of the row. Assumes nothing.
use Rattle.format.specs.Writing.{transition_item}
use Rattle.writer.specs.Parts.{target_items}
use Rattle.writer.proofs.Records.{Listing}
use Rattle.writer.proofs.putting.put_targets.Given as goal

abbrev pub invariant-loop-r : goal.invariant-loop-r
invariant-loop-r l = let A = l.valid.automaton.now in Listing (transition_item l.q l.a) A.states (target_items A l.q l.a) l.initial.out l.r-iterator l.out
