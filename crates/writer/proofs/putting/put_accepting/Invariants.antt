-- `put_accepting` meets its contract: the records of the members of the set. Assumes nothing.
use Rattle.format.specs.Writing.{accepting_item}
use Rattle.fixed_form.specs.FixedForm.{accepting_items}
use Rattle.writer.proofs.Records.{Listing}
use Rattle.writer.proofs.putting.put_accepting.Given as goal

abbrev pub invariant-loop-q : goal.invariant-loop-q
invariant-loop-q l = let A = l.valid.automaton.now in Listing accepting_item A.states (accepting_items A) l.initial.out l.q-iterator l.out
