-- `deadend::states_where` meets its contract. The loop's invariant: the states below q are tested. Assumes nothing.
use Rattle.deadend.proofs.Tested.{Tested}
use Rattle.deadend.proofs.states_where.Given as goal

abbrev pub invariant-loop-q : goal.invariant-loop-q
invariant-loop-q g l = Tested (λ k b. goal.F-post g l.test k b) l.q l.found
