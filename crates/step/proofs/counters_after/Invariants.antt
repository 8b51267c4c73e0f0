-- `step::counters_after` meets its contract. The loop's invariant: the counters written so far are those of the table. Assumes nothing.
use lib.ListN.{get_or}
use Rattle.step.specs.Steps.{counter_at}
use Rattle.step.proofs.SteppedBytes.{TableWritten}
use Rattle.step.proofs.counters_after.Given as goal

abbrev pub invariant-loop-r : goal.invariant-loop-r
invariant-loop-r l = TableWritten (λ k. counter_at (get_or l.tops k 0) l.visits (get_or l.largest k 0)) l.after l.r
