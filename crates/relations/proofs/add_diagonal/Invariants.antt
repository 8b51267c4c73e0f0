-- `relations::add_diagonal` meets its contract. The loop's invariant: each row below p has its own state besides, and the others
-- are as they were. Assumes nothing.
use mathlib.Core.Path.{◌≡◌}
use lib.ListN.{get_or}
use Rattle.automaton.specs.Sets.{with_bit}
use Rattle.relations.proofs.Rows.{Rewritten}
use Rattle.relations.proofs.add_diagonal.Given as goal

abbrev pub invariant-loop-p : goal.invariant-loop-p
invariant-loop-p l = Rewritten (λ i w. w ≡ with_bit (get_or l.initial.rows i 0) i) l.initial.rows l.p l.rows
