-- `unions::double` meets its contract. The loop's invariant: m entries are made, from place size on. Assumes nothing.
use mathlib.Core.Path.{◌≡◌}
use lib.Bits.{bit_or}
use lib.ListN.{get_or}
use Rattle.relations.specs.Rows.{changed_rows}
use Rattle.unions.proofs.double.Given as goal

abbrev pub invariant-loop-m : goal.invariant-loop-m
invariant-loop-m l = l.entries ≡ changed_rows l.size l.m (λ m. bit_or (get_or l.initial.entries m 0) l.value) l.initial.entries
