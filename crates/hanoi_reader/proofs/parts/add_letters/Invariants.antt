-- `add_letters` meets its contract: with the letters from the present one on added, it is what all letters come to. Assumes nothing.
use Rattle.std.proofs.Common.{◌≡◌, ◌-◌}
use Rattle.hanoi_reader.specs.Taking.{with_mask}
use Rattle.hanoi_reader.proofs.parts.add_letters.Given as goal

abbrev pub invariant-loop-a : goal.invariant-loop-a
invariant-loop-a l =
    with_mask l.initial.automaton l.q l.mask l.r l.a-end 0 ≡ with_mask l.automaton l.q l.mask l.r (l.a-end - l.a) l.a
