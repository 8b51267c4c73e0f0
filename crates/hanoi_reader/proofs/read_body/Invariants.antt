-- `read_body` meets its contract: between two parts the code holds the description so far. Assumes nothing.
use Rattle.std.proofs.Common.{◌≡◌, ◌-◌, length}
use Rattle.hanoi_reader.proofs.ReadLaws.{Going}
use Rattle.hanoi_reader.proofs.read_body.Given as goal

abbrev pub invariant-loop : goal.invariant-loop
invariant-loop l = Going l.fn.scanner.text.now l.scanner l.body × (l.body.automaton.ghost_name ≡ l.initial.body.automaton.ghost_name)

abbrev pub decreases-loop : goal.decreases-loop
decreases-loop l = length l.scanner.text.now - l.scanner.at
