-- `names` meets its contract: what is left of the names from the present place on comes to what all of them come to. Assumes nothing.
use Rattle.std.proofs.Common.{◌≡◌, ℕ, ◌-◌}
use Rattle.tokens.specs.Scanners.{Ahead}
use Rattle.hanoi.specs.Reading.{Step, names}
use Rattle.hanoi_header.proofs.names.Given as goal

abbrev pub invariant-loop : goal.invariant-loop
invariant-loop l = record {
  left : (go : ℕ → Step) → names l.count l.initial.scanner.text.now l.initial.scanner.at go ≡ names (l.count - l.counter) l.scanner.text.now l.scanner.at go;
  ahead : Ahead 0 l.initial.scanner l.scanner;
}
