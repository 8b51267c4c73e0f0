-- `read_records` meets its contract. The invariant: the file is read up to the position, with the automaton so far; the measure is the number of
-- bytes left. Assumes nothing.
use Prim.Native.Nat.{◌-◌, ◌≤◌}
use mathlib.Core.Path.{◌≡◌}
use lib.ListN.{length}
use Rattle.file.proofs.RecordParts.{ReadTo}
use Rattle.file.proofs.read_records.Given as goal

abbrev pub invariant-loop-state : goal.invariant-loop-state
invariant-loop-state l =
    (l.reader.file.now ≡ l.file) × (l.reader.at ≤ length l.file) × (l.automaton.states ≤ 32) × (l.automaton.letters ≤ 16) × ReadTo l.file l.reader.at l.automaton

abbrev pub decreases-loop-state : goal.decreases-loop-state
decreases-loop-state l = length l.file - l.reader.at
