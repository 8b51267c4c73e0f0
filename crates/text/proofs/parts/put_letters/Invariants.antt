-- `text::parts::put_letters` meets its contract. The loop's invariant: the letters before the index are written, in at most 4 bytes each.
-- Assumes nothing.
use Prim.Native.Nat.{◌+◌, ◌*◌, ◌≤◌}
use lib.ListN.{take}
use Rattle.buffers.specs.Cursors.{Added}
use Rattle.text.specs.Text.{letters}
use Rattle.text.proofs.parts.put_letters.Given as goal

abbrev pub invariant-loop-letter : goal.invariant-loop-letter
invariant-loop-letter l = record {
  added : Added l.initial.line (letters (take l.letter-index l.word)) l.line;
  upper_bound : l.line.at ≤ l.initial.line.at + 4 * l.letter-index;
}
