-- `text::parts::put_letters` meets its contract. The loop's invariant: the letters before the index are written, in at most 4 bytes each.
-- Assumes nothing.
use mathlib.Core.Path.{sym}
use native.Mathlib.Omega.{arith}
use Rattle.text.specs.Text.{letters}
use Rattle.buffers.proofs.Cursors.{added_nothing, added_append, added_as}
use Rattle.text.proofs.Letters.{letters_more}
use Rattle.text.proofs.parts.put_letters.Goals as goal

pub loop-letter-init : goal.loop-letter-init
unfolding letters
loop-letter-init c = record { added = added_nothing c.args.line.now (omega arith); upper_bound = omega arith }

pub loop-letter-preserved : goal.loop-letter-preserved
loop-letter-preserved c = let l = c.loop-letter in
    record {
      added = added_as (sym (letters_more c.args.word.now l.letter-index (omega arith))) (added_append l.invariant.added c.put_letter.ensures.added);
      upper_bound = omega arith;
    }
