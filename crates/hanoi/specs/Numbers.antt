-- The numbers of a text's refusals (01, the table of refusals; 02, S-2).
--   text_number r   the number of the refusal r
-- Assumes nothing.
use Rattle.std.specs.Prelude.{ℕ}
use Rattle.hanoi.specs.declared.TextRefusal.{TextRefusal}
use Rattle.hanoi.specs.declared.TextRefusal.TheVariants.{HeaderValues, OutsideHeader, OutsideSubset, ManyPropositions}

abbrev pub text_number : TextRefusal → ℕ
text_number HeaderValues = 3
text_number OutsideHeader = 4
text_number OutsideSubset = 17
text_number ManyPropositions = 18
