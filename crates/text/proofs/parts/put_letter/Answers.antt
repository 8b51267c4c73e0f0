-- `text::parts::put_letter` meets its contract: a space, and a number below 256, which has at most 3 digits. Assumes nothing.
use native.Mathlib.Omega.{arith}
use Rattle.buffers.proofs.Cursors.{added_append, added_length}
use Rattle.text.proofs.Decimals.{decimal_length}
use Rattle.text.proofs.parts.put_letter.Goals as goal

pub put_digits-requires : goal.put_digits-requires
put_digits-requires c = omega (arith, decimal_length 2 c.args.letter (omega arith), added_length c.put_byte.ensures)

pub returns-clause-added : goal.returns-clause-added
returns-clause-added c = added_append c.put_byte.ensures c.put_digits.ensures

pub returns-clause-upper_bound : goal.returns-clause-upper_bound
returns-clause-upper_bound c = omega (arith, decimal_length 2 c.args.letter (omega arith))
