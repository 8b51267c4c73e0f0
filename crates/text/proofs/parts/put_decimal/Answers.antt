-- `text::parts::put_decimal` meets its contract: a number below 2 ^ 64 has at most 20 digits. Assumes nothing.
use native.Mathlib.Omega.{arith}
use Rattle.text.proofs.Decimals.{decimal_length}
use Rattle.text.proofs.parts.put_decimal.Goals as goal

pub put_digits-requires : goal.put_digits-requires
put_digits-requires c = omega (arith, decimal_length 19 c.args.n (omega arith))

pub returns-clause-upper_bound : goal.returns-clause-upper_bound
returns-clause-upper_bound c = omega (arith, decimal_length 19 c.args.n (omega arith))
