-- `proposition_mask` meets its contract. Assumes nothing.
use Rattle.std.proofs.Common.{◌≡◌, ℕ, zero, suc, ◌≤◌, refl, arith}
use Rattle.labels.specs.Labels.{proposition_mask}
use Rattle.label_reader.proofs.proposition_mask.Goals as goal

last : (p : ℕ) → 3 ≤ p → 0xFF00 ≡ proposition_mask p
unfolding proposition_mask
last zero l = absurd (omega arith)
last (suc zero) l = absurd (omega arith)
last (suc (suc zero)) l = absurd (omega arith)
last (suc (suc (suc p))) l = refl

pub returns-in-0 : goal.returns-in-0
unfolding proposition_mask
returns-in-0 c = rw c.in-0.is refl

pub returns-in-1 : goal.returns-in-1
unfolding proposition_mask
returns-in-1 c = rw c.in-1.is refl

pub returns-in-2 : goal.returns-in-2
unfolding proposition_mask
returns-in-2 c = rw c.in-2.is refl

pub returns-in_default : goal.returns-in_default
returns-in_default c = last c.args.p (omega arith)
