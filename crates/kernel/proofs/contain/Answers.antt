-- `kernel::contain` meets its contract: the number is the outcome's, and demand 1 is the chapter's theorem. Assumes nothing.
use Rattle.kernel.proofs.BytesDemand1.{contain_call_demand_1}
use Rattle.kernel.proofs.contain.Goals as goal

pub returns-clause-demand1 : goal.returns-clause-demand1
returns-clause-demand1 c = contain_call_demand_1 _ _ _ _ _
