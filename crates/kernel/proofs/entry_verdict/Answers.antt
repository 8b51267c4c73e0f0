-- `kernel::entry_verdict` meets its contract: bytes of no entry are refused, and of an entry's bytes verdict decides. Demand 1 is the chapter's theorem.
-- Assumes nothing.
use Rattle.kernel.proofs.BytesDemand1.{entry_verdict_demand_1}
use Rattle.kernel.proofs.entry_verdict.Goals as goal

pub returns-then-not-is_entry-clause-demand1 : goal.returns-then-not-is_entry-clause-demand1
returns-then-not-is_entry-clause-demand1 c = entry_verdict_demand_1 _ _ _
