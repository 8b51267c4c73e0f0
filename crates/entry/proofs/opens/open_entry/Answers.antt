-- `entry::opens::open_entry` meets its contract: what it answers and leaves is the definition's, check by check, and demand 1 is the chapter's theorem.
-- Assumes nothing.
use Rattle.history.proofs.CallDemands.{open_demand_1}
use Rattle.entry.proofs.opens.open_entry.Goals as goal

pub returns-then-malformed-clause-demand1 : goal.returns-then-malformed-clause-demand1
returns-then-malformed-clause-demand1 c = open_demand_1 _ _

pub returns-then-entry-clause-demand1 : goal.returns-then-entry-clause-demand1
returns-then-entry-clause-demand1 c = open_demand_1 _ _

pub returns-in_err-map_err-clause-demand1 : goal.returns-in_err-map_err-clause-demand1
returns-in_err-map_err-clause-demand1 c = open_demand_1 _ _

pub returns-then-has_dead-clause-demand1 : goal.returns-then-has_dead-clause-demand1
returns-then-has_dead-clause-demand1 c = open_demand_1 _ _

pub returns-clause-demand1 : goal.returns-clause-demand1
returns-clause-demand1 c = open_demand_1 _ _
