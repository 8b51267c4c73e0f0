-- `contain::contain` meets its contract: its outcome and buffers are the definition's, check by check, and demands 1 and 2 are the chapter's theorems.
-- Assumes nothing.
use Rattle.answers.proofs.ContainDemand.{contain_demand_1}
use Rattle.answers.proofs.ContainTheorem.{demand_2}
use Rattle.contain.proofs.contain.Goals as goal

pub returns-in_err-map_err-clause-demand1 : goal.returns-in_err-map_err-clause-demand1
returns-in_err-map_err-clause-demand1 c = contain_demand_1 _ _ _ _ _

pub returns-in_err-map_err-clause-demand2 : goal.returns-in_err-map_err-clause-demand2
returns-in_err-map_err-clause-demand2 c = demand_2 _ _ _ _ _

pub returns-in_err-map_err-2-clause-demand1 : goal.returns-in_err-map_err-2-clause-demand1
returns-in_err-map_err-2-clause-demand1 c = contain_demand_1 _ _ _ _ _

pub returns-in_err-map_err-2-clause-demand2 : goal.returns-in_err-map_err-2-clause-demand2
returns-in_err-map_err-2-clause-demand2 c = demand_2 _ _ _ _ _

pub returns-clause-demand1 : goal.returns-clause-demand1
returns-clause-demand1 c = contain_demand_1 _ _ _ _ _

pub returns-clause-demand2 : goal.returns-clause-demand2
returns-clause-demand2 c = demand_2 _ _ _ _ _
