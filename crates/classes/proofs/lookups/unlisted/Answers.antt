-- `classes::lookups::unlisted` meets its contract: a word without what it has in common with another has the bits that the other lacks.
-- Assumes nothing.
use Rattle.classes.proofs.ListedStates.{some_unlisted}
use Rattle.classes.proofs.lookups.unlisted.Goals as goal

pub returns : goal.returns
returns c t = some_unlisted c.args.listed.now _ _ t c.if-class-eq0.false
