-- `classes::lookups::class_of` meets its contract. Along the chain of the counters' key, the class lies at or below the slot where the walk stands,
-- and that slot's number falls. Assumes nothing.
use mathlib.Core.Path.{sym, ◌∙◌}
use Rattle.classes.proofs.Leaders.{chain_start, chain_next, chain_here}
use Rattle.classes.proofs.lookups.class_of.Goals as goal

pub loop-c-init : goal.loop-c-init
loop-c-init c = let k = c.args.keyed.keyed in chain_start _ _ _ k.key_is _ _ _ c.requires.1 k.key_below

pub returns-then-same_counters : goal.returns-then-same_counters
returns-then-same_counters c = let l = c.loop-c in
    let t = sym c.same_counters.ensures ∙ c.if-same_counters.true in
    chain_here _ _ _ l.invariant.key _ l.c l.invariant c.loop-c-test.true t

pub loop-c-smaller : goal.loop-c-smaller
loop-c-smaller c = let l = c.loop-c in
    let t = sym c.same_counters.ensures ∙ c.if-same_counters.false in
    (chain_next _ _ _ l.invariant.key _ _ _ c.requires.1 l.c l.invariant c.loop-c-test.true t).1

pub loop-c-preserved : goal.loop-c-preserved
loop-c-preserved c = let l = c.loop-c in
    let t = sym c.same_counters.ensures ∙ c.if-same_counters.false in
    (chain_next _ _ _ l.invariant.key _ _ _ c.requires.1 l.c l.invariant c.loop-c-test.true t).0
