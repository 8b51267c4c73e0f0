-- `put_targets` meets its contract: the records of the members of the row. Assumes nothing.
use native.Mathlib.Omega.{arith}
use Rattle.writer.proofs.Records.{listing_start, listing_room, listing_more, listing_end}
use Rattle.writer.proofs.WrittenParts.{targets_word}
use Rattle.writer.proofs.putting.put_targets.Goals as goal

pub loop-r-init : goal.loop-r-init
loop-r-init c = let v = c.args in
    let s = c.states_below-r-items.ensures in
    listing_start v.out.now c.into_iter-r-iterator.ensures.into_iter_gives s.states s.below
    (targets_word v.valid.automaton.now (omega (arith, v.valid.in_range)) c.row-row.result v.q v.a c.requires.0.0 c.requires.0.1 c.row-row.ensures) c.requires.1

pub put_text-requires : goal.put_text-requires
put_text-requires c = listing_room c.loop-r.invariant c.in-Some.r _ c.in-Some.ensures.steps c.requires.1

pub loop-r-preserved : goal.loop-r-preserved
loop-r-preserved c = listing_more c.loop-r.invariant c.in-Some.r _ c.in-Some.ensures.steps c.put_text.ensures

pub returns : goal.returns
returns c = listing_end c.loop-r.invariant c.in-None.ensures.steps.0
