-- `put_accepting` meets its contract: the records of the members of the set. Assumes nothing.
use native.Mathlib.Omega.{arith}
use Rattle.writer.proofs.Records.{listing_start, listing_room, listing_more, listing_end}
use Rattle.writer.proofs.WrittenParts.{accepting_word}
use Rattle.writer.proofs.putting.put_accepting.Goals as goal

pub loop-q-init : goal.loop-q-init
loop-q-init c = let s = c.states_below-q-items.ensures in
    listing_start c.args.out.now c.into_iter-q-iterator.ensures.into_iter_gives s.states s.below
    (accepting_word c.args.valid.automaton.now (omega (arith, c.args.valid.in_range)) c.of_bytes-set.result c.of_bytes-set.ensures) c.requires

pub put_text-requires : goal.put_text-requires
put_text-requires c = listing_room c.loop-q.invariant c.in-Some.q _ c.in-Some.ensures.steps c.requires

pub loop-q-preserved : goal.loop-q-preserved
loop-q-preserved c = listing_more c.loop-q.invariant c.in-Some.q _ c.in-Some.ensures.steps c.put_text.ensures

pub returns : goal.returns
returns c = listing_end c.loop-q.invariant c.in-None.ensures.steps.0
