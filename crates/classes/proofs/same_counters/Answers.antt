-- `classes::same_counters` meets its contract: the test holds so far exactly if the counters before the present one are those of the slot.
-- Assumes nothing.
use mathlib.Core.Path.{◌≡◌, refl, sym, ◌∙◌}
use Prim.Native.Nat.{◌+◌, ◌*◌}
use native.Mathlib.Omega.{arith}
use borrow.Author.Rules.{rules}
use borrow.Author.Tests.{eqb-false}
use lib.Dec.{eqb, eqb→eq}
use lib.ListN.{length, get_or}
use Rattle.slots.specs.Slots.{slot_size}
use Rattle.slots.proofs.Compared.{every, every_more, every_is}
use Rattle.slots.proofs.SlotLayout.{slot_fits, counters_long, counters_at_lem}
use Rattle.classes.specs.Classes.{counters_at}
use Rattle.classes.proofs.Leaders.{lists_same, lists_differ}
use Rattle.classes.proofs.same_counters.Goals as goal

pub loop-r-init : goal.loop-r-init
unfolding every
loop-r-init c = refl

pub loop-r-preserved : goal.loop-r-preserved
loop-r-preserved c = every_more _ c.loop-r.r _ c.loop-r.invariant

pub returns : goal.returns
returns c =
    let a = c.args in
    let l = c.loop-r in
    let w = a.work.now in
    let f = slot_fits a.s (length w) c.requires in
    let long : length a.counters ≡ 32 = search rules in
    l.invariant
    ∙ every_is (λ k. eqb (get_or a.counters k 0) (get_or w (a.s * slot_size + 1 + k) 0)) l.r _
    (λ h.
    lists_same a.counters (counters_at w a.s) (long ∙ sym (counters_long w a.s f))
    (λ k i. eqb→eq _ _ (h k (omega arith)) ∙ sym (counters_at_lem w a.s f k (omega arith))))
    (λ k i d. lists_differ a.counters (counters_at w a.s) k (λ q. eqb-false _ _ d (q ∙ counters_at_lem w a.s f k (omega arith))))
