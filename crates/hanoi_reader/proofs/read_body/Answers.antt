-- `read_body` meets its contract: between two parts the code holds the description so far. Assumes nothing.
use Rattle.std.proofs.Common.{Ok, Err, refl, ap, ◌∙◌, rules}
use Rattle.std.proofs.lemmas.Result.{err_from_is_err_and}
use Rattle.hanoi_reader.proofs.ReadLaws.{headed_held, going_starts, going_past, going_ends, going_stops, read_into}
use Rattle.hanoi_reader.proofs.read_body.Goals as goal

pub loop-init : goal.loop-init
loop-init c =
    let n = c.new-body.ensures in
    (going_starts _ _ c.requires.0 _ (rw (n.begun.0, n.begun.1, n.begun.2, n.automaton) (headed_held _ _ c.requires.0 _ c.requires.1)), refl)

pub new-body-requires : goal.new-body-requires
new-body-requires c = ∣ (_, headed_held _ _ c.requires.0 _ c.requires.1) ∣₁

pub returns-in_err-take_part : goal.returns-in_err-take_part
returns-in_err-take_part c =
    let p = err_from_is_err_and c.from_residual.result c.from_residual.ensures.1 in
    let g = c.loop.invariant.0 in
    let t = c.take_part.ensures.taken _ g.held in
    rw (p.1, p.2) (read_into _ (Err _) c.take_part.new.self.automaton.now _ (search rules) (going_stops _ _ _ g _ _ _ t _ c.in_err-take_part.was))

pub loop-preserved : goal.loop-preserved
loop-preserved c =
    let g = c.loop.invariant.0 in (
      (going_past _ _ _ g _ _ _ (c.take_part.ensures.taken _ g.held) (c.in_ok-take_part.was ∙ ap Ok c.if-branch.true)).0,
      c.take_part.ensures.same_automaton ∙ c.loop.invariant.1,
    )

pub returns : goal.returns
returns c =
    let g = c.loop.invariant.0 in
    let t = c.take_part.ensures.taken _ g.held in
    let w = c.in_ok-take_part.was ∙ ap Ok c.if-branch.false in
    read_into _ (Ok tt) c.take_part.new.self.automaton.now _ (search rules) (going_ends _ _ _ g _ _ _ t w)
