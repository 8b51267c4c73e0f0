-- `Body::take_here` meets its contract, by the token that stands at the place. Assumes nothing.
use Rattle.std.proofs.Common.{◌≡◌, refl, sym, ap, ◌∙◌, length, rules}
use Rattle.std.proofs.lemmas.Result.{err_from_is_err_and}
use Rattle.tokens.proofs.Scanners.{ahead_moved, ahead_append}
use Rattle.hanoi_header.proofs.ItemLaws.{missing}
use Rattle.hanoi_reader.specs.Taking.{goes}
use Rattle.hanoi_reader.proofs.PartLaws.{ended_part, at_state, at_edge, part_taken, end_whole, end_followed, latest_none, latest_some}
use Rattle.hanoi_reader.proofs.parts.Body.take_here.Goals as goal

pub returns-then-scanner-clause-taken : goal.returns-then-scanner-clause-taken
returns-then-scanner-clause-taken c = λ D H.
    let t = c.skip.ensures in
    let m = c.if-token.ensures in
    let k = c.skip-then-token.ensures in (
      ended_part _ _ _ t.place D _ (rw t.moved.text at m.meaning)
          ∙ rw (← t.moved.text, ← m.moved.text) (end_followed _ _ D (λ e. c.if-scanner.true (k.place ∙ e ∙ ap (λ x. length x.now) (sym k.moved.text)))),
      H.automaton,
      refl,
    )

pub returns-then-token-clause-taken : goal.returns-then-token-clause-taken
returns-then-token-clause-taken c = λ D H.
    let t = c.skip.ensures in
    let m = c.if-token.ensures in
    let k = c.skip-then-token.ensures in (
      ended_part _ _ _ t.place D _ (rw t.moved.text at m.meaning)
          ∙ rw (← t.moved.text, ← m.moved.text) (end_whole _ _ D (sym k.place ∙ c.if-scanner.false ∙ ap (λ x. length x.now) k.moved.text)),
      H.automaton,
      refl,
    )

pub returns-then-token-2-clause-taken : goal.returns-then-token-2-clause-taken
returns-then-token-2-clause-taken c =
    let e : c.and.result ≡ goes c.take_state.result = search rules in
    let t = c.skip.ensures in
    let m = c.if-token.ensures in
    let n = c.if-token-2.ensures in
    rw e (λ D H.
    part_taken _ _ _ _ _ _ _ (ahead_append t.moved (ahead_append (ahead_moved m.moved) (ahead_moved n.moved)))
    _ _ (at_state D _ _ _ _ t.place t.moved _ _ m.meaning m.moved n.meaning n.moved)
    (goes c.take_state.result) (c.take_state.ensures.taken D H))

pub returns-in_err-expect-clause-taken : goal.returns-in_err-expect-clause-taken
returns-in_err-expect-clause-taken c =
    let p = err_from_is_err_and c.from_residual.result c.from_residual.ensures.1 in
    let t = c.skip.ensures in
    let m = c.if-token.ensures in
    let n = c.if-token-2.ensures in
    rw (p.1, p.2) (λ D H. (
      at_edge D _ _ _ _ t.place t.moved _ _ m.meaning m.moved n.meaning n.moved ∙ c.in_err-expect.ensures.meaning _,
      H.automaton,
      refl,
    ))

pub returns-in_err-q-clause-taken : goal.returns-in_err-q-clause-taken
returns-in_err-q-clause-taken c =
    let p = err_from_is_err_and c.from_residual-in_err-q.result c.from_residual-in_err-q.ensures.1 in
    let h = missing _ _ c.in_err-q.ensures.value in
    let t = c.skip.ensures in
    let m = c.if-token.ensures in
    let n = c.if-token-2.ensures in
    rw (p.1, p.2, h.1) (λ D H. (
      at_edge D _ _ _ _ t.place t.moved _ _ m.meaning m.moved n.meaning n.moved ∙ c.in_ok-expect.ensures.meaning _ ∙ latest_none _ _ D (H.latest ∙ h.0),
      H.automaton,
      refl,
    ))

pub returns-clause-taken : goal.returns-clause-taken
returns-clause-taken c =
    let e : c.and-2.result ≡ goes c.take_edge.result = search rules in
    let t = c.skip.ensures in
    let m = c.if-token.ensures in
    let n = c.if-token-2.ensures in
    let x = c.in_ok-expect.ensures in
    rw e (λ D H.
    part_taken _ _ _ _ _ _ _ (ahead_append t.moved (ahead_append (ahead_moved m.moved) (ahead_append (ahead_moved n.moved) (ahead_moved x.moved))))
    _ _ (at_edge D _ _ _ _ t.place t.moved _ _ m.meaning m.moved n.meaning n.moved ∙ x.meaning _
    ∙ rw (← x.moved.text) (latest_some _ _ _ D (H.latest ∙ c.in_ok-q.ensures.ok_part)))
    (goes c.take_edge.result) (c.take_edge.ensures.taken D H))
