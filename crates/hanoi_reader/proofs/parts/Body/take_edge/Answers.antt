-- `Body::take_edge` meets its contract: the label, the bracket and the target are read, and the transitions of the label's letters added. Assumes nothing.
use Rattle.std.proofs.Common.{refl, ap, ◌∙◌, arith}
use Rattle.std.proofs.Math.Logic.{∥∥₁_map}
use Rattle.std.proofs.lemmas.Result.{err_from_is_err_and}
use Rattle.tokens.proofs.Scanners.{ahead_moved, ahead_append}
use Rattle.hanoi_header.proofs.ItemLaws.{missing}
use Rattle.hanoi_reader.proofs.PartLaws.{holds_small, held_states, edge_unlabelled, edge_labelled, held_edge}
use Rattle.hanoi_reader.proofs.parts.Body.take_edge.Goals as goal

pub returns-in_err-mask-clause-taken : goal.returns-in_err-mask-clause-taken
returns-in_err-mask-clause-taken c =
    let p = err_from_is_err_and c.from_residual.result c.from_residual.ensures.1 in
    let h = missing _ _ c.in_err-mask.ensures.value in
    rw (p.1, p.2, h.1) (λ D H. (edge_unlabelled H _ _ _ (rw h.0 at c.label_at.ensures.meaning), H.automaton, refl))

pub numbered-requires : goal.numbered-requires
numbered-requires c = let r = holds_small c.args.self.now.holds in omega (arith, r.states)

pub returns-in_err-r-clause-taken : goal.returns-in_err-r-clause-taken
returns-in_err-r-clause-taken c =
    let p = err_from_is_err_and c.from_residual-in_err-r.result c.from_residual-in_err-r.ensures.1 in
    let e = rw c.in_ok-mask.ensures.ok_part at c.label_at.ensures.meaning in
    let t = ap (λ x. x.now) c.label_at.ensures.moved.text in
    rw (p.1, p.2) (λ D H. (edge_labelled H _ _ _ _ _ e _ t ∙ c.in_err-r.ensures.meaning _ (held_states H) _, H.automaton, refl))

pub add_letters-requires : goal.add_letters-requires
add_letters-requires c =
    let r = holds_small c.args.self.now.holds in
    (r.letters, r.latest _ c.requires, omega (arith, c.in_ok-r.ensures.within.1, r.states))

pub returns-clause-taken : goal.returns-clause-taken
returns-clause-taken c = λ D H.
    let e = rw c.in_ok-mask.ensures.ok_part at c.label_at.ensures.meaning in
    let t = ap (λ x. x.now) c.label_at.ensures.moved.text in
    let r = c.in_ok-r.ensures in
    record {
      description = _;
      step = edge_labelled H _ _ _ _ _ e _ t ∙ r.meaning _ (held_states H) _;
      held = held_edge H _ _ _ _ _ e _ c.requires r.within.1 _ c.add_letters.ensures;
      ahead = ahead_append (ahead_moved (rw c.in_ok-mask.ensures.ok_part at c.label_at.ensures.moved)) (ahead_moved r.moved);
    }

pub invariant_of-self : goal.invariant_of-self
invariant_of-self c =
    let e = rw c.in_ok-mask.ensures.ok_part at c.label_at.ensures.meaning in
    record {
      holds = ∥∥₁_map c.args.self.now.holds (λ h.
          (_, held_edge h.1 _ _ _ _ _ e _ c.requires c.in_ok-r.ensures.within.1 _ c.add_letters.ensures));
    }
