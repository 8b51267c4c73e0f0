-- `Body::take_state` meets its contract: the number is read and tested, and the state declared. Assumes nothing.
use Rattle.std.proofs.Common.{true, false, refl, sym, ap, ◌∙◌, arith}
use Rattle.std.proofs.Math.Logic.{∥∥₁_map}
use Rattle.std.proofs.lemmas.Result.{err_from_is_err_and}
use Rattle.tokens.proofs.Scanners.{ahead_moved, ahead_append}
use Rattle.hanoi.specs.Reading.{state_at}
use Rattle.hanoi.specs.Meaning.{with_part}
use Rattle.hanoi_reader.proofs.PartLaws.{holds_small, held_small, held_states, declared_again, undeclared, held_state}
use Rattle.hanoi_reader.proofs.parts.Body.take_state.Goals as goal

pub number_in-requires : goal.number_in-requires
number_in-requires c = let r = holds_small c.args.self.now.holds in omega (arith, r.states)

pub returns-in_err-q-clause-taken : goal.returns-in_err-q-clause-taken
unfolding state_at
returns-in_err-q-clause-taken c =
    let p = err_from_is_err_and c.from_residual.result c.from_residual.ensures.1 in
    rw (p.1, p.2) (λ D H. (c.in_err-q.ensures.meaning _ (held_states H) _, H.automaton, refl))

pub is_member-requires : goal.is_member-requires
is_member-requires c = let r = holds_small c.args.self.now.holds in omega (arith, c.in_ok-q.ensures.within.1, r.states)

pub returns-then-is_member-clause-taken : goal.returns-then-is_member-clause-taken
unfolding state_at
returns-then-is_member-clause-taken c = λ D H. (
  c.in_ok-q.ensures.meaning _ (held_states H) _ ∙ declared_again H _ _ _ (held_small H c.in_ok-q.ensures.within.1) (sym c.is_member.ensures ∙ c.if-is_member.true),
  H.automaton,
  refl,
)

pub returns-in_err-accepting-clause-taken : goal.returns-in_err-accepting-clause-taken
unfolding state_at
returns-in_err-accepting-clause-taken c =
    let p = err_from_is_err_and c.from_residual-in_err-accepting.result c.from_residual-in_err-accepting.ensures.1 in
    let n = c.in_ok-q.ensures in
    rw (p.1, p.2) (λ D H. (
      n.meaning _ (held_states H) _ ∙ undeclared H _ _ _ n.within.1 (sym c.is_member.ensures ∙ c.if-is_member.false) _ (ap (λ x. x.now) n.moved.text)
          ∙ c.in_err-accepting.ensures.meaning _,
      H.automaton,
      refl,
    ))

pub add_member-requires : goal.add_member-requires
add_member-requires c = let r = holds_small c.args.self.now.holds in omega (arith, c.in_ok-q.ensures.within.1, r.states)

pub add_accepting-requires : goal.add_accepting-requires
add_accepting-requires c = let r = holds_small c.args.self.now.holds in omega (arith, c.in_ok-q.ensures.within.1, r.states)

pub returns-then-accepting-clause-taken : goal.returns-then-accepting-clause-taken
unfolding state_at with_part
returns-then-accepting-clause-taken c = λ D H.
    let n = c.in_ok-q.ensures in
    let m = c.in_ok-accepting.ensures in
    record {
      description = _;
      step = n.meaning _ (held_states H) _ ∙ undeclared H _ _ _ n.within.1 (sym c.is_member.ensures ∙ c.if-is_member.false) _ (ap (λ x. x.now) n.moved.text)
          ∙ m.meaning _;
      held = held_state H c.args.scanner.now.text.now _ 0 n.within.1 _ _ (rw c.if-accepting.true c.add_accepting.ensures) _ refl _ c.add_member.ensures _ refl;
      ahead = ahead_append (ahead_moved n.moved) m.ahead;
    }

pub returns-else-accepting-clause-taken : goal.returns-else-accepting-clause-taken
unfolding state_at with_part
returns-else-accepting-clause-taken c = λ D H.
    let n = c.in_ok-q.ensures in
    let m = c.in_ok-accepting.ensures in
    record {
      description = _;
      step = n.meaning _ (held_states H) _ ∙ undeclared H _ _ _ n.within.1 (sym c.is_member.ensures ∙ c.if-is_member.false) _ (ap (λ x. x.now) n.moved.text)
          ∙ m.meaning _;
      held = held_state H c.args.scanner.now.text.now _ 0 n.within.1 _ _ (rw c.if-accepting.false refl) _ refl _ c.add_member.ensures _ refl;
      ahead = ahead_append (ahead_moved n.moved) m.ahead;
    }

pub invariant_of-self : goal.invariant_of-self
unfolding with_part
invariant_of-self c =
    record {
      holds = ∥∥₁_map c.args.self.now.holds (λ h.
          (_, held_state h.1 c.args.scanner.now.text.now _ 0 c.in_ok-q.ensures.within.1 true _ c.add_accepting.ensures _ refl _ c.add_member.ensures _ refl));
    }

pub invariant_of-self-else-accepting : goal.invariant_of-self-else-accepting
unfolding with_part
invariant_of-self-else-accepting c =
    record {
      holds = ∥∥₁_map c.args.self.now.holds (λ h.
          (_, held_state h.1 c.args.scanner.now.text.now _ 0 c.in_ok-q.ensures.within.1 false _ refl _ refl _ c.add_member.ensures _ refl));
    }
