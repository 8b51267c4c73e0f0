-- A transition's states and letter are in the header. Assumes nothing.
use mathlib.Core.Bool.{◌&&◌}
use Prim.Native.Nat.{ℕ, ◌<◌}
use lib.Dec.{T, ltb, ltb→lt, lt→ltb}
use Rattle.automaton.specs.declared.Automaton.{Automaton}
use Rattle.automaton.specs.Automata.{accepts, transition, transition_bit}
use Rattle.automaton.specs.Sets.{member}
use Rattle.automaton.proofs.Booleans.{and_both, both_and}

module _ (A : Automaton) where
  -- the four tests of a transition
  pub transition_parts : (p a r : ℕ) → T (transition A p a r)
      → (p < A.states) × (a < A.letters) × (r < A.states) × T (transition_bit A p a r)
  unfolding transition
  transition_parts p a r t =
      let x = and_both (ltb p A.states && ltb a A.letters && ltb r A.states) (transition_bit A p a r) t in
      let y = and_both (ltb p A.states && ltb a A.letters) (ltb r A.states) x.0 in
      let z = and_both (ltb p A.states) (ltb a A.letters) y.0 in
      (ltb→lt p A.states z.0, ltb→lt a A.letters z.1, ltb→lt r A.states y.1, x.1)

  pub parts_transition : (p a r : ℕ) → p < A.states → a < A.letters → r < A.states → T (transition_bit A p a r)
      → T (transition A p a r)
  unfolding transition
  parts_transition p a r hp ha hr t =
      both_and (ltb p A.states && ltb a A.letters && ltb r A.states) (transition_bit A p a r)
      (both_and (ltb p A.states && ltb a A.letters) (ltb r A.states)
      (both_and (ltb p A.states) (ltb a A.letters) (lt→ltb p A.states hp) (lt→ltb a A.letters ha))
      (lt→ltb r A.states hr))
      t

  pub transition_from : (p a r : ℕ) → T (transition A p a r) → p < A.states
  transition_from p a r t = (transition_parts p a r t).0

  pub transition_on : (p a r : ℕ) → T (transition A p a r) → a < A.letters
  transition_on p a r t = (transition_parts p a r t).1

  pub transition_into : (p a r : ℕ) → T (transition A p a r) → r < A.states
  transition_into p a r t = (transition_parts p a r t).2

  pub accepts_below : (q : ℕ) → T (accepts A q) → q < A.states
  unfolding accepts
  accepts_below q t = ltb→lt q A.states (and_both (ltb q A.states) (member A.accepting q) t).0
