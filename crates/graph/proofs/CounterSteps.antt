-- One step of the counters: a counter above 0 is what the step makes of some predecessor's counter above 0, and it is no less than
-- what the step makes of any predecessor's. Assumes nothing.
use mathlib.Core.Path.{◌≡◌, refl, sym, ◌∙◌}
use mathlib.Core.Bool.{Bool, true, false, cond, ◌&&◌}
use mathlib.Core.Logic.{⊎_elim}
use mathlib.Core.List.{List}
use Prim.Native.Nat.{ℕ, ◌+◌, ◌-◌, ◌≤◌, ◌<◌}
use native.Mathlib.Nat.{zero-add}
use native.Mathlib.Omega.{arith}
use lib.Dec.{T, ltb, ltb→lt, lt→ltb}
use lib.ListN.{length, get_or, get_or-eq_default}
use Rattle.automaton.specs.declared.Automaton.{Automaton}
use Rattle.automaton.specs.Ranges.{some, largest}
use Rattle.automaton.specs.Automata.{max_states, accepts, transition}
use Rattle.automaton.proofs.Booleans.{and_both, both_and, is_true, T_true}
use Rattle.automaton.proofs.Ranges.{table_at, length-table, some_below, some_at, largest_ub, largest_at}
use Rattle.automaton.proofs.Transitions.{transition_from}
use Rattle.runs.proofs.LagSteps.{next}
use Rattle.graph.specs.LagGraph.{counter, stepped}
use Rattle.graph.proofs.Discoveries.{lt_or_le}

module _ (A B : Automaton) (b : ℕ) where
  -- the predecessors of r on letter a with a counter above 0
  abbrev above_zero : ℕ → List ℕ → ℕ → ℕ → Bool
  above_zero a f r p = transition B p a r && ltb 0 (get_or f p 0)

  -- a predecessor's counter, lowered where the left target t accepts
  abbrev lowered : ℕ → ℕ → List ℕ → ℕ → ℕ → ℕ
  lowered a t f r p = cond (transition B p a r) (cond (accepts A t) (get_or f p 0 - 1) (get_or f p 0)) 0

  -- c is what the step makes of some predecessor's counter above 0
  pub record From (a t : ℕ) (f : List ℕ) (r c : ℕ) : Type 0 where
    pub state : ℕ
    pub into : T (transition B state a r)
    pub above : 0 < get_or f state 0
    pub is : c ≡ next A B b (accepts A t) (accepts B r) (get_or f state 0)

  accepting_from : (a t : ℕ) (f : List ℕ) (r : ℕ) → accepts B r ≡ true → 0 < counter A B b a t f r
      → From a t f r (counter A B b a t f r)
  unfolding counter
  accepting_from a t f r y h = go (some (above_zero a f r) max_states 0) refl
    where
      go : (s : Bool) → some (above_zero a f r) max_states 0 ≡ s → From a t f r (counter A B b a t f r)
      go true e =
          let k = some_below (above_zero a f r) max_states (is_true _ e) in
          let x = and_both (transition B k.0 a r) (ltb 0 (get_or f k.0 0)) k.2 in
          record { state = k.0; into = x.0; above = ltb→lt 0 (get_or f k.0 0) x.1; is = rw (y, e) }
      go false e = let z : counter A B b a t f r ≡ 0 = rw (y, e) in absurd (omega arith)

  other_from : (a t : ℕ) (f : List ℕ) (r : ℕ) → accepts B r ≡ false → 0 < counter A B b a t f r
      → From a t f r (counter A B b a t f r)
  unfolding counter
  other_from a t f r y h =
      let e : counter A B b a t f r ≡ largest (lowered a t f r) max_states 0 = rw y in
      let k = largest_at (lowered a t f r) max_states 0 (omega arith) in
      go k.0 (e ∙ k.1) (transition B k.0 a r) refl (accepts A t) refl
    where
      go : (p : ℕ) → counter A B b a t f r ≡ lowered a t f r p → (s : Bool) → transition B p a r ≡ s
          → (l : Bool) → accepts A t ≡ l → From a t f r (counter A B b a t f r)
      go p g false e l x = let z : lowered a t f r p ≡ 0 = rw e in absurd (omega arith)
      go p g true e true x =
          let z : lowered a t f r p ≡ get_or f p 0 - 1 = rw (e, x) in
          let n : next A B b (accepts A t) (accepts B r) (get_or f p 0) ≡ get_or f p 0 - 1 = rw (x, y) in
          record { state = p; into = is_true _ e; above = omega arith; is = g ∙ z ∙ sym n }
      go p g true e false x =
          let z : lowered a t f r p ≡ get_or f p 0 = rw (e, x) in
          let n : next A B b (accepts A t) (accepts B r) (get_or f p 0) ≡ get_or f p 0 = rw (x, y) in
          record { state = p; into = is_true _ e; above = omega arith; is = g ∙ z ∙ sym n }

  -- a counter above 0 comes from a predecessor's
  pub counter_from : (a t : ℕ) (f : List ℕ) (r : ℕ) → 0 < counter A B b a t f r → From a t f r (counter A B b a t f r)
  counter_from a t f r h = go (accepts B r) refl
    where
      go : (y : Bool) → accepts B r ≡ y → From a t f r (counter A B b a t f r)
      go true e = accepting_from a t f r e h
      go false e = other_from a t f r e h

  -- and is no less than what the step makes of any predecessor's
  pub counter_to : B.states ≤ max_states → (a t : ℕ) (f : List ℕ) (p r c : ℕ) → T (transition B p a r) → 0 < c
      → c ≤ get_or f p 0 → next A B b (accepts A t) (accepts B r) c ≤ counter A B b a t f r
  unfolding counter
  counter_to small a t f p r c x h g = go (accepts A t) refl (accepts B r) refl
    where
      inside : p < max_states
      inside = let m = transition_from B p a r x in omega arith

      raised : some (above_zero a f r) max_states 0 ≡ true
      raised =
          T_true _
          (some_at (above_zero a f r) max_states p inside
          (both_and (transition B p a r) (ltb 0 (get_or f p 0)) x (lt→ltb 0 (get_or f p 0) (omega arith))))

      at_least : lowered a t f r p ≤ largest (lowered a t f r) max_states 0
      at_least = rw zero-add at (largest_ub (lowered a t f r) max_states 0 p inside)

      go : (l : Bool) → accepts A t ≡ l → (y : Bool) → accepts B r ≡ y → next A B b l y c ≤ counter A B b a t f r
      go l ex true ey = rw (ey, raised) (omega arith)
      go true ex false ey =
          let e : counter A B b a t f r ≡ largest (lowered a t f r) max_states 0 = rw ey in
          let z : lowered a t f r p ≡ get_or f p 0 - 1 = rw (T_true (transition B p a r) x, ex) in
          omega (arith, at_least)
      go false ex false ey =
          let e : counter A B b a t f r ≡ largest (lowered a t f r) max_states 0 = rw ey in
          let z : lowered a t f r p ≡ get_or f p 0 = rw (T_true (transition B p a r) x, ex) in
          omega (arith, at_least)

  pub next_le : (l y : Bool) (c : ℕ) → c ≤ b + 1 → next A B b l y c ≤ b + 1
  next_le l true c h = omega arith
  next_le true false c h = omega arith
  next_le false false c h = h

  pub counter_le : (a t : ℕ) (f : List ℕ) (r : ℕ) → ((p : ℕ) → get_or f p 0 ≤ b + 1) → counter A B b a t f r ≤ b + 1
  counter_le a t f r h =
      ⊎_elim
      (λ l.
      let c = counter_from a t f r l in
      rw c.is (next_le (accepts A t) (accepts B r) (get_or f c.state 0) (h c.state)))
      (λ l. omega arith)
      (lt_or_le 0 (counter A B b a t f r))

  -- All counters of a step.

  pub stepped_at : (a t : ℕ) (f : List ℕ) (r : ℕ) → r < max_states → get_or (stepped A B b a t f) r 0 ≡ counter A B b a t f r
  unfolding stepped
  stepped_at a t f r h = table_at (counter A B b a t f) max_states r 0 h

  pub length_stepped : (a t : ℕ) (f : List ℕ) → length (stepped A B b a t f) ≡ max_states
  unfolding stepped
  length_stepped a t f = length-table (counter A B b a t f) max_states 0

  pub stepped_le : (a t : ℕ) (f : List ℕ) → ((p : ℕ) → get_or f p 0 ≤ b + 1) → (r : ℕ) → get_or (stepped A B b a t f) r 0 ≤ b + 1
  stepped_le a t f h r =
      ⊎_elim (λ l. rw (stepped_at a t f r l) (counter_le a t f r h))
      (λ l. let e = get_or-eq_default (stepped A B b a t f) 0 {n = r} (omega (arith, length_stepped a t f)) in omega arith)
      (lt_or_le r max_states)
