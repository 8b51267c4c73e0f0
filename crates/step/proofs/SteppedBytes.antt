-- The counter of a right state after a step is told by the largest counter of its predecessors: it decides both whether an accepting state is
-- raised and what a state that does not accept gets. The masks of the transitions show that largest counter. Assumes nothing.
use mathlib.Core.Path.{◌≡◌, sym, ◌∙◌, ap}
use mathlib.Core.Bool.{Bool, true, false, cond, ◌&&◌}
use mathlib.Core.Logic.{⊎_elim}
use mathlib.Core.List.{List}
use Prim.Native.Nat.{ℕ, ◌+◌, ◌-◌, ◌≤◌, ◌<◌, min}
use native.Mathlib.Nat.{eq-or-lt_of_le}
use native.Mathlib.Omega.{arith}
use borrow.Author.Tests.{ne_eqb}
use lib.Dec.{ltb, lt→ltb}
use lib.ListN.{length, get_or, set, length-set}
use lib.Seq.{ext_get_or, get_or-set_same, get_or-set_other}
use Rattle.automaton.specs.declared.Automaton.{Automaton}
use Rattle.automaton.specs.Automata.{max_states, max_letters, one, accepts, transition, InRange}
use Rattle.automaton.specs.Members.{transition_in}
use Rattle.automaton.specs.Ranges.{some, table, largest}
use Rattle.automaton.specs.Sets.{member}
use Rattle.automaton.proofs.Ranges.{table_at, length-table}
use Rattle.automaton.proofs.Booleans.{same_test, and_both, both_and}
use Rattle.automaton.proofs.Transitions.{transition_parts, parts_transition}
use Rattle.relations.proofs.Rows.{some_same}
use Rattle.graph.specs.LagGraph.{counter}
use Rattle.step.specs.Masks.{mask, row_place, Masks}
use Rattle.step.specs.Steps.{largest_masked, counter_at}
use Rattle.step.proofs.Largest.{largest_cut, largest_same, some_above, largest_lowered}

-- Bits of an automaton in range.

module _ (A : Automaton) (R : InRange A) where
  pub transition_in_range : (p a r : ℕ) → p < max_states → a < max_letters → r < max_states
      → transition A p a r ≡ transition_in A.transitions p a r
  transition_in_range p a r hp ha hr =
      same_test (transition A p a r) (transition_in A.transitions p a r) (λ t. (transition_parts A p a r t).3)
      (λ t. let i = R.transitions_in p a r hp ha hr t in parts_transition A p a r i.0 i.1 i.2 t)

  pub accepts_in_range : (q : ℕ) → q < max_states → accepts A q ≡ member A.accepting q
  unfolding accepts
  accepts_in_range q h =
      same_test (ltb q A.states && member A.accepting q) (member A.accepting q)
      (λ t. (and_both (ltb q A.states) (member A.accepting q) t).1)
      (λ t. both_and (ltb q A.states) (member A.accepting q) (lt→ltb q A.states (R.accepting_in q h t)) t)

-- Tables.

pub table_is : (f : ℕ → ℕ) (l : List ℕ) (n : ℕ) → length l ≡ n → ((k : ℕ) → k < n → get_or l k 0 ≡ f k) → l ≡ table f n 0
table_is f l n e h =
    ext_get_or 0 l (table f n 0) (e ∙ sym (length-table f n 0))
    (λ k i. h k (omega arith) ∙ sym (table_at f n k 0 (omega arith)))

-- A loop that writes a table of 32, one element after the other: those below r are written.

pub record TableWritten (f : ℕ → ℕ) (l : List ℕ) (r : ℕ) : Type 0 where
  pub long : length l ≡ max_states
  pub done : (k : ℕ) → k < r → get_or l k 0 ≡ f k

module _ {f : ℕ → ℕ} {l : List ℕ} {r : ℕ} where
  pub written_more : (y : ℕ) → r < max_states → TableWritten f l r → y ≡ f r → TableWritten f (set l r y) (r + 1)
  written_more y h W e =
      record {
        long = length-set l r y ∙ W.long;
        done =
            λ k i.
            ⊎_elim (λ q. rw q (get_or-set_same l r y 0 (omega (arith, W.long)) ∙ e))
            (λ q. get_or-set_other l r k y 0 (λ d. absurd (omega arith)) ∙ W.done k q) (eq-or-lt_of_le {n = k} {m = r} (omega arith));
      }

  pub written_all : max_states ≤ r → TableWritten f l r → l ≡ table f max_states 0
  written_all h W = table_is f l max_states W.long (λ k i. W.done k (omega arith))

-- The masks of an automaton's transitions show its predecessors: a counter is a byte, so a mask of 255 leaves it as it is.

-- no state from n on has a transition on letter a
abbrev pub NoneFrom : List ℕ → ℕ → ℕ → Type 0
NoneFrom t n a = (p r : ℕ) → n ≤ p → p < max_states → r < max_states → transition_in t p a r ≡ false

-- the largest counter of the predecessors of r on letter a, looked up in the bytes t of the transitions
unfoldable pub largest_into : List ℕ → ℕ → List ℕ → ℕ → ℕ
largest_into t a f r = largest (λ p. cond (transition_in t p a r) (get_or f p 0) 0) max_states 0

pub masked_into : (m t : List ℕ) (n k a : ℕ) (f : List ℕ) → n ≤ max_states → Masks m t n k → a < k → NoneFrom t n a
    → ((p : ℕ) → p < n → get_or f p 0 < 256) → (r : ℕ) → r < max_states → largest_masked m n a f r ≡ largest_into t a f r
unfolding largest_into
masked_into m t n k a f few M h none bytes r i =
    sym
    (largest_cut (λ p. cond (transition_in t p a r) (get_or f p 0) 0) (λ p. min (get_or f p 0) (get_or m (row_place n a p + r) 0)) n max_states few
    (λ p l. sym (ap (min (get_or f p 0)) (M a p r h l i) ∙ shown (transition_in t p a r) (get_or f p 0) (bytes p l)))
    (λ p l j. ap (λ (c : Bool). cond c (get_or f p 0) 0) (none p r l j i)))
  where
    shown : (c : Bool) (x : ℕ) → x < 256 → min x (mask c) ≡ cond c x 0
    shown true x l = omega arith
    shown false x l = omega arith

-- The counter after a step.

-- a state that accepts has a top above 0
counter_raised : (top visits x : ℕ) → 0 < top → counter_at top visits x ≡ cond (ltb 0 x) top 0
counter_raised top visits x h = ap (λ (c : Bool). cond c (x - visits) (cond (ltb 0 x) top 0)) (ne_eqb top 0 (λ e. omega arith))

module _ (A B : Automaton) (b : ℕ) (R : InRange B) (a t : ℕ) (f : List ℕ) (letter : a < max_letters) where
  pub counter_is : (r : ℕ) → r < max_states
      → counter A B b a t f r ≡ counter_at (cond (member B.accepting r) (b + 1) 0) (one (accepts A t)) (largest_into B.transitions a f r)
  unfolding counter largest_into
  counter_is r h = rw (← accepts_in_range B R r h) (go (accepts B r) (accepts A t))
    where
      x : ℕ → Bool
      x p = transition_in B.transitions p a r

      above : some (λ p. transition B p a r && ltb 0 (get_or f p 0)) max_states 0
          ≡ ltb 0 (largest (λ p. cond (x p) (get_or f p 0) 0) max_states 0)
      above =
          some_same (λ p. transition B p a r && ltb 0 (get_or f p 0)) (λ p. x p && ltb 0 (get_or f p 0)) max_states
          (λ k l. ap (λ (c : Bool). c && ltb 0 (get_or f k 0)) (transition_in_range B R k a r (omega arith) letter h))
          ∙ some_above x (λ p. get_or f p 0) max_states 0

      bits : (g : ℕ → ℕ) → largest (λ p. cond (transition B p a r) (g p) 0) max_states 0 ≡ largest (λ p. cond (x p) (g p) 0) max_states 0
      bits g =
          largest_same (λ p. cond (transition B p a r) (g p) 0) (λ p. cond (x p) (g p) 0) max_states
          (λ k l. ap (λ (c : Bool). cond c (g k) 0) (transition_in_range B R k a r (omega arith) letter h))

      go : (y l : Bool)
          → cond y (cond (some (λ p. transition B p a r && ltb 0 (get_or f p 0)) max_states 0) (b + 1) 0)
          (largest (λ p. cond (transition B p a r) (cond l (get_or f p 0 - 1) (get_or f p 0)) 0) max_states 0)
          ≡ counter_at (cond y (b + 1) 0) (one l) (largest (λ p. cond (x p) (get_or f p 0) 0) max_states 0)
      go true l =
          ap (λ (c : Bool). cond c (b + 1) 0) above
          ∙ sym (counter_raised (b + 1) (one l) (largest (λ p. cond (x p) (get_or f p 0) 0) max_states 0) (omega arith))
      go false true = bits (λ p. get_or f p 0 - 1) ∙ largest_lowered x (λ p. get_or f p 0) max_states 0
      go false false = bits (λ p. get_or f p 0) ∙ omega arith
