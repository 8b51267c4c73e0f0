-- The counters as the code steps them, from the masks of the right automaton's transitions and its tops, are those of the lag-checking graph, each
-- right state by itself; and the vertex that the code starts from is the graph's initial one. Assumes nothing.
use mathlib.Core.Path.{◌≡◌, refl, sym, ◌∙◌, ap, ap₂, subst}
use mathlib.Core.Bool.{Bool, true, false, cond, ◌&&◌, not}
use mathlib.Core.List.{List}
use Prim.Native.Nat.{ℕ, ◌+◌, ◌≤◌, ◌<◌}
use native.Mathlib.Omega.{arith}
use borrow.Author.Tests.{eqb-true, eqb-false}
use lib.Dec.{eqb}
use lib.ListN.{get_or, set, replicate, length-set, length-replicate, get_or-replicate}
use lib.Seq.{get_or-set_same, get_or-set_other}
use Rattle.automaton.specs.declared.Automaton.{Automaton}
use Rattle.automaton.specs.Automata.{max_states, max_letters, one, accepts, InRange}
use Rattle.automaton.specs.Members.{transition_in}
use Rattle.automaton.specs.Ranges.{table}
use Rattle.automaton.specs.Sets.{member}
use Rattle.automaton.proofs.Ranges.{table_at}
use Rattle.automaton.proofs.Booleans.{not_T_false}
use Rattle.relations.proofs.Rows.{table_same}
use Rattle.slots.specs.declared.Vertex.{Vertex}
use Rattle.graph.specs.LagGraph.{initial_counter, initial_vertex, counter, stepped}
use Rattle.step.specs.Masks.{Masks}
use Rattle.step.specs.Steps.{largest_masked, all_largest, tops_of, counter_at, stepped_counters, counters_on, initial_from, RightRules}
use Rattle.step.proofs.SteppedBytes.{NoneFrom, accepts_in_range, table_is, masked_into, counter_is}

-- One step.

module _ (A B : Automaton) (b : ℕ) (R : InRange B) (a k : ℕ) (below : a < k) (few : k ≤ max_letters) (m : List ℕ)
    (M : Masks m B.transitions B.states k) (f : List ℕ) (bytes : (p : ℕ) → p < B.states → get_or f p 0 < 256) (t : ℕ) where
  none : NoneFrom B.transitions B.states a
  none p r q l i =
      not_T_false (transition_in B.transitions p a r) (λ s. omega (arith, (R.transitions_in p a r l (omega arith) i s).0))

  own_counters : counters_on (tops_of B.accepting (b + 1)) m B.states a f (one (accepts A t)) ≡ stepped A B b a t f
  unfolding stepped all_largest tops_of stepped_counters
  own_counters =
      table_same
      (λ r. counter_at (get_or (tops_of B.accepting (b + 1)) r 0) (one (accepts A t)) (get_or (all_largest m B.states a f) r 0))
      (counter A B b a t f) max_states
      (λ r i.
      ap₂ (λ (x y : ℕ). counter_at x (one (accepts A t)) y) (table_at (λ q. cond (member B.accepting q) (b + 1) 0) max_states r 0 i)
      (table_at (largest_masked m B.states a f) max_states r 0 i
      ∙ masked_into m B.transitions B.states k a f R.few_states M below none bytes r i)
      ∙ sym (counter_is A B b R a t f (omega arith) r i))

-- the counters after a step on letter a to the left target t
pub counters_on_lem : (A B : Automaton) (b : ℕ) (tops m : List ℕ) (n k : ℕ) → RightRules tops m n k b B → (a : ℕ) → a < k → k ≤ max_letters
    → (f : List ℕ) → ((p : ℕ) → p < n → get_or f p 0 < 256) → (t : ℕ)
    → counters_on tops m n a f (one (accepts A t)) ≡ stepped A B b a t f
counters_on_lem A B b tops m n k R a below few f bytes t =
    let M = subst (λ (i : ℕ). Masks m B.transitions i k) R.states_are R.masks_are in
    ap₂ (λ (l : List ℕ) (i : ℕ). counters_on l m i a f (one (accepts A t))) R.tops_are R.states_are
    ∙ own_counters A B b R.in_range a k below few m M f (λ p h. bytes p (omega (arith, R.states_are))) t

-- The initial vertex.

-- all counters are 0 but that of the right initial state
pub initial_made : (p : ℕ) (x : List ℕ) (q : ℕ) (y : List ℕ) (b c : ℕ) → q < max_states → c ≡ cond (member x p && not (member y q)) b (b + 1)
    → ◌≡◌ {A = Vertex} (record { left = p; counters = set (replicate max_states 0) q c }) (initial_from p x q y b)
unfolding initial_from
initial_made p x q y b c h first =
    ap (λ (cs : List ℕ). record { left = p; counters = cs })
    (table_is (λ r. cond (eqb r q) (cond (member x p && not (member y q)) b (b + 1)) 0) (set (replicate max_states 0) q c) max_states
    (length-set (replicate max_states 0) q c ∙ length-replicate {A = ℕ} max_states 0) (λ k i. go k i (eqb k q) refl))
  where
    go : (k : ℕ) → k < max_states → (z : Bool) → eqb k q ≡ z
        → get_or (set (replicate max_states 0) q c) k 0 ≡ cond z (cond (member x p && not (member y q)) b (b + 1)) 0
    go k i true e =
        ap (λ (j : ℕ). get_or (set (replicate max_states 0) q c) j 0) (eqb-true k q e)
        ∙ get_or-set_same (replicate max_states 0) q c 0 (omega (arith, length-replicate {A = ℕ} max_states 0))
        ∙ first
    go k i false e = get_or-set_other (replicate max_states 0) q k c 0 (eqb-false k q e) ∙ get_or-replicate {A = ℕ} max_states k 0 0 i

-- of two automata in range it is the initial vertex of their graph
pub initial_from_lem : (A B : Automaton) (b : ℕ) → InRange A → InRange B
    → initial_from A.initial A.accepting B.initial B.accepting b ≡ initial_vertex A B b
unfolding initial_from initial_vertex initial_counter
initial_from_lem A B b R Q =
    ap₂ (λ (y z : Bool). record { left = A.initial; counters = table (λ r. cond (eqb r B.initial) (cond (y && not z) b (b + 1)) 0) max_states 0 })
    (sym (accepts_in_range A R A.initial (omega (arith, R.initial_below, R.few_states))))
    (sym (accepts_in_range B Q B.initial (omega (arith, Q.initial_below, Q.few_states))))
