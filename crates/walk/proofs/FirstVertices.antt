-- The walk by its initial vertex: it is final, or finds no slot, or takes slot 0 and every place is expanded. The idea: before it nothing is listed,
-- and what the code holds of the two automata is theirs. Assumes nothing.
use mathlib.Core.Path.{◌≡◌, refl, sym, ap, ◌∙◌, subst}
use mathlib.Core.Bool.{true, false}
use mathlib.Core.List.{List, []}
use Prim.Native.Nat.{ℕ, ◌+◌, ◌*◌, ◌≤◌, ◌<◌}
use native.Mathlib.Nat.{mul-le-mul}
use native.Mathlib.Omega.{arith}
use lib.ListN.{length}
use Rattle.automaton.specs.declared.Automaton.{Automaton}
use Rattle.automaton.specs.Automata.{max_states, InRange}
use Rattle.automaton.specs.Sets.{bit, member}
use Rattle.automaton.proofs.Ranges.{length-table}
use Rattle.slots.specs.declared.Vertex.{Vertex}
use Rattle.slots.specs.Slots.{slot_count, all_zero, no_letter, no_parent}
use Rattle.slots.specs.Bytes.{with_slot}
use Rattle.classes.specs.Classes.{listed_with, empty_index, Classes}
use Rattle.classes.specs.declared.Index.{Index}
use Rattle.classes.proofs.Appended.{classes_begin}
use Rattle.classes.proofs.ListedStates.{listed_absent}
use Rattle.graph.specs.Discovery.{Walk, going, below, discover, begin, expand_all}
use Rattle.graph.specs.LagGraph.{initial_vertex, lag_graph}
use Rattle.graph.specs.Walks.{walk_of}
use Rattle.step.specs.Masks.{masks_after}
use Rattle.step.specs.Steps.{tops_of}
use Rattle.step.proofs.MaskRows.{masks_after_lem}
use Rattle.step.proofs.SteppedBytes.{accepts_in_range}
use Rattle.std.specs.Prelude.{Result, Ok, Err}
use Rattle.discovery.specs.declared.Stop.{Stop}
use Rattle.discovery.specs.declared.Stop.TheVariants.{Final, Full}
use Rattle.discovery.specs.Representation.{Represents, Ready}
use Rattle.discovery.proofs.RepresentedSlots.{represented_none, ready_none, ready_with_slot, discover_final, discover_full, discover_with_slot}
use Rattle.discovery.proofs.FoldLoops.{represented_going}
use Rattle.successors.specs.declared.rules.Rules.{Rules}
use Rattle.successors.specs.Rules.{RulesOf}
use Rattle.walk.proofs.ExpandLoops.{PlacesDone, stopped_expand_all}

pub initial_wide : (A B : Automaton) (b : ℕ) → length (initial_vertex A B b).counters ≡ max_states
unfolding initial_vertex
initial_wide A B b = length-table _ max_states 0

pub initial_small : (A B : Automaton) (b : ℕ) → InRange A → (initial_vertex A B b).left < max_states
unfolding initial_vertex
initial_small A B b R = omega (arith, R.initial_below, R.few_states)

pub few_pairs : (A B : Automaton) → InRange A → InRange B → A.letters * B.states ≤ 512
few_pairs A B R Q = mul-le-mul {n₁ = A.letters} {m₁ = B.states} {n₂ = 16} {m₂ = 32} R.few_letters Q.few_states

-- what the code makes of the two automata
pub rules_hold : (rules : Rules) (b : ℕ) → InRange rules.left.now → InRange rules.right.now
    → ((q : ℕ) → q < 32 → bit rules.accepting q ≡ member rules.left.now.accepting q) → rules.tops.now ≡ tops_of rules.right.now.accepting (b + 1)
    → (m : List ℕ) → rules.left.now.letters * rules.right.now.states * max_states ≤ length m
    → rules.masks.now ≡ masks_after rules.right.now.transitions rules.right.now.states rules.left.now.letters m
    → RulesOf rules rules.left.now rules.right.now b
rules_hold rules b R Q acc t m fits made =
    let B = rules.right.now in
    record {
      letters_are = refl;
      accepting_is = λ q h. acc q h ∙ sym (accepts_in_range rules.left.now R q h);
      lefts_are = refl;
      in_range = R;
      right = record {
        tops_are = t;
        states_are = refl;
        masks_are = masks_after_lem B.transitions B.states m rules.left.now.letters rules.masks.now fits made;
        in_range = Q;
      };
    }

-- the index after the first vertex has taken slot 0
pub ready_first : (first : Vertex) (work work₁ : List ℕ) (index : Index) → first.left < max_states → length first.counters ≡ max_states
    → all_zero first.counters ≡ false → 0 < slot_count (length work) → work₁ ≡ with_slot work 0 first no_letter no_parent
    → Classes work₁ index 1 → Ready work₁ index 1
ready_first first work work₁ index small wide z h e K =
    rw e
    (ready_with_slot work 0 first no_letter no_parent h wide empty_index index (ready_none work _ (classes_begin work)) small z (rw e at K))

module _ (A B : Automaton) (b : ℕ) (first : Vertex) (is : first ≡ initial_vertex A B b) (work : List ℕ) where
  abbrev slots : ℕ
  slots = slot_count (length work)

  nothing_listed : listed_with work first.counters 0 first.left ≡ false
  nothing_listed = listed_absent work first.counters 0 first.left (λ s l. absurd (omega arith))

  began : (work' : List ℕ) (r : Result ℕ Stop) → Represents work' r work (discover (lag_graph A B b) (below slots) no_parent (going []) (no_letter, first))
      → Represents work' r work (begin (lag_graph A B b) (below slots))
  began work' r S =
      subst (λ (v : Vertex). Represents work' r work (discover (lag_graph A B b) (below slots) no_parent (going []) (no_letter, v))) is S

  stopped : (work' : List ℕ) (s : Stop) → Represents work' (Err s) work (begin (lag_graph A B b) (below slots))
      → Represents work' (Err s) work (walk_of A B b slots)
  unfolding walk_of
  stopped work' s S =
      subst (λ (w : Walk Vertex). Represents work' (Err s) work w)
      (sym (stopped_expand_all A B b slots slots 0 work' s work (begin (lag_graph A B b) (below slots)) S)) S

  pub first_final : all_zero first.counters ≡ true → Represents work (Err (Final 0 no_letter no_parent)) work (walk_of A B b slots)
  first_final z =
      stopped work (Final 0 no_letter no_parent)
      (began work (Err (Final 0 no_letter no_parent))
      (discover_final A B b work 0 work [] (represented_none work) no_parent no_letter first nothing_listed z))

  pub first_full : all_zero first.counters ≡ false → slots ≤ 0 → Represents work (Err (Full 0)) work (walk_of A B b slots)
  first_full z h =
      stopped work (Full 0)
      (began work (Err (Full 0)) (discover_full A B b work 0 work [] (represented_none work) no_parent no_letter first nothing_listed z h))

  -- work₁ is the buffer with the first vertex in slot 0
  module _ (z : all_zero first.counters ≡ false) (h : 0 < slots) (work₁ : List ℕ) (e : work₁ ≡ with_slot work 0 first no_letter no_parent) where
    first_wide : length first.counters ≡ max_states
    first_wide = ap (λ (v : Vertex). length v.counters) is ∙ initial_wide A B b

    pub first_slot : (work' : List ℕ) (r : Result ℕ Stop) → PlacesDone A B b work₁ 1 work' r → Represents work' r work (walk_of A B b slots)
    unfolding walk_of
    first_slot work' r done =
        let w = with_slot work 0 first no_letter no_parent in
        let S =
        began w (Ok 1) (discover_with_slot A B b work 0 work [] (represented_none work) no_parent no_letter first nothing_listed z h first_wide) in
        let g = represented_going w 1 work (begin (lag_graph A B b) (below slots)) S in
        subst (λ (x : Walk Vertex). Represents work' r work (expand_all (lag_graph A B b) (below slots) slots 0 x)) (sym g.1)
        (done work g.0 (subst (λ (x : List ℕ). Represents x (Ok 1) work (going g.0)) (sym e) g.2))

    -- the index after it
    pub ready_initial : (index : Index) → InRange A → Classes work₁ index 1 → Ready work₁ index 1
    ready_initial index R K =
        ready_first first work work₁ index (subst (λ (v : Vertex). v.left < max_states) (sym is) (initial_small A B b R)) first_wide z h e K
