-- The left targets of a step, discovered from the lowest up: before each of them those that are still to come, from the list that the work
-- buffer shows, make the walk of all of them, and none of them is listed. The idea: what is listed meanwhile has another left state, and a class
-- that is not 0 stays. Assumes nothing.
use mathlib.Core.Path.{◌≡◌, refl, sym, ◌∙◌, ap, subst}
use mathlib.Core.Bool.{Bool, true, false, cond, ◌&&◌, not}
use mathlib.Core.List.{List, [], ◌∷◌, map}
use Prim.Native.Nat.{ℕ, zero, suc, ◌+◌, ◌≤◌, ◌<◌}
use native.Mathlib.Omega.{arith}
use borrow.Author.Tests.{eqb-true, ne_eqb}
use lib.Dec.{eqb}
use lib.ListN.{length}
use Rattle.std.specs.Prelude.{Result, Ok, Err}
use Rattle.std.proofs.lemmas.Result.{IfOk-weaker}
use Rattle.automaton.specs.declared.Automaton.{Automaton}
use Rattle.automaton.specs.Automata.{max_states}
use Rattle.automaton.specs.Ranges.{those}
use Rattle.automaton.specs.Sets.{bit}
use Rattle.automaton.proofs.Bits.{bit_zero}
use Rattle.automaton.proofs.Members.{those_same}
use Rattle.slots.specs.declared.Vertex.{Vertex}
use Rattle.slots.specs.Slots.{slot_count, same_list, same_vertex}
use Rattle.slots.proofs.Compared.{left_differs}
use Rattle.classes.specs.Classes.{class_or, class_of, listed_with}
use Rattle.classes.proofs.Appended.{class_next_slot, listed_next_slot}
use Rattle.graph.specs.Discovery.{Node, Walk, going, below, discover, discover_all}
use Rattle.graph.specs.LagGraph.{lag_graph}
use Rattle.graph.proofs.Unlisted.{discover_unlisted}
use Rattle.discovery.specs.declared.Stop.{Stop}
use Rattle.discovery.specs.declared.listed.Listed.{Listed}
use Rattle.discovery.specs.declared.sides.Sides.{Sides}
use Rattle.discovery.specs.Representation.{vertex_of, Represents, Becomes, Takes, Grows, ClassKnown, side_of, counters_to, SideReady, TargetReady, SidesReady}
use Rattle.discovery.specs.Lists.{Grown}
use Rattle.discovery.proofs.RepresentedSlots.{listed_represented}
use Rattle.discovery.proofs.FoldLoops.{FoldLoops, onward_next, onward_stop, onward_end}

-- What the slots and the answer of two steps give together.

pub grows_none : (work : List ℕ) (n : ℕ) → Grows work n work (Ok n)
grows_none work n = record { slots = λ s l. refl; no_fewer = omega arith }

-- a step that starts where the other one ended
pub grows_on : (work : List ℕ) (n : ℕ) (work' : List ℕ) (m : ℕ) (work'' : List ℕ) (r : Result ℕ Stop) → Grows work n work' (Ok m)
    → Grows work' m work'' r → Grows work n work'' r
grows_on work n work' m work'' r G H =
    let l : n ≤ m = G.no_fewer in
    record {
      slots = λ s k. H.slots s (omega arith) ∙ G.slots s k;
      no_fewer = IfOk-weaker r (λ x. m ≤ x) (λ x. n ≤ x) (λ x k. omega arith) H.no_fewer;
    }

pub grown_none : (l : Listed) → Grown l l
grown_none l = record { same_buffer = refl; same_length = refl; same_index = refl; grows = grows_none l.work.now l.count }

-- the list m stands in the buffer of the list l, with every vertex of l at its place; nothing is said of the buffer's length
pub record GrownInPlace (l m : Listed) : Type 0 where
  pub same_buffer : m.work.ghost_name ≡ l.work.ghost_name
  pub same_index : m.index.ghost_name ≡ l.index.ghost_name
  pub grows : Grows l.work.now l.count m.work.now (Ok m.count)

pub grown_in_place : (l m : Listed) → Grown l m → GrownInPlace l m
grown_in_place l m G = record { same_buffer = G.same_buffer; same_index = G.same_index; grows = G.grows }

pub grown_in_place_on : (l m k : Listed) → GrownInPlace l m → GrownInPlace m k → GrownInPlace l k
grown_in_place_on l m k G H =
    record {
      same_buffer = H.same_buffer ∙ G.same_buffer;
      same_index = H.same_index ∙ G.same_index;
      grows = grows_on l.work.now l.count m.work.now m.count k.work.now (Ok k.count) G.grows H.grows;
    }

pub grown_on : (l m k : Listed) → Grown l m → Grown m k → Grown l k
grown_on l m k G H =
    let P = grown_in_place_on l m k (grown_in_place l m G) (grown_in_place m k H) in
    record { same_buffer = P.same_buffer; same_length = H.same_length ∙ G.same_length; same_index = P.same_index; grows = P.grows }

-- A vertex has taken slot n: what is known of classes and of listed states.
module _ (work work' : List ℕ) (n m : ℕ) (v : Vertex) (G : Grows work n work' (Ok m)) (K : Takes n v work' (Ok m)) where
  -- a class that is not 0 stays
  class_kept : (cs : List ℕ) (s : ℕ) → class_of work cs n ≡ suc s → class_of work' cs m ≡ suc s
  class_kept cs s e =
      ap (class_of work' cs) K.0
      ∙ class_next_slot work work' n v G.slots K.1 cs
      ∙ ap (λ (c : ℕ). class_or c (cond (same_list cs v.counters) (n + 1) 0)) e

  -- and no 0 is sure any more
  known_kept : (class k : ℕ) (sure : Bool) (cs : List ℕ) → k ≤ n → ClassKnown class sure (class_of work cs n)
      → ClassKnown class (eqb m k) (class_of work' cs m)
  known_kept class k sure cs l C =
      record {
        where_sure = λ e. absurd (omega (arith, eqb-true m k e, K.0));
        where_some = λ s e. e ∙ sym (class_kept cs s (sym (C.where_some s e) ∙ e));
      }

  -- another left state is listed as it was
  unlisted_kept : (cs : List ℕ) (t : ℕ) → eqb v.left t ≡ false → listed_with work cs n t ≡ false → listed_with work' cs m t ≡ false
  unlisted_kept cs t d e =
      ap (λ (k : ℕ). listed_with work' cs k t) K.0
      ∙ listed_next_slot work work' n v G.slots K.1 cs t
      ∙ rw (e, d)

-- Targets as a list: P of each of them, and each below those after it.

abbrev pub Each : (ℕ → Type 0) → List ℕ → Type 0
Each P [] = Unit {0}
Each P (t ∷ ts) = P t × Each P ts

abbrev pub Rising : List ℕ → Type 0
Rising [] = Unit {0}
Rising (t ∷ ts) = Each (λ k. t < k) ts × Rising ts

each_both : (P Q R : ℕ → Type 0) → ((t : ℕ) → P t → Q t → R t) → (ts : List ℕ) → Each P ts → Each Q ts → Each R ts
each_both P Q R h [] p q = tt
each_both P Q R h (t ∷ ts) p q = (h t p.0 q.0, each_both P Q R h ts p.1 q.1)

those_each : (f : ℕ → Bool) (P : ℕ → Type 0) (n i : ℕ) → ((t : ℕ) → i ≤ t → t < i + n → f t ≡ true → P t) → Each P (those f n i)
unfolding those
those_each f P zero i h = tt
those_each f P (suc n) i h = go (f i) refl (those_each f P n (suc i) (λ t l m. h t (omega arith) (omega arith)))
  where
    go : (c : Bool) → f i ≡ c → Each P (those f n (suc i)) → Each P (elim c [ true ↦ i ∷ those f n (suc i) | false ↦ those f n (suc i) ])
    go true e again = (h i (omega arith) (omega arith) e, again)
    go false e again = again

those_rising : (f : ℕ → Bool) (n i : ℕ) → Rising (those f n i)
unfolding those
those_rising f zero i = tt
those_rising f (suc n) i = go (f i) (those_rising f n (suc i))
  where
    go : (c : Bool) → Rising (those f n (suc i)) → Rising (elim c [ true ↦ i ∷ those f n (suc i) | false ↦ those f n (suc i) ])
    go true again = (those_each f (λ k. i < k) n (suc i) (λ t l m e. omega arith), again)
    go false again = again

-- What a loop over targets keeps: classes are known, sure as long as no slot was written, and the targets that are left are not listed.
module _ (n : ℕ) (sides : Sides) where
  abbrev pub TargetLeft : List ℕ → ℕ → ℕ → Type 0
  TargetLeft work count t = (t < max_states) × TargetReady work count sides (eqb count n) t

  abbrev pub TargetsReady : List ℕ → ℕ → List ℕ → Type 0
  TargetsReady work count rest = Each (TargetLeft work count) rest × Rising rest

  pub targets_ready : (work : List ℕ) (targets : ℕ) → SidesReady work n targets sides → TargetsReady work n (those (bit targets) max_states 0)
  targets_ready work targets S =
      (those_each (bit targets) (TargetLeft work n) max_states 0 (λ t l m h. (m, go t h (bit sides.accepting t) refl (S.unlisted t h))), those_rising (bit targets) max_states 0)
    where
      go : (t : ℕ) → bit targets t ≡ true → (b : Bool) → bit sides.accepting t ≡ b
          → listed_with work (cond b sides.low.keyed.counters.now sides.other.keyed.counters.now) n t ≡ false
          → SideReady work n t (cond b sides.low sides.other) (eqb n n)
      go t h true a u = record { known = record { where_sure = λ e. S.low_class t h a; where_some = λ s e. S.low_class t h a }; unlisted = u }
      go t h false a u = record { known = record { where_sure = λ e. S.other_class t h a; where_some = λ s e. S.other_class t h a }; unlisted = u }

  -- target t has taken a slot, and is left no longer
  pub targets_kept : (work : List ℕ) (count t : ℕ) (rest : List ℕ) (m : ℕ) (work' : List ℕ) → TargetsReady work count (t ∷ rest) → n ≤ count
      → Grows work count work' (Ok m) → Takes count (vertex_of t (counters_to sides t)) work' (Ok m)
      → TargetsReady work' m rest
  targets_kept work count t rest m work' R l G K =
      (each_both (TargetLeft work count) (λ k. t < k) (TargetLeft work' m) kept rest R.0.1 R.1.0, R.1.1)
    where
      kept : (k : ℕ) → TargetLeft work count k → t < k → TargetLeft work' m k
      kept k h d =
          let v = vertex_of t (counters_to sides t) in
          let side = side_of sides.accepting sides.low sides.other k in (
            h.0,
            record {
              known = known_kept work work' count m v G K side.class n (eqb count n) side.keyed.counters.now l h.1.known;
              unlisted = unlisted_kept work work' count m v G K side.keyed.counters.now k (ne_eqb t k (λ e. omega arith)) h.1.unlisted;
            },
          )

-- The walk.

-- the successors at targets, found by an edge with this letter
abbrev pub edges_at : ℕ → Sides → List ℕ → List (ℕ × Vertex)
edges_at letter sides ts = map (λ t. (letter, vertex_of t (counters_to sides t))) ts

-- the successors at the targets of a word
abbrev pub edges_of : ℕ → Sides → ℕ → List (ℕ × Vertex)
edges_of letter sides w = edges_at letter sides (those (bit w) max_states 0)

module _ (letter : ℕ) (sides : Sides) (p : ℕ) (before : List ℕ) (n targets : ℕ) where
  -- the targets that are left, from the list that work represents, make the walk that all targets make of the list that `before` shows
  abbrev pub TargetsToGo : List ℕ → ℕ → List ℕ → Type 0
  TargetsToGo work m rest =
      (A B : Automaton) (b : ℕ) (start : List ℕ) (ns : List (Node Vertex)) → Represents before (Ok n) start (going ns)
      → FoldLoops A B b p work m start (edges_at letter sides rest)
      (discover_all (lag_graph A B b) (below (slot_count (length start))) p (going ns) (edges_of letter sides targets))

  -- the answer r and the work buffer are those of all targets
  abbrev pub TargetsDone : List ℕ → Result ℕ Stop → Type 0
  TargetsDone work r =
      (A B : Automaton) (b : ℕ) → Becomes before n work r
      (λ S w. discover_all (lag_graph A B b) (below S) p w (edges_of letter sides targets))

  module _ (work : List ℕ) (m : ℕ) (rest : List ℕ) (O : TargetsToGo work m rest) where
    pub targets_end : rest ≡ [] → TargetsDone work (Ok m)
    targets_end e A B b start ns S =
        onward_end A B b p work m start (edges_at letter sides rest) _ (O A B b start ns S) (ap (edges_at letter sides) e)

    module _ (t : ℕ) (rest' : List ℕ) (first : rest ≡ t ∷ rest') (work' : List ℕ) (r : Result ℕ Stop)
        (seen : (A B : Automaton) (b : ℕ)
        → Becomes work m work' r (λ S w. discover (lag_graph A B b) (below S) p w (letter, vertex_of t (counters_to sides t)))) where
      pub targets_stop : (s : Stop) → r ≡ Err s → TargetsDone work' (Err s)
      targets_stop s e A B b start ns S =
          onward_stop A B b p work m work' r start ((letter, vertex_of t (counters_to sides t)) ∷ [])
          (edges_at letter sides rest') (edges_at letter sides rest) _ (O A B b start ns S) (ap (edges_at letter sides) first)
          (seen A B b) s e

      pub targets_next : (x : ℕ) → r ≡ Ok x → TargetsToGo work' x rest'
      targets_next x q A B b start ns S =
          onward_next A B b p work m work' r start ((letter, vertex_of t (counters_to sides t)) ∷ [])
          (edges_at letter sides rest') (edges_at letter sides rest) _ (O A B b start ns S) (ap (edges_at letter sides) first)
          (seen A B b) x q

pub states_none : (w : ℕ) → w ≡ 0 → those (bit w) max_states 0 ≡ []
unfolding those
states_none w e = ap (λ (x : ℕ). those (bit x) max_states 0) e ∙ none max_states 0
  where
    none : (n i : ℕ) → those (bit 0) n i ≡ []
    none zero i = refl
    none (suc n) i = ap (λ (c : Bool). elim c [ true ↦ i ∷ those (bit 0) n (suc i) | false ↦ those (bit 0) n (suc i) ]) (bit_zero i) ∙ none n (suc i)

-- Of the targets on a letter those that are left are the ones that are not listed: the others make no difference to the walk.
module _ (work : List ℕ) (n letter accepting : ℕ) (lowered others : List ℕ) (p targets rest : ℕ)
    (left : (t : ℕ) → t < max_states → bit rest t ≡ (bit targets t && not (listed_with work (side_of accepting lowered others t) n t))) where
  abbrev edge_to : ℕ → ℕ × Vertex
  edge_to t = (letter, vertex_of t (side_of accepting lowered others t))

  apart : (t u : ℕ) → u < t → same_vertex (edge_to t).1 (edge_to u).1 ≡ false
  apart t u l = left_differs (edge_to t).1 (edge_to u).1 (λ e. absurd (omega arith))

  pub listed_left_out : (A B : Automaton) (b : ℕ) (work' : List ℕ) (r : Result ℕ Stop)
      → Becomes work n work' r (λ S w. discover_all (lag_graph A B b) (below S) p w (map edge_to (those (bit rest) max_states 0)))
      → Becomes work n work' r (λ S w. discover_all (lag_graph A B b) (below S) p w (map edge_to (those (bit targets) max_states 0)))
  listed_left_out A B b work' r made start ns S =
      let unlisted = λ (t : ℕ). bit targets t && not (listed_with work (side_of accepting lowered others t) n t) in
      subst (λ (w : Walk Vertex). Represents work' r start w)
      (ap (λ (ts : List ℕ). discover_all (lag_graph A B b) (below (slot_count (length start))) p (going ns) (map edge_to ts))
      (those_same (bit rest) unlisted max_states 0 (λ t l h. left t (omega arith)))
      ∙ sym (discover_unlisted (lag_graph A B b) (below (slot_count (length start))) p edge_to apart (bit targets) unlisted max_states 0 ns
      (λ t l. ap (λ (c : Bool). bit targets t && not c) (sym (listed_represented A B b work n start ns S (edge_to t).1)))))
      (made start ns S)
