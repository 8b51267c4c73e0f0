-- The loop over the letters of a place and the loop over the places follow the definition: before each letter, and before each place,
-- what is left of the fold from the list that the work buffer shows makes the walk of the whole. Assumes nothing.
use mathlib.Core.Path.{◌≡◌, sym, ◌∙◌, ap, subst}
use mathlib.Core.List.{List}
use Prim.Native.Nat.{ℕ, suc, ◌+◌, ◌-◌, ◌≤◌, ◌<◌}
use native.Mathlib.Nat.{sub-zero}
use native.Mathlib.Numerals.{add-one}
use native.Mathlib.Omega.{arith}
use lib.ListN.{length}
use Rattle.std.specs.Prelude.{Result, Ok, Err}
use Rattle.automaton.specs.declared.Automaton.{Automaton}
use Rattle.automaton.specs.Ranges.{chained}
use Rattle.automaton.proofs.Lists.{chained_start, chained_past, chained_end}
use Rattle.slots.specs.declared.Vertex.{Vertex}
use Rattle.slots.specs.Slots.{slot_count}
use Rattle.slots.specs.Bytes.{vertex_at}
use Rattle.graph.specs.Discovery.{Node, Walk, going, ended, full, below, discover_all, successors_at, expand, expand_all}
use Rattle.graph.specs.LagGraph.{successors, lag_graph}
use Rattle.graph.proofs.Discoveries.{successors_in, expand_all_ended, expand_all_full, expand_all_past}
use Rattle.discovery.specs.declared.Stop.{Stop}
use Rattle.discovery.specs.Representation.{Represents, Becomes}
use Rattle.discovery.proofs.RepresentedSlots.{slot_represented}
use Rattle.discovery.proofs.FoldLoops.{represented_going, FoldLoops, onward_next, onward_stop, onward_end}
use Rattle.successors.specs.Steps.{edges_on}
use Rattle.successors.proofs.LetterSteps.{LetterDone}

-- The letters on which a place is expanded.

module _ (A B : Automaton) (b : ℕ) where
  -- the successors on the letters from a on
  abbrev pub edges_from_letter : Vertex → ℕ → List (ℕ × Vertex)
  edges_from_letter v a = chained (edges_on A B b v) (A.letters - a) a

  edges_all : (v : Vertex) → successors A B b v ≡ edges_from_letter v 0
  unfolding successors
  edges_all v = chained_start (edges_on A B b v) A.letters

  -- Before letter a: the successors on the letters from a on, discovered, expand place p.
  abbrev pub LettersToGo : Vertex → ℕ → List ℕ → ℕ → List ℕ → ℕ → ℕ → Type 0
  LettersToGo v p before n work m a =
      (start : List ℕ) (ns : List (Node Vertex)) → Represents before (Ok n) start (going ns)
      → FoldLoops A B b p work m start (edges_from_letter v a) (expand (lag_graph A B b) (below (slot_count (length start))) p (going ns))

  abbrev pub PlaceDone : ℕ → List ℕ → ℕ → List ℕ → Result ℕ Stop → Type 0
  PlaceDone p before n work r = Becomes before n work r (λ S. expand (lag_graph A B b) (below S) p)

  module _ (v : Vertex) (p : ℕ) (before : List ℕ) (n : ℕ) where
    pub letters_start : v ≡ vertex_at before p → p < n → LettersToGo v p before n before n 0
    letters_start e h start ns S = (ns, S, ap (discover_all (lag_graph A B b) (below (slot_count (length start))) p (going ns)) (sym edges))
      where
        count : n ≡ length ns
        count = let q = S.answer in cc

        edges : successors_at (lag_graph A B b) ns p ≡ edges_from_letter v 0
        edges =
            successors_in (lag_graph A B b) ns p (omega (arith, count))
            ∙ ap (successors A B b) (sym (slot_represented A B b before (Ok n) start (going ns) S p (omega (arith, count))).0 ∙ sym e)
            ∙ edges_all v

    module _ (work : List ℕ) (m a : ℕ) (O : LettersToGo v p before n work m a) where
      pub letters_end : A.letters ≤ a → PlaceDone p before n work (Ok m)
      letters_end h start ns S =
          onward_end A B b p work m start (edges_from_letter v a) _ (O start ns S) (chained_end (edges_on A B b v) A.letters a h)

      module _ (h : a < A.letters) (work' : List ℕ) (r : Result ℕ Stop) (seen : LetterDone A B b v a p work m work' r) where
        pub letters_stop : (s : Stop) → r ≡ Err s → PlaceDone p before n work' (Err s)
        letters_stop s k start ns S =
            onward_stop A B b p work m work' r start (edges_on A B b v a) (edges_from_letter v (a + 1)) (edges_from_letter v a) _ (O start ns S)
            (chained_past (edges_on A B b v) A.letters a h) seen s k

        pub letters_next : (x : ℕ) → r ≡ Ok x → LettersToGo v p before n work' x (a + 1)
        letters_next x q start ns S =
            onward_next A B b p work m work' r start (edges_on A B b v a) (edges_from_letter v (a + 1)) (edges_from_letter v a) _ (O start ns S)
            (chained_past (edges_on A B b v) A.letters a h) seen x q

  -- All places.

  -- Before place p is expanded: the places from p on, expanded, make the walk.
  abbrev pub PlacesToGo : List ℕ → ℕ → List ℕ → ℕ → ℕ → Type 0
  PlacesToGo before n work m p =
      (start : List ℕ) (ns : List (Node Vertex)) → Represents before (Ok n) start (going ns)
      → (ms : List (Node Vertex)) × Represents work (Ok m) start (going ms)
      × (expand_all (lag_graph A B b) (below (slot_count (length start))) (slot_count (length start) - p) p (going ms)
      ≡ expand_all (lag_graph A B b) (below (slot_count (length start))) (slot_count (length start)) 0 (going ns))

  abbrev pub PlacesDone : List ℕ → ℕ → List ℕ → Result ℕ Stop → Type 0
  PlacesDone before n work r = Becomes before n work r (λ S. expand_all (lag_graph A B b) (below S) S 0)

  pub stopped_expand_all : (S k p : ℕ) (work : List ℕ) (s : Stop) (start : List ℕ) (w : Walk Vertex) → Represents work (Err s) start w
      → expand_all (lag_graph A B b) (below S) k p w ≡ w
  stopped_expand_all S k p work s start (going ns) R = let q = R.answer in cc
  stopped_expand_all S k p work s start (ended ns n) R = expand_all_ended (lag_graph A B b) (below S) k p ns n
  stopped_expand_all S k p work s start (full ns) R = expand_all_full (lag_graph A B b) (below S) k p ns

  module _ (before : List ℕ) (n : ℕ) where
    pub expand_all_start : PlacesToGo before n before n 0
    expand_all_start start ns S = (ns, S, rw (sub-zero (slot_count (length start))))

    module _ (work : List ℕ) (m p : ℕ) (O : PlacesToGo before n work m p) where
      pub expand_all_end : m ≤ p → PlacesDone before n work (Ok m)
      expand_all_end h start ns S =
          let o = O start ns S in
          let k = slot_count (length start) in
          let count : m ≡ length o.0 = let q = o.1.answer in cc in
          subst (λ (w : Walk Vertex). Represents work (Ok m) start w)
          (sym (expand_all_past (lag_graph A B b) (below k) (k - p) p o.0 (omega arith)) ∙ o.2) o.1

      module _ (h : p < m) (work' : List ℕ) (r : Result ℕ Stop) (seen : PlaceDone p work m work' r) where
        one_expand : (S : ℕ) (w : Walk Vertex) → p < S
            → expand_all (lag_graph A B b) (below S) (S - p) p w ≡ expand_all (lag_graph A B b) (below S) (S - (p + 1)) (p + 1)
            (expand (lag_graph A B b) (below S) p w)
        one_expand S w l = let q : S - p ≡ suc (S - (p + 1)) = omega arith in rw (q, add-one)

        module _ (start : List ℕ) (ns : List (Node Vertex)) (S : Represents before (Ok n) start (going ns)) where
          abbrev slots : ℕ
          slots = slot_count (length start)

          abbrev expanded : Walk Vertex
          expanded = expand (lag_graph A B b) (below slots) p (going (O start ns S).0)

          after : Represents work' r start expanded
          after = seen start (O start ns S).0 (O start ns S).1

          whole : expand_all (lag_graph A B b) (below slots) (slots - (p + 1)) (p + 1) expanded
              ≡ expand_all (lag_graph A B b) (below slots) slots 0 (going ns)
          whole =
              let o = O start ns S in
              let k = o.1.room in
              let count : m ≡ length o.0 = let q = o.1.answer in cc in
              sym (one_expand slots (going o.0) (omega arith)) ∙ o.2

        pub expand_all_stop : (s : Stop) → r ≡ Err s → PlacesDone before n work' (Err s)
        expand_all_stop s e start ns S =
            let k = slot_count (length start) in
            let w = expanded start ns S in
            let d : Represents work' (Err s) start w = subst (λ (q : Result ℕ Stop). Represents work' q start w) e (after start ns S) in
            subst (λ (x : Walk Vertex). Represents work' (Err s) start x)
            (sym (stopped_expand_all k (k - (p + 1)) (p + 1) work' s start w d) ∙ whole start ns S) d

        pub expand_all_next : (x : ℕ) → r ≡ Ok x → PlacesToGo before n work' x (p + 1)
        expand_all_next x e start ns S =
            let k = slot_count (length start) in
            let w = expanded start ns S in
            let g = represented_going work' x start w (subst (λ (q : Result ℕ Stop). Represents work' q start w) e (after start ns S)) in
            (g.0, g.2, ap (expand_all (lag_graph A B b) (below k) (k - (p + 1)) (p + 1)) (sym g.1) ∙ whole start ns S)
