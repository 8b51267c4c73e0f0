-- The code's loops follow the definition's folds: before each round of a loop the rest of the fold, from the list that the work
-- buffer shows, gives the walk of the whole, and an answer that stops the loop is that walk's already. Assumes nothing.
use mathlib.Core.Path.{◌≡◌, refl, sym, ◌∙◌, ap, subst}
use mathlib.Core.List.{List, [], ◌++◌}
use Prim.Native.Nat.{ℕ}
use lib.ListN.{length}
use Rattle.automaton.specs.declared.Automaton.{Automaton}
use Rattle.slots.specs.declared.Vertex.{Vertex}
use Rattle.slots.specs.Slots.{slot_count}
use Rattle.graph.specs.Discovery.{Node, Walk, going, ended, full, below, discover_all}
use Rattle.graph.specs.LagGraph.{lag_graph}
use Rattle.graph.proofs.Discoveries.{discover_all_ended, discover_all_full, discover_all_append}
use Rattle.std.specs.Prelude.{Result, Ok, Err}
use Rattle.discovery.specs.declared.Stop.{Stop}
use Rattle.discovery.specs.Representation.{Represents, Becomes}

pub represented_going : (work : List ℕ) (x : ℕ) (start : List ℕ) (w : Walk Vertex) → Represents work (Ok x) start w
    → (ms : List (Node Vertex)) × (w ≡ going ms) × Represents work (Ok x) start (going ms)
represented_going work x start (going ms) S = (ms, refl, S)
represented_going work x start (ended ms n) S = let q = S.answer in cc
represented_going work x start (full ms) S = let q = S.answer in cc

module _ (A B : Automaton) (b p : ℕ) where
  -- a walk that an answer shows to have stopped stays as it is
  stopped_discover_all : (work : List ℕ) (s : Stop) (start : List ℕ) (w : Walk Vertex) (es : List (ℕ × Vertex)) → Represents work (Err s) start w
      → discover_all (lag_graph A B b) (below (slot_count (length start))) p w es ≡ w
  stopped_discover_all work s start (going ns) es S = let q = S.answer in cc
  stopped_discover_all work s start (ended ns n) es S = discover_all_ended (lag_graph A B b) (below (slot_count (length start))) p ns n es
  stopped_discover_all work s start (full ns) es S = discover_all_full (lag_graph A B b) (below (slot_count (length start))) p ns es

  -- es, discovered from the list that work represents, make W
  abbrev pub FoldLoops : List ℕ → ℕ → List ℕ → List (ℕ × Vertex) → Walk Vertex → Type 0
  FoldLoops work m start es W =
      (ms : List (Node Vertex)) × Represents work (Ok m) start (going ms)
      × (discover_all (lag_graph A B b) (below (slot_count (length start))) p (going ms) es ≡ W)

  -- the code has discovered fs, the first of them
  module _ (work : List ℕ) (m : ℕ) (work' : List ℕ) (r : Result ℕ Stop) (start : List ℕ) (fs es gs : List (ℕ × Vertex)) (W : Walk Vertex)
      (O : FoldLoops work m start gs W) (first : gs ≡ fs ++ es)
      (made : Becomes work m work' r (λ S w. discover_all (lag_graph A B b) (below S) p w fs)) where
    after : Represents work' r start (discover_all (lag_graph A B b) (below (slot_count (length start))) p (going O.0) fs)
    after = made start O.0 O.1

    whole : discover_all (lag_graph A B b) (below (slot_count (length start))) p
        (discover_all (lag_graph A B b) (below (slot_count (length start))) p (going O.0) fs) es ≡ W
    whole =
        sym (discover_all_append (lag_graph A B b) (below (slot_count (length start))) p (going O.0) fs es)
        ∙ ap (discover_all (lag_graph A B b) (below (slot_count (length start))) p (going O.0)) (sym first)
        ∙ O.2

    pub onward_next : (x : ℕ) → r ≡ Ok x → FoldLoops work' x start es W
    onward_next x e =
        let w = discover_all (lag_graph A B b) (below (slot_count (length start))) p (going O.0) fs in
        let g = represented_going work' x start w (subst (λ (q : Result ℕ Stop). Represents work' q start w) e after) in
        (g.0, g.2, ap (λ (w : Walk Vertex). discover_all (lag_graph A B b) (below (slot_count (length start))) p w es) (sym g.1) ∙ whole)

    pub onward_stop : (s : Stop) → r ≡ Err s → Represents work' (Err s) start W
    onward_stop s e =
        let w = discover_all (lag_graph A B b) (below (slot_count (length start))) p (going O.0) fs in
        let S : Represents work' (Err s) start w = subst (λ (q : Result ℕ Stop). Represents work' q start w) e after in
        subst (λ (x : Walk Vertex). Represents work' (Err s) start x) (sym (stopped_discover_all work' s start w es S) ∙ whole) S

  pub onward_end : (work : List ℕ) (m : ℕ) (start : List ℕ) (es : List (ℕ × Vertex)) (W : Walk Vertex) → FoldLoops work m start es W
      → es ≡ [] → Represents work (Ok m) start W
  onward_end work m start es W O e =
      subst (λ (w : Walk Vertex). Represents work (Ok m) start w)
      (ap (discover_all (lag_graph A B b) (below (slot_count (length start))) p (going O.0)) (sym e) ∙ O.2) O.1
