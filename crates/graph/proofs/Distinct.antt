-- No vertex is listed twice: discovering appends a vertex only if it is not listed. Assumes nothing.
use mathlib.Core.Path.{◌≡◌, refl, sym, ◌∙◌, ap}
use mathlib.Core.Bool.{Bool, true, false, ◌||◌}
use mathlib.Core.Logic.{◌⊎◌, inl, inr}
use mathlib.Core.List.{List, [], ◌∷◌, ◌++◌}
use Prim.Native.Nat.{ℕ, zero, suc, ◌<◌}
use native.Mathlib.Omega.{arith}
use lib.ListN.{length}
use Rattle.slots.specs.Slots.{no_letter, no_parent}
use Rattle.graph.specs.Discovery.{Graph, Node, Walk, going, ended, full, nodes_of, node, listed, discover, discover_all, successors_at, expand, expand_all, begin, at}
use Rattle.graph.proofs.Discoveries.{DiscoverCase, known, ends, appended, no_slot, discover_case, at_left, at_last, before_or_last}

abbrev pub DistinctVertices : (G : Graph) → List (Node G.Vertices) → Type 0
DistinctVertices G ns = (i j : ℕ) → i < j → j < length ns → (at G ns i).vertex ≡ (at G ns j).vertex → ⊥

or_false : (a b : Bool) → (a || b) ≡ false → (a ≡ false) × (b ≡ false)
or_false true b e = absurd (let z : ◌≡◌ {A = ℕ} 0 1 = cc in omega arith)
or_false false b e = (refl, e)

module _ (G : Graph) (same_refl : (v : G.Vertices) → G.same v v ≡ true) where
  pub unlisted : (v : G.Vertices) (ns : List (Node G.Vertices)) → listed G v ns ≡ false → (i : ℕ) → i < length ns
      → (at G ns i).vertex ≡ v → ⊥
  unlisted v [] e i h q = absurd (omega arith)
  unlisted v (n ∷ ns) e zero h q =
      let d = (or_false (G.same v n.vertex) (listed G v ns) e).0 in
      let t : G.same v n.vertex ≡ true = rw q (same_refl v) in
      absurd (let z : ◌≡◌ {A = ℕ} 0 1 = cc in omega arith)
  unlisted v (n ∷ ns) e (suc i) h q = unlisted v ns (or_false (G.same v n.vertex) (listed G v ns) e).1 i (omega arith) q

  distinct_snoc : (ns : List (Node G.Vertices)) (n : Node G.Vertices) → listed G n.vertex ns ≡ false
      → DistinctVertices G ns → DistinctVertices G (ns ++ n ∷ [])
  distinct_snoc ns n e D i j l h q = go (before_or_last G ns n j h)
    where
      vertex_at_lem : (k : ℕ) → k < length ns → (at G (ns ++ n ∷ []) k).vertex ≡ (at G ns k).vertex
      vertex_at_lem k m = ap (λ (x : Node G.Vertices). x.vertex) (at_left G ns (n ∷ []) k m)

      go : (j < length ns) ⊎ (j ≡ length ns) → ⊥
      go (inl k) = D i j l k (sym (vertex_at_lem i (omega arith)) ∙ q ∙ vertex_at_lem j k)
      go (inr k) =
          unlisted n.vertex ns e i (omega arith)
          (sym (vertex_at_lem i (omega arith)) ∙ q ∙ ap (λ (x : Node G.Vertices). x.vertex) (at_last G ns n j k))

  module _ (free : ℕ → Bool) where
    distinct_discover_case : (p : ℕ) (ns : List (Node G.Vertices)) (e : ℕ × G.Vertices) (w : Walk G.Vertices)
        → DiscoverCase G free p ns e w → DistinctVertices G ns → DistinctVertices G (nodes_of w)
    distinct_discover_case p ns e w (known x) D = D
    distinct_discover_case p ns e w (ends x y) D = D
    distinct_discover_case p ns e w (appended x y z) D = distinct_snoc ns (node e p) x D
    distinct_discover_case p ns e w (no_slot x y z) D = D

    pub discover_distinct : (p : ℕ) (w : Walk G.Vertices) (e : ℕ × G.Vertices) → DistinctVertices G (nodes_of w)
        → DistinctVertices G (nodes_of (discover G free p w e))
    discover_distinct p (going ns) e D = distinct_discover_case p ns e (discover G free p (going ns) e) (discover_case G free p ns e) D
    discover_distinct p (ended ns n) e D = D
    discover_distinct p (full ns) e D = D

    pub discover_all_distinct : (p : ℕ) (es : List (ℕ × G.Vertices)) (w : Walk G.Vertices) → DistinctVertices G (nodes_of w)
        → DistinctVertices G (nodes_of (discover_all G free p w es))
    discover_all_distinct p [] w D = D
    discover_all_distinct p (e ∷ es) w D = discover_all_distinct p es (discover G free p w e) (discover_distinct p w e D)

    expand_all_distinct : (k p : ℕ) (w : Walk G.Vertices) → DistinctVertices G (nodes_of w) → DistinctVertices G (nodes_of (expand_all G free k p w))
    expand_all_distinct zero p w D = D
    expand_all_distinct (suc k) p w D =
        expand_all_distinct k (suc p) (expand G free p w) (discover_all_distinct p (successors_at G (nodes_of w) p) w D)

    -- after the first k places are expanded, with whatever slots are free
    pub walked_distinct : (k : ℕ) → DistinctVertices G (nodes_of (expand_all G free k 0 (begin G free)))
    walked_distinct k =
        expand_all_distinct k 0 (begin G free)
        (discover_distinct no_parent (going []) (no_letter, G.initial) (λ i j l h q. absurd (omega arith)))
