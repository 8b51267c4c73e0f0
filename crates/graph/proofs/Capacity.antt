-- The walk with S slots is the discovery list exactly if the list fits them, and otherwise all S slots are taken: successor by successor
-- the walk with S slots stands beside the list without slots, equal to it or full while the list is longer. Assumes nothing.
use mathlib.Core.Path.{◌≡◌, refl, sym, ◌∙◌, ap, subst}
use mathlib.Core.Bool.{Bool, true, false}
use mathlib.Core.Logic.{◌↔◌}
use mathlib.Core.List.{List, [], ◌∷◌}
use Prim.Native.Nat.{ℕ, zero, suc, ◌+◌, ◌≤◌, ◌<◌}
use native.Mathlib.Nat.{add_comm}
use native.Mathlib.Omega.{arith}
use lib.ListN.{length}
use borrow.Author.Tests.{ltb-true, ltb-false}
use Rattle.slots.specs.Slots.{no_letter, no_parent}
use Rattle.graph.specs.Discovery.{Graph, Node, Walk, going, ended, full, nodes_of, node, always, below, listed, discover, discover_all, successors_at, expand, expand_all, begin, discovered, DiscoveryList, all, final, walk}
use Rattle.graph.proofs.Discoveries.{put, Extends, extends_snoc, extends_trans, length_snoc, discover_extends, discover_all_extends, discover_all_full, expand_all_extends, expand_all_past, expand_all_ended, expand_all_add}

-- w with S slots, beside x with a slot for every vertex
abbrev Beside : (G : Graph) → ℕ → Walk G.Vertices → Walk G.Vertices → Type 0
Beside G S (going ns) x = (x ≡ going ns) × (length ns ≤ S)
Beside G S (ended ns n) x = (x ≡ ended ns n) × (length ns ≤ S)
Beside G S (full ns) x = (length ns ≡ S) × (S < length (nodes_of x)) × Extends G ns (nodes_of x)

module _ (G : Graph) (S : ℕ) where
  discover_beside : (p : ℕ) (w x : Walk G.Vertices) (e : ℕ × G.Vertices) → Beside G S w x
      → Beside G S (discover G (below S) p w e) (discover G always p x e)
  discover_beside p (going ns) x e s = rw s.0 (go (listed G e.1 ns) (G.final e.1) (below S (length ns)) refl)
    where
      go : (a b c : Bool) → below S (length ns) ≡ c → Beside G S (put a b c ns (node e p)) (put a b true ns (node e p))
      go true b c z = (refl, s.1)
      go false true c z = (refl, s.1)
      go false false true z =
          let l = ltb-true _ S z in
          (refl, omega (arith, length_snoc G ns (node e p)))
      go false false false z =
          let l = ltb-false _ S z in
          (omega (arith, s.1), omega (arith, s.1, length_snoc G ns (node e p)), extends_snoc G ns (node e p))
  discover_beside p (ended ns n) x e s = rw s.0 (refl, s.1)
  discover_beside p (full ns) x e s = (
    s.0,
    omega (arith, s.1, (discover_extends G always p x e).longer),
    extends_trans G ns (nodes_of x) (nodes_of (discover G always p x e)) s.2 (discover_extends G always p x e),
  )

  discover_all_beside : (p : ℕ) (es : List (ℕ × G.Vertices)) (w x : Walk G.Vertices) → Beside G S w x
      → Beside G S (discover_all G (below S) p w es) (discover_all G always p x es)
  discover_all_beside p [] w x s = s
  discover_all_beside p (e ∷ es) w x s =
      discover_all_beside p es (discover G (below S) p w e) (discover G always p x e) (discover_beside p w x e s)

  expand_beside : (p : ℕ) (w x : Walk G.Vertices) → Beside G S w x → Beside G S (expand G (below S) p w) (expand G always p x)
  expand_beside p (going ns) x s = rw s.0 (discover_all_beside p (successors_at G ns p) (going ns) (going ns) (refl, s.1))
  expand_beside p (ended ns n) x s =
      rw s.0 (discover_all_beside p (successors_at G ns p) (ended ns n) (ended ns n) (refl, s.1))
  expand_beside p (full ns) x s =
      rw (discover_all_full G (below S) p ns (successors_at G ns p)) (
        s.0,
        omega (arith, s.1, (discover_all_extends G always p (successors_at G (nodes_of x) p) x).longer),
        extends_trans G ns (nodes_of x) (nodes_of (expand G always p x)) s.2
            (discover_all_extends G always p (successors_at G (nodes_of x) p) x),
      )

  expand_all_beside : (k p : ℕ) (w x : Walk G.Vertices) → Beside G S w x
      → Beside G S (expand_all G (below S) k p w) (expand_all G always k p x)
  expand_all_beside zero p w x s = s
  expand_all_beside (suc k) p w x s = expand_all_beside k (suc p) (expand G (below S) p w) (expand G always p x) (expand_beside p w x s)

  walk_beside : Beside G S (walk G S) (discovered G S)
  walk_beside =
      expand_all_beside S 0 (begin G (below S)) (begin G always)
      (discover_beside no_parent (going []) (going []) (no_letter, G.initial) (refl, omega arith))

module _ (G : Graph) where
  -- once the list is whole, expanding more places changes nothing
  list_stays : {w : Walk G.Vertices} → DiscoveryList G w → (k : ℕ) × ((j : ℕ) → discovered G (k + j) ≡ w)
  list_stays (all {ns = ns} k e h) = (
    k,
    λ j.
        expand_all_add G always k j 0 (begin G always) ∙ ap (expand_all G always j (0 + k)) e ∙ expand_all_past G always j (0 + k) ns (omega arith),
  )
  list_stays (final {ns = ns} {n = n} k e) = (
    k,
    λ j.
        expand_all_add G always k j 0 (begin G always) ∙ ap (expand_all G always j (0 + k)) e ∙ expand_all_ended G always j (0 + k) ns n,
  )

  pub list_unique : {w x : Walk G.Vertices} → DiscoveryList G w → DiscoveryList G x → w ≡ x
  list_unique d e =
      let l = list_stays d in
      let m = list_stays e in
      sym (l.1 m.0) ∙ ap (discovered G) (add_comm l.0 m.0) ∙ m.1 l.0

  -- the list goes on where it ends after k places
  list_longer : {w : Walk G.Vertices} (k : ℕ) → DiscoveryList G w → Extends G (nodes_of (discovered G k)) (nodes_of w)
  list_longer {w} k d =
      let l = list_stays d in
      let e : discovered G (k + l.0) ≡ w = ap (discovered G) (add_comm k l.0) ∙ l.1 k in
      rw (← e, expand_all_add G always k l.0 0 (begin G always))
      (expand_all_extends G always l.0 (0 + k) (discovered G k))

  module _ (S : ℕ) where
    -- what the walk with S slots says of the list
    abbrev Says : Walk G.Vertices → Type 0
    Says (going ns) = DiscoveryList G (going ns) × (length ns ≤ S)
    Says (ended ns n) = DiscoveryList G (ended ns n) × (length ns ≤ S)
    Says (full ns) =
        (length ns ≡ S) × ((w : Walk G.Vertices) → DiscoveryList G w → (S < length (nodes_of w)) × Extends G ns (nodes_of w))

    beside_says : (w : Walk G.Vertices) → Beside G S w (discovered G S) → Says w
    beside_says (going ns) s = (all S s.0 s.1, s.1)
    beside_says (ended ns n) s = (final S s.0, s.1)
    beside_says (full ns) s = (
      s.0,
      λ w d.
          let l = list_longer S d in
          (omega (arith, s.1, l.longer), extends_trans G ns (nodes_of (discovered G S)) (nodes_of w) s.2 l),
    )

    walk_says : Says (walk G S)
    walk_says = beside_says (walk G S) (walk_beside G S)

    -- a list that fits is the walk
    fitting_walk : (w : Walk G.Vertices) → DiscoveryList G w → length (nodes_of w) ≤ S → walk G S ≡ w
    fitting_walk w d h = go (walk G S) refl walk_says
      where
        go : (x : Walk G.Vertices) → walk G S ≡ x → Says x → walk G S ≡ w
        go (going ns) e s = e ∙ list_unique s.0 d
        go (ended ns n) e s = e ∙ list_unique s.0 d
        go (full ns) e s = absurd (omega (arith, (s.1 w d).0))

    pub walk_going_iff : (ns : List (Node G.Vertices)) → (walk G S ≡ going ns) ↔ (DiscoveryList G (going ns) × (length ns ≤ S))
    walk_going_iff ns = (λ e. subst Says e walk_says, λ d. fitting_walk (going ns) d.0 d.1)

    pub walk_ended_iff : (ns : List (Node G.Vertices)) (n : Node G.Vertices)
        → (walk G S ≡ ended ns n) ↔ (DiscoveryList G (ended ns n) × (length ns ≤ S))
    walk_ended_iff ns n = (λ e. subst Says e walk_says, λ d. fitting_walk (ended ns n) d.0 d.1)

    pub walk_full_more : (ns : List (Node G.Vertices)) → walk G S ≡ full ns
        → (length ns ≡ S) × ((w : Walk G.Vertices) → DiscoveryList G w → (S < length (nodes_of w)) × Extends G ns (nodes_of w))
    walk_full_more ns e = subst Says e walk_says
