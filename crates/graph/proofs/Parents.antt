-- Each listed node but the first was found along an edge from its parent, which has a lower place, and parents rise with the
-- places. Discovering from place p keeps this, since it appends nodes whose parent is p. Assumes nothing.
use mathlib.Core.Path.{◌≡◌, refl, ◌∙◌, ap}
use mathlib.Core.Bool.{Bool, true, false}
use mathlib.Core.Logic.{⊎_elim}
use mathlib.Core.List.{List, [], ◌∷◌, ◌++◌, Memᴰ}
use Prim.Native.Nat.{ℕ, ◌≤◌, ◌<◌}
use native.Mathlib.Omega.{arith}
use lib.ListN.{length}
use Rattle.graph.specs.Discovery.{Graph, Node, Walk, going, ended, full, nodes_of, node, discover, discover_all, root, at}
use Rattle.graph.proofs.Discoveries.{DiscoverCase, known, ends, appended, no_slot, discover_case, discover_extends, at_left, at_last, before_or_last}

-- the edge by which the node at place i was found goes from its parent's vertex
abbrev pub EdgeTo : (G : Graph) → List (Node G.Vertices) → ℕ → Type 0
EdgeTo G ns i = Memᴰ ((at G ns i).letter, (at G ns i).vertex) (G.successors (at G ns (at G ns i).parent).vertex)

pub record Linked (G : Graph) (p : ℕ) (ns : List (Node G.Vertices)) : Type 0 where
  pub first : 0 < length ns → at G ns 0 ≡ root G
  pub falls : (i : ℕ) → 0 < i → i < length ns → (at G ns i).parent < i
  pub edge : (i : ℕ) → 0 < i → i < length ns → EdgeTo G ns i
  pub top : (i : ℕ) → 0 < i → i < length ns → (at G ns i).parent ≤ p
  pub order : (i j : ℕ) → 0 < i → i ≤ j → j < length ns → (at G ns i).parent ≤ (at G ns j).parent

-- and no listed vertex is final
pub record Plain (G : Graph) (p : ℕ) (ns : List (Node G.Vertices)) : Type 0 where
  pub linked : Linked G p ns
  pub not_final : (i : ℕ) → i < length ns → G.final (at G ns i).vertex ≡ false

-- how a walk stands while place p is expanded
abbrev pub During : (G : Graph) → ℕ → Walk G.Vertices → Type 0
During G p (going ns) = Plain G p ns
During G p (ended ns n) = Plain G p ns × Linked G p (ns ++ n ∷ []) × (n.parent ≡ p) × (G.final n.vertex ≡ true)
During G p (full ns) = Plain G p ns

module _ (G : Graph) where
  pub linked_raise : (p q : ℕ) (ns : List (Node G.Vertices)) → p ≤ q → Linked G p ns → Linked G q ns
  linked_raise p q ns h L =
      record {
        first = L.first;
        falls = L.falls;
        edge = L.edge;
        top = λ i a b. omega (arith, L.top i a b);
        order = L.order;
      }

  pub plain_raise : (p q : ℕ) (ns : List (Node G.Vertices)) → p ≤ q → Plain G p ns → Plain G q ns
  plain_raise p q ns h F = record { linked = linked_raise p q ns h F.linked; not_final = F.not_final }

  linked_snoc : (p : ℕ) (ns : List (Node G.Vertices)) (e : ℕ × G.Vertices) → p < length ns
      → Memᴰ e (G.successors (at G ns p).vertex) → Linked G p ns → Linked G p (ns ++ node e p ∷ [])
  linked_snoc p ns e hp m L = record { first = first; falls = falls; edge = edge; top = top; order = order }
    where
      first : 0 < length (ns ++ node e p ∷ []) → at G (ns ++ node e p ∷ []) 0 ≡ root G
      first h = at_left G ns (node e p ∷ []) 0 (omega arith) ∙ L.first (omega arith)

      falls : (i : ℕ) → 0 < i → i < length (ns ++ node e p ∷ []) → (at G (ns ++ node e p ∷ []) i).parent < i
      falls i a h =
          ⊎_elim (λ l. rw (at_left G ns (node e p ∷ []) i l) (L.falls i a l))
          (λ q. rw (at_last G ns (node e p) i q) (omega arith))
          (before_or_last G ns (node e p) i h)

      edge : (i : ℕ) → 0 < i → i < length (ns ++ node e p ∷ []) → EdgeTo G (ns ++ node e p ∷ []) i
      edge i a h =
          ⊎_elim
          (λ l.
          let h = L.falls i a l in
          rw (at_left G ns (node e p ∷ []) i l, at_left G ns (node e p ∷ []) (at G ns i).parent (omega arith)) (L.edge i a l))
          (λ q. rw (at_last G ns (node e p) i q, at_left G ns (node e p ∷ []) p hp) m)
          (before_or_last G ns (node e p) i h)

      top : (i : ℕ) → 0 < i → i < length (ns ++ node e p ∷ []) → (at G (ns ++ node e p ∷ []) i).parent ≤ p
      top i a h =
          ⊎_elim (λ l. rw (at_left G ns (node e p ∷ []) i l) (L.top i a l))
          (λ q. rw (at_last G ns (node e p) i q) (omega arith))
          (before_or_last G ns (node e p) i h)

      order : (i j : ℕ) → 0 < i → i ≤ j → j < length (ns ++ node e p ∷ [])
          → (at G (ns ++ node e p ∷ []) i).parent ≤ (at G (ns ++ node e p ∷ []) j).parent
      order i j a k h =
          ⊎_elim
          (λ l. rw (at_left G ns (node e p ∷ []) i (omega arith), at_left G ns (node e p ∷ []) j l) (L.order i j a k l))
          (λ q. rw (at_last G ns (node e p) j q) (top i a (omega arith)))
          (before_or_last G ns (node e p) j h)

  pub linked_root : (p : ℕ) → Linked G p (root G ∷ [])
  linked_root p =
      record {
        first = λ h. refl;
        falls = λ i a b. absurd (omega arith);
        edge = λ i a b. absurd (omega arith);
        top = λ i a b. absurd (omega arith);
        order = λ i j a b c. absurd (omega arith);
      }

  pub plain_empty : (p : ℕ) → Plain G p []
  plain_empty p =
      record {
        linked =
            record {
              first = λ h. absurd (omega arith);
              falls = λ i a b. absurd (omega arith);
              edge = λ i a b. absurd (omega arith);
              top = λ i a b. absurd (omega arith);
              order = λ i j a b c. absurd (omega arith);
            };
        not_final = λ i h. absurd (omega arith);
      }

  module _ (free : ℕ → Bool) (p : ℕ) where
    discover_case_during : (ns : List (Node G.Vertices)) (e : ℕ × G.Vertices) (w : Walk G.Vertices) → DiscoverCase G free p ns e w
        → p < length ns → Memᴰ e (G.successors (at G ns p).vertex) → Plain G p ns → During G p w
    discover_case_during ns e w (known x) hp m F = F
    discover_case_during ns e w (ends x y) hp m F = (F, linked_snoc p ns e hp m F.linked, refl, y)
    discover_case_during ns e w (appended x y z) hp m F =
        record {
          linked = linked_snoc p ns e hp m F.linked;
          not_final = λ i h.
              ⊎_elim (λ l. rw (at_left G ns (node e p ∷ []) i l) (F.not_final i l))
              (λ q. rw (at_last G ns (node e p) i q) y)
              (before_or_last G ns (node e p) i h);
        }
    discover_case_during ns e w (no_slot x y z) hp m F = F

    pub discover_during : (w : Walk G.Vertices) (e : ℕ × G.Vertices) → p < length (nodes_of w)
        → Memᴰ e (G.successors (at G (nodes_of w) p).vertex) → During G p w → During G p (discover G free p w e)
    discover_during (going ns) e hp m F =
        discover_case_during ns e (discover G free p (going ns) e) (discover_case G free p ns e) hp m F
    discover_during (ended ns n) e hp m F = F
    discover_during (full ns) e hp m F = F

    -- successors of the vertex u at place p, discovered one after the other
    pub discover_all_during : (u : G.Vertices) (es : List (ℕ × G.Vertices)) (w : Walk G.Vertices) → p < length (nodes_of w)
        → (at G (nodes_of w) p).vertex ≡ u → ((e : ℕ × G.Vertices) → Memᴰ e es → Memᴰ e (G.successors u))
        → During G p w → During G p (discover_all G free p w es)
    discover_all_during u [] w hp q sub F = F
    discover_all_during u (e ∷ es) w hp q sub F =
        let x = discover_extends G free p w e in
        discover_all_during u es (discover G free p w e) (omega (arith, x.longer))
        (ap (λ (n : Node G.Vertices). n.vertex) (x.same p hp) ∙ q)
        (λ d m. sub d (Memᴰ.tail m))
        (discover_during w e hp (rw q (sub e (Memᴰ.head refl))) F)
