-- What one successor, one place and several places make of a walk: a successor goes one of four ways, the list only grows, at its end, and a
-- walk that has ended, that lacks a slot or whose places have all been expanded stays as it is. Assumes nothing.
use mathlib.Core.Path.{◌≡◌, refl, ◌∙◌}
use mathlib.Core.Bool.{Bool, true, false, cond}
use mathlib.Core.Logic.{◌⊎◌, inl, inr, ⊎_elim}
use mathlib.Core.List.{List, [], ◌∷◌, ◌++◌}
use Prim.Native.Nat.{ℕ, zero, suc, ◌+◌, ◌≤◌, ◌<◌}
use native.Mathlib.Nat.{zero-add, add-zero, le_of_suc-le-suc, not-suc-le-zero}
use native.Mathlib.Omega.{arith}
use lib.Dec.{ltb}
use lib.ListN.{length, take, length-append, get_or-append}
use lib.Seq.{get_or-append_seam}
use borrow.Author.Tests.{ltb-true, ltb-false}
use Rattle.graph.specs.Discovery.{Graph, Node, Walk, going, ended, full, nodes_of, node, listed, discover, discover_all, successors_at, expand, expand_all, root, at}

-- what a successor comes to, by the three tests: listed, final, a slot free
abbrev pub put : {X : Type 0} → Bool → Bool → Bool → List (Node X) → Node X → Walk X
put a b c ns n = cond a (going ns) (cond b (ended ns n) (cond c (going (ns ++ n ∷ [])) (full ns)))

-- the four ways of a successor: the vertex is listed, it is final, it takes a slot, or it finds none
pub data DiscoverCase (G : Graph) (free : ℕ → Bool) (p : ℕ) (ns : List (Node G.Vertices)) (e : ℕ × G.Vertices)
    : Walk G.Vertices → Type 0 where
  known : listed G e.1 ns ≡ true → DiscoverCase G free p ns e (going ns)
  ends : listed G e.1 ns ≡ false → G.final e.1 ≡ true → DiscoverCase G free p ns e (ended ns (node e p))
  appended : listed G e.1 ns ≡ false → G.final e.1 ≡ false → free (length ns) ≡ true
      → DiscoverCase G free p ns e (going (ns ++ node e p ∷ []))
  no_slot : listed G e.1 ns ≡ false → G.final e.1 ≡ false → free (length ns) ≡ false → DiscoverCase G free p ns e (full ns)

-- ms goes on where ns ends
pub record Extends (G : Graph) (ns ms : List (Node G.Vertices)) : Type 0 where
  pub longer : length ns ≤ length ms
  pub same : (i : ℕ) → i < length ns → at G ms i ≡ at G ns i

-- a list that another one extends is its front part
pub extends_front : (G : Graph) (ns ms : List (Node G.Vertices)) → Extends G ns ms → take (length ns) ms ≡ ns
extends_front G [] ms x = refl
extends_front G (n ∷ ns) [] x = absurd (not-suc-le-zero x.longer)
extends_front G (n ∷ ns) (m ∷ ms) x =
    let h : m ≡ n = x.same 0 (omega arith) in
    let t = extends_front G ns ms (record { longer = le_of_suc-le-suc x.longer; same = λ i l. x.same (suc i) (omega arith) }) in
    cc

pub lt_or_le : (i n : ℕ) → (i < n) ⊎ (n ≤ i)
lt_or_le i n = go (ltb i n) refl
  where
    go : (b : Bool) → ltb i n ≡ b → (i < n) ⊎ (n ≤ i)
    go true e = inl (ltb-true i n e)
    go false e = inr (ltb-false i n e)

module _ (G : Graph) where
  -- Places of a list with one more node.

  pub at_left : (ns ms : List (Node G.Vertices)) (i : ℕ) → i < length ns → at G (ns ++ ms) i ≡ at G ns i
  at_left ns ms i h = get_or-append ns ms (root G) i h

  pub length_snoc : (ns : List (Node G.Vertices)) (n : Node G.Vertices) → length (ns ++ n ∷ []) ≡ length ns + 1
  length_snoc ns n = length-append ns (n ∷ [])

  pub at_last : (ns : List (Node G.Vertices)) (n : Node G.Vertices) (i : ℕ) → i ≡ length ns → at G (ns ++ n ∷ []) i ≡ n
  at_last ns n i e = rw e (get_or-append_seam ns n [] (root G))

  pub before_or_last : (ns : List (Node G.Vertices)) (n : Node G.Vertices) (i : ℕ) → i < length (ns ++ n ∷ [])
      → (i < length ns) ⊎ (i ≡ length ns)
  before_or_last ns n i h = ⊎_elim (λ l. inl l) (λ l. inr (omega (arith, length_snoc ns n))) (lt_or_le i (length ns))

  -- Lists that go on.

  pub extends_refl : (ns : List (Node G.Vertices)) → Extends G ns ns
  extends_refl ns = record { longer = omega arith; same = λ i h. refl }

  pub extends_trans : (ns ms ks : List (Node G.Vertices)) → Extends G ns ms → Extends G ms ks → Extends G ns ks
  extends_trans ns ms ks x y =
      record { longer = omega arith; same = λ i h. y.same i (omega (arith, x.longer)) ∙ x.same i h }

  pub extends_snoc : (ns : List (Node G.Vertices)) (n : Node G.Vertices) → Extends G ns (ns ++ n ∷ [])
  extends_snoc ns n = record { longer = omega (arith, length_snoc ns n); same = λ i h. at_left ns (n ∷ []) i h }

  -- The successors of the vertex at a place.

  pub successors_in : (ns : List (Node G.Vertices)) (i : ℕ) → i < length ns
      → successors_at G ns i ≡ G.successors (at G ns i).vertex
  successors_in [] i h = absurd (omega arith)
  successors_in (n ∷ ns) zero h = refl
  successors_in (n ∷ ns) (suc i) h = successors_in ns i (omega arith)

  pub successors_past : (ns : List (Node G.Vertices)) (i : ℕ) → length ns ≤ i → successors_at G ns i ≡ []
  successors_past [] i h = refl
  successors_past (n ∷ ns) zero h = absurd (omega arith)
  successors_past (n ∷ ns) (suc i) h = successors_past ns i (omega arith)

  module _ (free : ℕ → Bool) where
    pub discover_case : (p : ℕ) (ns : List (Node G.Vertices)) (e : ℕ × G.Vertices)
        → DiscoverCase G free p ns e (discover G free p (going ns) e)
    discover_case p ns e = go (listed G e.1 ns) refl (G.final e.1) refl (free (length ns)) refl
      where
        go : (a : Bool) → listed G e.1 ns ≡ a → (b : Bool) → G.final e.1 ≡ b → (c : Bool) → free (length ns) ≡ c
            → DiscoverCase G free p ns e (put a b c ns (node e p))
        go true x b y c z = known x
        go false x true y c z = ends x y
        go false x false y true z = appended x y z
        go false x false y false z = no_slot x y z

    discover_case_extends : (p : ℕ) (ns : List (Node G.Vertices)) (e : ℕ × G.Vertices) (w : Walk G.Vertices)
        → DiscoverCase G free p ns e w → Extends G ns (nodes_of w)
    discover_case_extends p ns e w (known x) = extends_refl ns
    discover_case_extends p ns e w (ends x y) = extends_refl ns
    discover_case_extends p ns e w (appended x y z) = extends_snoc ns (node e p)
    discover_case_extends p ns e w (no_slot x y z) = extends_refl ns

    pub discover_extends : (p : ℕ) (w : Walk G.Vertices) (e : ℕ × G.Vertices)
        → Extends G (nodes_of w) (nodes_of (discover G free p w e))
    discover_extends p (going ns) e = discover_case_extends p ns e (discover G free p (going ns) e) (discover_case p ns e)
    discover_extends p (ended ns n) e = extends_refl ns
    discover_extends p (full ns) e = extends_refl ns

    pub discover_all_extends : (p : ℕ) (es : List (ℕ × G.Vertices)) (w : Walk G.Vertices)
        → Extends G (nodes_of w) (nodes_of (discover_all G free p w es))
    discover_all_extends p [] w = extends_refl (nodes_of w)
    discover_all_extends p (e ∷ es) w =
        extends_trans (nodes_of w) (nodes_of (discover G free p w e)) (nodes_of (discover_all G free p (discover G free p w e) es))
        (discover_extends p w e)
        (discover_all_extends p es (discover G free p w e))

    pub expand_all_extends : (k p : ℕ) (w : Walk G.Vertices) → Extends G (nodes_of w) (nodes_of (expand_all G free k p w))
    expand_all_extends zero p w = extends_refl (nodes_of w)
    expand_all_extends (suc k) p w =
        extends_trans (nodes_of w) (nodes_of (expand G free p w)) (nodes_of (expand_all G free k (suc p) (expand G free p w)))
        (discover_all_extends p (successors_at G (nodes_of w) p) w)
        (expand_all_extends k (suc p) (expand G free p w))

    -- Walks that stay as they are.

    pub discover_all_ended : (p : ℕ) (ns : List (Node G.Vertices)) (n : Node G.Vertices) (es : List (ℕ × G.Vertices))
        → discover_all G free p (ended ns n) es ≡ ended ns n
    discover_all_ended p ns n [] = refl
    discover_all_ended p ns n (e ∷ es) = discover_all_ended p ns n es

    pub discover_all_full : (p : ℕ) (ns : List (Node G.Vertices)) (es : List (ℕ × G.Vertices))
        → discover_all G free p (full ns) es ≡ full ns
    discover_all_full p ns [] = refl
    discover_all_full p ns (e ∷ es) = discover_all_full p ns es

    pub expand_all_ended : (k p : ℕ) (ns : List (Node G.Vertices)) (n : Node G.Vertices)
        → expand_all G free k p (ended ns n) ≡ ended ns n
    expand_all_ended zero p ns n = refl
    expand_all_ended (suc k) p ns n = rw (discover_all_ended p ns n (successors_at G ns p)) (expand_all_ended k (suc p) ns n)

    pub expand_all_full : (k p : ℕ) (ns : List (Node G.Vertices)) → expand_all G free k p (full ns) ≡ full ns
    expand_all_full zero p ns = refl
    expand_all_full (suc k) p ns = rw (discover_all_full p ns (successors_at G ns p)) (expand_all_full k (suc p) ns)

    pub expand_all_past : (k p : ℕ) (ns : List (Node G.Vertices)) → length ns ≤ p → expand_all G free k p (going ns) ≡ going ns
    expand_all_past zero p ns h = refl
    expand_all_past (suc k) p ns h = rw (successors_past ns p h) (expand_all_past k (suc p) ns (omega arith))

    -- Successors and places one after the other.

    pub discover_all_append : (p : ℕ) (w : Walk G.Vertices) (es fs : List (ℕ × G.Vertices))
        → discover_all G free p w (es ++ fs) ≡ discover_all G free p (discover_all G free p w es) fs
    discover_all_append p w [] fs = refl
    discover_all_append p w (e ∷ es) fs = discover_all_append p (discover G free p w e) es fs

    pub expand_all_add : (k j p : ℕ) (w : Walk G.Vertices) → expand_all G free (k + j) p w ≡ expand_all G free j (p + k) (expand_all G free k p w)
    expand_all_add zero j p w = rw (zero-add j, add-zero p)
    expand_all_add (suc k) j p w =
        let q : suc k + j ≡ suc (k + j) = omega arith in
        let r : p + suc k ≡ suc p + k = omega arith in
        rw (q, r) (expand_all_add k j (suc p) (expand G free p w))
