-- The discovery list of a graph (01, "The walk"): from the initial vertex on, the places are expanded in their order; a successor that is
-- listed already is passed over, any other is appended, and a final one ends the list.
--   Graph              vertices, a test whether two are the same, the successors in order with their letters, final, initial
--   Path               a path along the successors
--   Node               a listed vertex, with the letter and the place of the parent by which it was found
--   Walk               a list so far: it goes on; it has ended with a final vertex; or a vertex found no slot
--   discover           one successor more, with a test that says where a slot is free
--   expand p           all successors of the vertex at place p
--   discovered k       the list once its first k places are expanded, with a slot for every vertex
--   DiscoveryList w    w is the whole discovery list. It does not depend on slots
--   walk S             the list with S slots
--   word_to ns i       the letters on the way to place i, read back by the parents, first letter first
-- Shown by `walk_going`, `walk_ended`, `walk_full` and `list_exists`. Assumes nothing.
use Rattle.std.specs.Prelude.{◌≡◌, Bool, true, false, cond, ◌||◌, ℕ, zero, suc, ◌≤◌, ltb, length, get_or}
use mathlib.Core.List.{List, [], ◌∷◌, ◌++◌, Memᴰ}
use Rattle.slots.specs.Slots.{no_letter, no_parent}

pub record Graph : Type 1 where
  pub Vertices : Type 0
  pub same : Vertices → Vertices → Bool
  pub successors : Vertices → List (ℕ × Vertices)
  pub final : Vertices → Bool
  pub initial : Vertices

-- a path along the successors, and the word of its letters
pub data Path (G : Graph) : G.Vertices → List ℕ → G.Vertices → Type 0 where
  stay : {u : G.Vertices} → Path G u [] u
  along : {u v x : G.Vertices} {a : ℕ} {w : List ℕ} → Memᴰ (a, v) (G.successors u) → Path G v w x → Path G u (a ∷ w) x

pub record Node (X : Type 0) : Type 0 where
  pub vertex : X
  pub letter : ℕ
  pub parent : ℕ

-- going: no final vertex so far; ended: the first final vertex after the others; full: a vertex that is not final found no slot
pub data Walk (X : Type 0) : Type 0 where
  going : List (Node X) → Walk X
  ended : List (Node X) → Node X → Walk X
  full : List (Node X) → Walk X

-- the listed vertices that are not final
abbrev pub nodes_of : {X : Type 0} → Walk X → List (Node X)
nodes_of (going ns) = ns
nodes_of (ended ns n) = ns
nodes_of (full ns) = ns

-- all listed vertices, the final one last
abbrev pub with_final : {X : Type 0} → Walk X → List (Node X)
with_final (going ns) = ns
with_final (ended ns n) = ns ++ n ∷ []
with_final (full ns) = ns

-- the successor e of the vertex at place p, as a node
abbrev pub node : {X : Type 0} → ℕ × X → ℕ → Node X
node e p = record { vertex = e.1; letter = e.0; parent = p }

-- a slot for every vertex
abbrev pub always : ℕ → Bool
always n = true

-- S slots: after n vertices one is free
abbrev pub below : ℕ → ℕ → Bool
below S n = ltb n S

module _ (G : Graph) where
  abbrev pub listed : G.Vertices → List (Node G.Vertices) → Bool
  listed v [] = false
  listed v (n ∷ ns) = G.same v n.vertex || listed v ns

  abbrev pub discover : (ℕ → Bool) → ℕ → Walk G.Vertices → ℕ × G.Vertices → Walk G.Vertices
  discover free p (going ns) e =
      cond (listed e.1 ns) (going ns)
      (cond (G.final e.1) (ended ns (node e p))
      (cond (free (length ns)) (going (ns ++ node e p ∷ [])) (full ns)))
  discover free p (ended ns n) e = ended ns n
  discover free p (full ns) e = full ns

  abbrev pub discover_all : (ℕ → Bool) → ℕ → Walk G.Vertices → List (ℕ × G.Vertices) → Walk G.Vertices
  discover_all free p w [] = w
  discover_all free p w (e ∷ es) = discover_all free p (discover free p w e) es

  -- the successors of the vertex at a place; none past the end
  abbrev pub successors_at : List (Node G.Vertices) → ℕ → List (ℕ × G.Vertices)
  successors_at [] i = []
  successors_at (n ∷ ns) zero = G.successors n.vertex
  successors_at (n ∷ ns) (suc i) = successors_at ns i

  abbrev pub expand : (ℕ → Bool) → ℕ → Walk G.Vertices → Walk G.Vertices
  expand free p w = discover_all free p w (successors_at (nodes_of w) p)

  -- the k places from p on; to expand past the end, or after the list has ended, changes nothing
  abbrev pub expand_all : (ℕ → Bool) → ℕ → ℕ → Walk G.Vertices → Walk G.Vertices
  expand_all free zero p w = w
  expand_all free (suc k) p w = expand_all free k (suc p) (expand free p w)

  -- the initial vertex, which no letter and no parent found
  abbrev pub begin : (ℕ → Bool) → Walk G.Vertices
  begin free = discover free no_parent (going []) (no_letter, G.initial)

  abbrev pub discovered : ℕ → Walk G.Vertices
  discovered k = expand_all always k 0 (begin always)

  -- all its places are expanded, or it has ended
  pub data DiscoveryList : Walk G.Vertices → Type 0 where
    all : {ns : List (Node G.Vertices)} (k : ℕ) → discovered k ≡ going ns → length ns ≤ k → DiscoveryList (going ns)
    final : {ns : List (Node G.Vertices)} {n : Node G.Vertices} (k : ℕ) → discovered k ≡ ended ns n → DiscoveryList (ended ns n)

  -- with S slots at most S vertices are listed that are not final, so to expand S places is enough
  abbrev pub walk : ℕ → Walk G.Vertices
  walk S = expand_all (below S) S 0 (begin (below S))

  abbrev pub root : Node G.Vertices
  root = node (no_letter, G.initial) no_parent

  abbrev pub at : List (Node G.Vertices) → ℕ → Node G.Vertices
  at ns i = get_or ns i root

  -- the letters on the way to place i, by at most k parents; parents have lower places, so i is enough
  abbrev pub back : ℕ → List (Node G.Vertices) → ℕ → List ℕ
  back zero ns i = []
  back (suc k) ns zero = []
  back (suc k) ns (suc i) = back k ns (at ns (suc i)).parent ++ (at ns (suc i)).letter ∷ []

  abbrev pub word_to : List (Node G.Vertices) → ℕ → List ℕ
  word_to ns i = back i ns i

  -- the word of the final vertex n after the vertices ns
  abbrev pub final_word : List (Node G.Vertices) → Node G.Vertices → List ℕ
  final_word ns n = word_to (ns ++ n ∷ []) (length ns)
