-- The walk with S slots is the discovery list of the lag-checking graph exactly if that fits the slots, and the list decides
-- containment: without a final vertex the counters of every left run prefix keep one above 0, so some right run prefix follows it, and
-- the final vertex's word has a left run prefix that none follows. Assumes nothing.
use mathlib.Core.Path.{◌≡◌, refl, sym, ap, subst, ◌∙◌}
use mathlib.Core.Bool.{Bool, true, false}
use mathlib.Core.Logic.{◌↔◌, ◌⊎◌, inl, inr, ⊎_elim}
use mathlib.Core.List.{List, [], ◌∷◌, ◌++◌}
use Prim.Native.Nat.{ℕ, ◌≤◌, ◌<◌}
use native.Mathlib.Omega.{arith}
use lib.ListN.{length, take}
use Rattle.automaton.specs.declared.Automaton.{Automaton}
use Rattle.automaton.specs.Automata.{max_states}
use Rattle.runs.specs.Runs.{Run, Prefix}
use Rattle.runs.specs.Containment.{Follows, Contained, Shows}
use Rattle.automaton.proofs.Booleans.{is_true, T_true, clash}
use Rattle.runs.proofs.FollowedBy.{FollowedBy, AllFollowed}
use Rattle.runs.proofs.Contained.{follows_followed, contained_followed}
use Rattle.slots.specs.declared.Vertex.{Vertex}
use Rattle.slots.specs.Slots.{same_vertex, all_zero}
use Rattle.slots.proofs.Vertices.{same_vertex_eq, same_vertex_refl}
use Rattle.graph.specs.Discovery.{Node, Walk, going, ended, full, nodes_of, DiscoveryList, all, final, at}
use Rattle.graph.specs.LagGraph.{lag_graph}
use Rattle.graph.specs.Walks.{walk_of, word_of, Fits, NeedsMore}
use Rattle.graph.proofs.Discoveries.{extends_front, length_snoc, lt_or_le}
use Rattle.graph.proofs.Parents.{Linked}
use Rattle.graph.specs.Discovery.{with_final}
use Rattle.graph.proofs.Capacity.{walk_going_iff, walk_ended_iff, walk_full_more}
use Rattle.graph.proofs.DiscoveryLaws.{going_lists_all, ended_list, list_linked}
use Rattle.graph.proofs.Words.{word_length_le, final_word_path, final_word_shortest}
use Rattle.graph.specs.Meaning.{counters_after}
use Rattle.graph.proofs.Counters.{counters_followed}
use Rattle.graph.proofs.Paths.{path_prefix, prefix_path}
use Rattle.graph.proofs.VertexRanges.{VertexInRange, listed_in_range}

-- what the laws of the discovery list ask of the test whether two vertices are the same
pub same_sound : (u v : Vertex) → same_vertex u v ≡ true → u ≡ v
same_sound u v e = same_vertex_eq u v (is_true (same_vertex u v) e)

pub same_refl : (v : Vertex) → same_vertex v v ≡ true
same_refl v = T_true (same_vertex v v) (same_vertex_refl v)

module _ (A B : Automaton) (b S : ℕ) where
  -- The walk with S slots and the list: it is the list where that fits the slots, with or without a final vertex, and else full.

  pub walk_going : (ns : List (Node Vertex)) → (walk_of A B b S ≡ going ns) ↔ Fits A B b S (going ns)
  unfolding walk_of
  walk_going ns =
      let i = walk_going_iff (lag_graph A B b) S ns in
      (λ e. let f = i.0 e in record { list = f.0; room = f.1 }, λ f. i.1 (f.list, f.room))

  pub walk_ended : (ns : List (Node Vertex)) (n : Node Vertex) → (walk_of A B b S ≡ ended ns n) ↔ Fits A B b S (ended ns n)
  unfolding walk_of
  walk_ended ns n =
      let i = walk_ended_iff (lag_graph A B b) S ns n in
      (λ e. let f = i.0 e in record { list = f.0; room = f.1 }, λ f. i.1 (f.list, f.room))

  pub walk_full : (ns : List (Node Vertex)) → walk_of A B b S ≡ full ns → NeedsMore A B b S × (length ns ≡ S)
  unfolding walk_of NeedsMore
  walk_full ns e =
      let f = walk_full_more (lag_graph A B b) S ns e in
      (λ w t. omega (arith, (f.1 w t.list).0, t.room), f.0)

  -- refusal 10's slots are the first S vertices of the list
  pub walk_full_front : (ns : List (Node Vertex)) → walk_of A B b S ≡ full ns → (w : Walk Vertex) → DiscoveryList (lag_graph A B b) w
      → ns ≡ take S (nodes_of w)
  unfolding walk_of
  walk_full_front ns e w d =
      let f = walk_full_more (lag_graph A B b) S ns e in
      sym (extends_front (lag_graph A B b) ns (nodes_of w) (f.1 w d).1) ∙ ap (λ (k : ℕ). take k (nodes_of w)) f.0

  -- The nodes of the list, that of the final vertex included.

  pub list_links : (w : Walk Vertex) → Fits A B b S w → (p : ℕ) × Linked (lag_graph A B b) p (with_final w)
  list_links w f = list_linked (lag_graph A B b) same_sound w f.list

  -- each parent has a lower place
  pub list_parents_fall : (w : Walk Vertex) → Fits A B b S w → (i : ℕ) → 0 < i → i < length (with_final w)
      → (at (lag_graph A B b) (with_final w) i).parent < i
  list_parents_fall w f = (list_links w f).1.falls

  -- the word has no more letters than there are vertices before the final one
  pub list_word_length : (ns : List (Node Vertex)) (n : Node Vertex) → Fits A B b S (ended ns n)
      → length (word_of A B b ns n) ≤ length ns
  unfolding word_of
  list_word_length ns n f =
      let l = list_links (ended ns n) f in
      word_length_le (lag_graph A B b) l.0 (ns ++ n ∷ []) l.1 (length ns) (omega (arith, length_snoc (lag_graph A B b) ns n))

  module _ (inside : A.initial < A.states) where
    -- left states and counters
    pub list_in_range : (w : Walk Vertex) → Fits A B b S w → (i : ℕ) → i < length (with_final w)
        → VertexInRange A b (at (lag_graph A B b) (with_final w) i).vertex
    list_in_range w f = let l = list_links w f in listed_in_range A B b inside l.0 (with_final w) l.1

  -- What the list says of containment.

  module _ (small : B.states ≤ max_states) (inside : B.initial < B.states) where
    -- a left run prefix that does not lead to a final vertex is followed
    not_final_followed : {q : ℕ} {w ts : List ℕ} → Run A A.initial w q ts → all_zero (counters_after A B b w ts) ≡ false
        → FollowedBy A B b w ts
    not_final_followed k e = (counters_followed A B b small inside k).0 (λ t. clash (T_true _ t) e)

    list_all_followed : (ns : List (Node Vertex)) → Fits A B b S (going ns) → AllFollowed A B b
    unfolding AllFollowed
    list_all_followed ns f q w ts k =
        not_final_followed k
        (going_lists_all (lag_graph A B b) same_sound ns f.list
        (record { left = q; counters = counters_after A B b w ts }) w (prefix_path A B b k)).1

    pub list_contained : (ns : List (Node Vertex)) → Fits A B b S (going ns) → Contained A B b
    list_contained ns f = (contained_followed A B b).1 (list_all_followed ns f)

    pub list_differs : (ns : List (Node Vertex)) (n : Node Vertex) → Fits A B b S (ended ns n) → Shows A B b (word_of A B b ns n)
    unfolding word_of
    list_differs ns n f =
        let x = path_prefix A B b (final_word_path (lag_graph A B b) same_sound ns n f.list) in
        let z = (ended_list (lag_graph A B b) same_sound ns n f.list).is_final in
        record {
          states = A.initial ∷ x.states;
          prefix = record { end = n.vertex.left; rest = x.states; run = x.run; all = refl };
          unfollowed = λ g.
              (counters_followed A B b small inside x.run).1 ((follows_followed A B b x.run).0 g)
              (is_true _ (ap all_zero x.counters ∙ z));
        }

    -- no shorter word shows it: every run prefix on a shorter word is followed
    pub list_shorter_followed : (ns : List (Node Vertex)) (n : Node Vertex) → Fits A B b S (ended ns n) → (w π : List ℕ)
        → length w < length (word_of A B b ns n) → Prefix A w π → Follows A B b w π
    unfolding word_of
    list_shorter_followed ns n f w π l x =
        subst (Follows A B b w) (sym x.all)
        ((follows_followed A B b x.run).1 (go (all_zero (counters_after A B b w x.rest)) refl))
      where
        go : (c : Bool) → all_zero (counters_after A B b w x.rest) ≡ c → FollowedBy A B b w x.rest
        go true e =
            absurd
            (omega (
              arith,
              final_word_shortest (lag_graph A B b) same_sound ns n f.list
                  (record { left = x.end; counters = counters_after A B b w x.rest })
                  w
                  (prefix_path A B b x.run)
                  e,
            ))
        go false e = not_final_followed x.run e

    pub list_word_shortest : (ns : List (Node Vertex)) (n : Node Vertex) → Fits A B b S (ended ns n) → (w : List ℕ)
        → Shows A B b w → length (word_of A B b ns n) ≤ length w
    list_word_shortest ns n f w s =
        ⊎_elim (λ l. absurd (s.unfollowed (list_shorter_followed ns n f w s.states l s.prefix))) (λ l. l)
        (lt_or_le (length w) (length (word_of A B b ns n)))

    shows_not_contained : (w : List ℕ) → Shows A B b w → Contained A B b → ⊥
    unfolding Contained
    shows_not_contained w s c = s.unfollowed (c w s.states s.prefix)

    -- a list that fits is one of the two
    abbrev Decided : Type 0
    Decided =
        ((ns : List (Node Vertex)) × (walk_of A B b S ≡ going ns) × Contained A B b)
        ⊎ ((ns : List (Node Vertex)) × (n : Node Vertex) × (walk_of A B b S ≡ ended ns n) × (Contained A B b → ⊥))

    decided : (w : Walk Vertex) → Fits A B b S w → Decided
    decided w f = go f.list f.room
      where
        go : {x : Walk Vertex} → DiscoveryList (lag_graph A B b) x → length (nodes_of x) ≤ S → Decided
        go (all {ns = ns} k e h) l =
            let g : Fits A B b S (going ns) = record { list = all k e h; room = l } in
            inl (ns, (walk_going ns).1 g, list_contained ns g)
        go (final {ns = ns} {n = n} k e) l =
            let g : Fits A B b S (ended ns n) = record { list = final k e; room = l } in
            inr (ns, n, (walk_ended ns n).1 g, shows_not_contained (word_of A B b ns n) (list_differs ns n g))

    -- the walk says "contained" exactly if the list fits the slots and A is contained in B
    pub walk_decides_containment
        : ((ns : List (Node Vertex)) × (walk_of A B b S ≡ going ns)) ↔ (((w : Walk Vertex) × Fits A B b S w) × Contained A B b)
    walk_decides_containment = (
      λ e. let f = (walk_going e.0).0 e.1 in ((going e.0, f), list_contained e.0 f),
      λ f. ⊎_elim (λ d. (d.0, d.1)) (λ d. absurd (d.3 f.1)) (decided f.0.0 f.0.1),
    )

    -- and "differs" exactly if the list fits and A is not contained in B
    pub walk_decides_difference
        : ((ns : List (Node Vertex)) × (n : Node Vertex) × (walk_of A B b S ≡ ended ns n))
        ↔ (((w : Walk Vertex) × Fits A B b S w) × (Contained A B b → ⊥))
    walk_decides_difference = (
      λ e.
          let f = (walk_ended e.0 e.1).0 e.2 in
          ((ended e.0 e.1, f), shows_not_contained (word_of A B b e.0 e.1) (list_differs e.0 e.1 f)),
      λ f. ⊎_elim (λ d. absurd (f.1 d.2)) (λ d. (d.0, d.1, d.2)) (decided f.0.0 f.0.1),
    )
