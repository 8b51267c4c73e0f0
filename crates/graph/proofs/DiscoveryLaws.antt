-- The discovery list lists every vertex that can be reached, and none of them is final, unless it ends with a final vertex: after
-- the places below p are expanded, their vertices' successors are listed, each found from its first such place. Assumes nothing.
use mathlib.Core.Path.{◌≡◌, refl, sym, ap, subst}
use mathlib.Core.Bool.{Bool, true, false, ◌||◌}
use mathlib.Core.Logic.{◌⊎◌, inl, inr, ⊎_elim}
use mathlib.Core.List.{List, [], ◌∷◌, ◌++◌, Memᴰ}
use Prim.Native.Nat.{ℕ, zero, suc, ◌+◌, ◌≤◌, ◌<◌}
use native.Mathlib.Nat.{zero-add, add-zero}
use native.Mathlib.Omega.{arith}
use lib.ListN.{length}
use Rattle.slots.specs.Slots.{no_letter, no_parent}
use Rattle.graph.specs.Discovery.{Graph, Path, stay, along, Node, Walk, going, ended, full, nodes_of, node, always, listed, discover, discover_all, successors_at, expand, expand_all, begin, DiscoveryList, all, final, root, at}
use Rattle.graph.proofs.Discoveries.{DiscoverCase, known, ends, appended, no_slot, discover_case, Extends, discover_all_extends, discover_all_ended, discover_all_full, extends_snoc, length_snoc, at_last, lt_or_le, successors_in, successors_past}
use Rattle.graph.proofs.Parents.{Linked, Plain, During, linked_raise, plain_raise, linked_root, plain_empty, discover_all_during}
use Rattle.graph.specs.Discovery.{with_final}

-- a place of a vertex
abbrev pub HasVertex : (G : Graph) → List (Node G.Vertices) → G.Vertices → Type 0
HasVertex G ns x = (j : ℕ) × (j < length ns) × ((at G ns j).vertex ≡ x)

-- the vertex is listed, first seen from place i or before
pub record Seen (G : Graph) (ns : List (Node G.Vertices)) (i : ℕ) (x : G.Vertices) : Type 0 where
  pub place : ℕ
  pub inside : place < length ns
  pub is : (at G ns place).vertex ≡ x
  pub early : 0 < place → (at G ns place).parent ≤ i

abbrev pub Closed : (G : Graph) → ℕ → List (Node G.Vertices) → Type 0
Closed G p ns =
    (i : ℕ) → i < p → i < length ns
    → (e : ℕ × G.Vertices) → Memᴰ e (G.successors (at G ns i).vertex) → Seen G ns i e.1

-- how a list that goes on stands before place p is expanded
pub record GoesOn (G : Graph) (p : ℕ) (ns : List (Node G.Vertices)) : Type 0 where
  pub plain : Plain G p ns
  pub closed : Closed G p ns
  pub some : 0 < length ns

-- how a list ended with the final vertex of n
pub record Ended (G : Graph) (ns : List (Node G.Vertices)) (n : Node G.Vertices) : Type 0 where
  pub plain : Plain G n.parent ns
  pub closed : Closed G n.parent ns
  pub linked : Linked G n.parent (ns ++ n ∷ [])
  pub is_final : G.final n.vertex ≡ true

-- how a walk stands before place p is expanded
abbrev pub Before : (G : Graph) → ℕ → Walk G.Vertices → Type 0
Before G p (going ns) = GoesOn G p ns
Before G p (ended ns n) = Ended G ns n
Before G p (full ns) = Plain G p ns

-- a walk that goes on has a place for x
abbrev HasIf : (G : Graph) → G.Vertices → Walk G.Vertices → Type 0
HasIf G x (going ns) = HasVertex G ns x
HasIf G x (ended ns n) = Unit {0}
HasIf G x (full ns) = Unit {0}

or_true : (a b : Bool) → (a || b) ≡ true → (a ≡ true) ⊎ (b ≡ true)
or_true true b e = inl refl
or_true false b e = inr e

module _ (G : Graph) (free : ℕ → Bool) (p : ℕ) where
  has_extends : (ns ms : List (Node G.Vertices)) (x : G.Vertices) → Extends G ns ms → HasVertex G ns x → HasVertex G ms x
  has_extends ns ms x a h = (h.0, omega (arith, a.longer, h.1), rw (a.same h.0 h.1) h.2)

  discover_case_keeps : (x : G.Vertices) (ns : List (Node G.Vertices)) (e : ℕ × G.Vertices) (w : Walk G.Vertices)
      → DiscoverCase G free p ns e w → HasVertex G ns x → HasIf G x w
  discover_case_keeps x ns e w (known a) h = h
  discover_case_keeps x ns e w (ends a b) h = tt
  discover_case_keeps x ns e w (appended a b c) h = has_extends ns (ns ++ node e p ∷ []) x (extends_snoc G ns (node e p)) h
  discover_case_keeps x ns e w (no_slot a b c) h = tt

  discover_keeps : (x : G.Vertices) (w : Walk G.Vertices) (e : ℕ × G.Vertices) → HasIf G x w → HasIf G x (discover G free p w e)
  discover_keeps x (going ns) e h = discover_case_keeps x ns e (discover G free p (going ns) e) (discover_case G free p ns e) h
  discover_keeps x (ended ns n) e h = tt
  discover_keeps x (full ns) e h = tt

  discover_all_keep : (x : G.Vertices) (es : List (ℕ × G.Vertices)) (w : Walk G.Vertices)
      → HasIf G x w → HasIf G x (discover_all G free p w es)
  discover_all_keep x [] w h = h
  discover_all_keep x (e ∷ es) w h = discover_all_keep x es (discover G free p w e) (discover_keeps x w e h)

module _ (G : Graph) (sound : (u v : G.Vertices) → G.same u v ≡ true → u ≡ v) where
  pub listed_has : (v : G.Vertices) (ns : List (Node G.Vertices)) → listed G v ns ≡ true → HasVertex G ns v
  listed_has v [] e = absurd (let z : ◌≡◌ {A = ℕ} 0 1 = cc in omega arith)
  listed_has v (n ∷ ns) e = go (listed_has v ns) (or_true (G.same v n.vertex) (listed G v ns) e)
    where
      go : (listed G v ns ≡ true → HasVertex G ns v) → (G.same v n.vertex ≡ true) ⊎ (listed G v ns ≡ true) → HasVertex G (n ∷ ns) v
      go later (inl q) = (0, omega arith, sym (sound v n.vertex q))
      go later (inr q) = (suc (later q).0, omega (arith, (later q).1), (later q).2)

  closed_extends : (p : ℕ) (ns ms : List (Node G.Vertices)) → p ≤ length ns → Extends G ns ms → Closed G p ns → Closed G p ms
  closed_extends p ns ms hp a C i h l e m =
      let d = C i h (omega arith) e (rw (a.same i (omega arith)) at m) in
      record {
        place = d.place;
        inside = omega (arith, a.longer, d.inside);
        is = rw (a.same d.place d.inside) d.is;
        early = λ k. rw (a.same d.place d.inside) (d.early k);
      }

  module _ (free : ℕ → Bool) where
    discover_has : (p : ℕ) (w : Walk G.Vertices) (e : ℕ × G.Vertices) → HasIf G e.1 (discover G free p w e)
    discover_has p (going ns) e = go (discover G free p (going ns) e) (discover_case G free p ns e)
      where
        go : (w : Walk G.Vertices) → DiscoverCase G free p ns e w → HasIf G e.1 w
        go w (known x) = listed_has e.1 ns x
        go w (ends x y) = tt
        go w (appended x y z) =
            let q = at_last G ns (node e p) (length ns) refl in
            (length ns, omega (arith, length_snoc G ns (node e p)), ap (λ (n : Node G.Vertices). n.vertex) q)
        go w (no_slot x y z) = tt
    discover_has p (ended ns n) e = tt
    discover_has p (full ns) e = tt

    discover_all_have : (p : ℕ) (e : ℕ × G.Vertices) (es : List (ℕ × G.Vertices)) (w : Walk G.Vertices)
        → Memᴰ e es → HasIf G e.1 (discover_all G free p w es)
    discover_all_have p e es w (Memᴰ.head {x = d} {xs = ds} q) =
        discover_all_keep G free p e.1 ds (discover G free p w d) (rw q (discover_has p w d))
    discover_all_have p e es w (Memᴰ.tail {x = d} {xs = ds} m) = discover_all_have p e ds (discover G free p w d) m

    -- a listed place is expanded, by what its successors came to
    expanded : (p : ℕ) (ns : List (Node G.Vertices)) → p < length ns → GoesOn G p ns → (w : Walk G.Vertices)
        → Extends G ns (nodes_of w) → During G p w
        → ((e : ℕ × G.Vertices) → Memᴰ e (G.successors (at G ns p).vertex) → HasIf G e.1 w) → Before G (suc p) w
    expanded p ns hp O (going ms) a F has =
        record {
          plain = plain_raise G p (suc p) ms (omega arith) F;
          closed = closed;
          some = omega (arith, a.longer, O.some);
        }
      where
        closed : Closed G (suc p) ms
        closed i h l e m =
            ⊎_elim (λ k. closed_extends p ns ms (omega arith) a O.closed i k l e m) (λ k. here k) (lt_or_le i p)
          where
            here : p ≤ i → Seen G ms i e.1
            here k =
                let q : i ≡ p = omega arith in
                let g = has e (rw (a.same i (omega arith), q) at m) in
                record {
                  place = g.0;
                  inside = g.1;
                  is = g.2;
                  early = λ z. omega (arith, F.linked.top g.0 z g.1);
                }
    expanded p ns hp O (ended ms n) a F has =
        record {
          plain = rw F.2 F.0;
          closed = rw F.2 (closed_extends p ns ms (omega arith) a O.closed);
          linked = linked_raise G p n.parent (ms ++ n ∷ []) (omega (arith, F.2)) F.1;
          is_final = F.3;
        }
    expanded p ns hp O (full ms) a F has = plain_raise G p (suc p) ms (omega arith) F

    pub expand_before : (p : ℕ) (w : Walk G.Vertices) → Before G p w → Before G (suc p) (expand G free p w)
    expand_before p (going ns) O = ⊎_elim in_list past (lt_or_le p (length ns))
      where
        in_list : p < length ns → Before G (suc p) (expand G free p (going ns))
        in_list h =
            let es = G.successors (at G ns p).vertex in
            rw (successors_in G ns p h)
            (expanded p ns h O (discover_all G free p (going ns) es) (discover_all_extends G free p es (going ns))
            (discover_all_during G free p (at G ns p).vertex es (going ns) h refl (λ e m. m) O.plain)
            (λ e m. discover_all_have p e es (going ns) m))

        past : length ns ≤ p → Before G (suc p) (expand G free p (going ns))
        past h =
            rw (successors_past G ns p h)
            (record {
              plain = plain_raise G p (suc p) ns (omega arith) O.plain;
              closed = λ i k l e m. O.closed i (omega arith) l e m;
              some = O.some;
            })
    expand_before p (ended ns n) O = rw (discover_all_ended G free p ns n (successors_at G ns p)) O
    expand_before p (full ns) O =
        rw (discover_all_full G free p ns (successors_at G ns p)) (plain_raise G p (suc p) ns (omega arith) O)

    expand_all_before : (k p : ℕ) (w : Walk G.Vertices) → Before G p w → Before G (k + p) (expand_all G free k p w)
    expand_all_before zero p w O = rw (zero-add p) O
    expand_all_before (suc k) p w O =
        subst (λ (m : ℕ). Before G m (expand_all G free (suc k) p w)) (omega arith)
        (expand_all_before k (suc p) (expand G free p w) (expand_before p w O))

    begin_before : Before G 0 (begin G free)
    begin_before = go (begin G free) (discover_case G free no_parent [] (no_letter, G.initial))
      where
        go : (w : Walk G.Vertices) → DiscoverCase G free no_parent [] (no_letter, G.initial) w → Before G 0 w
        go w (known x) = absurd (let z : ◌≡◌ {A = ℕ} 0 1 = cc in omega arith)
        go w (ends x y) =
            record {
              plain = plain_empty G no_parent;
              closed = λ i a b e m. absurd (omega arith);
              linked = linked_root G no_parent;
              is_final = y;
            }
        go w (appended x y z) =
            record {
              plain = record { linked = linked_root G 0; not_final = not_final };
              closed = λ i a b e m. absurd (omega arith);
              some = omega arith;
            }
          where
            not_final : (i : ℕ) → i < 1 → G.final (at G (root G ∷ []) i).vertex ≡ false
            not_final i h = let q : i ≡ 0 = omega arith in rw q y
        go w (no_slot x y z) = plain_empty G 0

    -- after the first k places are expanded, with whatever slots are free
    pub walked_before : (k : ℕ) → Before G k (expand_all G free k 0 (begin G free))
    walked_before k = rw (add-zero k) at (expand_all_before k 0 (begin G free) begin_before)

  reach_has : (k : ℕ) (ns : List (Node G.Vertices)) → length ns ≤ k → GoesOn G k ns → (u x : G.Vertices) (w : List ℕ)
      → Path G u w x → HasVertex G ns u → HasVertex G ns x
  reach_has k ns l O u x w stay h = h
  reach_has k ns l O u x w (along {v = v} {a = a} {w = t} m r) h =
      let d = O.closed h.0 (omega (arith, h.1)) h.1 (a, v) (rw h.2 m) in
      reach_has k ns l O v x t r (d.place, d.inside, d.is)

  -- every vertex that can be reached is listed, and is not final
  pub going_lists_all : (ns : List (Node G.Vertices)) → DiscoveryList G (going ns) → (x : G.Vertices) (w : List ℕ)
      → Path G G.initial w x → HasVertex G ns x × (G.final x ≡ false)
  going_lists_all ns (all k e l) x w r = (h, rw h.2 at (O.plain.not_final h.0 h.1))
    where
      O : GoesOn G k ns
      O = rw e at (walked_before always k)

      h : HasVertex G ns x
      h =
          reach_has k ns l O G.initial x w r
          (0, O.some, ap (λ (n : Node G.Vertices). n.vertex) (O.plain.linked.first O.some))

  -- how the whole list stands
  pub going_open : (ns : List (Node G.Vertices)) → DiscoveryList G (going ns) → (k : ℕ) × GoesOn G k ns
  going_open ns (all k e l) = (k, rw e at (walked_before always k))

  pub ended_list : (ns : List (Node G.Vertices)) (n : Node G.Vertices) → DiscoveryList G (ended ns n) → Ended G ns n
  ended_list ns n (final k e) = rw e at (walked_before always k)

  -- parents fall, with edges from them, in the whole list
  pub list_linked : (w : Walk G.Vertices) → DiscoveryList G w → (p : ℕ) × Linked G p (with_final w)
  list_linked w (all {ns = ns} k e l) = let o = going_open ns (all k e l) in (o.0, o.1.plain.linked)
  list_linked w (final {ns = ns} {n = n} k e) = (n.parent, (ended_list ns n (final k e)).linked)
