-- The word read back by the parents leads to the vertex of its place, and no path to a final vertex is shorter than the word of the
-- final vertex: parents rise with the places, so the words' lengths do. Assumes nothing.
use mathlib.Core.Path.{◌≡◌, refl, ◌∙◌, ap}
use mathlib.Core.Bool.{true, false}
use mathlib.Core.Logic.{◌⊎◌, inl, inr}
use mathlib.Core.List.{List, [], ◌∷◌, ◌++◌, Memᴰ}
use Prim.Native.Nat.{ℕ, zero, suc, ◌+◌, ◌≤◌, ◌<◌}
use native.Mathlib.Omega.{arith}
use lib.ListN.{length, length-append}
use Rattle.graph.specs.Discovery.{Path, stay, along, Graph, Node, ended, DiscoveryList, at, back, word_to, final_word}
use Rattle.graph.proofs.Discoveries.{length_snoc, at_left, at_last, lt_or_le}
use Rattle.graph.proofs.Parents.{Linked}
use Rattle.graph.proofs.DiscoveryLaws.{Ended, ended_list}

module _ (G : Graph) where
  pub path_more : (u v x : G.Vertices) (w : List ℕ) (a : ℕ) → Path G u w v → Memᴰ (a, x) (G.successors v)
      → Path G u (w ++ a ∷ []) x
  path_more u v x w a stay m = along m stay
  path_more u v x w a (along {v = y} {w = t} k r) m = along k (path_more y v x t a r m)

module _ (G : Graph) (p : ℕ) (ns : List (Node G.Vertices)) (L : Linked G p ns) where
  first_vertex : 0 < length ns → (at G ns 0).vertex ≡ G.initial
  first_vertex h = ap (λ (n : Node G.Vertices). n.vertex) (L.first h)

  back_path : (k i : ℕ) → i ≤ k → i < length ns → Path G G.initial (back G k ns i) (at G ns i).vertex
  back_path zero zero h l = rw (first_vertex l) stay
  back_path zero (suc i) h l = absurd (omega arith)
  back_path (suc k) zero h l = rw (first_vertex l) stay
  back_path (suc k) (suc i) h l =
      let b = L.falls (suc i) (omega arith) l in
      path_more G G.initial (at G ns (at G ns (suc i)).parent).vertex (at G ns (suc i)).vertex
      (back G k ns (at G ns (suc i)).parent)
      (at G ns (suc i)).letter
      (back_path k (at G ns (suc i)).parent (omega arith) (omega arith))
      (L.edge (suc i) (omega arith) l)

  back_enough : (k l i : ℕ) → i ≤ k → i ≤ l → i < length ns → back G k ns i ≡ back G l ns i
  back_enough zero zero i a b h = refl
  back_enough zero (suc l) zero a b h = refl
  back_enough zero (suc l) (suc i) a b h = absurd (omega arith)
  back_enough (suc k) zero zero a b h = refl
  back_enough (suc k) zero (suc i) a b h = absurd (omega arith)
  back_enough (suc k) (suc l) zero a b h = refl
  back_enough (suc k) (suc l) (suc i) a b h =
      let c = L.falls (suc i) (omega arith) h in
      ap (λ (t : List ℕ). t ++ (at G ns (suc i)).letter ∷ [])
      (back_enough k l (at G ns (suc i)).parent (omega arith) (omega arith) (omega arith))

  -- every listed vertex can be reached, by the word read back
  pub word_path : (i : ℕ) → i < length ns → Path G G.initial (word_to G ns i) (at G ns i).vertex
  word_path i l = back_path i i (omega arith) l

  -- the word of a place is its parent's with one letter more
  pub word_step : (i : ℕ) → i < length ns → 0 < i
      → word_to G ns i ≡ word_to G ns (at G ns i).parent ++ (at G ns i).letter ∷ []
  word_step zero h a = absurd (omega arith)
  word_step (suc i) h a =
      let c = L.falls (suc i) (omega arith) h in
      ap (λ (t : List ℕ). t ++ (at G ns (suc i)).letter ∷ [])
      (back_enough i (at G ns (suc i)).parent (at G ns (suc i)).parent (omega arith) (omega arith) (omega arith))

  length_step : (i : ℕ) → i < length ns → 0 < i → length (word_to G ns i) ≡ length (word_to G ns (at G ns i).parent) + 1
  length_step i h a =
      ap length (word_step i h a) ∙ length-append (word_to G ns (at G ns i).parent) ((at G ns i).letter ∷ [])

  length_le_to : (k i : ℕ) → i ≤ k → i < length ns → length (word_to G ns i) ≤ i
  length_le_to zero zero h l = omega arith
  length_le_to zero (suc i) h l = absurd (omega arith)
  length_le_to (suc k) zero h l = omega arith
  length_le_to (suc k) (suc i) h l =
      let c = L.falls (suc i) (omega arith) l in
      omega (
        arith,
        length_step (suc i) l (omega arith),
        length_le_to k (at G ns (suc i)).parent (omega arith) (omega arith),
      )

  -- a word has no more letters than its place says
  pub word_length_le : (i : ℕ) → i < length ns → length (word_to G ns i) ≤ i
  word_length_le i l = length_le_to i i (omega arith) l

  lengths_rise_to : (k i j : ℕ) → j ≤ k → i ≤ j → j < length ns → length (word_to G ns i) ≤ length (word_to G ns j)
  lengths_rise_to zero zero j h l b = omega arith
  lengths_rise_to (suc k) zero j h l b = omega arith
  lengths_rise_to zero (suc i) j h l b = absurd (omega arith)
  lengths_rise_to (suc k) (suc i) zero h l b = absurd (omega arith)
  lengths_rise_to (suc k) (suc i) (suc j) h l b =
      let c = L.falls (suc j) (omega arith) b in
      let o = L.order (suc i) (suc j) (omega arith) l b in
      let s = length_step (suc i) (omega arith) (omega arith) in
      let t = length_step (suc j) b (omega arith) in
      let r = lengths_rise_to k (at G ns (suc i)).parent (at G ns (suc j)).parent (omega arith) o (omega arith) in
      omega (arith, s, t, r)

  -- words grow with the places
  lengths_rise : (i j : ℕ) → i ≤ j → j < length ns → length (word_to G ns i) ≤ length (word_to G ns j)
  lengths_rise i j l b = lengths_rise_to j i j (omega arith) l b

module _ (G : Graph) (ns : List (Node G.Vertices)) (n : Node G.Vertices) (E : Ended G ns n) where
  abbrev size : ℕ → ℕ
  size i = length (word_to G (ns ++ n ∷ []) i)

  step_size : (i j : ℕ) → i < length ns → j < length ns → (0 < j → (at G ns j).parent ≤ i) → size j ≤ size i + 1
  step_size i zero h l e = omega arith
  step_size i (suc j) h l e =
      let k = length_snoc G ns n in
      let a = e (omega arith) in
      let q = at_left G ns (n ∷ []) (suc j) l in
      let b : (at G (ns ++ n ∷ []) (suc j)).parent ≤ i = rw q a in
      omega (
        arith,
        length_step G n.parent (ns ++ n ∷ []) E.linked (suc j) (omega arith) (omega arith),
        lengths_rise G n.parent (ns ++ n ∷ []) E.linked (at G (ns ++ n ∷ []) (suc j)).parent i b (omega arith),
      )

  last_size : (i : ℕ) → i < length ns → n.parent ≤ i → size (length ns) ≤ size i + 1
  last_size i h l =
      let k = length_snoc G ns n in
      let b : (at G (ns ++ n ∷ []) (length ns)).parent ≤ i = rw (at_last G ns n (length ns) refl) l in
      omega (
        arith,
        length_step G n.parent (ns ++ n ∷ []) E.linked (length ns) (omega arith) (omega arith),
        lengths_rise G n.parent (ns ++ n ∷ []) E.linked (at G (ns ++ n ∷ []) (length ns)).parent i b (omega arith),
      )

  from_place : (u x : G.Vertices) (w : List ℕ) (i : ℕ) → Path G u w x → i < length ns → (at G ns i).vertex ≡ u
      → G.final x ≡ true → size (length ns) ≤ size i + length w
  from_place u x w i stay h q f =
      absurd
      (let r : G.final (at G ns i).vertex ≡ false = E.plain.not_final i h in
      let z : ◌≡◌ {A = ℕ} 0 1 = cc in
      omega arith)
  from_place u x w i (along {v = v} {a = a} {w = t} m r) h q f =
      go (λ j b e. from_place v x t j r b e f) (lt_or_le i n.parent)
    where
      go : ((j : ℕ) → j < length ns → (at G ns j).vertex ≡ v → size (length ns) ≤ size j + length t)
          → (i < n.parent) ⊎ (n.parent ≤ i) → size (length ns) ≤ size i + length (a ∷ t)
      go again (inl l) =
          let d = E.closed i l h (a, v) (rw q m) in
          omega (arith, again d.place d.inside d.is, step_size i d.place h d.inside d.early)
      go again (inr l) = omega (arith, last_size i h l)

  shortest_from : (x : G.Vertices) (w : List ℕ) → Path G G.initial w x → G.final x ≡ true → size (length ns) ≤ length w
  shortest_from x w r f = go (lt_or_le 0 (length ns))
    where
      go : (0 < length ns) ⊎ (length ns ≤ 0) → size (length ns) ≤ length w
      go (inl h) =
          omega (
            arith,
            from_place G.initial x w 0 r h
                (ap (λ (m : Node G.Vertices). m.vertex) (E.plain.linked.first h))
                f,
          )
      go (inr h) = let q : length ns ≡ 0 = omega arith in rw q (omega arith)

module _ (G : Graph) (sound : (u v : G.Vertices) → G.same u v ≡ true → u ≡ v) where
  pub final_word_path : (ns : List (Node G.Vertices)) (n : Node G.Vertices) → DiscoveryList G (ended ns n)
      → Path G G.initial (final_word G ns n) n.vertex
  final_word_path ns n d =
      rw (at_last G ns n (length ns) refl) at
      (word_path G n.parent (ns ++ n ∷ []) (ended_list G sound ns n d).linked (length ns) (omega (arith, length_snoc G ns n)))

  pub final_word_shortest : (ns : List (Node G.Vertices)) (n : Node G.Vertices) → DiscoveryList G (ended ns n)
      → (x : G.Vertices) (w : List ℕ) → Path G G.initial w x → G.final x ≡ true → length (final_word G ns n) ≤ length w
  final_word_shortest ns n d x w r f = shortest_from G ns n (ended_list G sound ns n d) x w r f
