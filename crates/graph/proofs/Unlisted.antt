-- Successors that are listed already can be left out: discovering those that are not, in their order, makes the same walk. A successor that is
-- appended on the way lists none of the later ones, since no two of them are the same. Assumes nothing.
use mathlib.Core.Path.{◌≡◌, refl, sym, ap, ◌∙◌}
use mathlib.Core.Bool.{Bool, true, false, cond, ◌&&◌, ◌||◌, not}
use mathlib.Core.List.{List, [], ◌∷◌, ◌++◌, map}
use Prim.Native.Nat.{ℕ, zero, suc, ◌≤◌, ◌<◌}
use native.Mathlib.Omega.{arith}
use lib.ListN.{length}
use Rattle.automaton.specs.Ranges.{those}
use Rattle.automaton.proofs.Booleans.{clash}
use Rattle.graph.specs.Discovery.{Graph, Node, Walk, going, ended, full, node, listed, discover, discover_all}
use Rattle.graph.proofs.Discoveries.{DiscoverCase, known, ends, appended, no_slot, discover_case, discover_all_ended, discover_all_full}

module _ (G : Graph) where
  pub listed_snoc : (v : G.Vertices) (ns : List (Node G.Vertices)) (n : Node G.Vertices)
      → listed G v (ns ++ n ∷ []) ≡ (listed G v ns || G.same v n.vertex)
  listed_snoc v [] n = go (G.same v n.vertex)
    where
      go : (a : Bool) → (a || false) ≡ (false || a)
      go true = refl
      go false = refl
  listed_snoc v (m ∷ ns) n = go (G.same v m.vertex) (listed_snoc v ns n)
    where
      go : (a : Bool) → listed G v (ns ++ n ∷ []) ≡ (listed G v ns || G.same v n.vertex)
          → (a || listed G v (ns ++ n ∷ [])) ≡ ((a || listed G v ns) || G.same v n.vertex)
      go true e = refl
      go false e = e

  module _ (free : ℕ → Bool) (p : ℕ) (g : ℕ → ℕ × G.Vertices) (apart : (t u : ℕ) → u < t → G.same (g t).1 (g u).1 ≡ false) where
    -- Q holds of those of the numbers from i on for which P holds and whose successor is not listed in ns
    abbrev Left : (ℕ → Bool) → (ℕ → Bool) → ℕ → List (Node G.Vertices) → Type 0
    Left P Q i ns = (t : ℕ) → i ≤ t → Q t ≡ (P t && not (listed G (g t).1 ns))

    still_left : (P Q : ℕ → Bool) (i : ℕ) (ns : List (Node G.Vertices)) → Left P Q i ns → Left P Q (suc i) (ns ++ node (g i) p ∷ [])
    still_left P Q i ns h t l =
        h t (omega arith) ∙ ap (λ (x : Bool). P t && not x)
        (sym (listed_snoc (g t).1 ns (node (g i) p) ∙ ap (λ (x : Bool). listed G (g t).1 ns || x) (apart t i l) ∙ or_false (listed G (g t).1 ns)))
      where
        or_false : (a : Bool) → (a || false) ≡ a
        or_false true = refl
        or_false false = refl

    -- a successor that is listed changes nothing
    pub listed_stays : (ns : List (Node G.Vertices)) (e : ℕ × G.Vertices) → listed G e.1 ns ≡ true
        → discover G free p (going ns) e ≡ going ns
    listed_stays ns e f =
        ap (λ (c : Bool). cond c (going ns)
        (cond (G.final e.1) (ended ns (node e p)) (cond (free (length ns)) (going (ns ++ node e p ∷ [])) (full ns)))) f

    -- what is to be shown, of the n numbers from i on
    abbrev Same : (ℕ → Bool) → (ℕ → Bool) → ℕ → ℕ → Type 0
    Same P Q n i =
        (ns : List (Node G.Vertices)) → Left P Q i ns
        → discover_all G free p (going ns) (map g (those P n i)) ≡ discover_all G free p (going ns) (map g (those Q n i))

    pub discover_unlisted : (P Q : ℕ → Bool) (n i : ℕ) (ns : List (Node G.Vertices)) → Left P Q i ns
        → discover_all G free p (going ns) (map g (those P n i)) ≡ discover_all G free p (going ns) (map g (those Q n i))
    unfolding those
    discover_unlisted P Q zero i ns h = refl
    discover_unlisted P Q (suc n) i ns h =
        step (P i) refl (listed G (g i).1 ns) refl (λ ms k. discover_unlisted P Q n (suc i) ms k)
      where
        past : Left P Q (suc i) ns
        past t l = h t (omega arith)

        go : {w : Walk G.Vertices} → DiscoverCase G free p ns (g i) w → listed G (g i).1 ns ≡ false → Same P Q n (suc i)
            → discover_all G free p w (map g (those P n (suc i))) ≡ discover_all G free p w (map g (those Q n (suc i)))
        go (known x) e rest = clash x e
        go (ends x y) e rest =
            discover_all_ended G free p ns (node (g i) p) (map g (those P n (suc i)))
            ∙ sym (discover_all_ended G free p ns (node (g i) p) (map g (those Q n (suc i))))
        go (appended x y z) e rest = rest (ns ++ node (g i) p ∷ []) (still_left P Q i ns h)
        go (no_slot x y z) e rest =
            discover_all_full G free p ns (map g (those P n (suc i))) ∙ sym (discover_all_full G free p ns (map g (those Q n (suc i))))

        step : (c : Bool) → P i ≡ c → (d : Bool) → listed G (g i).1 ns ≡ d → Same P Q n (suc i)
            → discover_all G free p (going ns) (map g (elim (P i) [ true ↦ i ∷ those P n (suc i) | false ↦ those P n (suc i) ]))
            ≡ discover_all G free p (going ns) (map g (elim (Q i) [ true ↦ i ∷ those Q n (suc i) | false ↦ those Q n (suc i) ]))
        step false e d f rest = let q : Q i ≡ false = h i (omega arith) ∙ rw e in rw (e, q) (rest ns past)
        step true e true f rest =
            let q : Q i ≡ false = h i (omega arith) ∙ rw (e, f) in
            let s : discover G free p (going ns) (g i) ≡ going ns = listed_stays ns (g i) f in
            rw (e, q) (ap (λ (w : Walk G.Vertices). discover_all G free p w (map g (those P n (suc i)))) s ∙ rest ns past)
        step true e false f rest =
            let q : Q i ≡ true = h i (omega arith) ∙ rw (e, f) in
            rw (e, q) (go (discover_case G free p ns (g i)) f rest)
