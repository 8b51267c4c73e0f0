-- Every lag-checking graph has a discovery list, and the paper's Theorem 4 in 01's finite form: containment holds exactly when no final
-- vertex can be reached. The listed vertices are distinct, and a vertex in range is one of the numbers below n (b + 2)³², so a walk with
-- one slot more than that is not full. Assumes nothing.
use mathlib.Core.Path.{◌≡◌, refl, sym, ap, subst, ◌∙◌}
use mathlib.Core.Bool.{false}
use mathlib.Core.Logic.{◌↔◌}
use mathlib.Core.List.{List, [], ◌∷◌}
use Prim.Native.Nat.{ℕ, suc, ◌+◌, ◌*◌, ◌%◌, ◌^◌, ◌≤◌, ◌<◌}
use native.Mathlib.Nat.{mul-suc, mul-le-mul_left, pow-zero, pow-succ', mod-eq_of_lt, add-mul-mod_self_left, eq_of_mul-eq-mul_left}
use native.Mathlib.Omega.{arith}
use lib.ListN.{length, get_or}
use Rattle.automaton.specs.declared.Automaton.{Automaton}
use Rattle.automaton.specs.Automata.{max_states}
use Rattle.automaton.proofs.Booleans.{clash}
use Rattle.runs.specs.Containment.{Contained, Shows}
use Rattle.runs.proofs.Pigeonhole.{pigeonhole}
use Rattle.slots.specs.declared.Vertex.{Vertex}
use Rattle.slots.specs.Slots.{all_zero}
use Rattle.graph.specs.Discovery.{Path, Graph, Node, Walk, going, ended, full, nodes_of, below, DiscoveryList, all, final, walk, at}
use Rattle.graph.specs.LagGraph.{initial_vertex, lag_graph}
use Rattle.graph.specs.Walks.{word_of, Fits}
use Rattle.graph.proofs.Capacity.{walk_going_iff, walk_ended_iff, walk_full_more}
use Rattle.graph.proofs.Distinct.{DistinctVertices, walked_distinct}
use Rattle.graph.proofs.DiscoveryLaws.{Before, walked_before, going_lists_all, ended_list}
use Rattle.graph.proofs.VertexRanges.{VertexInRange, listed_in_range}
use Rattle.graph.proofs.Words.{final_word_path}
use Rattle.graph.proofs.WalkTheorem.{same_sound, same_refl, list_contained, list_differs}

-- numbers below d, as the digits of one number
digits : ℕ → List ℕ → ℕ
digits d [] = 0
digits d (c ∷ cs) = c + d * digits d cs

digits_below : (d : ℕ) (cs : List ℕ) → ((i : ℕ) → get_or cs i 0 < d) → digits d cs < d ^ length cs
unfolding digits
digits_below d [] h = rw (pow-zero d) (omega arith)
digits_below d (c ∷ cs) h =
    let x = digits_below d cs (λ i. h (suc i)) in
    let m = mul-le-mul_left {m = suc (digits d cs)} {n = d ^ length cs} d x in
    rw (pow-succ' d (length cs)) (omega (arith, h 0, m, mul-suc d (digits d cs)))

digit_same : (d c e x y : ℕ) → c < d → e < d → c + d * x ≡ e + d * y → (c ≡ e) × (x ≡ y)
digit_same d c e x y hc he q =
    let m : c ≡ e =
    sym (mod-eq_of_lt hc) ∙ sym (add-mul-mod_self_left c d x) ∙ ap (λ (z : ℕ). z % d) q ∙ add-mul-mod_self_left e d y ∙ mod-eq_of_lt he in
    (m, eq_of_mul-eq-mul_left d (omega arith) x y (omega (arith, m, q)))

digits_same : (d : ℕ) (cs ds : List ℕ) → length cs ≡ length ds → ((i : ℕ) → get_or cs i 0 < d) → ((i : ℕ) → get_or ds i 0 < d)
    → digits d cs ≡ digits d ds → cs ≡ ds
unfolding digits
digits_same d [] [] l h k e = refl
digits_same d [] (y ∷ ds) l h k e = absurd (omega arith)
digits_same d (x ∷ cs) [] l h k e = absurd (omega arith)
digits_same d (x ∷ cs) (y ∷ ds) l h k e =
    let s = digit_same d x y (digits d cs) (digits d ds) (h 0) (k 0) e in
    let t = digits_same d cs ds (omega arith) (λ i. h (suc i)) (λ i. k (suc i)) s.1 in
    let u = s.0 in
    cc

make : ℕ → List ℕ → Vertex
make l cs = record { left = l; counters = cs }

module _ (A B : Automaton) (b : ℕ) where
  -- a vertex as a number
  code : Vertex → ℕ
  code v = v.left + A.states * digits (b + 2) v.counters

  codes : ℕ
  codes = A.states * (b + 2) ^ max_states

  code_below : (v : Vertex) → VertexInRange A b v → code v < codes
  unfolding code codes
  code_below v R =
      let x = digits_below (b + 2) v.counters (λ i. omega (arith, R.counters_le i)) in
      let y : digits (b + 2) v.counters < (b + 2) ^ max_states =
      subst (λ (n : ℕ). digits (b + 2) v.counters < (b + 2) ^ n) R.all_counters x in
      let m = mul-le-mul_left {m = suc (digits (b + 2) v.counters)} {n = (b + 2) ^ max_states} A.states y in
      omega (arith, R.left_below, m, mul-suc A.states (digits (b + 2) v.counters))

  code_same : (u v : Vertex) → VertexInRange A b u → VertexInRange A b v → code u ≡ code v → u ≡ v
  unfolding code make
  code_same u v R Q e = made u.left u.counters s.0 t
    where
      s : (u.left ≡ v.left) × (digits (b + 2) u.counters ≡ digits (b + 2) v.counters)
      s = digit_same A.states u.left v.left _ _ R.left_below Q.left_below e

      t : u.counters ≡ v.counters
      t =
          digits_same (b + 2) u.counters v.counters (R.all_counters ∙ sym Q.all_counters)
          (λ i. omega (arith, R.counters_le i)) (λ i. omega (arith, Q.counters_le i)) s.1

      made : (l : ℕ) (cs : List ℕ) → l ≡ v.left → cs ≡ v.counters → make l cs ≡ v
      made l cs d f = rw (d, f)

  abbrev G : Graph
  G = lag_graph A B b

  module _ (inside : A.initial < A.states) where
    not_full : (ns : List (Node Vertex)) → walk G (suc codes) ≡ full ns → ⊥
    not_full ns e =
        let l = (walk_full_more G (suc codes) ns e).0 in
        let D : DistinctVertices G ns =
        subst (λ (x : Walk Vertex). DistinctVertices G (nodes_of x)) e (walked_distinct G same_refl (below (suc codes)) (suc codes)) in
        let P = subst (Before G (suc codes)) e (walked_before G same_sound (below (suc codes)) (suc codes)) in
        let R : (i : ℕ) → i < length ns → VertexInRange A b (at G ns i).vertex =
        listed_in_range A B b inside (suc codes) ns P.linked in
        let t = pigeonhole codes (λ i. code (at G ns i).vertex) (λ i h. code_below (at G ns i).vertex (R i (omega arith))) in
        D t.0 t.1 t.2 (omega (arith, t.3))
        (code_same (at G ns t.0).vertex (at G ns t.1).vertex (R t.0 (omega (arith, t.2, t.3))) (R t.1 (omega (arith, t.3)))
        t.4)

    -- there is a discovery list; `list_unique` says that there is only one
    pub list_exists : (w : Walk Vertex) × DiscoveryList (lag_graph A B b) w
    list_exists = go (walk G (suc codes)) refl
      where
        go : (x : Walk Vertex) → walk G (suc codes) ≡ x → (w : Walk Vertex) × DiscoveryList G w
        go (going ns) e = (going ns, ((walk_going_iff G (suc codes) ns).0 e).0)
        go (ended ns n) e = (ended ns n, ((walk_ended_iff G (suc codes) ns n).0 e).0)
        go (full ns) e = absurd (not_full ns e)

    -- the paper's Theorem 4, of run prefixes: no final vertex can be reached from the initial vertex
    pub contained_no_final : B.states ≤ max_states → B.initial < B.states
        → Contained A B b ↔ ((x : Vertex) (w : List ℕ) → Path (lag_graph A B b) (initial_vertex A B b) w x → all_zero x.counters ≡ false)
    unfolding Contained
    contained_no_final small in_b = go list_exists.1
      where
        go : {w : Walk Vertex} → DiscoveryList G w
            → Contained A B b ↔ ((x : Vertex) (w : List ℕ) → Path G (initial_vertex A B b) w x → all_zero x.counters ≡ false)
        go (all {ns = ns} k e l) =
            let d : DiscoveryList G (going ns) = all k e l in
            let f : Fits A B b (length ns) (going ns) = record { list = d; room = omega arith } in (
              λ c x w p. (going_lists_all G same_sound ns d x w p).1,
              λ h. list_contained A B b (length ns) small in_b ns f,
            )
        go (final {ns = ns} {n = n} k e) =
            let d : DiscoveryList G (ended ns n) = final k e in
            let f : Fits A B b (length ns) (ended ns n) = record { list = d; room = omega arith } in
            let s = list_differs A B b (length ns) small in_b ns n f in (
              λ c. absurd (no c s),
              λ h. absurd (clash (ended_list G same_sound ns n d).is_final (h n.vertex _ (final_word_path G same_sound ns n d))),
            )
          where
            no : Contained A B b → Shows A B b (word_of A B b ns n) → ⊥
            no c s = s.unfollowed (c (word_of A B b ns n) s.states s.prefix)
