-- The left states that are listed with the counters of a class, by the index: a leader's word has those of its class, and a slot's word tells
-- whether it leads. The idea: each slot has the counters of its leader. Assumes nothing.
use mathlib.Core.Path.{◌≡◌, refl, sym, ◌∙◌, ap}
use mathlib.Core.Bool.{Bool, true, false, cond, ◌&&◌, not}
use mathlib.Core.List.{List}
use Prim.Native.Nat.{ℕ, zero, suc, ◌+◌, ◌-◌, ◌/◌, ◌%◌, ◌^◌, ◌<◌}
use native.Mathlib.Numerals.{add-one}
use native.Mathlib.Omega.{arith}
use borrow.Author.Tests.{eqb-true, eq-eqb, ne_eqb}
use lib.Bits.{bit_and, bit_xor, xor_shr, xor_mod, xor_zero_l}
use lib.Dec.{T, eqb, eqb→eq}
use lib.ListN.{get_or}
use Rattle.automaton.specs.Automata.{max_states}
use Rattle.automaton.specs.Ranges.{some}
use Rattle.automaton.specs.Sets.{bit}
use Rattle.automaton.proofs.Booleans.{T_true, is_true, not_T_false, and_both, both_and, same_test, clash}
use Rattle.automaton.proofs.Ranges.{some_at, some_below}
use Rattle.automaton.proofs.Bits.{bit_of_and, bit_zero}
use Rattle.relations.proofs.Rows.{some_same}
use Rattle.slots.specs.declared.Vertex.{Vertex}
use Rattle.slots.specs.Slots.{same_list, same_vertex}
use Rattle.slots.specs.Bytes.{vertex_at}
use Rattle.slots.proofs.Vertices.{same_list_eq}
use Rattle.classes.specs.Classes as arrays
use Rattle.classes.specs.Classes.{counters_at, class_of, leads, listed_with, Joined}
use Rattle.classes.specs.Indexes.{class_at, listed_in}
use Rattle.classes.specs.declared.Index.{Index}
use Rattle.classes.proofs.Leaders.{lists_equal, class_none, class_some, class_last, class_later, class_below}

-- Words.

-- the two tests differ
abbrev pub other : Bool → Bool → Bool
other true b = not b
other false b = b

pub bit_of_xor : (w v j : ℕ) → bit (bit_xor w v) j ≡ other (bit w j) (bit v j)
bit_of_xor w v j =
    ap (λ (x : ℕ). eqb x 1) (ap (λ (x : ℕ). x % 2) (xor_shr w v j) ∙ xor_mod (w / 2 ^ j) (v / 2 ^ j) 1)
    ∙ go (w / 2 ^ j % 2) (v / 2 ^ j % 2) (omega arith) (omega arith)
  where
    go : (x y : ℕ) → x < 2 → y < 2 → eqb (bit_xor x y) 1 ≡ other (eqb x 1) (eqb y 1)
    go zero y h k = ap (λ (z : ℕ). eqb z 1) (xor_zero_l y)
    go (suc zero) zero h k = refl
    go (suc zero) (suc zero) h k = refl
    go (suc zero) (suc (suc y)) h k = absurd (omega arith)
    go (suc (suc x)) y h k = absurd (omega arith)

pub none_unlisted : (index : Index) (c w t : ℕ) → c ≡ 0 → bit w t ≡ (bit w t && not (bit (listed_in index c) t))
none_unlisted index c w t e = rw e (rw (bit_zero t) (sym (and_true (bit w t))))
  where
    and_true : (x : Bool) → (x && true) ≡ x
    and_true true = refl
    and_true false = refl

-- a word without what it has in common with another
bit_without : (w v j : ℕ) → bit (bit_xor w (bit_and w v)) j ≡ (bit w j && not (bit v j))
bit_without w v j = bit_of_xor w (bit_and w v) j ∙ ap (other (bit w j)) (bit_of_and w v j) ∙ go (bit w j) (bit v j)
  where
    go : (x y : Bool) → other x (x && y) ≡ (x && not y)
    go true true = refl
    go true false = refl
    go false y = refl

pub some_unlisted : (listed : List ℕ) (c w t : ℕ) → (c ≡ 0 → ⊥)
    → bit (bit_xor w (bit_and w (get_or listed (c - 1) 0))) t ≡ (bit w t && not (bit (arrays.listed_in listed c) t))
some_unlisted listed zero w t h = absurd (h refl)
some_unlisted listed (suc s) w t h = let q : suc s - 1 ≡ s = omega arith in rw q (bit_without w (get_or listed s 0) t)

-- The left states that are listed with counters.

module _ (work cs : List ℕ) (n t : ℕ) where
  -- slot s has the counters and the left state
  abbrev holds : ℕ → Bool
  holds s = eqb (vertex_at work s).left t && same_list cs (counters_at work s)

  pub listed_at : (s : ℕ) → s < n → (vertex_at work s).left ≡ t → counters_at work s ≡ cs → listed_with work cs n t ≡ true
  unfolding listed_with
  listed_at s l e d =
      T_true _
      (some_at holds n s l
      (both_and (eqb (vertex_at work s).left t) (same_list cs (counters_at work s))
      (is_true _ (eq-eqb (vertex_at work s).left t e)) (is_true _ (lists_equal cs (counters_at work s) (sym d)))))

  pub listed_below : listed_with work cs n t ≡ true → (s : ℕ) × (s < n) × ((vertex_at work s).left ≡ t) × (counters_at work s ≡ cs)
  unfolding listed_with
  listed_below e =
      let x = some_below holds n (is_true _ e) in
      let b = and_both (eqb (vertex_at work x.0).left t) (same_list cs (counters_at work x.0)) x.2 in
      (x.0, x.1, eqb-true _ t (T_true _ b.0), sym (same_list_eq cs (counters_at work x.0) b.1))

  pub listed_absent : ((s : ℕ) → s < n → same_list cs (counters_at work s) ≡ false) → listed_with work cs n t ≡ false
  listed_absent h =
      not_T_false (listed_with work cs n t)
      (λ u. let x = listed_below (T_true _ u) in clash {X = ⊥} (lists_equal cs (counters_at work x.0) (sym x.3)) (h x.0 x.1))

-- the search for a vertex answers whether it is listed
module _ (work : List ℕ) (v : Vertex) (n : ℕ) where
  same_holds : (s : ℕ) → same_vertex v (vertex_at work s) ≡ holds work v.counters n v.left s
  unfolding same_vertex
  same_holds s =
      let x = v.left in
      let y = (vertex_at work s).left in
      ap (λ (c : Bool). c && same_list v.counters (counters_at work s)) (same_test (eqb x y) (eqb y x) (swapped x y) (swapped y x))
    where
      swapped : (x y : ℕ) → T (eqb x y) → T (eqb y x)
      swapped x y t = is_true _ (eq-eqb y x (sym (eqb→eq x y t)))

  pub listed_with_iff : listed_with work v.counters n v.left ≡ some (λ s. same_vertex v (vertex_at work s)) n 0
  unfolding listed_with
  listed_with_iff = some_same _ _ n (λ s l. sym (same_holds s))

-- What the index says.

module _ (work : List ℕ) (index : Index) (n : ℕ) (J : Joined work index n) where
  pub class_listed : (cs : List ℕ) (c t : ℕ) → c ≡ class_of work cs n → t < max_states → bit (listed_in index c) t ≡ listed_with work cs n t
  class_listed cs zero t e l = bit_zero t ∙ sym (listed_absent work cs n t (class_none work cs n (sym e)))
  class_listed cs (suc s) t e l =
      let d = class_some work cs n s (sym e) in
      J.leader_listed s d.0 d.2 t l ∙ ap (λ (x : List ℕ). listed_with work x n t) d.1

  -- a leader's word has its own left state
  leader_word : (s : ℕ) → s < n → (vertex_at work s).left < max_states → leads work s ≡ true → get_or index.listed s 0 ≡ 0 → ⊥
  leader_word s l h e z =
      let b = J.leader_listed s l e (vertex_at work s).left h ∙ listed_at work (counters_at work s) n (vertex_at work s).left s l refl refl in
      clash {X = ⊥} b (ap (λ (w : ℕ). bit w (vertex_at work s).left) z ∙ bit_zero (vertex_at work s).left)

  pub class_at_lem : ((s : ℕ) → s < n → (vertex_at work s).left < max_states) → (s : ℕ) → s < n
      → class_at index s ≡ class_of work (counters_at work s) n
  class_at_lem lefts s l = go (leads work s) refl
    where
      go : (b : Bool) → leads work s ≡ b → class_at index s ≡ class_of work (counters_at work s) n
      go true e =
          ap (λ (c : Bool). cond c (get_or index.nexts s 0) (s + 1)) (ne_eqb (get_or index.listed s 0) 0 (leader_word s l (lefts s l) e))
          ∙ add-one s ∙ sym (class_last work (counters_at work s) n s l refl e)
      go false e =
          ap (λ (c : Bool). cond c (get_or index.nexts s 0) (s + 1)) (eq-eqb (get_or index.listed s 0) 0 (J.other_listed s l e))
          ∙ J.other_next s l e ∙ later (class_of work (counters_at work s) s) refl (class_below work s e)
        where
          later : (c : ℕ) → class_of work (counters_at work s) s ≡ c → 0 < c → c ≡ class_of work (counters_at work s) n
          later zero q h = absurd (omega arith)
          later (suc r) q h = sym (class_later work (counters_at work s) s n r (omega arith) q)
