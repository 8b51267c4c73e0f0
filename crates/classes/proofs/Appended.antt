-- The index after a slot more: the classes that are there stay, and the slot joins the class of its counters or leads one. The idea: what the
-- index says of the lower slots does not depend on the slot that is written. Assumes nothing.
use mathlib.Core.Path.{◌≡◌, refl, sym, ◌∙◌, ap, ap₂}
use mathlib.Core.Bool.{Bool, true, false, cond, ◌&&◌, ◌||◌}
use mathlib.Core.Logic.{⊎_elim}
use mathlib.Core.List.{List}
use Prim.Native.Nat.{ℕ, zero, suc, ◌+◌, ◌*◌, ◌≤◌, ◌<◌}
use native.Mathlib.Nat.{eq-or-lt_of_le}
use native.Mathlib.Numerals.{add-one}
use native.Mathlib.Omega.{arith}
use borrow.Author.Tests.{eqb-true, eqb-false, eq-eqb, ne_eqb}
use lib.Dec.{eqb, eqb→eq}
use lib.ListN.{length, get_or, set, replicate, length-set, length-replicate, get_or-replicate}
use lib.Seq.{get_or-set_same, get_or-set_other}
use Rattle.automaton.specs.Automata.{max_states}
use Rattle.automaton.specs.Sets.{bit, with_bit}
use Rattle.automaton.proofs.Booleans.{is_true, not_T_false, same_test, clash}
use Rattle.automaton.proofs.Bits.{bit_zero, bit_with, bit_set}
use Rattle.relations.proofs.Rows.{some_same, some_more}
use Rattle.slots.specs.declared.Vertex.{Vertex}
use Rattle.slots.specs.Slots.{slot_size, max_slots, same_list}
use Rattle.slots.specs.Bytes.{with_slot, vertex_at}
use Rattle.slots.proofs.Vertices.{same_list_eq}
use Rattle.slots.proofs.SlotLayout.{with_slot_vertex, with_slot_below}
use Rattle.classes.specs.Classes.{counters_at, class_or, class_of, leads, listed_with, key_of, keys, top_leader, empty_index, Classes, index_after}
use Rattle.classes.specs.declared.Index.{Index}
use Rattle.classes.proofs.Leaders.{lists_equal, class_none, class_some, class_last}
use Rattle.classes.proofs.ListedStates.{listed_absent}

and_false : (x : Bool) → (x && false) ≡ false
and_false true = refl
and_false false = refl

and_true : (x : Bool) → (x && true) ≡ x
and_true true = refl
and_true false = refl

or_false : (x : Bool) → (x || false) ≡ x
or_false true = refl
or_false false = refl

and_swap : (x y : Bool) → (x && y) ≡ (y && x)
and_swap true true = refl
and_swap true false = refl
and_swap false true = refl
and_swap false false = refl

get_or_zeros : (s : ℕ) → ◌≡◌ {A = ℕ} (get_or (replicate max_slots 0) s 0) 0
get_or_zeros = zeros max_slots
  where
    zeros : (m s : ℕ) → ◌≡◌ {A = ℕ} (get_or (replicate m 0) s 0) 0
    zeros zero s = refl
    zeros (suc m) zero = refl
    zeros (suc m) (suc s) = zeros m s

-- the index of no slots
pub classes_begin : (work : List ℕ) → Classes work empty_index 0
unfolding top_leader
classes_begin work =
    record {
      chained =
          record {
            heads_long = length-replicate {A = ℕ} keys 0;
            nexts_long = length-replicate {A = ℕ} max_slots 0;
            head_is = λ k l. get_or-replicate {A = ℕ} keys k 0 0 l;
            next_is = λ s l e. absurd (omega arith);
          };
      joined =
          record {
            listed_long = length-replicate {A = ℕ} max_slots 0;
            leader_listed = λ s l e t h. absurd (omega arith);
            other_listed = λ s l e. absurd (omega arith);
            free_listed = λ s l. get_or_zeros s;
            other_next = λ s l e. absurd (omega arith);
          };
    }

-- the slots below n are as they were, and slot n holds v
module _ (work work' : List ℕ) (n : ℕ) (v : Vertex) (same : (s : ℕ) → s < n → vertex_at work' s ≡ vertex_at work s)
    (own : vertex_at work' n ≡ v) where
  same_counters_at : (s : ℕ) → s < n → counters_at work' s ≡ counters_at work s
  same_counters_at s l = ap (λ (u : Vertex). u.counters) (same s l)

  own_counters : counters_at work' n ≡ v.counters
  own_counters = ap (λ (u : Vertex). u.counters) own

  pub class_same : (cs : List ℕ) (m : ℕ) → m ≤ n → class_of work' cs m ≡ class_of work cs m
  unfolding class_of
  class_same cs zero l = refl
  class_same cs (suc m) l = rw (same_counters_at m (omega arith), class_same cs m (omega arith))

  leads_same : (s : ℕ) → s < n → leads work' s ≡ leads work s
  unfolding leads
  leads_same s l = rw (same_counters_at s l) (ap (λ (c : ℕ). eqb c 0) (class_same (counters_at work s) s (omega arith)))

  top_same : (k m : ℕ) → m ≤ n → top_leader work' k m ≡ top_leader work k m
  unfolding top_leader
  top_same k zero l = refl
  top_same k (suc m) l = rw (leads_same m (omega arith), same_counters_at m (omega arith), top_same k m (omega arith))

  listed_same : (cs : List ℕ) (t : ℕ) → listed_with work' cs n t ≡ listed_with work cs n t
  unfolding listed_with
  listed_same cs t = some_same _ _ n (λ s l. rw (same s l, same_counters_at s l))

  pub class_next_slot : (cs : List ℕ) → class_of work' cs (n + 1) ≡ class_or (class_of work cs n) (cond (same_list cs v.counters) (n + 1) 0)
  unfolding class_of
  class_next_slot cs = rw (add-one, own_counters, class_same cs n (omega arith))

  pub listed_next_slot : (cs : List ℕ) (t : ℕ)
      → listed_with work' cs (n + 1) t ≡ (listed_with work cs n t || (eqb v.left t && same_list cs v.counters))
  unfolding listed_with
  listed_next_slot cs t =
      some_more (λ s. eqb (vertex_at work' s).left t && same_list cs (counters_at work' s)) n
      ∙ ap₂ ◌||◌ (listed_same cs t) (ap (λ (u : Vertex). eqb u.left t && same_list cs u.counters) own)

  leads_next_slot : leads work' n ≡ eqb (class_of work v.counters n) 0
  unfolding leads
  leads_next_slot = rw own_counters (ap (λ (c : ℕ). eqb c 0) (class_same v.counters n (omega arith)))

  top_next_slot : (k : ℕ) (a b : Bool) → leads work' n ≡ a → eqb (key_of v.counters) k ≡ b
      → top_leader work' k (n + 1) ≡ cond (a && b) (suc n) (top_leader work k n)
  unfolding top_leader
  top_next_slot k a b p q = rw (add-one, p, own_counters, q, top_same k n (omega arith))

  listed_below_slot : (s t : ℕ) → s < n → listed_with work' (counters_at work' s) (n + 1) t
      ≡ (listed_with work (counters_at work s) n t || (eqb v.left t && same_list (counters_at work s) v.counters))
  listed_below_slot s t l = rw (same_counters_at s l) (listed_next_slot (counters_at work s) t)

  -- what the index says of the slots below n
  module _ (index : Index) (I : Classes work index n) where
    next_below : (x s : ℕ) → s < n → leads work' s ≡ true → get_or (set index.nexts n x) s 0 ≡ top_leader work' (key_of (counters_at work' s)) s
    next_below x s l e =
        get_or-set_other index.nexts n s x 0 (λ r. absurd (omega arith)) ∙ I.chained.next_is s l (sym (leads_same s l) ∙ e)
        ∙ sym (top_same (key_of (counters_at work s)) s (omega arith))
        ∙ ap (λ (u : Vertex). top_leader work' (key_of u.counters) s) (sym (same s l))

    class_below_slot : (x s : ℕ) → s < n → leads work' s ≡ false → get_or (set index.nexts n x) s 0 ≡ class_of work' (counters_at work' s) s
    class_below_slot x s l e =
        get_or-set_other index.nexts n s x 0 (λ r. absurd (omega arith)) ∙ I.joined.other_next s l (sym (leads_same s l) ∙ e)
        ∙ sym (class_same (counters_at work s) s (omega arith))
        ∙ ap (λ (u : Vertex). class_of work' u.counters s) (sym (same s l))

    -- the slot leads a class
    module _ (k : ℕ) (key : k ≡ key_of v.counters) (small : k < keys) (room : n < max_slots) (first : class_of work v.counters n ≡ 0) where
      led : leads work' n ≡ true
      led = leads_next_slot ∙ eq-eqb _ 0 first

      head_led : (j : ℕ) → j < keys → get_or (set index.heads k (n + 1)) j 0 ≡ top_leader work' j (n + 1)
      head_led j l = go (eqb (key_of v.counters) j) refl
        where
          go : (b : Bool) → eqb (key_of v.counters) j ≡ b → get_or (set index.heads k (n + 1)) j 0 ≡ top_leader work' j (n + 1)
          go true q =
              let r : j ≡ k = sym (eqb-true (key_of v.counters) j q) ∙ sym key in
              ap (λ (i : ℕ). get_or (set index.heads k (n + 1)) i 0) r
              ∙ get_or-set_same index.heads k (n + 1) 0 (omega (arith, I.chained.heads_long)) ∙ add-one n
              ∙ sym (top_next_slot j true true led q)
          go false q =
              get_or-set_other index.heads k j (n + 1) 0 (λ r. eqb-false (key_of v.counters) j q (sym key ∙ sym r)) ∙ I.chained.head_is j l
              ∙ sym (top_next_slot j true false led q)

      next_led : (s : ℕ) → s < n + 1 → leads work' s ≡ true
          → get_or (set index.nexts n (get_or index.heads k 0)) s 0 ≡ top_leader work' (key_of (counters_at work' s)) s
      next_led s l e = ⊎_elim last (λ h. next_below (get_or index.heads k 0) s h e) (eq-or-lt_of_le {n = s} {m = n} (omega arith))
        where
          last : s ≡ n → get_or (set index.nexts n (get_or index.heads k 0)) s 0 ≡ top_leader work' (key_of (counters_at work' s)) s
          last q =
              rw (q, own_counters, ← key)
              (get_or-set_same index.nexts n (get_or index.heads k 0) 0 (omega (arith, I.chained.nexts_long)) ∙ I.chained.head_is k small
              ∙ sym (top_same k n (omega arith)))

      other_counters : (s : ℕ) → s < n → same_list (counters_at work s) v.counters ≡ false
      other_counters s l =
          not_T_false (same_list (counters_at work s) v.counters)
          (λ t. clash {X = ⊥} (lists_equal v.counters (counters_at work s) (sym (same_list_eq (counters_at work s) v.counters t)))
          (class_none work v.counters n first s l))

      listed_led : (s : ℕ) → s < n + 1 → leads work' s ≡ true → (t : ℕ) → t < max_states
          → bit (get_or (set index.listed n (with_bit 0 v.left)) s 0) t ≡ listed_with work' (counters_at work' s) (n + 1) t
      listed_led s l e t h = ⊎_elim last below (eq-or-lt_of_le {n = s} {m = n} (omega arith))
        where
          last : s ≡ n → bit (get_or (set index.listed n (with_bit 0 v.left)) s 0) t ≡ listed_with work' (counters_at work' s) (n + 1) t
          last q =
              rw (q, own_counters)
              (ap (λ (w : ℕ). bit w t) (get_or-set_same index.listed n (with_bit 0 v.left) 0 (omega (arith, I.joined.listed_long)))
              ∙ bit_with 0 v.left t
              ∙ ap₂ ◌||◌ (bit_zero t ∙ sym (listed_absent work v.counters n t (class_none work v.counters n first)))
              (sym (and_true (eqb v.left t)) ∙ ap (λ (b : Bool). eqb v.left t && b) (sym (lists_equal v.counters v.counters refl)))
              ∙ sym (listed_next_slot v.counters t))

          below : s < n → bit (get_or (set index.listed n (with_bit 0 v.left)) s 0) t ≡ listed_with work' (counters_at work' s) (n + 1) t
          below g =
              ap (λ (w : ℕ). bit w t) (get_or-set_other index.listed n s (with_bit 0 v.left) 0 (λ r. absurd (omega arith)))
              ∙ I.joined.leader_listed s g (sym (leads_same s g) ∙ e) t h
              ∙ sym (listed_below_slot s t g
              ∙ ap (λ (b : Bool). listed_with work (counters_at work s) n t || (eqb v.left t && b)) (other_counters s g)
              ∙ ap (λ (b : Bool). listed_with work (counters_at work s) n t || b) (and_false (eqb v.left t))
              ∙ or_false (listed_with work (counters_at work s) n t))

      classes_led : Classes work' (index_after index 0 v.left k n) (n + 1)
      classes_led =
          record {
            chained =
                record {
                  heads_long = length-set index.heads k (n + 1) ∙ I.chained.heads_long;
                  nexts_long = length-set index.nexts n (get_or index.heads k 0) ∙ I.chained.nexts_long;
                  head_is = head_led;
                  next_is = next_led;
                };
            joined =
                record {
                  listed_long = length-set index.listed n (with_bit 0 v.left) ∙ I.joined.listed_long;
                  leader_listed = listed_led;
                  other_listed = λ s l e.
                      ⊎_elim (λ q. clash led (rw q at e))
                      (λ h. get_or-set_other index.listed n s (with_bit 0 v.left) 0 (λ r. absurd (omega arith))
                      ∙ I.joined.other_listed s h (sym (leads_same s h) ∙ e))
                      (eq-or-lt_of_le {n = s} {m = n} (omega arith));
                  free_listed = λ s l.
                      get_or-set_other index.listed n s (with_bit 0 v.left) 0 (λ r. absurd (omega arith)) ∙ I.joined.free_listed s (omega arith);
                  other_next = λ s l e.
                      ⊎_elim (λ q. clash led (rw q at e)) (λ h. class_below_slot (get_or index.heads k 0) s h e)
                      (eq-or-lt_of_le {n = s} {m = n} (omega arith));
                };
          }

    -- the slot joins the class of slot d
    module _ (d k : ℕ) (room : n < max_slots) (again : class_of work v.counters n ≡ suc d) where
      follows : leads work' n ≡ false
      follows = leads_next_slot ∙ ne_eqb (class_of work v.counters n) 0 (λ z. absurd (omega arith))

      head_joined : (j : ℕ) → j < keys → get_or index.heads j 0 ≡ top_leader work' j (n + 1)
      head_joined j l = I.chained.head_is j l ∙ sym (top_next_slot j false (eqb (key_of v.counters) j) follows refl)

      next_joined : (s : ℕ) → s ≡ n → get_or (set index.nexts n (suc d)) s 0 ≡ class_of work' (counters_at work' s) s
      next_joined s q =
          rw (q, own_counters)
          (get_or-set_same index.nexts n (suc d) 0 (omega (arith, I.chained.nexts_long)) ∙ sym (class_same v.counters n (omega arith) ∙ again))

      -- of the leaders, slot d has the counters
      leader_same : (s : ℕ) → s < n → leads work s ≡ true → eqb d s ≡ same_list (counters_at work s) v.counters
      leader_same s l e =
          let g = class_some work v.counters n d again in
          same_test (eqb d s) (same_list (counters_at work s) v.counters)
          (λ t.
          is_true _ (lists_equal (counters_at work s) v.counters (ap (counters_at work) (sym (eqb→eq d s t)) ∙ g.1)))
          (λ t.
          let c = class_last work v.counters n s l (same_list_eq (counters_at work s) v.counters t) e in
          is_true _ (eq-eqb d s (omega arith)))

      listed_joined : (s : ℕ) → s < n + 1 → leads work' s ≡ true → (t : ℕ) → t < max_states
          → bit (get_or (set index.listed d (with_bit (get_or index.listed d 0) v.left)) s 0) t ≡ listed_with work' (counters_at work' s) (n + 1) t
      listed_joined s l e t h = ⊎_elim (λ q. clash (rw q at e) follows) below (eq-or-lt_of_le {n = s} {m = n} (omega arith))
        where
          below : s < n → bit (get_or (set index.listed d (with_bit (get_or index.listed d 0) v.left)) s 0) t
              ≡ listed_with work' (counters_at work' s) (n + 1) t
          below g =
              let m = (class_some work v.counters n d again).0 in
              let f : leads work s ≡ true = sym (leads_same s g) ∙ e in
              bit_set index.listed d s v.left t (omega (arith, I.joined.listed_long))
              ∙ ap₂ ◌||◌ (I.joined.leader_listed s g f t h)
              (and_swap (eqb d s) (eqb v.left t) ∙ ap (λ (b : Bool). eqb v.left t && b) (leader_same s g f))
              ∙ sym (listed_below_slot s t g)

      classes_joined : Classes work' (index_after index (suc d) v.left k n) (n + 1)
      classes_joined =
          let m = class_some work v.counters n d again in
          record {
            chained =
                record {
                  heads_long = I.chained.heads_long;
                  nexts_long = length-set index.nexts n (suc d) ∙ I.chained.nexts_long;
                  head_is = head_joined;
                  next_is = λ s l e.
                      ⊎_elim (λ q. clash (rw q at e) follows) (λ h. next_below (suc d) s h e)
                      (eq-or-lt_of_le {n = s} {m = n} (omega arith));
                };
            joined =
                record {
                  listed_long = length-set index.listed d (with_bit (get_or index.listed d 0) v.left) ∙ I.joined.listed_long;
                  leader_listed = listed_joined;
                  other_listed = λ s l e.
                      ⊎_elim
                      (λ q.
                      get_or-set_other index.listed d s (with_bit (get_or index.listed d 0) v.left) 0 (λ r. absurd (omega (arith, m.0)))
                      ∙ I.joined.free_listed s (omega arith))
                      (λ h.
                      let f : leads work s ≡ false = sym (leads_same s h) ∙ e in
                      get_or-set_other index.listed d s (with_bit (get_or index.listed d 0) v.left) 0
                      (λ r. clash {X = ⊥} m.2 (rw r at f))
                      ∙ I.joined.other_listed s h f)
                      (eq-or-lt_of_le {n = s} {m = n} (omega arith));
                  free_listed = λ s l.
                      get_or-set_other index.listed d s (with_bit (get_or index.listed d 0) v.left) 0 (λ r. absurd (omega (arith, m.0)))
                      ∙ I.joined.free_listed s (omega arith);
                  other_next = λ s l e.
                      ⊎_elim (next_joined s) (λ h. class_below_slot (suc d) s h e)
                      (eq-or-lt_of_le {n = s} {m = n} (omega arith));
                };
          }

-- the next free slot written
module _ (work : List ℕ) (n : ℕ) (v : Vertex) (a p : ℕ) (fits : n * slot_size + slot_size ≤ length work)
    (long : length v.counters ≡ 32) where
  below_slot : (s : ℕ) → s < n → vertex_at (with_slot work n v a p) s ≡ vertex_at work s
  below_slot s l = with_slot_below work n v a p fits s long l

  own_slot : vertex_at (with_slot work n v a p) n ≡ v
  own_slot = with_slot_vertex work n v a p fits long

  pub classes_append : (index : Index) (k c : ℕ) → Classes work index n → k ≡ key_of v.counters → k < keys
      → n < max_slots → c ≡ class_of work v.counters n
      → Classes (with_slot work n v a p) (index_after index c v.left k n) (n + 1)
  classes_append index k zero I key small room e =
      classes_led work (with_slot work n v a p) n v below_slot own_slot index I k key small room (sym e)
  classes_append index k (suc d) I key small room e =
      classes_joined work (with_slot work n v a p) n v below_slot own_slot index I d k room (sym e)
