-- The class of counters is the one leader among the slots that have them, and a walk along the chain of their key finds it: the class lies at
-- or below the slot where the walk stands, so the leaders that the chain passes over are not looked for. Assumes nothing.
use mathlib.Core.Path.{◌≡◌, refl, sym, ◌∙◌, ap, subst}
use mathlib.Core.Bool.{Bool, true, false, cond, ◌&&◌}
use mathlib.Core.Logic.{⊎_elim}
use mathlib.Core.List.{List}
use Prim.Native.Nat.{ℕ, zero, suc, ◌-◌, ◌≤◌, ◌<◌}
use native.Mathlib.Nat.{eq-or-lt_of_le}
use native.Mathlib.Omega.{arith}
use borrow.Author.Tests.{eqb-true, eqb-false, eq-eqb}
use lib.Dec.{T, eqb}
use lib.ListN.{length, get_or}
use lib.Seq.{ext_get_or}
use Rattle.automaton.proofs.Booleans.{T_true, is_true, not_T_false, and_both, clash}
use Rattle.slots.specs.Slots.{same_list}
use Rattle.slots.proofs.Vertices.{same_list_eq, same_list_refl}
use Rattle.classes.specs.Classes.{counters_at, class_of, leads, key_of, keys, top_leader, Chained}

-- Counters compared.

pub lists_equal : (xs ys : List ℕ) → xs ≡ ys → same_list xs ys ≡ true
lists_equal xs ys e = T_true (same_list xs ys) (subst (λ (l : List ℕ). T (same_list xs l)) e (same_list_refl xs))

pub equal_lists : (xs ys : List ℕ) → same_list xs ys ≡ true → xs ≡ ys
equal_lists xs ys e = same_list_eq xs ys (is_true (same_list xs ys) e)

pub lists_same : (xs ys : List ℕ) → length xs ≡ length ys → ((k : ℕ) → k < length xs → get_or xs k 0 ≡ get_or ys k 0) → same_list xs ys ≡ true
lists_same xs ys n h = lists_equal xs ys (ext_get_or 0 xs ys n h)

pub lists_differ : (xs ys : List ℕ) (i : ℕ) → (get_or xs i 0 ≡ get_or ys i 0 → ⊥) → same_list xs ys ≡ false
lists_differ xs ys i n = not_T_false (same_list xs ys) (λ t. n (ap (λ (l : List ℕ). get_or l i 0) (same_list_eq xs ys t)))

-- The class of counters.

module _ (work cs : List ℕ) where
  class_of_none : class_of work cs 0 ≡ 0
  unfolding class_of
  class_of_none = refl

  -- a slot more: the class stays, or the slot leads it
  pub class_more : (n s : ℕ) → class_of work cs n ≡ suc s → class_of work cs (suc n) ≡ suc s
  unfolding class_of
  class_more n s e = rw e

  pub class_next : (n : ℕ) (b : Bool) → class_of work cs n ≡ 0 → same_list cs (counters_at work n) ≡ b
      → class_of work cs (suc n) ≡ cond b (suc n) 0
  unfolding class_of
  class_next n b e q = rw (e, q)

  pub class_later : (m n s : ℕ) → m ≤ n → class_of work cs m ≡ suc s → class_of work cs n ≡ suc s
  class_later m zero s l e = let q : m ≡ 0 = omega arith in rw q at e
  class_later m (suc n) s l e =
      ⊎_elim (λ q. rw q at e) (λ k. class_more n s (class_later m n s (omega arith) e)) (eq-or-lt_of_le {n = m} {m = suc n} l)

  -- where there is no class, no slot has the counters
  pub class_none : (n : ℕ) → class_of work cs n ≡ 0 → (s : ℕ) → s < n → same_list cs (counters_at work s) ≡ false
  class_none zero e s l = absurd (omega arith)
  class_none (suc n) e s l = go (class_of work cs n) refl (class_none n)
    where
      own : (b : Bool) → class_of work cs n ≡ 0 → same_list cs (counters_at work n) ≡ b → b ≡ false
      own true z q = absurd (omega (arith, sym (class_next n true z q) ∙ e))
      own false z q = refl

      go : (c : ℕ) → class_of work cs n ≡ c → (class_of work cs n ≡ 0 → (r : ℕ) → r < n → same_list cs (counters_at work r) ≡ false)
          → same_list cs (counters_at work s) ≡ false
      go zero z again =
          ⊎_elim (λ q. rw q (own (same_list cs (counters_at work n)) z refl)) (λ k. again z s k) (eq-or-lt_of_le {n = s} {m = n} (omega arith))
      go (suc c) z again = absurd (omega (arith, sym (class_more n c z) ∙ e))

  pub class_absent : (n : ℕ) → ((s : ℕ) → s < n → same_list cs (counters_at work s) ≡ false) → class_of work cs n ≡ 0
  class_absent zero h = class_of_none
  class_absent (suc n) h = class_next n false (class_absent n (λ s l. h s (omega arith))) (h n (omega arith))

  class_leads : (s : ℕ) → counters_at work s ≡ cs → class_of work cs s ≡ 0 → leads work s ≡ true
  unfolding leads
  class_leads s e z = eq-eqb _ 0 (ap (λ (l : List ℕ). class_of work l s) e ∙ z)

  -- the class that is there is a slot that has the counters and leads
  pub class_some : (n s : ℕ) → class_of work cs n ≡ suc s → (s < n) × (counters_at work s ≡ cs) × (leads work s ≡ true)
  class_some zero s e = absurd (omega (arith, sym class_of_none ∙ e))
  class_some (suc n) s e = go (class_of work cs n) refl (class_some n s)
    where
      own : (b : Bool) → class_of work cs n ≡ 0 → same_list cs (counters_at work n) ≡ b
          → (s < suc n) × (counters_at work s ≡ cs) × (leads work s ≡ true)
      own true z q =
          let d : n ≡ s = omega (arith, sym (class_next n true z q) ∙ e) in
          let f : counters_at work s ≡ cs = rw d at (sym (equal_lists cs (counters_at work n) q)) in
          let y : class_of work cs s ≡ 0 = rw d at z in
          (omega arith, f, class_leads s f y)
      own false z q = absurd (omega (arith, sym (class_next n false z q) ∙ e))

      go : (c : ℕ) → class_of work cs n ≡ c
          → (class_of work cs n ≡ suc s → (s < n) × (counters_at work s ≡ cs) × (leads work s ≡ true))
          → (s < suc n) × (counters_at work s ≡ cs) × (leads work s ≡ true)
      go zero z again = own (same_list cs (counters_at work n)) z refl
      go (suc c) z again = let r = again (z ∙ sym (class_more n c z) ∙ e) in (omega (arith, r.0), r.1, r.2)

  -- a leader that has the counters is their class
  pub class_last : (n s : ℕ) → s < n → counters_at work s ≡ cs → leads work s ≡ true → class_of work cs n ≡ suc s
  unfolding leads
  class_last n s l e t =
      class_later (suc s) n s (omega arith)
      (class_next s true (ap (λ (x : List ℕ). class_of work x s) (sym e) ∙ eqb-true _ 0 t) (lists_equal cs (counters_at work s) (sym e)))

  pub class_le : (n : ℕ) → class_of work cs n ≤ n
  class_le n = go (class_of work cs n) refl
    where
      go : (c : ℕ) → class_of work cs n ≡ c → c ≤ n
      go zero z = omega arith
      go (suc s) z = omega (arith, (class_some n s z).0)

-- a slot that leads no class has one below it
pub class_below : (work : List ℕ) (s : ℕ) → leads work s ≡ false → 0 < class_of work (counters_at work s) s
unfolding leads
class_below work s e = let h = eqb-false (class_of work (counters_at work s) s) 0 e in go (class_of work (counters_at work s) s) h
  where
    go : (c : ℕ) → (c ≡ 0 → ⊥) → 0 < c
    go zero h = absurd (h refl)
    go (suc c) h = omega arith

-- The chains of leaders.

module _ (work : List ℕ) where
  top_le : (k n : ℕ) → top_leader work k n ≤ n
  unfolding top_leader
  top_le k zero = omega arith
  top_le k (suc n) = go (leads work n && eqb (key_of (counters_at work n)) k) (top_le k n)
    where
      go : (b : Bool) → top_leader work k n ≤ n → cond b (suc n) (top_leader work k n) ≤ suc n
      go true l = omega arith
      go false l = omega arith

  -- a slot that the chain of k names leads, and has the key k
  top_leads : (k n : ℕ) → 0 < top_leader work k n
      → (leads work (top_leader work k n - 1) ≡ true) × (key_of (counters_at work (top_leader work k n - 1)) ≡ k)
  unfolding top_leader
  top_leads k zero l = absurd (omega arith)
  top_leads k (suc n) l = go (leads work n && eqb (key_of (counters_at work n)) k) refl (top_leads k n) l
    where
      go : (b : Bool) → (leads work n && eqb (key_of (counters_at work n)) k) ≡ b
          → (0 < top_leader work k n → (leads work (top_leader work k n - 1) ≡ true) × (key_of (counters_at work (top_leader work k n - 1)) ≡ k))
          → 0 < cond b (suc n) (top_leader work k n)
          → (leads work (cond b (suc n) (top_leader work k n) - 1) ≡ true)
          × (key_of (counters_at work (cond b (suc n) (top_leader work k n) - 1)) ≡ k)
      go true e again h =
          let q : suc n - 1 ≡ n = omega arith in
          let b = and_both (leads work n) (eqb (key_of (counters_at work n)) k) (is_true _ e) in
          rw q (T_true (leads work n) b.0, eqb-true _ k (T_true _ b.1))
      go false e again h = again h

  -- the leaders with the key k lie at or below the top
  top_above : (k n s : ℕ) → s < n → leads work s ≡ true → key_of (counters_at work s) ≡ k → s < top_leader work k n
  unfolding top_leader
  top_above k zero s l t e = absurd (omega arith)
  top_above k (suc n) s l t e = go (leads work n && eqb (key_of (counters_at work n)) k) refl (top_above k n s)
    where
      go : (b : Bool) → (leads work n && eqb (key_of (counters_at work n)) k) ≡ b
          → (s < n → leads work s ≡ true → key_of (counters_at work s) ≡ k → s < top_leader work k n)
          → s < cond b (suc n) (top_leader work k n)
      go true q again = l
      go false q again =
          ⊎_elim
          (λ d.
          let u : leads work n ≡ true = rw d at t in
          let f : key_of (counters_at work n) ≡ k = rw d at e in
          let g : (leads work n && eqb (key_of (counters_at work n)) k) ≡ true = rw (u, eq-eqb (key_of (counters_at work n)) k f) in
          clash g q)
          (λ h. again h t e)
          (eq-or-lt_of_le {n = s} {m = n} (omega arith))

-- where a walk along the chain of k stands: the class is at or below c, and slot c - 1 leads and has the key k
pub record OnChain (work cs : List ℕ) (n k c : ℕ) : Type 0 where
  pub key : k ≡ key_of cs
  pub inside : c ≤ n
  pub rest : class_of work cs n ≤ c
  pub leader : 0 < c → (leads work (c - 1) ≡ true) × (key_of (counters_at work (c - 1)) ≡ k)

module _ (work cs : List ℕ) (k : ℕ) (key : k ≡ key_of cs) where
  chain_top : (n m : ℕ) → m ≤ n → class_of work cs n ≤ m → OnChain work cs n k (top_leader work k m)
  chain_top n m l h =
      record {
        key = key;
        inside = omega (arith, top_le work k m);
        rest = go (class_of work cs n) refl h;
        leader = top_leads work k m;
      }
    where
      go : (c : ℕ) → class_of work cs n ≡ c → c ≤ m → c ≤ top_leader work k m
      go zero e g = omega arith
      go (suc s) e g =
          let d = class_some work cs n s e in
          top_above work k m s (omega arith) d.2 (ap key_of d.1 ∙ sym key)

  pub chain_end : (n c : ℕ) → OnChain work cs n k c → c ≤ 0 → 0 ≡ class_of work cs n
  chain_end n c C l = let r = C.rest in omega arith

  -- the slot where the walk stands has the counters: it is their class
  pub chain_here : (n c : ℕ) → OnChain work cs n k c → 0 < c → same_list cs (counters_at work (c - 1)) ≡ true → c ≡ class_of work cs n
  chain_here n c C l e =
      let i = C.inside in
      let d = class_last work cs n (c - 1) (omega arith) (sym (equal_lists cs (counters_at work (c - 1)) e)) (C.leader l).0 in
      omega arith

  module _ (heads nexts : List ℕ) (n : ℕ) (I : Chained work heads nexts n) where
    pub chain_start : k < keys → OnChain work cs n k (get_or heads k 0)
    chain_start l = rw (I.head_is k l) (chain_top n n (omega arith) (class_le work cs n))

    pub chain_next : (c : ℕ) → OnChain work cs n k c → 0 < c → same_list cs (counters_at work (c - 1)) ≡ false
        → OnChain work cs n k (get_or nexts (c - 1) 0) × (get_or nexts (c - 1) 0 < c)
    chain_next c C l e =
        let i = C.inside in
        let d = C.leader l in
        rw (I.next_is (c - 1) (omega arith) d.0, d.1)
        (chain_top n (c - 1) (omega arith) (go (class_of work cs n) refl C.rest), omega (arith, top_le work k (c - 1)))
      where
        go : (x : ℕ) → class_of work cs n ≡ x → x ≤ c → x ≤ c - 1
        go zero q h = omega arith
        go (suc s) q h =
            ⊎_elim
            (λ z.
            let f : c - 1 ≡ s = omega arith in
            let g = class_some work cs n s q in
            clash (lists_equal cs (counters_at work (c - 1)) (sym (ap (counters_at work) f ∙ g.1))) e)
            (λ z. omega arith)
            (eq-or-lt_of_le {n = suc s} {m = c} h)
