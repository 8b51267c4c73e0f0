-- What one bit more does: to a number, to a set of states, to an automaton's accepting states and to its transitions. A bit of 2 ^ i
-- is told by halving both powers; everything else follows from the bits of "or". Assumes nothing.
use mathlib.Core.Path.{◌≡◌, refl, sym, ap, subst, ◌∙◌}
use mathlib.Core.Bool.{Bool, true, false, ◌&&◌, ◌||◌}
use mathlib.Core.Logic.{◌⊎◌, inl, inr, ⊎_elim, ◌↔◌}
use mathlib.Core.List.{List}
use Prim.Native.Nat.{ℕ, zero, suc, ◌/◌, ◌%◌, ◌^◌, ◌≤◌, ◌<◌}
use native.Mathlib.Nat.{pow-suc, pow-succ', one-le-pow, mul-div-mul_right, mul-mod_left, div-one, div-div-eq-div-mul, div-eq_of_lt, zero-div}
use native.Mathlib.Omega.{arith}
use borrow.Author.Tests.{eq-eqb, eqb-true, eqb-false}
use lib.Bits.{bit_and, bit_or, and_shr, and_mod, and_zero_l, or_shr, or_mod, or_zero_l}
use lib.Dec.{T, eqb, ltb, lt→ltb, eqb→eq, eqb_refl, eqb-zero-suc, eqb-suc-zero, eqb-suc-suc}
use lib.ListN.{length, get_or, set, replicate, length-set, length-replicate}
use lib.Seq.{get_or-set_same, get_or-set_other}
use Rattle.automaton.specs.declared.Automaton.{Automaton}
use Rattle.automaton.specs.Sets.{bit, with_bit, member}
use Rattle.automaton.specs.Automata.{max_states, max_letters, accepts, place, transition_bit, transition, bare, with_accepting, with_transition, header_values, InRange}
use Rattle.automaton.proofs.Booleans.{or_cases, or_left, or_right, and_both, both_and, same_test, is_true, not_T_false}
use Rattle.automaton.proofs.InRange.{three_and, and_three, in_header, in_header_iff, header_values_iff}

-- Bits of a number.

pub bit_of_or : (w v j : ℕ) → bit (bit_or w v) j ≡ (bit w j || bit v j)
bit_of_or w v j =
    ap (λ (x : ℕ). eqb x 1) (ap (λ (x : ℕ). x % 2) (or_shr w v j) ∙ or_mod (w / 2 ^ j) (v / 2 ^ j) 1)
    ∙ go (w / 2 ^ j % 2) (v / 2 ^ j % 2) (omega arith) (omega arith)
  where
    go : (x y : ℕ) → x < 2 → y < 2 → eqb (bit_or x y) 1 ≡ (eqb x 1 || eqb y 1)
    go zero y h k = ap (λ (z : ℕ). eqb z 1) (or_zero_l y)
    go (suc zero) zero h k = refl
    go (suc zero) (suc zero) h k = refl
    go (suc zero) (suc (suc y)) h k = absurd (omega arith)
    go (suc (suc x)) y h k = absurd (omega arith)

pub bit_of_and : (w v j : ℕ) → bit (bit_and w v) j ≡ (bit w j && bit v j)
bit_of_and w v j =
    ap (λ (x : ℕ). eqb x 1) (ap (λ (x : ℕ). x % 2) (and_shr w v j) ∙ and_mod (w / 2 ^ j) (v / 2 ^ j) 1)
    ∙ go (w / 2 ^ j % 2) (v / 2 ^ j % 2) (omega arith) (omega arith)
  where
    go : (x y : ℕ) → x < 2 → y < 2 → eqb (bit_and x y) 1 ≡ (eqb x 1 && eqb y 1)
    go zero y h k = ap (λ (z : ℕ). eqb z 1) (and_zero_l y)
    go (suc zero) zero h k = refl
    go (suc zero) (suc zero) h k = refl
    go (suc zero) (suc (suc y)) h k = absurd (omega arith)
    go (suc (suc x)) y h k = absurd (omega arith)

pub bit_half : (w i : ℕ) → bit w (suc i) ≡ bit (w / 2) i
bit_half w i = sym (ap (λ (x : ℕ). eqb (x % 2) 1) (div-div-eq-div-mul w 2 (2 ^ i) ∙ ap (λ (x : ℕ). w / x) (sym (pow-succ' 2 i))))

pub bit_first : (w : ℕ) → bit w 0 ≡ eqb (w % 2) 1
bit_first w = ap (λ (x : ℕ). eqb (x % 2) 1) (div-one w)

-- 2 ^ i has bit i alone
pub bit_power : (i j : ℕ) → bit (2 ^ i) j ≡ eqb i j
bit_power zero zero = refl
bit_power zero (suc j) = ap (λ (x : ℕ). eqb (x % 2) 1) (div-eq_of_lt one_below) ∙ sym (eqb-zero-suc j)
  where
    one_below : 1 < 2 ^ suc j
    one_below = rw pow-suc (omega (arith, one-le-pow j 2 (omega arith)))
bit_power (suc i) zero = ap (λ (x : ℕ). eqb x 1) even ∙ sym (eqb-suc-zero i)
  where
    even : 2 ^ suc i / 1 % 2 ≡ 0
    even = rw (div-one, pow-suc) (mul-mod_left (2 ^ i) 2)
bit_power (suc i) (suc j) = ap (λ (x : ℕ). eqb (x % 2) 1) halved ∙ bit_power i j ∙ sym (eqb-suc-suc i j)
  where
    halved : 2 ^ suc i / 2 ^ suc j ≡ 2 ^ i / 2 ^ j
    halved = rw (pow-suc 2 i, pow-suc 2 j) (mul-div-mul_right (2 ^ i) (2 ^ j) (omega arith))

pub bit_with : (w i j : ℕ) → bit (with_bit w i) j ≡ (bit w j || eqb i j)
bit_with w i j = bit_of_or w (2 ^ i) j ∙ ap (λ (c : Bool). bit w j || c) (bit_power i j)

or_false : (c : Bool) → (c || false) ≡ c
or_false true = refl
or_false false = refl

and_false : (c : Bool) → (c && false) ≡ false
and_false true = refl
and_false false = refl

pub bit_zero : (j : ℕ) → bit 0 j ≡ false
bit_zero j = ap (λ (x : ℕ). eqb (x % 2) 1) (zero-div (2 ^ j))

-- Sets of states.

-- bit x more in element i of a list
pub bit_set : (l : List ℕ) (i j x y : ℕ) → i < length l
    → bit (get_or (set l i (with_bit (get_or l i 0) x)) j 0) y ≡ (bit (get_or l j 0) y || (eqb i j && eqb x y))
bit_set l i j x y h = go (eqb i j) refl
  where
    go : (c : Bool) → eqb i j ≡ c → bit (get_or (set l i (with_bit (get_or l i 0) x)) j 0) y ≡ (bit (get_or l j 0) y || (c && eqb x y))
    go true e =
        subst (λ (k : ℕ). bit (get_or (set l i (with_bit (get_or l i 0) x)) k 0) y ≡ (bit (get_or l k 0) y || eqb x y)) (eqb-true i j e)
        (ap (λ (v : ℕ). bit v y) (get_or-set_same l i (with_bit (get_or l i 0) x) 0 h) ∙ bit_with (get_or l i 0) x y)
    go false e =
        ap (λ (v : ℕ). bit v y) (get_or-set_other l i j (with_bit (get_or l i 0) x) 0 (λ d. eqb-false i j e (sym d)))
        ∙ sym (or_false (bit (get_or l j 0) y))

pub member_with : (S : List ℕ) (q p : ℕ) → q / 8 < length S
    → member (set S (q / 8) (with_bit (get_or S (q / 8) 0) (q % 8))) p ≡ (member S p || eqb q p)
member_with S q p h = bit_set S (q / 8) (p / 8) (q % 8) (p % 8) h ∙ ap (λ (c : Bool). member S p || c) same_state
  where
    same_state : (eqb (q / 8) (p / 8) && eqb (q % 8) (p % 8)) ≡ eqb q p
    same_state =
        same_test _ (eqb q p)
        (λ t. let b = and_both (eqb (q / 8) (p / 8)) (eqb (q % 8) (p % 8)) t in
        is_true (eqb q p) (eq-eqb q p (omega (arith, eqb→eq (q / 8) (p / 8) b.0, eqb→eq (q % 8) (p % 8) b.1))))
        (λ t. subst (λ (z : ℕ). T (eqb (q / 8) (z / 8) && eqb (q % 8) (z % 8))) (eqb→eq q p t)
        (both_and (eqb (q / 8) (q / 8)) (eqb (q % 8) (q % 8)) (eqb_refl (q / 8)) (eqb_refl (q % 8))))

-- Automata.

-- under a guard that z implies, y may stand for z
guarded_or : (c x y z : Bool) → (T c → y ≡ z) → (T z → T c) → (c && (x || y)) ≡ ((c && x) || z)
guarded_or true x y z h k = ap (λ (v : Bool). x || v) (h tt)
guarded_or false x y z h k = sym (not_T_false z k)

same_three_iff : (q a r p b s : ℕ) → T (eqb q p && eqb a b && eqb r s) ↔ ((q ≡ p) × (a ≡ b) × (r ≡ s))
same_three_iff q a r p b s = (
  λ t. let x = and_three (eqb q p) (eqb a b) (eqb r s) t in
      (eqb→eq q p x.0, eqb→eq a b x.1, eqb→eq r s x.2),
  λ h. three_and (eqb q p) (eqb a b) (eqb r s)
      (is_true _ (eq-eqb q p h.0)) (is_true _ (eq-eqb a b h.1)) (is_true _ (eq-eqb r s h.2)),
)

-- places of two transitions of an automaton are the same only where the transitions are
place_same : (q a r p b s : ℕ) → a < 16 → b < 16 → r < 32 → s < 32 → place q a r ≡ place p b s → r % 8 ≡ s % 8 → (q ≡ p) × (a ≡ b) × (r ≡ s)
place_same q a r p b s ha hb hr hs e d =
    let d₁ : q ≡ p = omega arith in
    let d₂ : a ≡ b = omega arith in
    let d₃ : r ≡ s = omega arith in
    (d₁, d₂, d₃)

module _ (A : Automaton) (q : ℕ) where
  pub with_accepting_header : ((with_accepting A q).states ≡ A.states) × ((with_accepting A q).letters ≡ A.letters)
      × ((with_accepting A q).initial ≡ A.initial)
  unfolding with_accepting
  with_accepting_header = (refl, refl, refl)

  pub with_accepting_lengths : (length (with_accepting A q).accepting ≡ length A.accepting)
      × (length (with_accepting A q).transitions ≡ length A.transitions)
  unfolding with_accepting
  with_accepting_lengths = (length-set A.accepting (q / 8) _, refl)

  pub with_accepting_transition : (p b s : ℕ) → transition (with_accepting A q) p b s ≡ transition A p b s
  unfolding with_accepting transition
  with_accepting_transition p b s = refl

  pub with_accepting_accepts : q < A.states → A.states ≤ max_states → length A.accepting ≡ 4
      → (p : ℕ) → accepts (with_accepting A q) p ≡ (accepts A p || eqb q p)
  unfolding with_accepting accepts
  with_accepting_accepts h m e p =
      ap (λ (c : Bool). ltb p A.states && c) (member_with A.accepting q p (omega arith))
      ∙ guarded_or (ltb p A.states) (member A.accepting p) (eqb q p) (eqb q p) (λ _. refl)
      (λ t. lt→ltb p A.states (omega (arith, eqb→eq q p t)))

  pub with_accepting_iff : q < A.states → A.states ≤ max_states → length A.accepting ≡ 4
      → (p : ℕ) → T (accepts (with_accepting A q) p) ↔ ((p ≡ q) ⊎ T (accepts A p))
  with_accepting_iff h m e p =
      subst (λ (c : Bool). T c ↔ ((p ≡ q) ⊎ T (accepts A p))) (sym (with_accepting_accepts h m e p)) (
        λ t. ⊎_elim inr (λ d. inl (sym (eqb→eq q p d))) (or_cases (accepts A p) (eqb q p) t),
        λ s. ⊎_elim (λ d. or_right (accepts A p) (eqb q p) (is_true (eqb q p) (eq-eqb q p (sym d)))) (or_left (accepts A p) (eqb q p)) s,
      )

  pub with_accepting_in_range : q < A.states → length A.accepting ≡ 4 → InRange A → InRange (with_accepting A q)
  unfolding with_accepting
  with_accepting_in_range h e c =
      let n = c.few_states in
      record {
        some_states = c.some_states;
        few_states = n;
        some_letters = c.some_letters;
        few_letters = c.few_letters;
        initial_below = c.initial_below;
        accepting_in = λ p l t. ⊎_elim (c.accepting_in p l) (λ d. omega (arith, eqb→eq q p d))
            (or_cases (member A.accepting p) (eqb q p) (subst T (member_with A.accepting q p (omega arith)) t));
        transitions_in = c.transitions_in;
      }

module _ (A : Automaton) (q a r : ℕ) where
  pub with_transition_header : ((with_transition A q a r).states ≡ A.states) × ((with_transition A q a r).letters ≡ A.letters)
      × ((with_transition A q a r).initial ≡ A.initial)
  unfolding with_transition
  with_transition_header = (refl, refl, refl)

  pub with_transition_lengths : (length (with_transition A q a r).accepting ≡ length A.accepting)
      × (length (with_transition A q a r).transitions ≡ length A.transitions)
  unfolding with_transition
  with_transition_lengths = (refl, length-set A.transitions (place q a r) _)

  pub with_transition_accepts : (p : ℕ) → accepts (with_transition A q a r) p ≡ accepts A p
  unfolding with_transition accepts
  with_transition_accepts p = refl

  pub with_transition_transition : q < A.states → a < A.letters → r < A.states → A.states ≤ max_states → A.letters ≤ max_letters
      → length A.transitions ≡ 2048
      → (p b s : ℕ) → transition (with_transition A q a r) p b s ≡ (transition A p b s || (eqb q p && eqb a b && eqb r s))
  unfolding with_transition transition
  with_transition_transition hq ha hr n k e p b s =
      ap (λ (c : Bool). in_header A p b s && c) (bit_set A.transitions (place q a r) (place p b s) (r % 8) (s % 8) (omega arith))
      ∙ guarded_or (in_header A p b s) (transition_bit A p b s) _ (eqb q p && eqb a b && eqb r s)
      (λ t. same_test _ (eqb q p && eqb a b && eqb r s) (only t) whole) within
    where
      whole : T (eqb q p && eqb a b && eqb r s) → T (eqb (place q a r) (place p b s) && eqb (r % 8) (s % 8))
      whole t =
          let d = (same_three_iff q a r p b s).0 t in
          both_and (eqb (place q a r) (place p b s)) (eqb (r % 8) (s % 8))
          (is_true _ (eq-eqb (place q a r) (place p b s) (rw (d.0, d.1, d.2)))) (is_true _ (eq-eqb (r % 8) (s % 8) (rw d.2)))

      only : T (in_header A p b s) → T (eqb (place q a r) (place p b s) && eqb (r % 8) (s % 8)) → T (eqb q p && eqb a b && eqb r s)
      only i t =
          let h = (in_header_iff A p b s).0 i in
          let d = and_both (eqb (place q a r) (place p b s)) (eqb (r % 8) (s % 8)) t in
          (same_three_iff q a r p b s).1
          (place_same q a r p b s (omega arith) (omega (arith, h.1)) (omega arith) (omega (arith, h.2))
          (eqb→eq _ _ d.0) (eqb→eq _ _ d.1))

      within : T (eqb q p && eqb a b && eqb r s) → T (in_header A p b s)
      within t =
          let d = (same_three_iff q a r p b s).0 t in
          (in_header_iff A p b s).1 (omega (arith, d.0), omega (arith, d.1), omega (arith, d.2))

  pub with_transition_iff : q < A.states → a < A.letters → r < A.states → A.states ≤ max_states → A.letters ≤ max_letters
      → length A.transitions ≡ 2048
      → (p b s : ℕ) → T (transition (with_transition A q a r) p b s) ↔ (((p ≡ q) × (b ≡ a) × (s ≡ r)) ⊎ T (transition A p b s))
  with_transition_iff hq ha hr n k e p b s =
      subst (λ (c : Bool). T c ↔ (((p ≡ q) × (b ≡ a) × (s ≡ r)) ⊎ T (transition A p b s)))
      (sym (with_transition_transition hq ha hr n k e p b s)) (
        λ t. ⊎_elim inr (λ d. let m = (same_three_iff q a r p b s).0 d in inl (sym m.0, sym m.1, sym m.2))
            (or_cases (transition A p b s) (eqb q p && eqb a b && eqb r s) t),
        λ t. ⊎_elim
            (λ d. or_right (transition A p b s) _ ((same_three_iff q a r p b s).1 (sym d.0, sym d.1, sym d.2)))
            (or_left (transition A p b s) _) t,
      )

  pub with_transition_in_range : q < A.states → a < A.letters → r < A.states → length A.transitions ≡ 2048
      → InRange A → InRange (with_transition A q a r)
  unfolding with_transition
  with_transition_in_range hq ha hr e c =
      let n = c.few_states in
      let k = c.few_letters in
      record {
        some_states = c.some_states;
        few_states = n;
        some_letters = c.some_letters;
        few_letters = k;
        initial_below = c.initial_below;
        accepting_in = c.accepting_in;
        transitions_in = λ p b s hp hb hs t. ⊎_elim (c.transitions_in p b s hp hb hs)
            (λ d. let m = and_both (eqb (place q a r) (place p b s)) (eqb (r % 8) (s % 8)) d in
            let x = place_same q a r p b s (omega arith) hb (omega arith) hs (eqb→eq _ _ m.0) (eqb→eq _ _ m.1) in
            (omega (arith, x.0), omega (arith, x.1), omega (arith, x.2)))
            (or_cases (transition_bit A p b s) (eqb (place q a r) (place p b s) && eqb (r % 8) (s % 8))
            (subst T (bit_set A.transitions (place q a r) (place p b s) (r % 8) (s % 8) (omega arith)) t));
      }

-- An automaton with nothing accepting and no transition.

get_or_zeros : (n j : ℕ) → ◌≡◌ {A = ℕ} (get_or (replicate n 0) j 0) 0
get_or_zeros zero j = refl
get_or_zeros (suc n) zero = refl
get_or_zeros (suc n) (suc j) = get_or_zeros n j

module _ (n k i : ℕ) where
  bare_member : (q : ℕ) → member (bare n k i).accepting q ≡ false
  unfolding bare
  bare_member q = ap (λ (w : ℕ). bit w (q % 8)) (get_or_zeros 4 (q / 8)) ∙ bit_zero (q % 8)

  bare_bit : (q a r : ℕ) → transition_bit (bare n k i) q a r ≡ false
  unfolding bare
  bare_bit q a r = ap (λ (w : ℕ). bit w (r % 8)) (get_or_zeros 2048 (place q a r)) ∙ bit_zero (r % 8)

  pub bare_accepts : (q : ℕ) → accepts (bare n k i) q ≡ false
  unfolding accepts
  bare_accepts q = ap (λ (c : Bool). ltb q (bare n k i).states && c) (bare_member q) ∙ and_false (ltb q (bare n k i).states)

  pub bare_transition : (q a r : ℕ) → transition (bare n k i) q a r ≡ false
  unfolding transition
  bare_transition q a r = ap (λ (c : Bool). in_header (bare n k i) q a r && c) (bare_bit q a r) ∙ and_false (in_header (bare n k i) q a r)

  pub bare_header : ((bare n k i).states ≡ n) × ((bare n k i).letters ≡ k) × ((bare n k i).initial ≡ i)
  unfolding bare
  bare_header = (refl, refl, refl)

  pub bare_lengths : (length (bare n k i).accepting ≡ 4) × (length (bare n k i).transitions ≡ 2048)
  unfolding bare
  bare_lengths = (refl, length-replicate {A = ℕ} 2048 0)

  pub bare_in_range : T (header_values n k i) → InRange (bare n k i)
  unfolding bare
  bare_in_range t =
      let h = (header_values_iff n k i).0 t in
      record {
        some_states = h.0;
        few_states = h.1;
        some_letters = h.2;
        few_letters = h.3;
        initial_below = h.4;
        accepting_in = λ q _ s. absurd (subst T (bare_member q) s);
        transitions_in = λ q a r _ _ _ s. absurd (subst T (bare_bit q a r) s);
      }
