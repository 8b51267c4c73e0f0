-- The computed range test is the said one: a stray bit found by the test is one that the declaration forbids, and a bit that the
-- declaration forbids is found, since the test looks at each of the 32 states and 16 letters. Assumes nothing.
use mathlib.Core.Path.{◌≡◌, refl}
use mathlib.Core.Bool.{Bool, true, false, ◌&&◌, not}
use mathlib.Core.Logic.{◌⊎◌, inl, inr, ◌↔◌}
use Prim.Native.Nat.{ℕ, ◌≤◌, ◌<◌}
use lib.Dec.{T, T_not, not_T, leb, ltb, ltb→lt, lt→ltb, leb→le, le→leb}
use Rattle.automaton.specs.declared.Automaton.{Automaton}
use Rattle.automaton.specs.Ranges.{some}
use Rattle.automaton.specs.Sets.{member}
use Rattle.automaton.specs.Automata.{max_states, max_letters, transition_bit, header_values, InRange, stray_state, stray_transition, stray, in_range}
use Rattle.automaton.proofs.Booleans.{or_cases, or_left, or_right, and_both, both_and, is_true, is_false}
use Rattle.automaton.proofs.Ranges.{some_at, some_below}

-- three tests joined
pub three_and : (a b c : Bool) → T a → T b → T c → T (a && b && c)
three_and a b c s t u = both_and (a && b) c (both_and a b s t) u

pub and_three : (a b c : Bool) → T (a && b && c) → T a × T b × T c
and_three a b c t =
    let x = and_both (a && b) c t in
    let y = and_both a b x.0 in
    (y.0, y.1, x.1)

-- the header has the states q and r and the letter a
abbrev pub in_header : Automaton → ℕ → ℕ → ℕ → Bool
in_header A q a r = ltb q A.states && ltb a A.letters && ltb r A.states

pub in_header_iff : (A : Automaton) (q a r : ℕ) → T (in_header A q a r) ↔ ((q < A.states) × (a < A.letters) × (r < A.states))
in_header_iff A q a r = (
  λ t. let x = and_three (ltb q A.states) (ltb a A.letters) (ltb r A.states) t in
      (ltb→lt q A.states x.0, ltb→lt a A.letters x.1, ltb→lt r A.states x.2),
  λ h. three_and (ltb q A.states) (ltb a A.letters) (ltb r A.states)
      (lt→ltb q A.states h.0) (lt→ltb a A.letters h.1) (lt→ltb r A.states h.2),
)

-- a header's three numbers are in their ranges
pub header_values_iff : (n k i : ℕ)
    → T (header_values n k i) ↔ ((1 ≤ n) × (n ≤ max_states) × (1 ≤ k) × (k ≤ max_letters) × (i < n))
unfolding header_values
header_values_iff n k i = (
  λ t. let x = and_three (leb 1 n && leb n max_states && leb 1 k) (leb k max_letters) (ltb i n) t in
      let y = and_three (leb 1 n) (leb n max_states) (leb 1 k) x.0 in
      (leb→le 1 n y.0, leb→le n max_states y.1, leb→le 1 k y.2, leb→le k max_letters x.1, ltb→lt i n x.2),
  λ h. three_and (leb 1 n && leb n max_states && leb 1 k) (leb k max_letters) (ltb i n)
      (three_and (leb 1 n) (leb n max_states) (leb 1 k) (le→leb 1 n h.0) (le→leb n max_states h.1) (le→leb 1 k h.2))
      (le→leb k max_letters h.3) (lt→ltb i n h.4),
)

module _ (A : Automaton) where
  not_stray : InRange A → T (stray A) → ⊥
  unfolding stray stray_state stray_transition
  not_stray c t = go (or_cases (some (stray_state A) max_states 0) _ t)
    where
      go : T (some (stray_state A) max_states 0)
          ⊎ T (some (λ q. some (λ a. some (stray_transition A q a) max_states 0) max_letters 0) max_states 0) → ⊥
      go (inl s) =
          let x = some_below (stray_state A) max_states s in
          let y = and_both (member A.accepting x.0) (not (ltb x.0 A.states)) x.2 in
          T_not (ltb x.0 A.states) y.1 (lt→ltb x.0 A.states (c.accepting_in x.0 x.1 y.0))
      go (inr s) =
          let x = some_below (λ q. some (λ a. some (stray_transition A q a) max_states 0) max_letters 0) max_states s in
          let y = some_below (λ a. some (stray_transition A x.0 a) max_states 0) max_letters x.2 in
          let z = some_below (stray_transition A x.0 y.0) max_states y.2 in
          let v = and_both (transition_bit A x.0 y.0 z.0) _ z.2 in
          T_not (in_header A x.0 y.0 z.0) v.1
          ((in_header_iff A x.0 y.0 z.0).1 (c.transitions_in x.0 y.0 z.0 x.1 y.1 z.1 v.0))

  states_in : T (not (stray A)) → (q : ℕ) → q < max_states → T (member A.accepting q) → q < A.states
  unfolding stray stray_state
  states_in n q h t = go (ltb q A.states) refl
    where
      go : (c : Bool) → ltb q A.states ≡ c → q < A.states
      go true e = ltb→lt q A.states (is_true (ltb q A.states) e)
      go false e =
          absurd (T_not (stray A) n (or_left (some (stray_state A) max_states 0) _
          (some_at (stray_state A) max_states q h (both_and (member A.accepting q) _ t (is_false (ltb q A.states) e)))))

  all_in : T (not (stray A)) → (q a r : ℕ) → q < max_states → a < max_letters → r < max_states → T (transition_bit A q a r)
      → (q < A.states) × (a < A.letters) × (r < A.states)
  unfolding stray stray_transition
  all_in n q a r hq ha hr t = go (in_header A q a r) refl
    where
      go : (c : Bool) → in_header A q a r ≡ c → (q < A.states) × (a < A.letters) × (r < A.states)
      go true e = (in_header_iff A q a r).0 (is_true _ e)
      go false e =
          absurd (T_not (stray A) n (or_right (some (stray_state A) max_states 0) _
          (some_at (λ x. some (λ y. some (stray_transition A x y) max_states 0) max_letters 0) max_states q hq
          (some_at (λ y. some (stray_transition A q y) max_states 0) max_letters a ha
          (some_at (stray_transition A q a) max_states r hr
          (both_and (transition_bit A q a r) _ t (is_false (in_header A q a r) e)))))))

  pub in_range_iff : T (in_range A) ↔ InRange A
  unfolding in_range
  in_range_iff = (
    λ t. let b = and_both (header_values A.states A.letters A.initial) (not (stray A)) t in
        let h = (header_values_iff A.states A.letters A.initial).0 b.0 in
        record {
          some_states = h.0;
          few_states = h.1;
          some_letters = h.2;
          few_letters = h.3;
          initial_below = h.4;
          accepting_in = states_in b.1;
          transitions_in = all_in b.1;
        },
    λ c. both_and (header_values A.states A.letters A.initial) (not (stray A))
        ((header_values_iff A.states A.letters A.initial).1
        (c.some_states, c.few_states, c.some_letters, c.few_letters, c.initial_below))
        (not_T (stray A) (not_stray c)),
  )
