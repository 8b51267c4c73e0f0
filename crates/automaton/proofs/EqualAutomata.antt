-- Equal automata are equal values: two automata in range with the same header, the same accepting states and the same transitions
-- have the same bytes. A byte is known by its eight bits, and every bit of the two sets is a state's or a transition's. Assumes nothing.
use mathlib.Core.Path.{◌≡◌, refl, sym, subst, ◌∙◌}
use mathlib.Core.List.{List}
use Prim.Native.Nat.{ℕ, zero, suc, ◌+◌, ◌*◌, ◌/◌, ◌%◌, ◌^◌, ◌<◌}
use native.Mathlib.Nat.{pow-succ'}
use native.Mathlib.Omega.{arith}
use lib.Dec.{T, eqb, ltb, lt→ltb}
use lib.ListN.{get_or}
use lib.Seq.{ext_get_or}
use Rattle.automaton.specs.declared.Automaton.{Automaton}
use Rattle.automaton.specs.Sets.{Bytes, bit, member}
use Rattle.automaton.specs.Automata.{max_states, max_letters, accepts, place, transition_bit, transition, InRange}
use Rattle.automaton.proofs.Booleans.{and_both, both_and, same_test, clash}
use Rattle.automaton.proofs.Bits.{bit_half, bit_first}
use Rattle.automaton.proofs.Transitions.{transition_parts, parts_transition}

-- Bytes by their bits.

low_bit : (w v : ℕ) → bit w 0 ≡ bit v 0 → w % 2 ≡ v % 2
low_bit w v e =
    go (w % 2) (v % 2) (omega arith) (omega arith)
    (sym (bit_first w) ∙ e ∙ bit_first v)
  where
    go : (x y : ℕ) → x < 2 → y < 2 → eqb x 1 ≡ eqb y 1 → x ≡ y
    go zero zero h k d = refl
    go zero (suc zero) h k d = clash d refl
    go zero (suc (suc y)) h k d = absurd (omega arith)
    go (suc zero) zero h k d = clash refl d
    go (suc zero) (suc zero) h k d = refl
    go (suc zero) (suc (suc y)) h k d = absurd (omega arith)
    go (suc (suc x)) y h k d = absurd (omega arith)

pub same_bits : (n w v : ℕ) → w < 2 ^ n → v < 2 ^ n → ((i : ℕ) → i < n → bit w i ≡ bit v i) → w ≡ v
same_bits zero w v hw hv e = omega arith
same_bits (suc n) w v hw hv e =
    let p = pow-succ' 2 n in
    let h = same_bits n (w / 2) (v / 2) (omega arith) (omega arith) (λ i l. sym (bit_half w i) ∙ e (suc i) (omega arith) ∙ bit_half v i) in
    let o = low_bit w v (e 0 (omega arith)) in
    omega arith

-- Sets by their members.

same_bytes : (n : ℕ) (s t : List ℕ) → Bytes n s → Bytes n t
    → ((i j : ℕ) → i < n → j < 8 → bit (get_or s i 0) j ≡ bit (get_or t i 0) j) → s ≡ t
same_bytes n s t a b e =
    ext_get_or 0 s t (a.size ∙ sym b.size)
    (λ i h. same_bits 8 (get_or s i 0) (get_or t i 0) (a.small i) (b.small i) (λ j l. e i j (omega (arith, a.size)) l))

member_accepts : (A B : Automaton) → InRange A → ((p : ℕ) → accepts A p ≡ accepts B p) → (q : ℕ) → q < max_states
    → T (member A.accepting q) → T (member B.accepting q)
unfolding accepts
member_accepts A B in_a e q h t =
    let l = in_a.accepting_in q h t in
    (and_both (ltb q B.states) (member B.accepting q)
    (subst T (e q) (both_and (ltb q A.states) (member A.accepting q) (lt→ltb q A.states l) t))).1

bit_transition : (A B : Automaton) → InRange A → ((p x s : ℕ) → transition A p x s ≡ transition B p x s)
    → (q a r : ℕ) → q < max_states → a < max_letters → r < max_states → T (transition_bit A q a r) → T (transition_bit B q a r)
bit_transition A B in_a e q a r hq ha hr t =
    let l = in_a.transitions_in q a r hq ha hr t in
    (transition_parts B q a r (subst T (e q a r) (parts_transition A q a r l.0 l.1 l.2 t))).3

make : ℕ → ℕ → ℕ → List ℕ → List ℕ → Automaton
make n k i acc tra = record { states = n; letters = k; initial = i; accepting = acc; transitions = tra }

module _
    (A B : Automaton)
    (in_a : InRange A)
    (in_b : InRange B)
    (set_a : Bytes 4 A.accepting × Bytes 2048 A.transitions)
    (set_b : Bytes 4 B.accepting × Bytes 2048 B.transitions)
  where
    same_accepting : ((q : ℕ) → accepts A q ≡ accepts B q) → A.accepting ≡ B.accepting
    same_accepting e = same_bytes 4 A.accepting B.accepting set_a.0 set_b.0 bits
      where
        bits : (i j : ℕ) → i < 4 → j < 8 → bit (get_or A.accepting i 0) j ≡ bit (get_or B.accepting i 0) j
        bits i j hi hj =
            let byte : (8 * i + j) / 8 ≡ i = omega arith in
            let at : (8 * i + j) % 8 ≡ j = omega arith in
            rw (byte, at) at
            (same_test (member A.accepting (8 * i + j)) (member B.accepting (8 * i + j))
            (member_accepts A B in_a e (8 * i + j) (omega arith)) (member_accepts B A in_b (λ q. sym (e q)) (8 * i + j) (omega arith)))

    same_transitions : ((q a r : ℕ) → transition A q a r ≡ transition B q a r) → A.transitions ≡ B.transitions
    same_transitions e = same_bytes 2048 A.transitions B.transitions set_a.1 set_b.1 bits
      where
        bits : (i j : ℕ) → i < 2048 → j < 8 → bit (get_or A.transitions i 0) j ≡ bit (get_or B.transitions i 0) j
        bits i j hi hj =
            let byte : place (i / 64) (i / 4 % 16) (8 * (i % 4) + j) ≡ i = omega arith in
            let at : (8 * (i % 4) + j) % 8 ≡ j = omega arith in
            rw (byte, at) at
            (same_test (transition_bit A (i / 64) (i / 4 % 16) (8 * (i % 4) + j)) (transition_bit B (i / 64) (i / 4 % 16) (8 * (i % 4) + j))
            (bit_transition A B in_a e (i / 64) (i / 4 % 16) (8 * (i % 4) + j) (omega arith) (omega arith) (omega arith))
            (bit_transition B A in_b (λ p x s. sym (e p x s)) (i / 64) (i / 4 % 16) (8 * (i % 4) + j) (omega arith) (omega arith) (omega arith)))

    pub equal_automata : A.states ≡ B.states → A.letters ≡ B.letters → A.initial ≡ B.initial
        → ((q : ℕ) → accepts A q ≡ accepts B q) → ((q a r : ℕ) → transition A q a r ≡ transition B q a r) → A ≡ B
    unfolding make
    equal_automata n k i acc tra = same (n, k, i, same_accepting acc, same_transitions tra)
      where
        same : (A.states ≡ B.states) × (A.letters ≡ B.letters) × (A.initial ≡ B.initial)
            × (A.accepting ≡ B.accepting) × (A.transitions ≡ B.transitions) → A ≡ B
        same e = made A.states A.letters A.initial A.accepting A.transitions e.0 e.1 e.2 e.3 e.4
          where
            made : (n k i : ℕ) (s t : List ℕ) → n ≡ B.states → k ≡ B.letters → i ≡ B.initial → s ≡ B.accepting → t ≡ B.transitions
                → make n k i s t ≡ B
            made n k i s t a b c d f = rw (a, b, c, d, f)
