-- The automaton of a description has exactly the accepting states that are declared so and the transitions that the labels' truth gives, part by part; and no
-- other automaton in range and in bytes has these. Assumes nothing.
use mathlib.Core.Path.{◌≡◌, refl, sym, ap, subst, ◌∙◌}
use mathlib.Core.Bool.{Bool, true, false}
use mathlib.Core.Logic.{◌⊎◌, inl, inr, ⊎_elim, ◌↔◌}
use mathlib.Core.List.Memᴰ
use mathlib.Core.List.{List, [], ◌∷◌, Memᴰ}
use Prim.Native.Nat.{ℕ, ◌^◌, ◌≤◌, ◌<◌}
use native.Mathlib.Nat.{zero-add, pow-le-pow_right}
use native.Mathlib.Omega.{arith}
use lib.Dec.{T}
use Rattle.automaton.specs.declared.Automaton.{Automaton}
use Rattle.automaton.specs.Automata.{max_letters, accepts, transition, bare}
use Rattle.automaton.proofs.Booleans.{same_test}
use Rattle.automaton.proofs.InRange.{header_values_iff}
use Rattle.automaton.proofs.Bits.{bare_accepts, bare_transition, bare_header, with_accepting_header, with_accepting_iff, with_accepting_transition}
use Rattle.automaton.proofs.EqualAutomata.{equal_automata}
use Rattle.format.specs.Writing.{accepting_item}
use Rattle.labels.specs.Labels.{Label, truth}
use Rattle.hanoi.specs.Descriptions.{max_propositions, Part, declared, edge, Description}
use Rattle.hanoi.specs.Meaning.{Edge, Describes, IsDescribed, with_part, with_parts, automaton_of, PartWithin, WellFormed}
use Rattle.hanoi.proofs.InBytes.{InBytes, bare_in_bytes, with_item_in_bytes}
use Rattle.hanoi.proofs.EdgeLetters.{letters_added}

-- Parts.

-- what the automaton has of the parts, and of what it had before them
record Has (A C : Automaton) (xs : List Part) : Type 0 where
  bytes : InBytes C
  states : C.states ≡ A.states
  letters : C.letters ≡ A.letters
  initial : C.initial ≡ A.initial
  accepting : (q : ℕ) → T (accepts C q) ↔ (Memᴰ (declared q true) xs ⊎ T (accepts A q))
  transitions : (q a r : ℕ) → T (transition C q a r) ↔ (((a < A.letters) × Edge xs q a r) ⊎ T (transition A q a r))

edge_later : {x : Part} {xs : List Part} {q a r : ℕ} → Edge xs q a r → Edge (x ∷ xs) q a r
edge_later e = record { label = e.label; stands = Memᴰ.tail e.stands; true_at = e.true_at }

same_state : (q p : ℕ) (b c : Bool) → declared q b ≡ declared p c → q ≡ p
same_state q p b c e = cc

not_accepting : (q p : ℕ) → declared q true ≡ declared p false → ⊥
not_accepting q p e = let d : true ≡ false = cc in subst T d tt

not_edge : (q : ℕ) (b : Bool) (p : ℕ) (L : Label) (r : ℕ) → declared q b ≡ edge p L r → ⊥
not_edge q b p L r e = let z : ◌≡◌ {A = ℕ} 0 1 = cc in omega arith

edge_same : {q p r s : ℕ} {L : Label} → q ≡ p → r ≡ s → edge q L r ≡ edge p L s
edge_same e d = cc

edge_parts : {q p r s : ℕ} {L M : Label} → edge q M r ≡ edge p L s → (q ≡ p) × (M ≡ L) × (r ≡ s)
edge_parts e = (cc, cc, cc)

edge_before : {x : Part} {xs : List Part} {q a r : ℕ} → ((L : Label) → edge q L r ≡ x → ⊥) → Edge (x ∷ xs) q a r → Edge xs q a r
edge_before n e =
    record {
      label = e.label;
      stands = ⊎_elim (λ d. absurd (n e.label d)) (λ m. m) (Memᴰ.cases_cons e.stands);
      true_at = e.true_at;
    }

parts_have : (k : ℕ) (A : Automaton) → InBytes A → (xs : List Part) → ((x : Part) → Memᴰ x xs → PartWithin A.states k x) → Has A (with_parts A xs) xs
unfolding with_parts with_part
parts_have k A w [] h =
    record {
      bytes = w;
      states = refl;
      letters = refl;
      initial = refl;
      accepting = λ q. (inr, λ t. ⊎_elim (λ m. absurd (Memᴰ.not-nil m)) (λ u. u) t);
      transitions = λ q a r. (inr, λ t. ⊎_elim (λ m. absurd (Memᴰ.not-nil m.1.stands)) (λ u. u) t);
    }
parts_have k A w (x ∷ xs) h = part x (parts_have k A w xs (λ y m. h y (Memᴰ.tail m))) (h x (Memᴰ.head refl))
  where
    part : (y : Part) → Has A (with_parts A xs) xs → PartWithin A.states k y → Has A (with_part (with_parts A xs) y) (y ∷ xs)
    part (declared p true) g b =
        let C = with_parts A xs in
        let l : p < C.states = omega (arith, g.states, b) in
        let c = g.bytes in
        let f = with_accepting_iff C p l c.in_range.few_states c.accepting_bytes.size in
        let n = with_accepting_header C p in
        record {
          bytes = with_item_in_bytes C (accepting_item p) l g.bytes;
          states = n.0 ∙ g.states;
          letters = n.1 ∙ g.letters;
          initial = n.2 ∙ g.initial;
          accepting = λ q. (
            λ t. ⊎_elim (λ d. inl (Memᴰ.head (ap (λ (z : ℕ). declared z true) d)))
                (λ u. ⊎_elim (λ m. inl (Memᴰ.tail m)) inr ((g.accepting q).0 u)) ((f q).0 t),
            λ t. (f q).1 (⊎_elim (λ m. ⊎_elim (λ d. inl (same_state q p true true d)) (λ z. inr ((g.accepting q).1 (inl z))) (Memᴰ.cases_cons m))
                (λ u. inr ((g.accepting q).1 (inr u))) t),
          );
          transitions = λ q a r. (
            λ t. ⊎_elim (λ e. inl (e.0, edge_later e.1)) inr ((g.transitions q a r).0 (subst T (with_accepting_transition C p q a r) t)),
            λ t. subst T (sym (with_accepting_transition C p q a r)) ((g.transitions q a r).1
                (⊎_elim (λ e. inl (e.0, edge_before (λ M d. not_edge p true q M r (sym d)) e.1)) inr t)),
          );
        }
    part (declared p false) g b =
        record {
          bytes = g.bytes;
          states = g.states;
          letters = g.letters;
          initial = g.initial;
          accepting = λ q. (
            λ t. ⊎_elim (λ m. inl (Memᴰ.tail m)) inr ((g.accepting q).0 t),
            λ t. (g.accepting q).1
                (⊎_elim (λ m. ⊎_elim (λ d. absurd (not_accepting q p d)) inl (Memᴰ.cases_cons m)) inr t),
          );
          transitions = λ q a r. (
            λ t. ⊎_elim (λ e. inl (e.0, edge_later e.1)) inr ((g.transitions q a r).0 t),
            λ t. (g.transitions q a r).1 (⊎_elim (λ e. inl (e.0, edge_before (λ M d. not_edge p false q M r (sym d)) e.1)) inr t),
          );
        }
    part (edge p L s) g b =
        let C = with_parts A xs in
        let u = letters_added C.letters 0 C p L s g.bytes (omega (arith, g.states, b.0)) (omega (arith, g.states, b.2)) (omega (arith, zero-add C.letters)) in
        record {
          bytes = u.bytes;
          states = u.states ∙ g.states;
          letters = u.letters ∙ g.letters;
          initial = u.initial ∙ g.initial;
          accepting = λ q. (
            λ t. ⊎_elim (λ m. inl (Memᴰ.tail m)) inr ((g.accepting q).0 (subst T (u.accepting q) t)),
            λ t. subst T (sym (u.accepting q)) ((g.accepting q).1
                (⊎_elim (λ m. ⊎_elim (λ d. absurd (not_edge q true p L s d)) inl (Memᴰ.cases_cons m)) inr t)),
          );
          transitions = λ q a r. (
            λ t. ⊎_elim (λ x. inl (
              omega (arith, x.high, zero-add C.letters, g.letters),
              record {
                label = L;
                stands = Memᴰ.head (edge_same x.from x.to);
                true_at = x.true_at;
              },
            )) (λ v. ⊎_elim (λ e. inl (e.0, edge_later e.1)) inr ((g.transitions q a r).0 v)) (u.came q a r t),
            λ t. ⊎_elim (λ e. ⊎_elim
                (λ d. let y = edge_parts d in u.new q a r (record {
                  from = y.0;
                  to = y.2;
                  low = omega arith;
                  high = omega (arith, e.0, zero-add C.letters, g.letters);
                  true_at = subst (λ (M : Label). T (truth M a)) y.1 e.1.true_at;
                }))
                (λ m. u.kept q a r ((g.transitions q a r).1 (inl (e.0, record { label = e.1.label; stands = m; true_at = e.1.true_at }))))
                (Memᴰ.cases_cons e.1.stands))
                (λ v. u.kept q a r ((g.transitions q a r).1 (inr v))) t,
          );
        }

-- The theorem.

bare_has_none : (n k i : ℕ) (q a r : ℕ) → (T (accepts (bare n k i) q) → ⊥) × (T (transition (bare n k i) q a r) → ⊥)
bare_has_none n k i q a r = (λ t. subst T (bare_accepts n k i q) t, λ t. subst T (bare_transition n k i q a r) t)

pub few_letters : (k : ℕ) → k ≤ max_propositions → (1 ≤ 2 ^ k) × (2 ^ k ≤ max_letters)
few_letters k h =
    let a : 2 ^ 0 ≤ 2 ^ k = pow-le-pow_right (omega arith) {i = 0} {j = k} (omega arith) in
    let b : 2 ^ k ≤ 2 ^ max_propositions = pow-le-pow_right (omega arith) {i = k} {j = max_propositions} h in
    (a, b)

-- what D describes, in an automaton that is in range and in bytes
described_bytes : (D : Description) → WellFormed D → Describes D (automaton_of D) × InBytes (automaton_of D)
unfolding automaton_of
described_bytes D f =
    let n = D.states in
    let l = 2 ^ D.propositions in
    let i = D.start in
    let k = few_letters D.propositions f.few_propositions in
    let v = (header_values_iff n l i).1 (f.some_states, f.few_states, k.0, k.1, f.start_below) in
    let e = bare_header n l i in
    let h =
    parts_have D.propositions (bare n l i) (bare_in_bytes n l i v) D.parts
    (λ x m. subst (λ (m : ℕ). PartWithin m D.propositions x) (sym e.0) (f.within x m)) in (
      record {
        states = h.states ∙ e.0;
        letters = h.letters ∙ e.1;
        initial = h.initial ∙ e.2;
        accepting = λ q. (
          λ t. ⊎_elim (λ m. m) (λ u. absurd ((bare_has_none n l i q 0 0).0 u)) ((h.accepting q).0 t),
          λ m. (h.accepting q).1 (inl m),
        );
        transitions = λ q a r. (
          λ t. ⊎_elim (λ m. (subst (λ (z : ℕ). a < z) (sym h.letters) m.0, m.1)) (λ u. absurd ((bare_has_none n l i q a r).1 u)) ((h.transitions q a r).0 t),
          λ m. (h.transitions q a r).1 (inl (subst (λ (z : ℕ). a < z) h.letters m.0, m.1)),
        );
      },
      h.bytes,
    )

pub described : (D : Description) → WellFormed D → IsDescribed D (automaton_of D)
described D f =
    let d = described_bytes D f in
    let b = d.1 in
    record { describes = d.0; in_range = b.in_range; accepting_bytes = b.accepting_bytes; transition_bytes = b.transition_bytes }

-- what D describes decides the header, the accepting states and the transitions, and these decide the automaton
pub described_only : (D : Description) (A B : Automaton) → IsDescribed D A → IsDescribed D B → A ≡ B
described_only D A B f g =
    let d = f.describes in
    let e = g.describes in
    let l : A.letters ≡ B.letters = d.letters ∙ sym e.letters in
    equal_automata A B f.in_range g.in_range (f.accepting_bytes, f.transition_bytes) (g.accepting_bytes, g.transition_bytes)
    (d.states ∙ sym e.states) l (d.initial ∙ sym e.initial)
    (λ q. same_test (accepts A q) (accepts B q) (λ t. (e.accepting q).1 ((d.accepting q).0 t)) (λ t. (d.accepting q).1 ((e.accepting q).0 t)))
    (λ q a r. same_test (transition A q a r) (transition B q a r)
    (λ t. let m = (d.transitions q a r).0 t in (e.transitions q a r).1 (subst (λ (n : ℕ). a < n) l m.0, m.1))
    (λ t. let m = (e.transitions q a r).0 t in (d.transitions q a r).1 (subst (λ (n : ℕ). a < n) (sym l) m.0, m.1)))
