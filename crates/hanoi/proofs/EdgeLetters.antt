-- An edge adds the transitions from its state to its target on each letter that makes its label true, and no others, and the automaton stays in range and in
-- bytes: letter by letter, each is added or left out. Assumes nothing.
use mathlib.Core.Path.{◌≡◌, refl, sym, ap, subst, ◌∙◌}
use mathlib.Core.Bool.{Bool, true, false}
use mathlib.Core.Logic.{◌⊎◌, inl, inr, ⊎_elim}
use Prim.Native.Nat.{ℕ, zero, suc, ◌+◌, ◌≤◌, ◌<◌}
use native.Mathlib.Omega.{arith}
use lib.Dec.{T, eqb}
use lib.Arith.{lt_of_le-ne}
use borrow.Author.Tests.{eqb-true, eqb-false}
use Rattle.automaton.specs.declared.Automaton.{Automaton}
use Rattle.automaton.specs.Automata.{accepts, transition, with_transition}
use Rattle.automaton.proofs.Booleans.{is_true, T_true, clash}
use Rattle.automaton.proofs.Bits.{with_transition_header, with_transition_iff, with_transition_accepts}
use Rattle.format.specs.Writing.{transition_item}
use Rattle.labels.specs.Labels.{Label, truth}
use Rattle.hanoi.specs.Meaning.{with_letters}
use Rattle.hanoi.proofs.InBytes.{InBytes, with_item_in_bytes}

-- (p, b, s) is a transition from q to r on one of the n letters from i on that make the label true
pub record New (q : ℕ) (L : Label) (r n i p b s : ℕ) : Type 0 where
  pub from : p ≡ q
  pub to : s ≡ r
  pub low : i ≤ b
  pub high : b < i + n
  pub true_at : T (truth L b)

pub record Added (A C : Automaton) (q : ℕ) (L : Label) (r n i : ℕ) : Type 0 where
  pub bytes : InBytes C
  pub states : C.states ≡ A.states
  pub letters : C.letters ≡ A.letters
  pub initial : C.initial ≡ A.initial
  pub accepting : (p : ℕ) → accepts C p ≡ accepts A p
  pub came : (p b s : ℕ) → T (transition C p b s) → New q L r n i p b s ⊎ T (transition A p b s)
  pub new : (p b s : ℕ) → New q L r n i p b s → T (transition C p b s)
  pub kept : (p b s : ℕ) → T (transition A p b s) → T (transition C p b s)

-- from one letter further on, and back
wider : {q : ℕ} {L : Label} {r n i p b s : ℕ} → New q L r n (suc i) p b s → New q L r (suc n) i p b s
wider x = record { from = x.from; to = x.to; low = omega (arith, x.low); high = omega (arith, x.high); true_at = x.true_at }

narrower : {q : ℕ} {L : Label} {r n i p b s : ℕ} → New q L r (suc n) i p b s → (b ≡ i) ⊎ New q L r n (suc i) p b s
narrower {q} {L} {r} {n} {i} {p} {b} {s} x = go (eqb b i) refl
  where
    go : (c : Bool) → eqb b i ≡ c → (b ≡ i) ⊎ New q L r n (suc i) p b s
    go true e = inl (eqb-true b i e)
    go false e =
        let h : suc i ≤ b = lt_of_le-ne x.low (λ d. eqb-false b i e (sym d)) in
        inr (record { from = x.from; to = x.to; low = h; high = omega (arith, x.high); true_at = x.true_at })

pub letters_added : (n i : ℕ) (A : Automaton) (q : ℕ) (L : Label) (r : ℕ) → InBytes A → q < A.states → r < A.states → i + n ≤ A.letters
    → Added A (with_letters A q L r n i) q L r n i
unfolding with_letters
letters_added zero i A q L r w hq hr l =
    record {
      bytes = w;
      states = refl;
      letters = refl;
      initial = refl;
      accepting = λ p. refl;
      came = λ p b s t. inr t;
      new = λ p b s x. absurd (omega (arith, x.low, x.high));
      kept = λ p b s t. t;
    }
letters_added (suc n) i A q L r w hq hr l =
    go (λ B v h k m. letters_added n (suc i) B q L r v h k m) (truth L i) refl
  where
    go : ((B : Automaton) → InBytes B → q < B.states → r < B.states → suc i + n ≤ B.letters → Added B (with_letters B q L r n (suc i)) q L r n (suc i))
        → (c : Bool) → truth L i ≡ c
        → Added A (elim c [ true ↦ with_letters (with_transition A q i r) q L r n (suc i) | false ↦ with_letters A q L r n (suc i) ]) q L r (suc n) i
    go ih true e =
        let hi : i < A.letters = omega (arith, l) in
        let f = with_transition_iff A q i r hq hi hr w.in_range.few_states w.in_range.few_letters w.transition_bytes.size in
        let h = with_transition_header A q i r in
        let a = ih (with_transition A q i r) (with_item_in_bytes A (transition_item q i r) (hq, hi, hr) w) (omega (arith, h.0, hq)) (omega (arith, h.0, hr)) (omega (arith, h.1, l)) in
        record {
          bytes = a.bytes;
          states = a.states ∙ h.0;
          letters = a.letters ∙ h.1;
          initial = a.initial ∙ h.2;
          accepting = λ p. a.accepting p ∙ with_transition_accepts A q i r p;
          came = λ p b s t. ⊎_elim (λ x. inl (wider x))
              (λ u. ⊎_elim (λ d. inl (record {
                from = d.0;
                to = d.2;
                low = omega (arith, d.1);
                high = omega (arith, d.1);
                true_at = subst (λ (k : ℕ). T (truth L k)) (sym d.1) (is_true (truth L i) e);
              })) inr ((f p b s).0 u)) (a.came p b s t);
          new = λ p b s x. ⊎_elim (λ d. a.kept p b s ((f p b s).1 (inl (x.from, d, x.to)))) (a.new p b s) (narrower x);
          kept = λ p b s t. a.kept p b s ((f p b s).1 (inr t));
        }
    go ih false e =
        let a = ih A w hq hr (omega (arith, l)) in
        record {
          bytes = a.bytes;
          states = a.states;
          letters = a.letters;
          initial = a.initial;
          accepting = a.accepting;
          came = λ p b s t. ⊎_elim (λ x. inl (wider x)) inr (a.came p b s t);
          new = λ p b s x. ⊎_elim (λ d. absurd (clash (T_true (truth L b) x.true_at) (ap (truth L) d ∙ e))) (a.new p b s) (narrower x);
          kept = a.kept;
        }
