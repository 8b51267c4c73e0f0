-- Sets of states and pairs as words: one letter of the stem, a word, and one letter in front of the loop word. A table is told by its
-- tests, so each set is compared state by state. Assumes nothing.
use mathlib.Core.Path.{◌≡◌, refl, sym, ap, ap₂, subst, ◌∙◌}
use mathlib.Core.Bool.{Bool, true, false, ◌&&◌, ◌||◌}
use mathlib.Core.List.{List, [], ◌∷◌}
use Prim.Native.Nat.{ℕ, ◌+◌, ◌*◌, ◌-◌, ◌≤◌, ◌<◌}
use native.Mathlib.Numerals.{add-one}
use native.Mathlib.Omega.{arith}
use lib.Dec.{T, eqb}
use lib.ListN.{length, get_or, drop}
use lib.Seq.{drop-cons, drop-length}
use borrow.Author.Tests.{ne_eqb}
use Rattle.std.specs.Prelude.{replicate}
use Rattle.std.proofs.lemmas.List.{get_or-replicate}
use Rattle.std.proofs.Math.Logic.{∥∥₁_elim}
use Rattle.std.proofs.Props.{props}
use Rattle.automaton.specs.declared.Automaton.{Automaton}
use Rattle.automaton.specs.Ranges.{some}
use Rattle.automaton.specs.Sets.{bit}
use Rattle.automaton.specs.Automata.{accepts, transition, transition_bit, InRange}
use Rattle.relations.specs.Closure.{related, row_has}
use Rattle.lassos.specs.Verdict.{on_letter, on_word, loop_runs, loop_visits}
use Rattle.unions.specs.Unions.{chosen, named, Unions, groups_for}
use Rattle.verdict.specs.Words.{set_of, HeldUnions, Met, PairsOf}
use Rattle.automaton.proofs.Booleans.{and_both, both_and, same_test, not_T_false}
use Rattle.automaton.proofs.Bits.{bit_zero}
use Rattle.automaton.proofs.Ranges.{table_at, some_below}
use Rattle.automaton.proofs.Transitions.{transition_parts, transition_from, transition_on, transition_into}
use Rattle.automaton.proofs.InRange.{in_header, in_header_iff}
use Rattle.relations.proofs.Closure.{related_relation}
use Rattle.relations.proofs.Rows.{table_same, some_same, some_cut}
use Rattle.unions.proofs.UnionTables.{named_chosen, groups_enough}

-- Transitions of an automaton in range.

-- the bit for a transition is set only where there is one
pub bit_of_transition : (A : Automaton) → InRange A → (p a q : ℕ) → p < 32 → a < A.letters → q < 32 → transition_bit A p a q ≡ transition A p a q
unfolding transition
bit_of_transition A r p a q hp ha hq =
    let few = r.few_letters in
    same_test (transition_bit A p a q) (transition A p a q)
    (λ s. both_and (in_header A p a q) (transition_bit A p a q) ((in_header_iff A p a q).1 (r.transitions_in p a q hp (omega arith) hq s)) s)
    (λ s. (transition_parts A p a q s).3)

module _ (A : Automaton) where
  pub no_letter_lem : (p a q : ℕ) → A.letters ≤ a → transition A p a q ≡ false
  no_letter_lem p a q l = not_T_false (transition A p a q) (λ s. omega (arith, transition_on A p a q s))

  no_source : (p a q : ℕ) → A.states ≤ p → transition A p a q ≡ false
  no_source p a q l = not_T_false (transition A p a q) (λ s. omega (arith, transition_from A p a q s))

  no_target : (p a q : ℕ) → A.states ≤ q → transition A p a q ≡ false
  no_target p a q l = not_T_false (transition A p a q) (λ s. omega (arith, transition_into A p a q s))

  -- One letter of the stem.

  -- a transition on a leads from a state of the set to q
  abbrev leads_to : ℕ → ℕ → ℕ → ℕ → Bool
  leads_to w a q p = bit w p && transition A p a q

  letter_same : (w a r : ℕ) → ((q : ℕ) → q < A.states → bit r q ≡ some (leads_to w a q) A.states 0) → set_of A.states r ≡ on_letter A (set_of A.states w) a
  unfolding on_letter
  letter_same w a r e =
      table_same (bit r) _ A.states
      (λ q hq. e q hq ∙ some_same _ _ A.states (λ p hp. ap (λ (b : Bool). b && transition A p a q) (sym (table_at (bit w) A.states p false hp))))

  pub letter_none : (w a : ℕ) → A.letters ≤ a → set_of A.states 0 ≡ on_letter A (set_of A.states w) a
  letter_none w a l =
      letter_same w a 0 (λ q hq. bit_zero q ∙ sym (not_T_false (some (leads_to w a q) A.states 0)
      (λ t. let s = some_below (leads_to w a q) A.states t in
      subst T (no_letter_lem s.0 a q l) (and_both (bit w s.0) (transition A s.0 a q) s.2).1)))

  module _ (r : InRange A) where
    groups : (groups_for A.states ≤ 8) × (A.states ≤ groups_for A.states * 4)
    groups = let few = r.few_states in groups_enough A.states (omega arith)

    -- of a table of unions of the rows of the targets on a, the entries that a word names lead where the letter leads
    pub letter_named : (a : ℕ) → a < A.letters → (t values : List ℕ) → Unions t values (groups_for A.states)
        → ((p q : ℕ) → p < 32 → q < 32 → row_has values p q ≡ transition_bit A p a q)
        → (w q : ℕ) → q < A.states → named t (groups_for A.states) w q ≡ some (leads_to w a q) A.states 0
    letter_named a l t values u rows w q hq =
        let few = r.few_states in
        let g = groups_for A.states in
        named_chosen t values g w q u
        ∙ some_same _ (leads_to w a q) (g * 4)
        (λ p hp. ap (λ (b : Bool). bit w p && b)
        (rows p q (omega (arith, groups.0)) (omega arith) ∙ bit_of_transition A r p a q (omega (arith, groups.0)) l (omega arith)))
        ∙ some_cut _ (leads_to w a q) A.states (g * 4) groups.1 (λ p hp. refl)
        (λ p hp. ap (λ (b : Bool). bit w p && b) (no_source p a q hp) ∙ and_false (bit w p))
      where
        and_false : (b : Bool) → (b && false) ≡ false
        and_false true = refl
        and_false false = refl

    -- the values of the targets of p, chosen by a word that has the targets
    pub targets_choose : (p a choice : ℕ) → ((t : ℕ) → t < 32 → bit choice t ≡ transition A p a t) → (values : List ℕ) (x : ℕ)
        → chosen values (groups_for A.states * 4) choice x ≡ some (λ t. transition A p a t && row_has values t x) A.states 0
    targets_choose p a choice e values x =
        some_same _ (λ t. transition A p a t && row_has values t x) (groups_for A.states * 4)
        (λ t l. ap (λ (b : Bool). b && row_has values t x) (e t (omega (arith, groups.0))))
        ∙ some_cut _ (λ t. transition A p a t && row_has values t x) A.states (groups_for A.states * 4) groups.1 (λ t l. refl)
        (λ t l. ap (λ (b : Bool). b && row_has values t x) (no_target p a t l))

    -- on a letter that the automaton lacks there are no targets
    pub targets_none : (a : ℕ) → A.letters ≤ a → (values : List ℕ) (p x : ℕ) → p < A.states
        → row_has (replicate 32 0) p x ≡ some (λ t. transition A p a t && row_has values t x) A.states 0
    targets_none a l values p x h =
        let few = r.few_states in
        ap (λ (w : ℕ). bit w x) (get_or-replicate 32 p 0 0 (omega arith)) ∙ bit_zero x
        ∙ sym (not_T_false (some (λ t. transition A p a t && row_has values t x) A.states 0)
        (λ s. let t = some_below (λ t. transition A p a t && row_has values t x) A.states s in
        subst T (no_letter_lem p a t.0 l) (and_both (transition A p a t.0) (row_has values t.0 x) t.2).0))

    -- One letter in front of the loop word.

    pub pairs_begin : (pairs : List ℕ) → ((p q : ℕ) → p < A.states → row_has pairs p q ≡ eqb p q) → PairsOf A [] pairs
    unfolding loop_runs loop_visits
    pairs_begin pairs e =
        let few = r.few_states in
        record {
          runs = λ p q hp hq. e p q hp ∙ sym (related_relation A.states eqb p q hp hq);
          visits = λ p q hp hq. e p (32 + q) hp ∙ ne_eqb p (32 + q) (λ z. omega arith)
              ∙ sym (related_relation A.states (λ x y. false) p q hp hq);
        }

    pub pairs_on : (a : ℕ) (v pairs after pairs' : List ℕ) → PairsOf A v pairs → Met A pairs after
        → ((p x : ℕ) → p < A.states → row_has pairs' p x ≡ some (λ t. transition A p a t && row_has after t x) A.states 0)
        → PairsOf A (a ∷ v) pairs'
    unfolding loop_runs loop_visits
    pairs_on a v pairs after pairs' t m e =
        let few = r.few_states in
        record {
          runs = λ p q hp hq. e p q hp
              ∙ some_same _ (run p q) A.states (λ x l. ap (λ (b : Bool). transition A p a x && b) (m.runs x q l (omega arith) ∙ t.runs x q l hq))
              ∙ sym (related_relation A.states (λ y z. some (run y z) A.states 0) p q hp hq);
          visits = λ p q hp hq. e p (32 + q) hp
              ∙ some_same _ (visit p q) A.states (λ x l. ap (λ (b : Bool). transition A p a x && b)
              (m.visits x q l (omega arith) ∙ ap₂ (λ (b c : Bool). b || (accepts A x && c)) (t.visits x q l hq) (t.runs x q l hq)))
              ∙ sym (related_relation A.states (λ y z. some (visit y z) A.states 0) p q hp hq);
        }
      where
        run : ℕ → ℕ → ℕ → Bool
        run p q x = transition A p a x && related (loop_runs A v) x q

        visit : ℕ → ℕ → ℕ → Bool
        visit p q x = transition A p a x && (related (loop_visits A v) x q || (accepts A x && related (loop_runs A v) x q))

-- One letter of the stem, by the tables of the letters.
module _ (A : Automaton) where
  -- for each letter, the entries of its table that a word names lead where transitions on the letter do
  abbrev pub NamedUnions : List (List ℕ) → Type 0
  NamedUnions tables =
      (a w q : ℕ) → a < A.letters → q < A.states
      → named (get_or tables a []) (groups_for A.states) w q ≡ some (λ p. bit w p && transition A p a q) A.states 0

  pub held_named : (tables : List (List ℕ)) → HeldUnions A tables → NamedUnions tables
  held_named tables held a w q l hq =
      ∥∥₁_elim (held.letter a l) (search props)
      (λ u. letter_named A held.in_range a l (get_or tables a []) u.rows u.unions
      (λ p x hp hx. u.targets p x hp hx ∙ sym (bit_of_transition A held.in_range p a x hp l hx)) w q hq)

  pub letter_by_names : (w a r : ℕ) (tables : List (List ℕ)) → NamedUnions tables → a < A.letters
      → ((q : ℕ) → bit r q ≡ named (get_or tables a []) (groups_for A.states) w q) → set_of A.states r ≡ on_letter A (set_of A.states w) a
  letter_by_names w a r tables known l e = letter_same A w a r (λ q hq. e q ∙ known a w q l hq)

  pub letter_held : (w a r : ℕ) (tables : List (List ℕ)) → HeldUnions A tables → a < A.letters
      → ((q : ℕ) → bit r q ≡ named (get_or tables a []) (groups_for A.states) w q) → set_of A.states r ≡ on_letter A (set_of A.states w) a
  letter_held w a r tables held l e = letter_by_names w a r tables (held_named tables held) l e

-- A word, letter by letter.

drop_step : (w : List ℕ) (i : ℕ) → i < length w → get_or w i 0 ∷ drop (i + 1) w ≡ drop i w
drop_step w i h = rw (add-one i, drop-cons w i 0)

pub drop_back : (w : List ℕ) (i : ℕ) → 0 < i → i ≤ length w → get_or w (i - 1) 0 ∷ drop i w ≡ drop (i - 1) w
drop_back w i h l =
    let e : i ≡ i - 1 + 1 = omega arith in
    ap (λ (k : ℕ). get_or w (i - 1) 0 ∷ drop k w) e ∙ drop_step w (i - 1) (omega arith)

pub drop_end : (w : List ℕ) (i : ℕ) → i ≡ length w → drop i w ≡ []
drop_end w i e = ap (λ (k : ℕ). drop k w) e ∙ drop-length w

module _ (A : Automaton) (w : List ℕ) (i : ℕ) where
  pub on_word_step : (S : List Bool) → i < length w → on_word A (on_letter A S (get_or w i 0)) (drop (i + 1) w) ≡ on_word A S (drop i w)
  unfolding on_word
  on_word_step S h = ap (on_word A S) (drop_step w i h)

  pub on_word_end : (S : List Bool) → i ≡ length w → on_word A S (drop i w) ≡ S
  unfolding on_word
  on_word_end S e = ap (on_word A S) (drop_end w i e)
