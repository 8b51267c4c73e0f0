-- The number of the set of dead states: its bits are the dead states, it is the only such number, below 2 ^ 32, and 0 exactly where no state is dead.
-- Assumes nothing.
use mathlib.Core.Path.{◌≡◌, sym, ap, subst, ◌∙◌}
use mathlib.Core.Bool.{Bool, true, ◌&&◌, not}
use mathlib.Core.HLevel.{dec→stable}
use mathlib.Core.Logic.{◌↔◌}
use Prim.Native.Nat.{ℕ, ◌^◌, ◌≤◌, ◌<◌}
use native.Mathlib.Decide.{ℕ_discrete}
use borrow.Author.Tests.{eq-eqb, ne_eqb}
use lib.Dec.{T, eqb, ltb, lt→ltb}
use Rattle.automaton.specs.declared.Automaton.{Automaton}
use Rattle.automaton.specs.Sets.{bit}
use Rattle.automaton.specs.Automata.{max_states}
use Rattle.runs.specs.DeadStates.{Dead}
use Rattle.automaton.proofs.Booleans.{and_both, both_and, is_true, T_true, clash, same_test}
use Rattle.automaton.proofs.Ranges.{some_at, some_below}
use Rattle.automaton.proofs.SetNumbers.{set_bit, set_fits}
use Rattle.relations.proofs.Rows.{words_same, word_has}
use Rattle.deadstates.specs.DeadSets.{HasDead, IsDeadSet, NamesDead, dead_set}
use Rattle.deadstates.specs.DeadEnds.{paths, dead}
use Rattle.deadstates.proofs.DeadRight.{dead_iff, dead_below}

module _ (A : Automaton) where
  -- it has a bit for each of the 32 states
  pub dead_set_fits : dead_set A < 2 ^ max_states
  unfolding dead_set
  dead_set_fits = set_fits (dead A (paths A)) max_states

  module _ (inside : A.initial < A.states) (few : A.states ≤ max_states) where
    set_bit_dead : (q : ℕ) → bit (dead_set A) q ≡ (ltb q max_states && dead A (paths A) q)
    unfolding dead_set
    set_bit_dead q = set_bit (dead A (paths A)) max_states q

    -- the set that is computed has the dead states and nothing else
    pub dead_set_right : IsDeadSet A (dead_set A)
    dead_set_right q = (
      λ e. (dead_iff A q).0
          (and_both (ltb q max_states) (dead A (paths A) q) (is_true _ (sym (set_bit_dead q) ∙ e))).1,
      λ d. set_bit_dead q
          ∙ T_true _ (both_and (ltb q max_states) (dead A (paths A) q) (lt→ltb q max_states (dead_below A inside few q d)) ((dead_iff A q).1 d)),
    )

    -- and no other number is that set
    pub dead_set_only : (s : ℕ) → IsDeadSet A s → s ≡ dead_set A
    dead_set_only s h =
        words_same s (dead_set A) λ q.
        same_test (bit s q) (bit (dead_set A) q)
        (λ t. is_true _ ((dead_set_right q).1 ((h q).0 (T_true _ t))))
        (λ t. is_true _ ((h q).1 ((dead_set_right q).0 (T_true _ t))))

    has_dead_lem : T (not (eqb (dead_set A) 0)) ↔ HasDead A
    has_dead_lem = (
      λ t. let x = some_below (bit (dead_set A)) max_states (subst T (word_has (dead_set A) dead_set_fits) t) in
          (x.0, (dead_set_right x.0).0 (T_true _ x.2)),
      λ d. subst T (sym (word_has (dead_set A) dead_set_fits))
          (some_at (bit (dead_set A)) max_states d.0 (dead_below A inside few d.0 d.1) (is_true _ ((dead_set_right d.0).1 d.1))),
    )

    -- the set is 0 exactly where no state is dead
    pub dead_set_empty : (dead_set A ≡ 0) ↔ (HasDead A → ⊥)
    dead_set_empty = (
      λ e d. clash (T_true _ (has_dead_lem.1 d)) (ap not (eq-eqb (dead_set A) 0 e)),
      λ n. dec→stable (ℕ_discrete (dead_set A) 0) (λ z. n (has_dead_lem.0 (is_true _ (ap not (ne_eqb (dead_set A) 0 z))))),
    )

    -- some number names the dead states exactly where there are any
    pub dead_named : HasDead A ↔ ((s : ℕ) × NamesDead A s)
    dead_named = (λ d. (dead_set A, record { some_dead = d; is_set = dead_set_right }), λ n. n.1.some_dead)
