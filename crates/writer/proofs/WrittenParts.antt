-- The written file is its parts, one after the other, with sets of states as words; and these are counted. Assumes nothing.
use mathlib.Core.Path.{◌≡◌, sym, ap, ◌∙◌}
use mathlib.Core.List.{List, ◌++◌, map, append_assoc}
use Prim.Native.Nat.{ℕ, ◌≤◌, ◌<◌}
use native.Mathlib.Omega.{arith}
use borrow.Author.Tests.{lt-ltb}
use Rattle.automaton.specs.declared.Automaton.{Automaton}
use Rattle.automaton.specs.Ranges.{those, total}
use Rattle.automaton.specs.Sets.{bit, member}
use Rattle.automaton.specs.Automata.{accepts, transition, transition_bit, targets, one}
use Rattle.automaton.proofs.Members.{those_same, total_same}
use Rattle.format.specs.Writing.{accepting_item, transition_item, header_bytes, items_bytes, end_bytes}
use Rattle.fixed_form.specs.FixedForm.{accepting_items, transition_items, written, accepting_count}
use Rattle.fixed_form.proofs.Lengths.{items_append}
use Rattle.writer.specs.Parts.{target_items}

module _ (A : Automaton) (few : A.states ≤ 32) (w : ℕ) where
  -- with w the accepting states
  module _ (same : (q : ℕ) → q < 32 → bit w q ≡ member A.accepting q) where
    accepts_bit : (q : ℕ) → q < A.states → accepts A q ≡ bit w q
    unfolding accepts
    accepts_bit q h = rw (lt-ltb q A.states h, same q (omega arith))

    pub accepting_count_word : total (λ q. one (bit w q)) A.states 0 ≡ accepting_count A
    unfolding accepting_count
    accepting_count_word = total_same _ _ A.states 0 (λ q _ h. ap one (sym (accepts_bit q (omega arith))))

    pub accepting_word : accepting_items A ≡ map accepting_item (those (bit w) A.states 0)
    unfolding accepting_items
    accepting_word = ap (map accepting_item) (those_same _ _ A.states 0 (λ q _ h. accepts_bit q (omega arith)))

  -- with w the targets of q on letter a
  pub targets_word : (q a : ℕ) → q < A.states → a < A.letters → ((r : ℕ) → r < 32 → bit w r ≡ transition_bit A q a r)
      → target_items A q a ≡ map (transition_item q a) (those (bit w) A.states 0)
  unfolding targets transition
  targets_word q a h l same =
      ap (map (transition_item q a))
      (those_same _ _ A.states 0 (λ r _ u. let v : r < A.states = omega arith in rw (lt-ltb q A.states h, lt-ltb a A.letters l, lt-ltb r A.states v, same r (omega arith))))

pub written_parts : (A : Automaton)
    → written A
    ≡ header_bytes A.states A.letters A.initial ++ (items_bytes (accepting_items A) ++ (items_bytes (transition_items A) ++ end_bytes))
unfolding written
written_parts A =
    ap (λ (l : List ℕ). header_bytes A.states A.letters A.initial ++ l)
    (ap (λ (l : List ℕ). l ++ end_bytes) (items_append (accepting_items A) (transition_items A))
    ∙ append_assoc (items_bytes (accepting_items A)) _ end_bytes)
