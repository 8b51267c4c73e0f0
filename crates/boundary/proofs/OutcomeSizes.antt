-- Contain's number fits 64 bits: counts are at most the slots, and a word is no longer than the list. Assumes nothing.
use Prim.Native.Nat.{ℕ, ◌^◌, ◌≤◌, ◌<◌}
use mathlib.Core.List.{List}
use native.Mathlib.Nat.{min-le_right}
use native.Mathlib.Omega.{arith}
use lib.ListN.{length}
use Rattle.slots.specs.Slots.{max_slots, slot_count}
use Rattle.answers.specs.Outcomes.{Outcome}
use Rattle.answers.specs.Outcomes.{Refused, Compared}
use Rattle.answers.specs.Outcomes.{Contained, Differs, NoSlots, NoRoom}
use Rattle.answers.specs.Contain.{outcome_of}
use Rattle.answers.specs.Demand1.{ContainRefusal, first_file, second_file, bound, letters, first_dead, second_dead, Listed}
use Rattle.answers.proofs.ContainAnswers.{contain_numbers}
use Rattle.boundary.specs.Numbers.{outcome_number}

pub slot_count_le : (n : ℕ) → slot_count n ≤ max_slots
slot_count_le n = min-le_right _ max_slots

pub refusal_sized : {n file : ℕ} → ContainRefusal n file → (n ≤ 8) × (file ≤ 2)
refusal_sized (first_file l h) = (omega arith, omega arith)
refusal_sized (second_file l h) = (omega arith, omega arith)
refusal_sized bound = (omega arith, omega arith)
refusal_sized letters = (omega arith, omega arith)
refusal_sized first_dead = (omega arith, omega arith)
refusal_sized second_dead = (omega arith, omega arith)

pub outcome_fits : (f g : List ℕ) (b : ℕ) (work word : List ℕ) → outcome_number (outcome_of f g b work word) < 2 ^ 64
outcome_fits f g b work word = go (outcome_of f g b work word) (contain_numbers f g b work word) (slot_count_le (length work))
  where
    go : (x : Outcome) → Listed (slot_count (length work)) (length word) x → slot_count (length work) ≤ max_slots → outcome_number x < 2 ^ 64
    go (Compared (Contained n)) h s = omega arith
    go (Compared (Differs i len)) h s = omega (arith, h.0, h.1)
    go (Refused n file) h s = let k = refusal_sized h in omega (arith, k.0, k.1)
    go (Compared (NoSlots n)) h s = omega arith
    go (Compared (NoRoom len)) h s = omega (arith, h.1)
