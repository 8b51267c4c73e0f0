-- Contain's one number tells the answer: kind, count and word length are its digits to the bases 256 and 65,536, and no two answers of
-- contain's list share them. Assumes nothing.
use mathlib.Core.Path.{◌≡◌, ap, ◌∙◌}
use mathlib.Core.Bool.{cond}
use mathlib.Core.List.{List}
use mathlib.Core.Logic.{◌↔◌}
use Prim.Native.Nat.{ℕ, ◌+◌, ◌-◌, ◌/◌, ◌%◌, ◌≤◌, ◌<◌}
use native.Mathlib.Omega.{arith}
use borrow.Author.Tests.{ne_eqb}
use lib.Dec.{eqb}
use lib.ListN.{length}
use Rattle.slots.specs.Slots.{max_slots, slot_count}
use Rattle.answers.specs.Outcomes.{Outcome}
use Rattle.answers.specs.Outcomes.{Refused, Compared}
use Rattle.answers.specs.Outcomes.{Contained, Differs, NoSlots, NoRoom}
use Rattle.answers.specs.Contain.{contained, differs, no_slots, no_room, outcome_of}
use Rattle.boundary.specs.Numbers.{packed, outcome_number}
use Rattle.answers.specs.Demand1.{ContainRefusal, Listed}
use Rattle.boundary.proofs.NumberLaws.{read_back}
use Rattle.boundary.proofs.OutcomeSizes.{slot_count_le, refusal_sized}
use Rattle.answers.proofs.ContainAnswers.{contain_numbers}

packed_kind : (k c l : ℕ) → k < 256 → packed k c l % 256 ≡ k
packed_kind k c l h = omega arith

packed_count : (k c l : ℕ) → k < 256 → c < 65536 → packed k c l / 256 % 65536 ≡ c
packed_count k c l h g = omega arith

packed_length : (k c l : ℕ) → k < 256 → c < 65536 → packed k c l / 16777216 ≡ l
packed_length k c l h g = omega arith

-- the answer of a kind, a count and a word length
abbrev told_by : ℕ → ℕ → ℕ → Outcome
told_by k c l =
    cond (eqb k 0) (contained c)
    (cond (eqb k 1) (differs c l) (cond (eqb k 110) (no_slots c) (cond (eqb k 111) (no_room l) (Refused (k - 100) c))))

abbrev pub told : ℕ → Outcome
told n = told_by (n % 256) (n / 256 % 65536) (n / 16777216)

told_packed : (k c l : ℕ) → k < 256 → c < 65536 → told (packed k c l) ≡ told_by k c l
told_packed k c l h g =
    let d = packed_kind k c l h in
    let e = packed_count k c l h g in
    let i = packed_length k c l h g in
    ap (λ (x : ℕ). told_by x (packed k c l / 256 % 65536) (packed k c l / 16777216)) d
    ∙ (ap (λ (x : ℕ). told_by k x (packed k c l / 16777216)) e ∙ ap (λ (x : ℕ). told_by k c x) i)

refused_told : (n file : ℕ) → n ≤ 8 → file ≤ 2 → told (outcome_number (Refused n file)) ≡ Refused n file
refused_told n file h g =
    told_packed (100 + n) file 0 (omega arith) (omega arith)
    ∙ rw (
      ne_eqb (100 + n) 0 (λ e. omega arith),
      ne_eqb (100 + n) 1 (λ e. omega arith),
      ne_eqb (100 + n) 110 (λ e. omega arith),
      ne_eqb (100 + n) 111 (λ e. omega arith),
    ) (ap (λ (m : ℕ). Refused m file) (omega arith))

refusal_told : {n file : ℕ} → ContainRefusal n file → told (outcome_number (Refused n file)) ≡ Refused n file
refusal_told {n} {file} r = let k = refusal_sized r in refused_told n file k.0 k.1

pub number_tells : (S room : ℕ) (x : Outcome) → S ≤ max_slots → Listed S room x → told (outcome_number x) ≡ x
number_tells S room (Compared (Contained n)) h l = told_packed 0 n 0 (omega arith) (omega arith)
number_tells S room (Compared (Differs i len)) h l = told_packed 1 i len (omega arith) (omega (arith, l.0))
number_tells S room (Refused n file) h l = refusal_told l
number_tells S room (Compared (NoSlots n)) h l = told_packed 110 n 0 (omega arith) (omega arith)
number_tells S room (Compared (NoRoom len)) h l = told_packed 111 0 len (omega arith) (omega arith)

-- contain gives the number of x exactly when it answers x
pub contain_number : (f g : List ℕ) (b : ℕ) (work word : List ℕ) (x : Outcome) → Listed (slot_count (length work)) (length word) x
    → (outcome_number (outcome_of f g b work word) ≡ outcome_number x) ↔ (outcome_of f g b work word ≡ x)
contain_number f g b work word x l =
    let S = slot_count (length work) in
    let h = slot_count_le (length work) in
    read_back outcome_number told (number_tells S (length word) _ h (contain_numbers f g b work word))
    (number_tells S (length word) x h l)
