-- The number of an open, an offer or a verdict tells the whole answer: kind, counts, word length and walk are the digits of an offer's, and no
-- two answers that can occur share them. Assumes nothing.
use mathlib.Core.Path.{◌≡◌, refl, ap, ◌∙◌}
use mathlib.Core.Bool.{cond}
use mathlib.Core.List.{List}
use mathlib.Core.Logic.{◌↔◌}
use Prim.Native.Nat.{ℕ, ◌+◌, ◌-◌, ◌/◌, ◌%◌, ◌^◌, ◌≤◌, ◌<◌}
use native.Mathlib.Omega.{arith}
use borrow.Author.Tests.{ne_eqb}
use lib.Dec.{eqb}
use lib.ListN.{length}
use Rattle.slots.specs.Slots.{max_slots, slot_count}
use Rattle.history.specs.declared.Entry.{Entry}
use Rattle.history.specs.OpenAnswers.{OpenAnswer}
use Rattle.history.specs.OpenAnswers.{Opened, Refused as OpenRefused}
use Rattle.history.specs.OfferAnswers.{OfferAnswer}
use Rattle.history.specs.OfferAnswers.{Taken, Forward, Back, Refused, NoSlots, NoRoom}
use Rattle.history.specs.VerdictAnswers.{VerdictAnswer}
use Rattle.history.specs.VerdictAnswers.{Yes, No, Refused as VerdictRefused}
use Rattle.history.specs.Opens.{open_of}
use Rattle.history.specs.Offers.{offer_of}
use Rattle.history.specs.Verdicts.{verdict_of}
use Rattle.boundary.specs.Numbers.{open_number, packed_offer, offer_number, verdict_number}
use Rattle.history.specs.OfferDemand.{OfferRefusal, malformed_entry, empty_entry, bad_file, bad_bound, other_letters, dead_state, not_smaller, WalkNumber, forward_walk, back_walk, OfferListed}
use Rattle.history.proofs.OfferAnswers.{offer_numbers}
use Rattle.boundary.proofs.NumberLaws.{read_back}
use Rattle.boundary.proofs.OutcomeSizes.{slot_count_le}

-- Open and verdict.

open_same : (x y : OpenAnswer) → open_number x ≡ open_number y → x ≡ y
open_same Opened Opened e = refl
open_same Opened (OpenRefused n) e = absurd (omega arith)
open_same (OpenRefused n) Opened e = absurd (omega arith)
open_same (OpenRefused n) (OpenRefused m) e = ap OpenRefused (omega arith)

pub open_number_lem : (E : Entry) (f : List ℕ) (x : OpenAnswer) → (open_number (open_of E f).answer ≡ open_number x) ↔ ((open_of E f).answer ≡ x)
open_number_lem E f x = (open_same (open_of E f).answer x, ap open_number)

verdict_same : (x y : VerdictAnswer) → verdict_number x ≡ verdict_number y → x ≡ y
verdict_same Yes Yes e = refl
verdict_same No No e = refl
verdict_same Yes No e = absurd (omega arith)
verdict_same No Yes e = absurd (omega arith)
verdict_same Yes (VerdictRefused n) e = absurd (omega arith)
verdict_same No (VerdictRefused n) e = absurd (omega arith)
verdict_same (VerdictRefused n) Yes e = absurd (omega arith)
verdict_same (VerdictRefused n) No e = absurd (omega arith)
verdict_same (VerdictRefused n) (VerdictRefused m) e = ap VerdictRefused (omega arith)

pub verdict_number_lem : (E : Entry) (u v : List ℕ) (x : VerdictAnswer)
    → (verdict_number (verdict_of E u v) ≡ verdict_number x) ↔ (verdict_of E u v ≡ x)
verdict_number_lem E u v x = (verdict_same (verdict_of E u v) x, ap verdict_number)

-- Offer.

module _ (k m n l w : ℕ) (hk : k < 2 ^ 8) (hm : m < 2 ^ 16) (hn : n < 2 ^ 16) (hl : l < 2 ^ 16) where
  kind_is : packed_offer k m n l w % 2 ^ 8 ≡ k
  kind_is = omega arith

  forward_is : packed_offer k m n l w / 2 ^ 8 % 2 ^ 16 ≡ m
  forward_is = omega arith

  back_is : packed_offer k m n l w / 2 ^ 24 % 2 ^ 16 ≡ n
  back_is = omega arith

  length_is : packed_offer k m n l w / 2 ^ 40 % 2 ^ 16 ≡ l
  length_is = omega arith

  walk_is : packed_offer k m n l w / 2 ^ 56 ≡ w
  walk_is = omega arith

-- the answer of a kind, two counts, a word length and a walk
abbrev told_by : ℕ → ℕ → ℕ → ℕ → ℕ → OfferAnswer
told_by k m n l w =
    cond (eqb k 0) (Taken m n)
    (cond (eqb k 1) (Forward m l)
    (cond (eqb k 2) (Back m n l)
    (cond (eqb k 110) (NoSlots w (m + n)) (cond (eqb k 111) (NoRoom w l) (Refused (k - 100))))))

abbrev told : ℕ → OfferAnswer
told x = told_by (x % 2 ^ 8) (x / 2 ^ 8 % 2 ^ 16) (x / 2 ^ 24 % 2 ^ 16) (x / 2 ^ 40 % 2 ^ 16) (x / 2 ^ 56)

told_same : {k k' m m' n n' l l' w w' : ℕ} → k ≡ k' → m ≡ m' → n ≡ n' → l ≡ l' → w ≡ w' → told_by k m n l w ≡ told_by k' m' n' l' w'
told_same a b c d e = cc

told_packed : (k m n l w : ℕ) → k < 2 ^ 8 → m < 2 ^ 16 → n < 2 ^ 16 → l < 2 ^ 16 → told (packed_offer k m n l w) ≡ told_by k m n l w
told_packed k m n l w hk hm hn hl =
    told_same (kind_is k m n l w hk hm hn hl) (forward_is k m n l w hk hm hn hl) (back_is k m n l w hk hm hn hl)
    (length_is k m n l w hk hm hn hl) (walk_is k m n l w hk hm hn hl)

refused_told : (n : ℕ) → n ≤ 9 → told (offer_number (Refused n)) ≡ Refused n
refused_told n h =
    told_packed (100 + n) 0 0 0 0 (omega arith) (omega arith) (omega arith) (omega arith)
    ∙ rw (
      ne_eqb (100 + n) 0 (λ e. omega arith),
      ne_eqb (100 + n) 1 (λ e. omega arith),
      ne_eqb (100 + n) 2 (λ e. omega arith),
      ne_eqb (100 + n) 110 (λ e. omega arith),
      ne_eqb (100 + n) 111 (λ e. omega arith),
    ) (ap Refused (omega arith))

refusal_told : {n : ℕ} → OfferRefusal n → told (offer_number (Refused n)) ≡ Refused n
refusal_told malformed_entry = refused_told 9 (omega arith)
refusal_told empty_entry = told_packed 113 0 0 0 0 (omega arith) (omega arith) (omega arith) (omega arith)
refusal_told {n} (bad_file l h) = refused_told n (omega arith)
refusal_told bad_bound = refused_told 8 (omega arith)
refusal_told other_letters = refused_told 7 (omega arith)
refusal_told dead_state = refused_told 6 (omega arith)
refusal_told not_smaller = told_packed 114 0 0 0 0 (omega arith) (omega arith) (omega arith) (omega arith)

slots_told : {walk : ℕ} (n : ℕ) → n ≤ max_slots → WalkNumber walk → told (offer_number (NoSlots walk n)) ≡ NoSlots walk n
slots_told n h forward_walk =
    told_packed 110 n 0 0 1 (omega arith) (omega arith) (omega arith) (omega arith) ∙ ap (NoSlots 1) (omega arith)
slots_told n h back_walk =
    told_packed 110 0 n 0 2 (omega arith) (omega arith) (omega arith) (omega arith) ∙ ap (NoSlots 2) (omega arith)

number_tells : (S room : ℕ) (x : OfferAnswer) → S ≤ max_slots → OfferListed S room x → told (offer_number x) ≡ x
number_tells S room (Taken m n) h l =
    told_packed 0 m n 0 0 (omega arith) (omega (arith, l.0)) (omega (arith, l.1)) (omega arith)
number_tells S room (Forward m len) h l =
    told_packed 1 m 0 len 0 (omega arith) (omega (arith, l.0)) (omega arith) (omega (arith, l.0, l.1))
number_tells S room (Back m n len) h l =
    told_packed 2 m n len 0 (omega arith) (omega (arith, l.0)) (omega (arith, l.1)) (omega (arith, l.1, l.2))
number_tells S room (Refused n) h l = refusal_told l
number_tells S room (NoSlots walk n) h l = slots_told n (omega (arith, l.1)) l.0
number_tells S room (NoRoom walk len) h l =
    told_packed 111 0 0 len walk (omega arith) (omega arith) (omega arith) (omega (arith, l.2))

-- offer gives the number of x exactly when it answers x
pub offer_number_lem : (E : Entry) (f : List ℕ) (b : ℕ) (work word : List ℕ) (x : OfferAnswer)
    → OfferListed (slot_count (length work)) (length word) x
    → (offer_number (offer_of E f b work word).answer ≡ offer_number x) ↔ ((offer_of E f b work word).answer ≡ x)
offer_number_lem E f b work word x l =
    let S = slot_count (length work) in
    let h = slot_count_le (length work) in
    read_back offer_number told (number_tells S (length word) _ h (offer_numbers E f b work word))
    (number_tells S (length word) x h l)
