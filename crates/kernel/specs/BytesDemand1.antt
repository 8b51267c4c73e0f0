-- Demand 1 of the calls that vendors make. Contain: that of the call, and its number. The calls on an entry's bytes: bytes that are no entry
-- are condition 9 and nothing changes; on the bytes of an entry the call has demand 1 of open, offer or verdict, opened and taken alone
-- write the entry, and the number is the answer's. Every number fits 64 bits and tells the whole answer: no two answers that can occur
-- have the same one. The calls that write a file, from a file (02, S-1) or a Hanoi text (02, S-2), have their demand 1, and a number likewise. Shown by
-- `contain_call_demand_1`, `entry_open_demand_1`, `entry_offer_demand_1`, `entry_verdict_demand_1`, `file_write_demand_1` and `hanoi_write_demand_1`. Assumes
-- nothing.
use Rattle.std.specs.Prelude.{◌≡◌, true, false, List, ◌↔◌, ℕ, ◌^◌, ◌<◌, length}
use Rattle.slots.specs.Slots.{slot_count}
use Rattle.fixed_form.specs.WriteAnswers.{WriteAnswer}
use Rattle.fixed_form.specs.Write.{write_of}
use Rattle.fixed_form.specs.WriteDemand.{WriteListed, WriteDemand1}
use Rattle.hanoi.specs.Hanoi.{hanoi_of}
use Rattle.hanoi.specs.HanoiDemand.{HanoiListed, HanoiDemand1}
use Rattle.answers.specs.Outcomes.{Outcome}
use Rattle.answers.specs.Contain.{outcome_of}
use Rattle.answers.specs.Demand1.{Listed, Demand1}
use Rattle.history.specs.OpenAnswers.{OpenAnswer}
use Rattle.history.specs.OfferAnswers.{OfferAnswer}
use Rattle.history.specs.VerdictAnswers.{VerdictAnswer}
use Rattle.history.specs.Opens.{open_of}
use Rattle.history.specs.Offers.{is_taken, offer_of}
use Rattle.history.specs.Verdicts.{verdict_of}
use Rattle.boundary.specs.Bytes.{is_entry, entry_of}
use Rattle.boundary.specs.Numbers.{outcome_number, open_number, offer_number, verdict_number, write_number}
use Rattle.history.specs.OpenDemand.{OpenDemand1}
use Rattle.history.specs.OfferDemand.{OfferListed, OfferDemand1}
use Rattle.history.specs.VerdictDemand.{VerdictDemand1}
use Rattle.kernel.specs.EntryCalls.{no_entry, is_opened, stored, open_bytes_number, open_bytes, offer_bytes_number, offer_bytes, offer_bytes_work, offer_bytes_word, verdict_bytes_number}

pub record ContainCallDemand1 (f g : List ℕ) (b : ℕ) (work word : List ℕ) : Type 0 where
  pub call : Demand1 f g b work word
  pub fits : outcome_number (outcome_of f g b work word) < 2 ^ 64
  pub tells : (x : Outcome) → Listed (slot_count (length work)) (length word) x
      → (outcome_number (outcome_of f g b work word) ≡ outcome_number x) ↔ (outcome_of f g b work word ≡ x)

pub record EntryOpenDemand1 (s f : List ℕ) : Type 0 where
  pub without_entry : is_entry s ≡ false → (open_bytes_number s f ≡ no_entry) × (open_bytes s f ≡ s)
  pub call : OpenDemand1 (entry_of s) f
  pub number : is_entry s ≡ true → open_bytes_number s f ≡ open_number (open_of (entry_of s) f).answer
  pub bytes : is_entry s ≡ true → open_bytes s f ≡ stored (is_opened (open_of (entry_of s) f).answer) (open_of (entry_of s) f).entry s
  pub fits : open_bytes_number s f < 2 ^ 64
  pub tells : is_entry s ≡ true → (x : OpenAnswer) → (open_bytes_number s f ≡ open_number x) ↔ ((open_of (entry_of s) f).answer ≡ x)

pub record EntryOfferDemand1 (s f : List ℕ) (b : ℕ) (work word : List ℕ) : Type 0 where
  pub without_entry : is_entry s ≡ false
      → (offer_bytes_number s f b work word ≡ no_entry) × (offer_bytes s f b work word ≡ s) × (offer_bytes_work s f b work word ≡ work)
      × (offer_bytes_word s f b work word ≡ word)
  pub call : OfferDemand1 (entry_of s) f b work word
  pub number : is_entry s ≡ true → offer_bytes_number s f b work word ≡ offer_number (offer_of (entry_of s) f b work word).answer
  pub bytes : is_entry s ≡ true → offer_bytes s f b work word
      ≡ stored (is_taken (offer_of (entry_of s) f b work word).answer) (offer_of (entry_of s) f b work word).entry s
  pub work_is : is_entry s ≡ true → offer_bytes_work s f b work word ≡ (offer_of (entry_of s) f b work word).work
  pub word_is : is_entry s ≡ true → offer_bytes_word s f b work word ≡ (offer_of (entry_of s) f b work word).word
  pub fits : offer_bytes_number s f b work word < 2 ^ 64
  pub tells : is_entry s ≡ true → (x : OfferAnswer) → OfferListed (slot_count (length work)) (length word) x
      → (offer_bytes_number s f b work word ≡ offer_number x) ↔ ((offer_of (entry_of s) f b work word).answer ≡ x)

pub record EntryVerdictDemand1 (s u v : List ℕ) : Type 0 where
  pub without_entry : is_entry s ≡ false → verdict_bytes_number s u v ≡ no_entry
  pub call : VerdictDemand1 (entry_of s) u v
  pub number : is_entry s ≡ true → verdict_bytes_number s u v ≡ verdict_number (verdict_of (entry_of s) u v)
  pub fits : verdict_bytes_number s u v < 2 ^ 64
  pub tells : is_entry s ≡ true → (x : VerdictAnswer) → (verdict_bytes_number s u v ≡ verdict_number x) ↔ (verdict_of (entry_of s) u v ≡ x)

pub record FileWriteDemand1 (f out : List ℕ) : Type 0 where
  pub call : WriteDemand1 f out
  pub fits : write_number (write_of f out).answer < 2 ^ 64
  -- whatever the buffer's length: who has the number alone knows the answer
  pub tells : (room : ℕ) (x : WriteAnswer) → WriteListed room x
      → (write_number (write_of f out).answer ≡ write_number x) ↔ ((write_of f out).answer ≡ x)

pub record HanoiWriteDemand1 (s out : List ℕ) : Type 0 where
  pub call : HanoiDemand1 s out
  pub fits : write_number (hanoi_of s out).answer < 2 ^ 64
  -- whatever the buffer's length
  pub tells : (room : ℕ) (x : WriteAnswer) → HanoiListed room x
      → (write_number (hanoi_of s out).answer ≡ write_number x) ↔ ((hanoi_of s out).answer ≡ x)
