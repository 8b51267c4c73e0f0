-- Demand 1 of the calls that vendors make, from that of the calls on files and entries, the numbers and the test of the bytes. Assumes
-- nothing.
use mathlib.Core.Path.{◌≡◌, refl, sym, ◌∙◌}
use mathlib.Core.Bool.{Bool, true, false}
use mathlib.Core.Logic.{◌↔◌}
use mathlib.Core.List.{List}
use Prim.Native.Nat.{ℕ, ◌^◌, ◌<◌}
use native.Mathlib.Omega.{arith}
use Rattle.fixed_form.proofs.WriteTheorem.{write_demand_1}
use Rattle.hanoi.proofs.HanoiTheorem.{hanoi_demand_1}
use Rattle.answers.proofs.ContainDemand.{contain_demand_1}
use Rattle.history.proofs.CallDemands.{open_demand_1, offer_demand_1, verdict_demand_1}
use Rattle.boundary.specs.Bytes.{is_entry, entry_of}
use Rattle.kernel.specs.EntryCalls.{no_entry, open_bytes_number, open_bytes, offer_bytes_number, offer_bytes, offer_bytes_work, offer_bytes_word, verdict_bytes_number}
use Rattle.kernel.specs.BytesDemand1.{ContainCallDemand1, EntryOpenDemand1, EntryOfferDemand1, EntryVerdictDemand1, FileWriteDemand1, HanoiWriteDemand1}
use Rattle.boundary.proofs.OutcomeSizes.{outcome_fits}
use Rattle.boundary.proofs.ContainNumber.{contain_number}
use Rattle.boundary.proofs.AnswerNumbers.{open_number_lem, offer_number_lem, verdict_number_lem}
use Rattle.boundary.proofs.WriteNumber.{write_fits, write_number_lem, hanoi_fits, hanoi_number}
use Rattle.kernel.proofs.EntryCallLaws.{open_number_fits, offer_number_fits, verdict_number_fits}

-- a number that is that of no entry, or the answer's
fits_by : (c : Bool) (n m : ℕ) → (c ≡ false → n ≡ no_entry) → (c ≡ true → n ≡ m) → m < 2 ^ 64 → n < 2 ^ 64
fits_by true n m h k l = omega (arith, k refl)
fits_by false n m h k l = omega (arith, h refl)

tells_by : {X : Type 0} {n m k : ℕ} → n ≡ m → (m ≡ k) ↔ X → (n ≡ k) ↔ X
tells_by e t = (λ d. t.0 (sym e ∙ d), λ x. e ∙ t.1 x)

pub contain_call_demand_1 : (f g : List ℕ) (b : ℕ) (work word : List ℕ) → ContainCallDemand1 f g b work word
contain_call_demand_1 f g b work word =
    record { call = contain_demand_1 f g b work word; fits = outcome_fits f g b work word; tells = contain_number f g b work word }

pub entry_open_demand_1 : (s f : List ℕ) → EntryOpenDemand1 s f
unfolding open_bytes_number open_bytes
entry_open_demand_1 s f =
    record {
      without_entry = λ e. (rw e refl, rw e refl);
      call = open_demand_1 (entry_of s) f;
      number = λ e. rw e refl;
      bytes = λ e. rw e refl;
      fits = fits_by (is_entry s) _ _ (λ e. rw e refl) (λ e. rw e refl) (open_number_fits (entry_of s) f);
      tells = λ e x. tells_by (rw e refl) (open_number_lem (entry_of s) f x);
    }

pub entry_offer_demand_1 : (s f : List ℕ) (b : ℕ) (work word : List ℕ) → EntryOfferDemand1 s f b work word
unfolding offer_bytes_number offer_bytes offer_bytes_work offer_bytes_word
entry_offer_demand_1 s f b work word =
    record {
      without_entry = λ e. (rw e refl, rw e refl, rw e refl, rw e refl);
      call = offer_demand_1 (entry_of s) f b work word;
      number = λ e. rw e refl;
      bytes = λ e. rw e refl;
      work_is = λ e. rw e refl;
      word_is = λ e. rw e refl;
      fits = fits_by (is_entry s) _ _ (λ e. rw e refl) (λ e. rw e refl) (offer_number_fits (entry_of s) f b work word);
      tells = λ e x l. tells_by (rw e refl) (offer_number_lem (entry_of s) f b work word x l);
    }

pub entry_verdict_demand_1 : (s u v : List ℕ) → EntryVerdictDemand1 s u v
unfolding verdict_bytes_number
entry_verdict_demand_1 s u v =
    record {
      without_entry = λ e. rw e refl;
      call = verdict_demand_1 (entry_of s) u v;
      number = λ e. rw e refl;
      fits = fits_by (is_entry s) _ _ (λ e. rw e refl) (λ e. rw e refl) (verdict_number_fits (entry_of s) u v);
      tells = λ e x. tells_by (rw e refl) (verdict_number_lem (entry_of s) u v x);
    }

pub file_write_demand_1 : (f out : List ℕ) → FileWriteDemand1 f out
file_write_demand_1 f out = record { call = write_demand_1 f out; fits = write_fits f out; tells = write_number_lem f out }

pub hanoi_write_demand_1 : (s out : List ℕ) → HanoiWriteDemand1 s out
hanoi_write_demand_1 s out = record { call = hanoi_demand_1 s out; fits = hanoi_fits s out; tells = hanoi_number s out }
