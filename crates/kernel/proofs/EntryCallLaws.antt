-- What the calls on an entry's bytes need: bytes of an entry have its length, the numbers of the answers fit 64 bits, and the entry that
-- opened or taken leaves fits its bytes. Assumes nothing.
use mathlib.Core.Path.{◌≡◌, refl, sym, ap, subst, ◌∙◌}
use mathlib.Core.Bool.{Bool, true, false, cond, ◌||◌}
use mathlib.Core.List.{List}
use Prim.Native.Nat.{ℕ, ◌+◌, ◌*◌, ◌^◌, ◌≤◌, ◌<◌}
use native.Mathlib.Omega.{arith}
use lib.Dec.{eqb, eqb→eq}
use lib.ListN.{length, get_or}
use Rattle.automaton.specs.declared.Automaton.{Automaton}
use Rattle.automaton.specs.Automata.{InRange}
use Rattle.automaton.proofs.Booleans.{and_both, is_true}
use Rattle.format.specs.File.{read_file}
use Rattle.format.proofs.FileLaws.{file_in_range}
use Rattle.deadstates.specs.DeadEnds.{has_dead}
use Rattle.slots.specs.Slots.{max_slots, slot_count}
use Rattle.boundary.proofs.OutcomeSizes.{slot_count_le}
use Rattle.history.specs.declared.Entry.{Entry}
use Rattle.std.specs.Prelude.{Result, Ok, Err}
use Rattle.std.specs.Result.{is_ok}
use Rattle.history.specs.declared.OpenRefusal.{OpenRefusal as Refusal}
use Rattle.history.specs.OpenAnswers.{OpenAnswer, open_answer_of}
use Rattle.history.specs.OpenAnswers.{Opened, Refused as OpenRefused}
use Rattle.history.specs.OfferAnswers.{OfferAnswer}
use Rattle.history.specs.OfferAnswers.{Taken, Forward, Back, Refused, NoSlots, NoRoom}
use Rattle.history.specs.VerdictAnswers.{VerdictAnswer}
use Rattle.history.specs.VerdictAnswers.{Yes, No, Refused as VerdictRefused}
use Rattle.history.specs.Entries.{malformed, WellFormed}
use Rattle.history.specs.Verdicts.{verdict_of}
use Rattle.history.specs.Opens.{Vetted, stopped, passed, open_checks, opened, open_of, first_edition}
use Rattle.history.specs.Offers.{is_taken, offer_of, next_edition}
use Rattle.history.proofs.OfferCases.{by_offer}
use Rattle.boundary.specs.Bytes.{entry_length, is_entry, entry_of, FitsBytes}
use Rattle.boundary.specs.Numbers.{open_number, offer_number, verdict_number}
use Rattle.checks.proofs.ChecksLaws.{by_test, by_read}
use Rattle.history.specs.VerdictDemand.{VerdictRefusal, malformed_entry, empty_entry, lasso_is_bad, VerdictListed}
use Rattle.history.proofs.VerdictAnswers.{verdict_numbers}
use Rattle.history.specs.OpenDemand.{OpenRefusal, already_open, bad_file, dead_state, OpenListed}
use Rattle.history.specs.OpenDemand as opens
use Rattle.history.proofs.OpenAnswers.{open_numbers}
use Rattle.history.specs.OfferDemand.{OfferRefusal, WalkNumber, forward_walk, back_walk, OfferListed}
use Rattle.history.specs.OfferDemand as offers
use Rattle.history.proofs.OfferAnswers.{offer_numbers}
use Rattle.kernel.specs.EntryCalls.{is_opened, stored, open_bytes, verdict_bytes_number}

pub entry_long : (s : List ℕ) → is_entry s ≡ true → length s ≡ entry_length
unfolding is_entry
entry_long s e =
    eqb→eq (length s) entry_length
    (and_both (eqb (length s) entry_length) (eqb (get_or s 0 0) 0 || eqb (get_or s 0 0) 1) (is_true _ e)).0

verdict_refusal_le : {n : ℕ} → VerdictRefusal n → n ≤ 15
verdict_refusal_le malformed_entry = omega arith
verdict_refusal_le empty_entry = omega arith
verdict_refusal_le lasso_is_bad = omega arith

pub verdict_number_fits : (E : Entry) (u v : List ℕ) → verdict_number (verdict_of E u v) < 2 ^ 64
verdict_number_fits E u v = go (verdict_of E u v) (verdict_numbers E u v)
  where
    go : (x : VerdictAnswer) → VerdictListed x → verdict_number x < 2 ^ 64
    go Yes h = omega arith
    go No h = omega arith
    go (VerdictRefused n) h = omega (arith, verdict_refusal_le h)

module _ (s u v : List ℕ) where
  pub entry_verdict_number : is_entry s ≡ true → verdict_bytes_number s u v ≡ verdict_number (verdict_of (entry_of s) u v)
  unfolding verdict_bytes_number
  entry_verdict_number e = rw e refl

open_refusal_le : {n : ℕ} → OpenRefusal n → n ≤ 12
open_refusal_le opens.malformed_entry = omega arith
open_refusal_le already_open = omega arith
open_refusal_le (bad_file l h) = omega arith
open_refusal_le dead_state = omega arith

first_edition_fits : (A : Automaton) → InRange A → FitsBytes (first_edition A)
first_edition_fits A r =
    record {
      states_fit = omega (arith, r.few_states);
      letters_fit = omega (arith, r.few_letters);
      initial_fits = omega (arith, r.few_states, r.initial_below);
      first_fits = omega (arith, r.few_states);
      edition_fits = omega arith;
    }

module _ (E : Entry) (f : List ℕ) where
  pub open_number_fits : open_number (open_of E f).answer < 2 ^ 64
  open_number_fits = go (open_of E f).answer (open_numbers E f)
    where
      go : (x : OpenAnswer) → OpenListed x → open_number x < 2 ^ 64
      go Opened h = omega arith
      go (OpenRefused n) h = omega (arith, open_refusal_le h)

  abbrev OpenedFits : Vetted → Type 0
  OpenedFits v = is_opened (opened E v).answer ≡ true → FitsBytes (opened E v).entry

  not_opened : (n : ℕ) → OpenedFits (stopped n)
  not_opened n e = absurd cc

  -- the entry that opened leaves fits its bytes
  pub opened_fits : is_opened (open_of E f).answer ≡ true → FitsBytes (open_of E f).entry
  unfolding open_of open_checks
  opened_fits =
      by_test OpenedFits (malformed E) (stopped 9) _ (λ _. not_opened 9) λ _.
      by_test OpenedFits E.filled (stopped 12) _ (λ _. not_opened 12) λ _.
      by_read OpenedFits (read_file f) stopped _ (λ n _. not_opened n) λ A e.
      by_test OpenedFits (has_dead A) (stopped 6) (passed A) (λ _. not_opened 6) λ _ _.
      first_edition_fits A (file_in_range f A e)

module _ (s f : List ℕ) where
  pub entry_open_bytes : is_entry s ≡ true
      → open_bytes s f ≡ stored (is_opened (open_of (entry_of s) f).answer) (open_of (entry_of s) f).entry s
  unfolding open_bytes
  entry_open_bytes e = rw e refl

pub opened_result_fits : (E : Entry) (f : List ℕ) (G : Entry) (x : Result (Unit {0}) Refusal) → open_answer_of x ≡ (open_of E f).answer
    → G ≡ (open_of E f).entry → is_ok x ≡ true → FitsBytes G
opened_result_fits E f G (Ok _) d e h = subst FitsBytes (sym e) (opened_fits E f (ap is_opened (sym d)))
opened_result_fits E f G (Err r) d e h = absurd cc

offer_refusal_le : {n : ℕ} → OfferRefusal n → n ≤ 14
offer_refusal_le offers.malformed_entry = omega arith
offer_refusal_le offers.empty_entry = omega arith
offer_refusal_le (offers.bad_file l h) = omega arith
offer_refusal_le offers.bad_bound = omega arith
offer_refusal_le offers.other_letters = omega arith
offer_refusal_le offers.dead_state = omega arith
offer_refusal_le offers.not_smaller = omega arith

walk_number_le : {i : ℕ} → WalkNumber i → i ≤ 2
walk_number_le forward_walk = omega arith
walk_number_le back_walk = omega arith

slots_number_fits : (i n : ℕ) → i ≤ 2 → n ≤ max_slots → (c : Bool)
    → 110 + 2 ^ 8 * cond c n 0 + 2 ^ 24 * cond c 0 n + 2 ^ 40 * 0 + 2 ^ 56 * i < 2 ^ 64
slots_number_fits i n h k true = omega arith
slots_number_fits i n h k false = omega arith

next_edition_fits : (E : Entry) (B : Automaton) → WellFormed E → InRange B → FitsBytes (next_edition E B)
next_edition_fits E B w r =
    record {
      states_fit = omega (arith, r.few_states);
      letters_fit = omega (arith, r.few_letters);
      initial_fits = omega (arith, r.few_states, r.initial_below);
      first_fits = omega (arith, w.few_first);
      edition_fits = omega (arith, w.edition_in);
    }

module _ (E : Entry) (f : List ℕ) (b : ℕ) (work word : List ℕ) where
  pub offer_number_fits : offer_number (offer_of E f b work word).answer < 2 ^ 64
  offer_number_fits =
      go (offer_of E f b work word).answer (offer_numbers E f b work word) (slot_count_le (length work))
    where
      go : (x : OfferAnswer) → OfferListed (slot_count (length work)) (length word) x → slot_count (length work) ≤ max_slots
          → offer_number x < 2 ^ 64
      go (Taken m n) h s = omega (arith, h.0, h.1)
      go (Forward m len) h s = omega (arith, h.0, h.1)
      go (Back m n len) h s = omega (arith, h.0, h.1, h.2)
      go (Refused n) h s = omega (arith, offer_refusal_le h)
      go (NoSlots i n) h s = slots_number_fits i n (walk_number_le h.0) (omega (arith, h.1)) (eqb i 1)
      go (NoRoom i len) h s = omega (arith, walk_number_le h.0, h.2)

  -- the entry that taken leaves fits its bytes
  pub taken_fits : is_taken (offer_of E f b work word).answer ≡ true → FitsBytes (offer_of E f b work word).entry
  taken_fits =
      by_offer E f b work word (λ o. is_taken o.answer ≡ true → FitsBytes o.entry)
      (λ n e. absurd cc)
      (λ B r i w back d k e. rw e (next_edition_fits E B i (file_in_range f B r)))

  pub taken_result_fits : (G : Entry) (x : OfferAnswer) → x ≡ (offer_of E f b work word).answer → G ≡ (offer_of E f b work word).entry
      → is_taken x ≡ true → FitsBytes G
  taken_result_fits G x d e h = subst FitsBytes (sym e) (taken_fits (ap is_taken (sym d) ∙ h))
