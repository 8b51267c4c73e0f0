-- Demand 1 of offer (01, the table of refusals, "The walk" and "Entry, open, offer"): what it answers, the refusals that can occur, and what
-- entry, word and every byte of work hold for each answer, 10 and 11 of each walk included.
--   OfferListed S room x   no other answer x occurs with S slots and room for so many letters; a word is no longer than the place of its final
--                          vertex
--   AfterOffer x ..        entry, work and word after the answer x; H is the held automaton, B the offer. Both walks write from the
--                          start of the work buffer, so the back walk's slots stand over the forward walk's
-- Shown by `offer_demand_1`. Assumes nothing.
use Rattle.std.specs.Prelude.{◌≡◌, List, ◌++◌, ◌⊎◌, ◌↔◌, ℕ, ◌≤◌, ◌<◌, length, drop}
use Rattle.slots.specs.Slots.{slot_count}
use Rattle.graph.specs.Walks.{word_of}
use Rattle.format.specs.Refusals.{ReadsAs}
use Rattle.checks.specs.Checks.{First, FileHolds}
use Rattle.answers.specs.Table.{Final, Whole}
use Rattle.answers.specs.Demand1.{slots_over, FrontSlots}
use Rattle.history.specs.declared.Entry.{Entry}
use Rattle.history.specs.OfferAnswers.{OfferAnswer}
use Rattle.history.specs.OfferAnswers.{Taken, Forward, Back, Refused, NoSlots, NoRoom}
use Rattle.history.specs.Offers.{offer_of, next_edition}
use Rattle.history.specs.Tables.{offer_rows}

-- before the walks
pub data OfferRefusal : ℕ → Type 0 where
  malformed_entry : OfferRefusal 9
  empty_entry : OfferRefusal 13
  bad_file : {n : ℕ} → 1 ≤ n → n ≤ 5 → OfferRefusal n
  bad_bound : OfferRefusal 8
  other_letters : OfferRefusal 7
  dead_state : OfferRefusal 6
  not_smaller : OfferRefusal 14

pub data WalkNumber : ℕ → Type 0 where
  forward_walk : WalkNumber 1
  back_walk : WalkNumber 2

abbrev pub OfferListed : ℕ → ℕ → OfferAnswer → Type 0
OfferListed S room (Taken m n) = (m ≤ S) × (n ≤ S)
OfferListed S room (Forward m len) = (m ≤ S) × (len ≤ m)
OfferListed S room (Back m n len) = (m ≤ S) × (n ≤ S) × (len ≤ n)
OfferListed S room (Refused n) = OfferRefusal n
OfferListed S room (NoSlots walk n) = WalkNumber walk × (n ≡ S)
OfferListed S room (NoRoom walk len) = WalkNumber walk × (room < len) × (len ≤ S)

module _ (E : Entry) (f : List ℕ) (b : ℕ) (work word : List ℕ) where
  abbrev pub AfterOffer : OfferAnswer → Entry → List ℕ → List ℕ → Type 0
  AfterOffer (Refused n) E' work' word' = (E' ≡ E) × (work' ≡ work) × (word' ≡ word)
  AfterOffer (NoSlots walk n) E' work' word' =
      let H = E.held in
      let S = slot_count (length work) in
      (E' ≡ E) × (word' ≡ word) × FileHolds f (λ B.
      ((walk ≡ 1) × FrontSlots H B b S work work')
      ⊎ ((walk ≡ 2) × Whole H B b S (λ ns. FrontSlots B H b S (slots_over work ns) work')))
  AfterOffer (NoRoom walk len) E' work' word' =
      let H = E.held in
      let S = slot_count (length work) in
      (E' ≡ E) × (word' ≡ word) × FileHolds f (λ B.
      ((walk ≡ 1) × Final H B b S (λ ns n. (len ≡ length (word_of H B b ns n)) × (work' ≡ slots_over work ns)))
      ⊎ ((walk ≡ 2) × Whole H B b S (λ ns. Final B H b S (λ ms m.
      (len ≡ length (word_of B H b ms m)) × (work' ≡ slots_over (slots_over work ns) ms)))))
  AfterOffer (Forward m len) E' work' word' =
      let H = E.held in
      (E' ≡ E) × FileHolds f (λ B. Final H B b (slot_count (length work)) (λ ns n.
      (m ≡ length ns) × (len ≡ length (word_of H B b ns n)) × (work' ≡ slots_over work ns) × (word' ≡ word_of H B b ns n ++ drop len word)))
  AfterOffer (Back m n len) E' work' word' =
      let H = E.held in
      let S = slot_count (length work) in
      (E' ≡ E) × FileHolds f (λ B. Whole H B b S (λ ns. Final B H b S (λ ms k.
      (m ≡ length ns) × (n ≡ length ms) × (len ≡ length (word_of B H b ms k))
      × (work' ≡ slots_over (slots_over work ns) ms) × (word' ≡ word_of B H b ms k ++ drop len word))))
  AfterOffer (Taken m n) E' work' word' =
      let H = E.held in
      let S = slot_count (length work) in
      FileHolds f (λ B. (E' ≡ next_edition E B) × Whole H B b S (λ ns. Whole B H b S (λ ms.
      (m ≡ length ns) × (n ≡ length ms) × (work' ≡ slots_over (slots_over work ns) ms) × (word' ≡ word))))

  pub record OfferDemand1 : Type 0 where
    -- the first row of the table whose condition holds gives the answer
    pub table : (x : OfferAnswer) → ((offer_of E f b work word).answer ≡ x) ↔ First (offer_rows E f b work word) x
    -- its rows 1-5 in the table's terms, and the automaton of a file that is read
    pub reads : ReadsAs f
    pub occurs : OfferListed (slot_count (length work)) (length word) (offer_of E f b work word).answer
    pub leaves : AfterOffer (offer_of E f b work word).answer (offer_of E f b work word).entry (offer_of E f b work word).work
        (offer_of E f b work word).word
