-- The entry that an open or an offer leaves, by its answer: opened and taken leave the file's automaton, any other answer the entry as it
-- was. Assumes nothing.
use mathlib.Core.Path.{◌≡◌, refl, ap}
use mathlib.Core.Bool.{false, cond}
use mathlib.Core.List.{List}
use Prim.Native.Nat.{ℕ}
use Rattle.automaton.specs.declared.Automaton.{Automaton}
use Rattle.format.specs.File.{holds, read_file}
use Rattle.format.proofs.FileLaws.{read_same}
use Rattle.deadstates.specs.DeadEnds.{has_dead}
use Rattle.checks.proofs.ChecksLaws.{by_test, by_read}
use Rattle.history.specs.declared.Entry.{Entry}
use Rattle.history.specs.OpenAnswers.{Opened, Refused}
use Rattle.history.specs.Entries.{malformed}
use Rattle.history.specs.Opens.{Vetted, stopped, passed, open_checks, open_of, opened, first_edition}
use Rattle.history.specs.Offers.{Offer, offer_of, entry_on, next_edition, is_taken}
use Rattle.history.proofs.OfferCases.{by_offer}

module _ (E : Entry) (f : List ℕ) where
  module _ (B : Automaton) (r : read_file f ≡ holds B) where
    -- the claim about what the checks come to
    abbrev LeftOpened : Vetted → Type 0
    LeftOpened v = (opened E v).answer ≡ Opened → (opened E v).entry ≡ first_edition B

    not_opened : (n : ℕ) → LeftOpened (stopped n)
    not_opened n e = absurd cc

    pub open_entry : (open_of E f).answer ≡ Opened → (open_of E f).entry ≡ first_edition B
    unfolding open_of open_checks
    open_entry =
        by_test LeftOpened (malformed E) (stopped 9) _ (λ _. not_opened 9) λ _.
        by_test LeftOpened E.filled (stopped 12) _ (λ _. not_opened 12) λ _.
        by_read LeftOpened (read_file f) stopped _ (λ n _. not_opened n) λ A e.
        by_test LeftOpened (has_dead A) (stopped 6) (passed A) (λ _. not_opened 6) λ _ _.
        ap first_edition (read_same e r)

  pub open_keeps : (n : ℕ) → (open_of E f).answer ≡ Refused n → (open_of E f).entry ≡ E
  unfolding open_of
  open_keeps n = go (open_checks E f)
    where
      go : (v : Vetted) → (opened E v).answer ≡ Refused n → (opened E v).entry ≡ E
      go (stopped m) e = refl
      go (passed A) e = absurd cc

module _ (E : Entry) (f : List ℕ) (b : ℕ) (work word : List ℕ) where
  module _ (B : Automaton) (r : read_file f ≡ holds B) where
    abbrev Left : Offer → Type 0
    Left o = o.entry ≡ entry_on E B o.answer

    pub offer_entry : (offer_of E f b work word).entry ≡ cond (is_taken (offer_of E f b work word).answer) (next_edition E B) E
    offer_entry =
        by_offer E f b work word Left (λ n. refl)
        (λ A e i w back _ _. rw (read_same r e) refl)

  pub offer_keeps : is_taken (offer_of E f b work word).answer ≡ false → (offer_of E f b work word).entry ≡ E
  offer_keeps =
      by_offer E f b work word (λ o. is_taken o.answer ≡ false → o.entry ≡ E) (λ n _. refl) (λ A _ _ w back _ _ h. rw h refl)
