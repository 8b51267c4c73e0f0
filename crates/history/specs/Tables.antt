-- What open, offer and verdict answer under which condition, in the order of the checks (01, the table of refusals and "Entry, open,
-- offer"). Each row's condition stands on its own, so that `None (offer_refusals ..)` says that no refusal of the offer applies.
--   Malformed E       condition 9, of an open entry
--   open_rows          9, 12, 1-5, 6; then opened
--   offer_refusals    9, 13, 1-5, 8, 7, 6, 14, forward 10 and 11, back 10 and 11
--   offer_outcomes    forward, back, taken
--   verdict_rows      9, 13, 15; then yes and no
--   open_place, offer_place, verdict_place  the place of an answer's row, counted from 0
-- Shown by `open_table`, `offer_table` and `verdict_table`. Assumes nothing.
use Rattle.std.specs.Prelude.{◌≡◌, true, false, cond, ◌⊎◌, ◌≢◌, List, [], ◌∷◌, ◌++◌, ℕ, ◌<◌, eqb, leb, length}
use Rattle.automaton.specs.declared.Automaton.{Automaton}
use Rattle.runs.specs.Lassos.{Accepted}
use Rattle.format.specs.Refusals.{Refusal}
use Rattle.slots.specs.Slots.{slot_count}
use Rattle.graph.specs.LagGraph.{max_bound}
use Rattle.graph.specs.Walks.{NeedsMore}
use Rattle.checks.specs.Checks.{Row, answers, answers_by, answers_by₂, answers_by₃, FileHolds}
use Rattle.answers.specs.Table.{Whole, HasDead, TooLong, FinalAt, NoneFinal}
use Rattle.history.specs.declared.Entry.{Entry}
use Rattle.history.specs.OpenAnswers.{OpenAnswer}
use Rattle.history.specs.OpenAnswers.{Opened, Refused as OpenRefused}
use Rattle.history.specs.OfferAnswers.{OfferAnswer}
use Rattle.history.specs.OfferAnswers.{Taken, Forward, Back, Refused, NoSlots, NoRoom}
use Rattle.history.specs.VerdictAnswers.{VerdictAnswer}
use Rattle.history.specs.VerdictAnswers.{Yes, No, Refused as VerdictRefused}
use Rattle.history.specs.Entries.{max_edition, WellFormed, Smaller}
use Rattle.history.specs.Verdicts.{BadLasso}

-- of an empty entry no field is examined
abbrev pub Malformed : Entry → Type 0
Malformed E = (E.filled ≡ true) × (WellFormed E → ⊥)

-- the row of refusal n, of open, offer and verdict
abbrev pub open_refuses : ℕ → Type 0 → Row OpenAnswer
open_refuses n = answers (OpenRefused n)

abbrev pub refuses : ℕ → Type 0 → Row OfferAnswer
refuses n = answers (Refused n)

abbrev pub verdict_refuses : ℕ → Type 0 → Row VerdictAnswer
verdict_refuses n = answers (VerdictRefused n)

module _ (E : Entry) (f : List ℕ) where
  abbrev pub open_rows : List (Row OpenAnswer)
  open_rows =
      open_refuses 9 (Malformed E)
      ∷ open_refuses 12 (E.filled ≡ true)
      ∷ answers_by OpenRefused (Refusal f)
      ∷ open_refuses 6 (FileHolds f HasDead)
      ∷ answers Opened (FileHolds f (λ A. Unit {0}))
      ∷ []

module _ (E : Entry) (f : List ℕ) (b : ℕ) (work word : List ℕ) where
  abbrev held : Automaton
  held = E.held

  abbrev slots : ℕ
  slots = slot_count (length work)

  -- the forward walk comes to no final vertex, and P holds
  abbrev After : (Automaton → Type 0) → Type 0
  After P = FileHolds f (λ B. Whole held B b slots (λ ns. P B))

  abbrev pub offer_refusals : List (Row OfferAnswer)
  offer_refusals =
      refuses 9 (Malformed E)
      ∷ refuses 13 (E.filled ≡ false)
      ∷ answers_by Refused (Refusal f)
      ∷ refuses 8 (max_bound < b)
      ∷ refuses 7 (FileHolds f (λ B. held.letters ≢ B.letters))
      ∷ refuses 6 (FileHolds f HasDead)
      ∷ refuses 14 (FileHolds f (λ B. (Smaller B held → ⊥) ⊎ (E.edition ≡ max_edition)))
      ∷ answers (NoSlots 1 slots) (FileHolds f (λ B. NeedsMore held B b slots))
      ∷ answers_by (NoRoom 1) (λ len. FileHolds f (λ B. TooLong held B b slots (length word) len))
      ∷ answers (NoSlots 2 slots) (After (λ B. NeedsMore B held b slots))
      ∷ answers_by (NoRoom 2) (λ len. After (λ B. TooLong B held b slots (length word) len))
      ∷ []

  abbrev pub offer_outcomes : List (Row OfferAnswer)
  offer_outcomes =
      answers_by₂ Forward (λ m len. FileHolds f (λ B. FinalAt held B b slots m len))
      ∷ answers_by₃ Back (λ m n len. FileHolds f (λ B. NoneFinal held B b slots m × FinalAt B held b slots n len))
      ∷ answers_by₂ Taken (λ m n. FileHolds f (λ B. NoneFinal held B b slots m × NoneFinal B held b slots n))
      ∷ []

  abbrev pub offer_rows : List (Row OfferAnswer)
  offer_rows = offer_refusals ++ offer_outcomes

module _ (E : Entry) (u v : List ℕ) where
  abbrev pub verdict_rows : List (Row VerdictAnswer)
  verdict_rows =
      verdict_refuses 9 (Malformed E)
      ∷ verdict_refuses 13 (E.filled ≡ false)
      ∷ verdict_refuses 15 (BadLasso E.held.letters u v)
      ∷ answers Yes (Accepted E.held u v)
      ∷ answers No (Accepted E.held u v → ⊥)
      ∷ []

abbrev pub open_place : OpenAnswer → ℕ
open_place (OpenRefused n) = cond (leb n 5) 2 (cond (eqb n 9) 0 (cond (eqb n 12) 1 3))
open_place Opened = 4

abbrev pub offer_place : OfferAnswer → ℕ
offer_place (Refused n) =
    cond (leb n 5) 2
    (cond (eqb n 9) 0 (cond (eqb n 13) 1 (cond (eqb n 8) 3 (cond (eqb n 7) 4 (cond (eqb n 6) 5 6)))))
offer_place (NoSlots walk n) = cond (eqb walk 1) 7 9
offer_place (NoRoom walk len) = cond (eqb walk 1) 8 10
offer_place (Forward m len) = 11
offer_place (Back m n len) = 12
offer_place (Taken m n) = 13

abbrev pub verdict_place : VerdictAnswer → ℕ
verdict_place (VerdictRefused n) = cond (eqb n 9) 0 (cond (eqb n 13) 1 2)
verdict_place Yes = 3
verdict_place No = 4
