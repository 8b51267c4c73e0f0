-- Demand 3 (01, "Entry, open, offer"): whatever open and offer calls are made on an entry that was empty at first, refused ones among them, its
-- verdicts stay those of the first edition; and the condition for taking, of each offer on its own.
--   Kept E n A es    what holds of the entry E after a list whose editions are A ∷ es and whose offers were taken n times
--   ListClaim        the claim about one list of calls from an empty entry
--   OfferClaim       the claim about one offer on any entry
--   Demand3          both, for every list and every offer
-- Shown by `demand_3`. Assumes nothing.
use Rattle.std.specs.Prelude.{◌≡◌, true, false, cond, ◌↔◌, ℕ, ◌≤◌, ◌<◌}
use mathlib.Core.List.{List, [], ◌∷◌, ◌++◌, Memᴰ}
use Rattle.automaton.specs.declared.Automaton.{Automaton}
use Rattle.runs.specs.Containment.{Contained}
use Rattle.runs.specs.Lassos.{Accepted}
use Rattle.format.specs.File.{holds, read_file}
use Rattle.checks.specs.Checks.{First, None}
use Rattle.history.specs.declared.Entry.{Entry}
use Rattle.history.specs.OpenAnswers.{Opened}
use Rattle.history.specs.Entries.{max_edition, WellFormed, Smaller}
use Rattle.history.specs.Opens.{open_of}
use Rattle.history.specs.Offers.{offer_of, next_edition, is_taken}
use Rattle.history.specs.Tables.{offer_refusals}
use Rattle.history.specs.Calls.{Call, open_call, offer_call}
use Rattle.history.specs.Lists.{entry_after, taken_offers}
use Rattle.history.specs.Account.{Adds, Account, accounted}

pub record Kept (E : Entry) (taken : ℕ) (A : Automaton) (es : List Automaton) : Type 0 where
  -- it accepts each lasso word exactly when the first edition does
  pub verdict : (u v : List ℕ) → Accepted E.held u v ↔ Accepted A u v
  -- and so does each edition: vendors may hold different ones side by side
  pub verdicts : (B : Automaton) → Memᴰ B (A ∷ es) → (u v : List ℕ) → Accepted B u v ↔ Accepted A u v
  -- and it has the first edition's letters, so that 15 is met by the same lasso words
  pub letters : E.held.letters ≡ A.letters
  -- it has at most as many states as each edition
  pub states : (B : Automaton) → Memᴰ B (A ∷ es) → E.held.states ≤ B.states
  -- its edition number is the number of offers taken, and at most 183,071
  pub edition : E.edition ≡ taken
  pub bounded : E.edition ≤ max_edition
  -- 14 for a spent edition number is met in forged entries only: where a file's automaton is smaller, the number is below 183,071
  pub unspent : (f : List ℕ) (B : Automaton) → read_file f ≡ holds B → Smaller B E.held → E.edition < max_edition

abbrev pub KeptIf : Entry → ℕ → List Automaton → Type 0
KeptIf E taken [] = taken ≡ 0
KeptIf E taken (A ∷ es) = Kept E taken A es

pub record ListClaim (fresh : Entry) (cs : List Call) : Type 0 where
  -- the account makes editions of the calls, and only these
  pub editions : List Automaton
  pub account : Account [] cs editions
  pub only : (es : List Automaton) → Account [] cs es → es ≡ editions
  -- the entry after the list is the one that the account makes; where it is open it meets condition 9 nowhere
  pub entry : entry_after fresh cs ≡ accounted fresh editions
  pub well_formed : (entry_after fresh cs).filled ≡ true → WellFormed (entry_after fresh cs)
  pub kept : KeptIf (entry_after fresh cs) (taken_offers fresh cs) editions
  -- the answer to an offer of the list is "taken" if and only if the account has an edition of it
  pub taken_adds : (ds more : List Call) (f : List ℕ) (b : ℕ) (work word : List ℕ) → cs ≡ ds ++ offer_call f b work word ∷ more
      → (es : List Automaton) → Account [] ds es
      → (is_taken (offer_of (entry_after fresh ds) f b work word).answer ≡ true) ↔ ((B : Automaton) × Adds es (offer_call f b work word) B)
  -- and the answer to an open is "opened" if and only if the account has one of it
  pub opened_adds : (ds more : List Call) (f : List ℕ) → cs ≡ ds ++ open_call f ∷ more → (es : List Automaton) → Account [] ds es
      → ((open_of (entry_after fresh ds) f).answer ≡ Opened) ↔ ((B : Automaton) × Adds es (open_call f) B)

-- an offer that is not refused is taken exactly when both containments hold at its bound, and leaves the next edition or the entry
pub record OfferClaim (E : Entry) (f : List ℕ) (b : ℕ) (work word : List ℕ) : Type 0 where
  pub offered : Automaton
  pub read : read_file f ≡ holds offered
  pub taken_iff : (is_taken (offer_of E f b work word).answer ≡ true) ↔ (Contained E.held offered b × Contained offered E.held b)
  pub entry : (offer_of E f b work word).entry ≡ cond (is_taken (offer_of E f b work word).answer) (next_edition E offered) E

pub record Demand3 : Type 0 where
  pub lists : (fresh : Entry) → fresh.filled ≡ false → (cs : List Call) → ListClaim fresh cs
  pub offers : (E : Entry) (f : List ℕ) (b : ℕ) (work word : List ℕ) → None (offer_refusals E f b work word) → OfferClaim E f b work word
  -- where a refusal applies, the answer is that of the first that does, and the entry is as it was
  pub refusals : (E : Entry) (f : List ℕ) (b : ℕ) (work word : List ℕ) → (None (offer_refusals E f b work word) → ⊥)
      → First (offer_refusals E f b work word) (offer_of E f b work word).answer × ((offer_of E f b work word).entry ≡ E)
