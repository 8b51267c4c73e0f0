-- Lists of calls on one entry held as bytes, as vendors make them (01, "Entry, open, offer"; docs/reference.md, "The boundary for vendors").
--   call_bytes      the entry's bytes after a call
--   bytes_after     the entry's bytes after a list of calls
--   bytes_of s es    the bytes that the account makes: those of the entry that holds the last edition; with no editions they are s still
--   SameVerdicts    every verdict on the bytes t is the one on the entry as it was first opened
--   BytesClaim      demand 3 of one list of calls on the bytes s
-- Shown by `demand_3_bytes`. Assumes nothing.
use Rattle.std.specs.Prelude.{◌≡◌, true, false, List, [], ◌∷◌, ◌++◌, ◌↔◌, ℕ, ◌%◌, ◌^◌}
use Rattle.automaton.specs.declared.Automaton.{Automaton}
use Rattle.history.specs.Verdicts.{verdict_of}
use Rattle.history.specs.Opens.{first_edition}
use Rattle.boundary.specs.Bytes.{is_entry, entry_of, entry_bytes}
use Rattle.boundary.specs.Numbers.{verdict_number}
use Rattle.history.specs.Calls.{Call, open_call, offer_call}
use Rattle.history.specs.Lists.{entry_after}
use Rattle.history.specs.Account.{Adds, Account, holding}
use Rattle.history.specs.Demand.{ListClaim}
use Rattle.kernel.specs.EntryCalls.{open_bytes, offer_bytes, offer_bytes_number, verdict_bytes_number}

unfoldable pub call_bytes : List ℕ → Call → List ℕ
call_bytes s (open_call f) = open_bytes s f
call_bytes s (offer_call f b work word) = offer_bytes s f b work word

unfoldable pub bytes_after : List ℕ → List Call → List ℕ
bytes_after s [] = s
bytes_after s (c ∷ cs) = bytes_after (call_bytes s c) cs

abbrev pub bytes_of : List ℕ → List Automaton → List ℕ
bytes_of s [] = s
bytes_of s (A ∷ es) = entry_bytes (holding A es)

abbrev pub SameVerdicts : List ℕ → List Automaton → Type 0
SameVerdicts t [] = Unit {0}
SameVerdicts t (A ∷ es) = (u v : List ℕ) → verdict_bytes_number t u v ≡ verdict_number (verdict_of (first_edition A) u v)

pub record BytesClaim (s : List ℕ) (cs : List Call) : Type 0 where
  pub list : ListClaim (entry_of s) cs
  pub entry_is : is_entry (bytes_after s cs) ≡ true
  pub describes : entry_of (bytes_after s cs) ≡ entry_after (entry_of s) cs
  pub bytes : bytes_after s cs ≡ bytes_of s list.editions
  pub verdicts : SameVerdicts (bytes_after s cs) list.editions
  -- an offer's number has kind 0 exactly when it adds an edition
  pub taken_adds : (ds more : List Call) (f : List ℕ) (b : ℕ) (work word : List ℕ) → cs ≡ ds ++ offer_call f b work word ∷ more
      → (es : List Automaton) → Account [] ds es
      → (offer_bytes_number (bytes_after s ds) f b work word % 2 ^ 8 ≡ 0) ↔ ((B : Automaton) × Adds es (offer_call f b work word) B)

abbrev pub DemandThreeBytes : Type 0
DemandThreeBytes = (s : List ℕ) → is_entry s ≡ true → (entry_of s).filled ≡ false → (cs : List Call) → BytesClaim s cs
