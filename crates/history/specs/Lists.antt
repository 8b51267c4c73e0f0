-- What a list of calls on one entry does (01, "Entry, open, offer"): each call gets the entry that the one before it left.
--   call_entry     the entry that a call leaves
--   call_taken     the call is an offer that is answered "taken"
--   entry_after    the entry after a list of calls
--   taken_offers   how many calls of the list are answered "taken"
-- Shown by `demand_3`. Assumes nothing.
use Rattle.std.specs.Prelude.{Bool, false, List, [], ◌∷◌, ℕ, ◌+◌}
use Rattle.automaton.specs.Automata.{one}
use Rattle.history.specs.declared.Entry.{Entry}
use Rattle.history.specs.Opens.{open_of}
use Rattle.history.specs.Offers.{offer_of, is_taken}
use Rattle.history.specs.Calls.{Call, open_call, offer_call}

unfoldable pub call_entry : Entry → Call → Entry
call_entry E (open_call f) = (open_of E f).entry
call_entry E (offer_call f b work word) = (offer_of E f b work word).entry

unfoldable pub call_taken : Entry → Call → Bool
call_taken E (open_call f) = false
call_taken E (offer_call f b work word) = is_taken (offer_of E f b work word).answer

unfoldable pub entry_after : Entry → List Call → Entry
entry_after E [] = E
entry_after E (c ∷ cs) = entry_after (call_entry E c) cs

unfoldable pub taken_offers : Entry → List Call → ℕ
taken_offers E [] = 0
taken_offers E (c ∷ cs) = one (call_taken E c) + taken_offers (call_entry E c) cs
