-- Offer (01, "Entry, open, offer"): the checks 9, 13, 1-5, 8, 7, 6, 14 in this order; then the forward walk, held automaton left and offer
-- right, and after containment the back walk, which begins in slot 0 again. One definition for answer, entry and both buffers.
--   offer_vetting    the checks of the offered automaton: 8, 7, 6, 14
--   offer_checks     all checks before the walks
--   Walks            what the two walks give; the back walk begins with the buffers that the forward one leaves
--   walks_answer, walks_work, walks_word  answer and buffers by the two walks: those of the forward walk, unless it finds containment
--   next_edition     the entry after an offer is taken: edition plus 1, and the offer is held
--   Offer            what offer gives: its answer, the entry, and the two buffers afterwards
--   offer_of         the whole call
--   part_length      the length of the part of the word buffer that is handed back: the word of forward or back, else an empty part
-- Shown by `offer_demand_1`, `forward_shows`, `back_shows` and `demand_3`. Assumes nothing.
use Rattle.std.specs.Prelude.{Bool, true, false, cond, ◌||◌, not, List, ℕ, ◌+◌, eqb, ltb, take}
use Rattle.automaton.specs.declared.Automaton.{Automaton}
use Rattle.format.specs.File.{read_file}
use Rattle.deadstates.specs.DeadEnds.{has_dead}
use Rattle.graph.specs.LagGraph.{max_bound}
use Rattle.answers.specs.Outcomes.{Comparison}
use Rattle.answers.specs.Outcomes.{Contained, Differs, NoSlots as Unslotted, NoRoom as Roomless}
use Rattle.checks.specs.Checks.{on_read}
use Rattle.answers.specs.Contain.{Compare, comparing}
use Rattle.history.specs.declared.Entry.{Entry}
use Rattle.history.specs.OfferAnswers.{OfferAnswer}
use Rattle.history.specs.OfferAnswers.{Taken, Forward, Back, Refused, NoSlots, NoRoom}
use Rattle.history.specs.Entries.{max_edition, malformed, smaller}
use Rattle.history.specs.Opens.{Vetted, stopped, passed}

abbrev pub offer_vetting : Entry → ℕ → Automaton → Vetted
offer_vetting E b B =
    cond (ltb max_bound b) (stopped 8)
    (cond (not (eqb E.held.letters B.letters)) (stopped 7)
    (cond (has_dead B) (stopped 6)
    (cond (not (smaller B E.held) || eqb E.edition max_edition) (stopped 14)
    (passed B))))

unfoldable pub offer_checks : Entry → List ℕ → ℕ → Vetted
offer_checks E f b =
    cond (malformed E) (stopped 9)
    (cond (not E.filled) (stopped 13)
    (on_read (read_file f) stopped (offer_vetting E b)))

pub record Walks : Type 0 where
  pub forward : Compare
  pub back : Compare

-- H is the held automaton, B the offer
abbrev pub walks_of : Automaton → Automaton → ℕ → List ℕ → List ℕ → Walks
walks_of H B b work word =
    let one = comparing H B b work word in
    record { forward = one; back = comparing B H b one.work one.word }

-- by the back walk, after a forward walk of so many vertices
abbrev pub back_answer : ℕ → Comparison → OfferAnswer
back_answer m (Contained n) = Taken m n
back_answer m (Differs i len) = Back m i len
back_answer m (Unslotted n) = NoSlots 2 n
back_answer m (Roomless len) = NoRoom 2 len

-- by the forward walk, and by the back walk after containment
abbrev pub offer_answer : Comparison → Comparison → OfferAnswer
offer_answer (Contained m) back = back_answer m back
offer_answer (Differs i len) back = Forward i len
offer_answer (Unslotted n) back = NoSlots 1 n
offer_answer (Roomless len) back = NoRoom 1 len

-- what the forward walk leaves, or what the back walk leaves after containment
abbrev pub last_made : Comparison → List ℕ → List ℕ → List ℕ
last_made (Contained m) forward back = back
last_made (Differs i len) forward back = forward
last_made (Unslotted n) forward back = forward
last_made (Roomless len) forward back = forward

abbrev pub walks_answer : Walks → OfferAnswer
walks_answer w = offer_answer w.forward.answer w.back.answer

abbrev pub walks_work : Walks → List ℕ
walks_work w = last_made w.forward.answer w.forward.work w.back.work

abbrev pub walks_word : Walks → List ℕ
walks_word w = last_made w.forward.answer w.forward.word w.back.word

abbrev pub next_edition : Entry → Automaton → Entry
next_edition E B = record { filled = true; edition = E.edition + 1; first = E.first; held = B }

abbrev pub is_taken : OfferAnswer → Bool
is_taken (Taken m n) = true
is_taken (Forward m len) = false
is_taken (Back m n len) = false
is_taken (Refused n) = false
is_taken (NoSlots i n) = false
is_taken (NoRoom i len) = false

pub record Offer : Type 0 where
  pub answer : OfferAnswer
  pub entry : Entry
  pub work : List ℕ
  pub word : List ℕ

-- an answer leaves the next edition where it is "taken", else the entry as it was
abbrev pub entry_on : Entry → Automaton → OfferAnswer → Entry
entry_on E B x = cond (is_taken x) (next_edition E B) E

abbrev pub settled : Entry → Automaton → Walks → Offer
settled E B w =
    record { answer = walks_answer w; entry = entry_on E B (walks_answer w); work = walks_work w; word = walks_word w }

-- a refusal before the walks changes nothing
abbrev pub offered : Entry → ℕ → List ℕ → List ℕ → Vetted → Offer
offered E b work word (stopped n) = record { answer = Refused n; entry = E; work = work; word = word }
offered E b work word (passed B) = settled E B (walks_of E.held B b work word)

unfoldable pub offer_of : Entry → List ℕ → ℕ → List ℕ → List ℕ → Offer
offer_of E f b work word = offered E b work word (offer_checks E f b)

abbrev pub part_length : OfferAnswer → ℕ
part_length (Taken m n) = 0
part_length (Forward m len) = len
part_length (Back m n len) = len
part_length (Refused n) = 0
part_length (NoSlots i n) = 0
part_length (NoRoom i len) = 0

unfoldable pub offer_part : Entry → List ℕ → ℕ → List ℕ → List ℕ → List ℕ
offer_part E f b work word = take (part_length (offer_of E f b work word).answer) (offer_of E f b work word).word
