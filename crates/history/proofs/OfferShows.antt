-- What forward and back come with: the final vertex at the place counted last, and its word, in front in the word buffer, which shows that
-- the held automaton is not contained in the offer, or the offer in the held one. By cases on the walks. Assumes nothing.
use mathlib.Core.Path.{◌≡◌, refl}
use mathlib.Core.Bool.{Bool, true, false, cond}
use mathlib.Core.List.{List}
use Prim.Native.Nat.{ℕ}
use lib.Dec.{leb}
use lib.ListN.{length}
use Rattle.automaton.specs.declared.Automaton.{Automaton}
use Rattle.automaton.specs.Automata.{InRange}
use Rattle.format.proofs.FileLaws.{file_in_range}
use Rattle.slots.specs.declared.Vertex.{Vertex}
use Rattle.slots.specs.Slots.{slot_count}
use Rattle.graph.specs.Discovery.{Walk, going, ended, full}
use Rattle.graph.specs.Walks.{walk_of, word_of}
use Rattle.graph.proofs.WalkTheorem.{walk_ended}
use Rattle.answers.specs.Table.{NoneFinal}
use Rattle.answers.specs.Demand2.{Difference}
use Rattle.answers.proofs.WalkRows.{whole_of}
use Rattle.answers.proofs.DifferenceWords.{written_shown}
use Rattle.history.specs.declared.Entry.{Entry}
use Rattle.history.specs.OfferAnswers.{Forward, Back, NoRoom}
use Rattle.history.specs.Offers.{Offer, offer_of}
use Rattle.checks.specs.Checks.{FileHolds}
use Rattle.history.proofs.OfferWalks.{answer_by, word_by}
use Rattle.history.proofs.OfferCases.{by_offer}
use Rattle.checks.proofs.FileRows.{file_of}

-- what an answer with a word says of the test for room
record Roomy (c : Bool) (i j len size : ℕ) : Type 0 where
  room : c ≡ true
  place : i ≡ j
  long : len ≡ size

forward_room : (c : Bool) (m len j size : ℕ) → cond c (Forward j size) (NoRoom 1 size) ≡ Forward m len → Roomy c m j len size
forward_room true m len j size e = record { room = refl; place = cc; long = cc }
forward_room false m len j size e = absurd cc

back_room : (c : Bool) (m n len k j size : ℕ) → cond c (Back k j size) (NoRoom 2 size) ≡ Back m n len
    → (m ≡ k) × Roomy c n j len size
back_room true m n len k j size e = (cc, record { room = refl; place = cc; long = cc })
back_room false m n len k j size e = absurd cc

-- the other walk's word is another answer
back_not_forward : (c : Bool) (m len k j size : ℕ) → cond c (Back k j size) (NoRoom 2 size) ≡ Forward m len → ⊥
back_not_forward true m len k j size e = cc
back_not_forward false m len k j size e = cc

forward_not_back : (c : Bool) (m n len j size : ℕ) → cond c (Forward j size) (NoRoom 1 size) ≡ Back m n len → ⊥
forward_not_back true m n len j size e = cc
forward_not_back false m n len j size e = cc

module _ (H B : Automaton) (b S : ℕ) (word : List ℕ) where
  walks_forward : (m len : ℕ) → InRange B → (w back : Walk Vertex) → walk_of H B b S ≡ w
      → answer_by H B b S (length word) w back ≡ Forward m len → Difference H B b S m len (word_by H B b word w back)
  walks_forward m len r (going ns) (going ms) d e = absurd cc
  walks_forward m len r (going ns) (ended ms n) d e =
      let size = length (word_of B H b ms n) in
      absurd (back_not_forward (leb size (length word)) m len (length ns) (length ms) size e)
  walks_forward m len r (going ns) (full ms) d e = absurd cc
  walks_forward m len r (ended ns n) back d e =
      let size = length (word_of H B b ns n) in
      let h = forward_room (leb size (length word)) m len (length ns) size e in
      written_shown word r ((walk_ended H B b S ns n).0 d) h.place h.long h.room
  walks_forward m len r (full ns) back d e = absurd cc

  walks_back : (m n len : ℕ) → InRange H → (w back : Walk Vertex) → walk_of H B b S ≡ w → walk_of B H b S ≡ back
      → answer_by H B b S (length word) w back ≡ Back m n len
      → NoneFinal H B b S m × Difference B H b S n len (word_by H B b word w back)
  walks_back m n len r (going ns) (going ms) d c e = absurd cc
  walks_back m n len r (going ns) (ended ms x) d c e =
      let size = length (word_of B H b ms x) in
      let h = back_room (leb size (length word)) m n len (length ns) (length ms) size e in
      (whole_of d h.0, written_shown word r ((walk_ended B H b S ms x).0 c) h.1.place h.1.long h.1.room)
  walks_back m n len r (going ns) (full ms) d c e = absurd cc
  walks_back m n len r (ended ns x) back d c e =
      let size = length (word_of H B b ns x) in absurd (forward_not_back (leb size (length word)) m n len (length ns) size e)
  walks_back m n len r (full ns) back d c e = absurd cc

module _ (E : Entry) (f : List ℕ) (b : ℕ) (work word : List ℕ) where
  abbrev S : ℕ
  S = slot_count (length work)

  abbrev Forwards : ℕ → ℕ → Offer → Type 0
  Forwards m len o = o.answer ≡ Forward m len → FileHolds f (λ B. Difference E.held B b S m len o.word)

  pub forward_shows : (m len : ℕ) → (offer_of E f b work word).answer ≡ Forward m len
      → FileHolds f (λ B. Difference E.held B b (slot_count (length work)) m len (offer_of E f b work word).word)
  forward_shows m len =
      by_offer E f b work word (Forwards m len) (λ n e. absurd cc)
      (λ B r i w back d c e. file_of r (walks_forward E.held B b S word m len (file_in_range f B r) w back d e))

  abbrev Backs : ℕ → ℕ → ℕ → Offer → Type 0
  Backs m n len o =
      o.answer ≡ Back m n len → FileHolds f (λ B. NoneFinal E.held B b S m × Difference B E.held b S n len o.word)

  pub back_shows : (m n len : ℕ) → (offer_of E f b work word).answer ≡ Back m n len
      → FileHolds f
      (λ B. NoneFinal E.held B b (slot_count (length work)) m
      × Difference B E.held b (slot_count (length work)) n len (offer_of E f b work word).word)
  back_shows m n len =
      by_offer E f b work word (Backs m n len) (λ k e. absurd cc)
      (λ B r i w back d c e. file_of r (walks_back E.held B b S word m n len i.in_range w back d c e))
