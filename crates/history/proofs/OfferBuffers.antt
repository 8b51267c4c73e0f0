-- What offer leaves in the word buffer: the word that it gives has room there. By cases on the walks. Assumes nothing.
use mathlib.Core.Path.{◌≡◌, refl}
use mathlib.Core.Bool.{Bool, true, false, cond}
use mathlib.Core.List.{List}
use Prim.Native.Nat.{ℕ, ◌≤◌}
use native.Mathlib.Omega.{arith}
use borrow.Author.Tests.{leb-true}
use lib.Dec.{leb}
use lib.ListN.{length}
use Rattle.automaton.specs.declared.Automaton.{Automaton}
use Rattle.slots.specs.declared.Vertex.{Vertex}
use Rattle.graph.specs.Discovery.{Walk, going, ended, full}
use Rattle.graph.specs.Walks.{word_of}
use Rattle.history.specs.declared.Entry.{Entry}
use Rattle.history.specs.OfferAnswers.{OfferAnswer}
use Rattle.history.specs.OfferAnswers.{Forward, Back, NoRoom}
use Rattle.history.specs.Offers.{Offer, offer_of, part_length}
use Rattle.history.proofs.OfferCases.{walked, by_offer}

-- the two cases of a word, which the answer x gives where it has room
written_room : (walk room len : ℕ) (x : OfferAnswer) → part_length x ≡ len → (c : Bool) → leb len room ≡ c
    → part_length (cond c x (NoRoom walk len)) ≤ room
written_room walk room len x e true t = omega (arith, leb-true len room t)
written_room walk room len x e false t = omega arith

module _ (E : Entry) (f : List ℕ) (b : ℕ) (work word : List ℕ) where
  abbrev Roomy : Offer → Type 0
  Roomy o = part_length o.answer ≤ length word

  walks_roomy : (B : Automaton) (w back : Walk Vertex) → Roomy (walked E f b work word B w back)
  walks_roomy B (going ns) (going ms) = omega arith
  walks_roomy B (going ns) (ended ms m) =
      let v = word_of B E.held b ms m in
      written_room 2 (length word) (length v) (Back (length ns) (length ms) (length v)) refl (leb (length v) (length word)) refl
  walks_roomy B (going ns) (full ms) = omega arith
  walks_roomy B (ended ns m) back =
      let v = word_of E.held B b ns m in
      written_room 1 (length word) (length v) (Forward (length ns) (length v)) refl (leb (length v) (length word)) refl
  walks_roomy B (full ns) back = omega arith

  pub offer_part_le : part_length (offer_of E f b work word).answer ≤ length word
  offer_part_le = by_offer E f b work word Roomy (λ n. omega arith) (λ B r i w back d e. walks_roomy B w back)
