-- What an offer gives, by cases: a refusal before the walks, which changes nothing, or what the two walks come to. The checks before the
-- walks are gone through here once for all that is shown of offers. Assumes nothing.
use mathlib.Core.Path.{◌≡◌, refl, sym, subst}
use mathlib.Core.Bool.{◌||◌, not}
use mathlib.Core.List.{List}
use Prim.Native.Nat.{ℕ}
use borrow.Author.Tests.{not-false}
use lib.Dec.{eqb, ltb}
use lib.ListN.{length}
use Rattle.automaton.specs.declared.Automaton.{Automaton}
use Rattle.format.specs.File.{holds, read_file}
use Rattle.deadstates.specs.DeadEnds.{has_dead}
use Rattle.slots.specs.declared.Vertex.{Vertex}
use Rattle.slots.specs.Slots.{slot_count}
use Rattle.graph.specs.Discovery.{Walk}
use Rattle.graph.specs.LagGraph.{max_bound}
use Rattle.graph.specs.Walks.{walk_of}
use Rattle.checks.proofs.ChecksLaws.{by_test, by_read}
use Rattle.history.specs.declared.Entry.{Entry}
use Rattle.history.specs.OfferAnswers.{OfferAnswer}
use Rattle.history.specs.Entries.{max_edition, WellFormed, malformed, smaller}
use Rattle.history.specs.Opens.{Vetted, stopped, passed}
use Rattle.history.specs.Offers.{Offer, offer_checks, entry_on, offered, offer_of}
use Rattle.history.proofs.EntryChecks.{passed_well_formed}
use Rattle.history.proofs.OfferWalks.{answer_by, work_by, word_by, walks_settled}

-- what answers and buffers come to
abbrev pub giving : Entry → Automaton → OfferAnswer → List ℕ → List ℕ → Offer
giving E B x work word = record { answer = x; entry = entry_on E B x; work = work; word = word }

giving_same : (E : Entry) (B : Automaton) {x y : OfferAnswer} {s t u v : List ℕ} → x ≡ y → s ≡ t → u ≡ v → giving E B x s u ≡ giving E B y t v
giving_same E B d e f = cc

module _ (E : Entry) (f : List ℕ) (b : ℕ) (work word : List ℕ) where
  abbrev H : Automaton
  H = E.held

  abbrev S : ℕ
  S = slot_count (length work)

  -- the offer of B, by its two walks
  abbrev pub walked : Automaton → Walk Vertex → Walk Vertex → Offer
  walked B w back = giving E B (answer_by H B b S (length word) w back) (work_by work w back) (word_by H B b word w back)

  module _ (P : Offer → Type 0) (refusing : (n : ℕ) → P (offered E b work word (stopped n)))
      (walking : (B : Automaton) → read_file f ≡ holds B → WellFormed E → (w back : Walk Vertex) → walk_of H B b S ≡ w → walk_of B H b S ≡ back
      → P (walked B w back)) where
    abbrev Vets : Vetted → Type 0
    Vets v = P (offered E b work word v)

    walks_have : (B : Automaton) → read_file f ≡ holds B → WellFormed E → Vets (passed B)
    walks_have B r i =
        let s = walks_settled H B b work word i.in_range.initial_below (walk_of H B b S) (walk_of B H b S) refl refl in
        subst P (sym (giving_same E B s.answer s.work_left s.word_left)) (walking B r i (walk_of H B b S) (walk_of B H b S) refl refl)

    pub by_offer : P (offer_of E f b work word)
    unfolding offer_of offer_checks
    by_offer =
        by_test Vets (malformed E) (stopped 9) _ (λ _. refusing 9) λ m.
        by_test Vets (not E.filled) (stopped 13) _ (λ _. refusing 13) λ e.
        by_read Vets (read_file f) stopped _ (λ n _. refusing n) λ B r.
        by_test Vets (ltb max_bound b) (stopped 8) _ (λ _. refusing 8) λ _.
        by_test Vets (not (eqb H.letters B.letters)) (stopped 7) _ (λ _. refusing 7) λ _.
        by_test Vets (has_dead B) (stopped 6) _ (λ _. refusing 6) λ _.
        by_test Vets (not (smaller B H) || eqb E.edition max_edition) (stopped 14) (passed B) (λ _. refusing 14) λ _.
        walks_have B r (passed_well_formed E m (not-false E.filled e))
