-- Demand 1 of open, offer and verdict, from the tables, the numbers, and the walks that entry and buffers show. Assumes nothing.
use mathlib.Core.Path.{◌≡◌, refl}
use mathlib.Core.Bool.{Bool, true, false, cond}
use mathlib.Core.Logic.{inl, inr}
use mathlib.Core.List.{List, ◌++◌}
use Prim.Native.Nat.{ℕ}
use lib.Dec.{leb}
use lib.ListN.{length, drop}
use Rattle.automaton.specs.declared.Automaton.{Automaton}
use Rattle.automaton.specs.Automata.{InRange}
use Rattle.format.specs.File.{holds, read_file}
use Rattle.format.proofs.FileLaws.{file_in_range}
use Rattle.format.proofs.FileRefusals.{file_reads_as}
use Rattle.deadstates.specs.DeadEnds.{has_dead}
use Rattle.slots.specs.declared.Vertex.{Vertex}
use Rattle.slots.specs.Slots.{slot_count}
use Rattle.graph.specs.Discovery.{Walk, going, ended, full}
use Rattle.graph.specs.Walks.{walk_of, work_after, word_of}
use Rattle.answers.specs.Demand1.{slots_over}
use Rattle.checks.proofs.ChecksLaws.{by_test, by_read}
use Rattle.answers.proofs.WalkRows.{whole_of, final_of}
use Rattle.answers.proofs.ContainDemand.{full_front}
use Rattle.history.specs.declared.Entry.{Entry}
use Rattle.history.specs.OfferAnswers.{Forward, Back, NoRoom}
use Rattle.history.specs.Entries.{malformed}
use Rattle.history.specs.Opens.{Vetted, stopped, passed, open_checks, opened, open_of}
use Rattle.history.specs.Offers.{Offer, offer_of}
use Rattle.history.proofs.OfferCases.{giving, walked, by_offer}
use Rattle.history.specs.OpenDemand.{AfterOpen, OpenDemand1}
use Rattle.history.specs.OfferDemand.{AfterOffer, OfferDemand1}
use Rattle.history.specs.VerdictDemand.{VerdictDemand1}
use Rattle.checks.proofs.FileRows.{file_of}
use Rattle.history.proofs.OpenTable.{open_table}
use Rattle.history.proofs.OfferTable.{offer_table}
use Rattle.history.proofs.VerdictTable.{verdict_table}
use Rattle.history.proofs.OpenAnswers.{open_numbers}
use Rattle.history.proofs.OfferAnswers.{offer_numbers}
use Rattle.history.proofs.VerdictAnswers.{verdict_numbers}

module _ (E : Entry) (f : List ℕ) where
  abbrev LeftOpen : Vetted → Type 0
  LeftOpen v = AfterOpen E f (opened E v).answer (opened E v).entry

  open_leaves : AfterOpen E f (open_of E f).answer (open_of E f).entry
  unfolding open_of open_checks
  open_leaves =
      by_test LeftOpen (malformed E) (stopped 9) _ (λ _. refl) λ _.
      by_test LeftOpen E.filled (stopped 12) _ (λ _. refl) λ _.
      by_read LeftOpen (read_file f) stopped _ (λ _ _. refl) λ A r.
      by_test LeftOpen (has_dead A) (stopped 6) (passed A) (λ _. refl) λ _.
      file_of r refl

  pub open_demand_1 : OpenDemand1 E f
  open_demand_1 =
      record { table = open_table E f; reads = file_reads_as f; occurs = open_numbers E f; leaves = open_leaves }

module _ (E : Entry) (f : List ℕ) (b : ℕ) (work word : List ℕ) where
  abbrev S : ℕ
  S = slot_count (length work)

  abbrev Left : Offer → Type 0
  Left o = AfterOffer E f b work word o.answer o.entry o.work o.word

  module _ (B : Automaton) (r : read_file f ≡ holds B) (i : InRange E.held) where
    abbrev H : Automaton
    H = E.held

    walks_leave : (w back : Walk Vertex) → walk_of H B b S ≡ w → walk_of B H b S ≡ back → Left (walked E f b work word B w back)
    unfolding work_after
    walks_leave (going ns) (going ms) d e = file_of r (refl, whole_of d (whole_of e (refl, refl, refl, refl)))
    walks_leave (going ns) (ended ms m) d e = go (leb (length v) (length word))
      where
        v : List ℕ
        v = word_of B H b ms m

        go : (c : Bool)
            → Left (giving E B (cond c (Back (length ns) (length ms) (length v)) (NoRoom 2 (length v))) (slots_over (slots_over work ns) ms)
            (cond c (v ++ drop (length v) word) word))
        go true = (refl, file_of r (whole_of d (final_of e (refl, refl, refl, refl, refl))))
        go false = (refl, refl, file_of r (inr (refl, whole_of d (final_of e (refl, refl)))))
    walks_leave (going ns) (full ms) d e =
        (refl, refl, file_of r (inr (refl, whole_of d (full_front B H b S (file_in_range f B r) (slots_over work ns) ms e))))
    walks_leave (ended ns n) back d e = go (leb (length v) (length word))
      where
        v : List ℕ
        v = word_of H B b ns n

        go : (c : Bool)
            → Left (giving E B (cond c (Forward (length ns) (length v)) (NoRoom 1 (length v))) (slots_over work ns)
            (cond c (v ++ drop (length v) word) word))
        go true = (refl, file_of r (final_of d (refl, refl, refl, refl)))
        go false = (refl, refl, file_of r (inl (refl, final_of d (refl, refl))))
    walks_leave (full ns) back d e = (refl, refl, file_of r (inl (refl, full_front H B b S i work ns d)))

  offer_leaves : Left (offer_of E f b work word)
  offer_leaves =
      by_offer E f b work word Left (λ n. (refl, refl, refl)) (λ B r i w back d e. walks_leave B r i.in_range w back d e)

  pub offer_demand_1 : OfferDemand1 E f b work word
  offer_demand_1 =
      record {
        table = offer_table E f b work word;
        reads = file_reads_as f;
        occurs = offer_numbers E f b work word;
        leaves = offer_leaves;
      }

pub verdict_demand_1 : (E : Entry) (u v : List ℕ) → VerdictDemand1 E u v
verdict_demand_1 E u v = record { table = verdict_table E u v; occurs = verdict_numbers E u v }
