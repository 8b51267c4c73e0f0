-- An offer without refusal exists, so the premise of demand 3 on offers is met: of a fresh entry that F opens, the offer of G at bound 1
-- is answered "taken", and so none of offer's refusals applies. The entry is well formed by demand 3; the rest is computed. Assumes
-- nothing.
use mathlib.Core.Path.{◌≡◌, refl, ap, ◌∙◌}
use mathlib.Core.Bool.{true, false, cond, not}
use mathlib.Core.List.{List, [], ◌∷◌, flat_map}
use Prim.Native.Nat.{ℕ}
use Rattle.automaton.specs.Ranges as ranges
use Rattle.automaton.specs.Automata as automata
use Rattle.automaton.proofs.Booleans.{clash, not_T_false}
use Rattle.relations.specs.Closure as paths
use Rattle.format.specs.Records as records
use Rattle.format.specs.Writing as writing
use Rattle.format.specs.File as file
use Rattle.format.specs.File.{read_file}
use Rattle.deadstates.specs.DeadEnds as ends
use Rattle.slots.specs.Slots as slots
use Rattle.graph.specs.LagGraph as graph
use Rattle.graph.specs.Walks as walks
use Rattle.checks.specs.Checks.{None, on_read}
use Rattle.answers.specs.Contain as contain
use Rattle.history.specs.declared.Entry.{Entry}
use Rattle.history.specs.OfferAnswers.{Taken}
use Rattle.history.specs.Entries as entries
use Rattle.history.specs.Entries.{fresh_entry, WellFormed, malformed}
use Rattle.history.specs.Opens as opens
use Rattle.history.specs.Opens.{stopped}
use Rattle.history.specs.Offers.{Offer, offer_vetting, offer_checks, offered, offer_of, is_taken}
use Rattle.history.specs.Tables.{offer_refusals}
use Rattle.history.specs.Calls.{open_call}
use Rattle.history.specs.Lists.{call_entry, entry_after}
use Rattle.history.proofs.EntryLaws.{malformed_iff}
use Rattle.history.proofs.OfferEffects.{OfferEffect, takes_next, takes_none, offer_effect}
use Rattle.history.proofs.DemandThree.{list_claim}
use Rattle.cases.specs.Worked.{F, G}
use Rattle.cases.specs.Cases.{buffer, opened_f}

opened_filled : opened_f.filled ≡ true
unfolding ranges.some ranges.those ranges.table ranges.largest automata.accepts automata.transition automata.targets automata.bare automata.with_accepting automata.with_transition automata.header_values paths.relation paths.through paths.rounds paths.closure writing.items_bytes records.record_in file.header file.takes file.records file.read_file ends.edge ends.paths ends.live ends.dead ends.dead_states ends.has_dead entries.fresh_entry entries.malformed opens.open_checks opens.open_of
opened_filled = refl

opened_well_formed : opened_f.filled ≡ true → WellFormed opened_f
unfolding call_entry entry_after entries.fresh_entry
opened_well_formed = (list_claim fresh_entry refl (open_call F ∷ [])).well_formed

opened_passes : malformed opened_f ≡ false
opened_passes = not_T_false (malformed opened_f) (λ t. ((malformed_iff opened_f).0 t).1 (opened_well_formed opened_filled))

-- an offer to an entry that meets condition 9 nowhere
module _ (E : Entry) (f : List ℕ) (b : ℕ) (work word : List ℕ) where
  abbrev after_nine : Offer
  after_nine = offered E b work word (cond (not E.filled) (stopped 13) (on_read (read_file f) stopped (offer_vetting E b)))

  passes_nine : malformed E ≡ false → offer_of E f b work word ≡ after_nine
  unfolding offer_of offer_checks
  passes_nine e = rw e refl

computed : (after_nine opened_f G 1 (buffer 400) (buffer 4)).answer ≡ Taken 5 8
unfolding flat_map ranges.some ranges.those ranges.chained ranges.table ranges.largest automata.accepts automata.transition automata.targets automata.bare automata.with_accepting automata.with_transition automata.header_values paths.relation paths.through paths.rounds paths.closure writing.items_bytes records.record_in file.header file.takes file.records file.read_file ends.edge ends.paths ends.live ends.dead ends.dead_states ends.has_dead slots.same_list slots.same_vertex slots.all_zero graph.initial_counter graph.initial_vertex graph.counter graph.stepped graph.successor graph.successors walks.walk_of walks.slots_of walks.work_after walks.word_of slots.slot_bytes contain.comparing entries.fresh_entry entries.malformed entries.smaller opens.open_checks opens.open_of
computed = refl

pub offer_taken : (offer_of opened_f G 1 (buffer 400) (buffer 4)).answer ≡ Taken 5 8
offer_taken = ap (λ (o : Offer). o.answer) (passes_nine opened_f G 1 (buffer 400) (buffer 4) opened_passes) ∙ computed

pub offer_unrefused : None (offer_refusals opened_f G 1 (buffer 400) (buffer 4))
offer_unrefused = go (offer_effect opened_f G 1 (buffer 400) (buffer 4)) (ap is_taken offer_taken)
  where
    go : OfferEffect opened_f G 1 (buffer 400) (buffer 4) → is_taken (offer_of opened_f G 1 (buffer 400) (buffer 4)).answer ≡ true
        → None (offer_refusals opened_f G 1 (buffer 400) (buffer 4))
    go (takes_next B n e a) t = n.unrefused
    go (takes_none h e a) t = clash t a
