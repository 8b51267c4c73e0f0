-- An offer is answered "taken" exactly where the file's automaton is a next edition, which the entry holds then: read off the table of
-- offer's answers, where the discovery lists that fit decide both containments. Assumes nothing.
use mathlib.Core.Path.{◌≡◌, refl, ap, subst, ◌∙◌}
use mathlib.Core.Bool.{Bool, true, false, cond}
use mathlib.Core.Logic.{◌⊎◌, inl, inr}
use mathlib.Core.List.{List}
use Prim.Native.Nat.{ℕ}
use Rattle.automaton.specs.declared.Automaton.{Automaton}
use Rattle.automaton.specs.Automata.{InRange}
use Rattle.runs.specs.Containment.{Contained}
use Rattle.format.specs.File.{holds, read_file}
use Rattle.format.proofs.FileLaws.{file_in_range, read_same}
use Rattle.slots.specs.declared.Vertex.{Vertex}
use Rattle.graph.specs.Discovery.{Node}
use Rattle.graph.proofs.WalkTheorem.{walk_ended, list_contained, walk_decides_difference}
use Rattle.answers.specs.Table.{Final, Whole}
use Rattle.checks.specs.Checks.{First, None}
use Rattle.checks.proofs.ChecksLaws.{also, none_first, first_append_cases, first_every}
use Rattle.history.specs.declared.Entry.{Entry}
use Rattle.history.specs.OfferAnswers.{OfferAnswer}
use Rattle.history.specs.OfferAnswers.{Refused}
use Rattle.history.specs.Offers.{offer_of, next_edition, is_taken}
use Rattle.history.specs.Tables.{offer_refusals, offer_outcomes, offer_rows}
use Rattle.history.specs.Account.{NextEdition}
use Rattle.history.proofs.EntryEffects.{offer_entry, offer_keeps}
use Rattle.history.proofs.EntryLaws.{well_formed_stable}
use Rattle.history.proofs.OfferTable.{offer_table}

not_false_true : (c : Bool) → (c ≡ false → ⊥) → c ≡ true
not_false_true true h = refl
not_false_true false h = absurd (h refl)

-- what the discovery list of A and B says, where it fits the slots
module _ {A B : Automaton} {b S : ℕ} (i : InRange B) where
  whole_contained : {P : List (Node Vertex) → Type 0} → Whole A B b S P → Contained A B b
  whole_contained w = list_contained A B b S i.few_states i.initial_below w.nodes w.fits

  final_not_contained : {P : List (Node Vertex) → Node Vertex → Type 0} → Final A B b S P → Contained A B b → ⊥
  final_not_contained w =
      let e = (walk_ended A B b S w.nodes w.last).1 w.fits in
      ((walk_decides_difference A B b S i.few_states i.initial_below).0 (w.nodes, w.last, e)).1

module _ (E : Entry) (f : List ℕ) (b : ℕ) (work word : List ℕ) where
  -- no refusal's answer is "taken"
  pub refusal_not_taken : (x : OfferAnswer) → First (offer_refusals E f b work word) x → is_taken x ≡ false
  refusal_not_taken =
      first_every (λ y. is_taken y ≡ false) (offer_refusals E f b work word)
      (also (λ y p. ap is_taken p.1)
      (also (λ y p. ap is_taken p.1)
      (also (λ y p. ap is_taken p.2)
      (also (λ y p. ap is_taken p.1)
      (also (λ y p. ap is_taken p.1)
      (also (λ y p. ap is_taken p.1)
      (also (λ y p. ap is_taken p.1)
      (also (λ y p. ap is_taken p.1)
      (also (λ y p. ap is_taken p.2)
      (also (λ y p. ap is_taken p.1)
      (also (λ y p. ap is_taken p.2)
      tt)))))))))))

  -- where no refusal applies, the entry is open and its automaton in range
  unrefused_filled : None (offer_refusals E f b work word) → E.filled ≡ true
  unrefused_filled n = not_false_true E.filled (λ e. n.1.0 (Refused 13) (e, refl))

  unrefused_in_range : None (offer_refusals E f b work word) → InRange E.held
  unrefused_in_range n = (well_formed_stable E (λ w. n.0 (Refused 9) ((unrefused_filled n, w), refl))).in_range

  -- what an answer says
  pub data Answered : OfferAnswer → Type 0 where
    refuses : {x : OfferAnswer} → First (offer_refusals E f b work word) x → Answered x
    takes : {x : OfferAnswer} (B : Automaton) → is_taken x ≡ true → NextEdition E f b work word B → Answered x
    differs : {x : OfferAnswer} (B : Automaton) → is_taken x ≡ false → read_file f ≡ holds B → None (offer_refusals E f b work word)
        → (Contained E.held B b → Contained B E.held b → ⊥) → Answered x

  answered : (x : OfferAnswer) → First (offer_rows E f b work word) x → Answered x
  answered x h = go (first_append_cases (offer_refusals E f b work word) (offer_outcomes E f b work word) x h)
    where
      outcome : None (offer_refusals E f b work word) → First (offer_outcomes E f b work word) x → Answered x
      outcome n (inl p) =
          let q = p.2 in
          differs q.automaton (ap is_taken p.3) q.read n
          (λ forward back. final_not_contained (file_in_range f q.automaton q.read) q.condition forward)
      outcome n (inr (_, inl p)) =
          let q = p.3 in
          differs q.automaton (ap is_taken p.4) q.read n
          (λ forward back. final_not_contained (unrefused_in_range n) q.condition.1 back)
      outcome n (inr (_, inr (_, inl p))) =
          let q = p.2 in
          takes q.automaton (ap is_taken p.3)
          (record {
            read = q.read;
            unrefused = n;
            forward = whole_contained (file_in_range f q.automaton q.read) q.condition.0;
            back = whole_contained (unrefused_in_range n) q.condition.1;
          })
      outcome n (inr (_, inr (_, inr z))) = absurd z.1

      go : First (offer_refusals E f b work word) x ⊎ (None (offer_refusals E f b work word) × First (offer_outcomes E f b work word) x)
          → Answered x
      go (inl r) = refuses r
      go (inr r) = outcome r.0 r.1

  pub offer_answered : Answered (offer_of E f b work word).answer
  offer_answered = answered (offer_of E f b work word).answer ((offer_table E f b work word (offer_of E f b work word).answer).0 refl)

  -- an offer takes a next edition, or there is none and the entry stays
  pub data OfferEffect : Type 0 where
    takes_next : (B : Automaton) → NextEdition E f b work word B → (offer_of E f b work word).entry ≡ next_edition E B
        → is_taken (offer_of E f b work word).answer ≡ true → OfferEffect
    takes_none : ((B : Automaton) → NextEdition E f b work word B → ⊥) → (offer_of E f b work word).entry ≡ E
        → is_taken (offer_of E f b work word).answer ≡ false → OfferEffect

  pub offer_effect : OfferEffect
  offer_effect = go offer_answered
    where
      go : Answered (offer_of E f b work word).answer → OfferEffect
      go (refuses r) =
          let e = refusal_not_taken (offer_of E f b work word).answer r in
          takes_none
          (λ B n. none_first (offer_refusals E f b work word) (offer_of E f b work word).answer n.unrefused r)
          (offer_keeps E f b work word e)
          e
      go (takes B e n) =
          takes_next B n (offer_entry E f b work word B n.read ∙ ap (λ (c : Bool). cond c (next_edition E B) E) e) e
      go (differs B e r u d) =
          takes_none
          (λ C n.
          let s = read_same n.read r in
          d (subst (λ (X : Automaton). Contained E.held X b) s n.forward)
          (subst (λ (X : Automaton). Contained X E.held b) s n.back))
          (offer_keeps E f b work word e)
          e
