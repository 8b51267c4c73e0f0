-- Demand 1 of offer: each answer stands in one row of the table, and it is given exactly when that row's condition holds and no earlier
-- row's does; every refusal has a number of offer's list, and 10 and 11 name one of the two walks. Assumes nothing.
use mathlib.Core.Path.{◌≡◌, refl, sym, ap, subst, ◌∙◌}
use mathlib.Core.Bool.{Bool, cond}
use mathlib.Core.Logic.{◌↔◌}
use mathlib.Core.List.{List}
use Prim.Native.Nat.{ℕ, ◌≤◌}
use native.Mathlib.Nat.{le_trans}
use native.Mathlib.Omega.{arith}
use borrow.Author.Tests.{le-leb}
use lib.Dec.{eqb}
use lib.ListN.{length, take}
use Rattle.format.proofs.FileLaws.{file_refusals}
use Rattle.checks.proofs.FileRows.{refused_read}
use Rattle.slots.specs.Slots.{slot_count}
use Rattle.automaton.specs.declared.Automaton.{Automaton}
use Rattle.slots.specs.declared.Vertex.{Vertex}
use Rattle.graph.specs.Discovery.{Node}
use Rattle.graph.specs.Walks.{word_of}
use Rattle.graph.proofs.WalkTheorem.{list_word_length}
use Rattle.answers.specs.Table.{Final, FinalAt, NoneFinal}
use Rattle.checks.specs.Checks.{None, At}
use Rattle.checks.proofs.ChecksLaws.{also, Every, first_every, Placed, first_at}
use Rattle.history.specs.declared.Entry.{Entry}
use Rattle.history.specs.OfferAnswers.{OfferAnswer}
use Rattle.history.specs.OfferAnswers.{Refused}
use Rattle.history.specs.Offers.{offer_of}
use Rattle.history.specs.Tables.{offer_rows, offer_place}
use Rattle.history.specs.OfferDemand.{malformed_entry, empty_entry, bad_file, bad_bound, other_letters, dead_state, not_smaller, forward_walk, back_walk, OfferListed}
use Rattle.history.proofs.OfferTable.{offer_table}

file_place : (n : ℕ) → n ≤ 5 → offer_place (Refused n) ≡ 2
file_place n h =
    ap (λ (c : Bool). cond c 2
    (cond (eqb n 9) 0 (cond (eqb n 13) 1 (cond (eqb n 8) 3 (cond (eqb n 7) 4 (cond (eqb n 6) 5 6)))))) (le-leb n 5 h)

-- a word is no longer than the place of its final vertex
module _ {A B : Automaton} {b S : ℕ} {P : List (Node Vertex) → Node Vertex → Type 0} (w : Final A B b S P) where
  word_below : length (word_of A B b w.nodes w.last) ≤ length w.nodes
  word_below = list_word_length A B b S w.nodes w.last w.fits

  word_short : length (word_of A B b w.nodes w.last) ≤ S
  word_short = le_trans word_below w.fits.room

module _ {A B : Automaton} {b S : ℕ} where
  final_place : {i len : ℕ} → FinalAt A B b S i len → i ≤ S
  final_place w = omega (arith, w.condition.0, w.fits.room)

  final_length : {i len : ℕ} → FinalAt A B b S i len → len ≤ i
  final_length w = omega (arith, w.condition.0, w.condition.1, word_below w)

  whole_count : {n : ℕ} → NoneFinal A B b S n → n ≤ S
  whole_count w = omega (arith, w.condition, w.fits.room)

module _ (E : Entry) (f : List ℕ) (b : ℕ) (work word : List ℕ) where
  offer_placed : Placed offer_place 0 (offer_rows E f b work word)
  offer_placed =
      also (λ x p. ap offer_place p.1)
      (also (λ x p. ap offer_place p.1)
      (also (λ x p. ap offer_place p.2 ∙ file_place p.0 (file_refusals f p.0 (refused_read p.1)).1)
      (also (λ x p. ap offer_place p.1)
      (also (λ x p. ap offer_place p.1)
      (also (λ x p. ap offer_place p.1)
      (also (λ x p. ap offer_place p.1)
      (also (λ x p. ap offer_place p.1)
      (also (λ x p. ap offer_place p.2)
      (also (λ x p. ap offer_place p.1)
      (also (λ x p. ap offer_place p.2)
      (also (λ x p. ap offer_place p.3)
      (also (λ x p. ap offer_place p.4)
      (also (λ x p. ap offer_place p.3)
      tt)))))))))))))

  -- offer answers x exactly when the condition of x's row holds and no earlier row's does
  pub offer_answer_lem : (x : OfferAnswer)
      → ((offer_of E f b work word).answer ≡ x)
      ↔ (None (take (offer_place x) (offer_rows E f b work word)) × At (offer_place x) (offer_rows E f b work word) x)
  offer_answer_lem x =
      let t = offer_table E f b work word x in
      let a = first_at offer_place (offer_rows E f b work word) offer_placed x in
      (λ e. a.0 (t.0 e), λ p. t.1 (a.1 p))

  abbrev ListedHere : OfferAnswer → Type 0
  ListedHere = OfferListed (slot_count (length work)) (length word)

  offer_listed : Every ListedHere (offer_rows E f b work word)
  offer_listed =
      also (λ x p. subst ListedHere (sym p.1) malformed_entry)
      (also (λ x p. subst ListedHere (sym p.1) empty_entry)
      (also (λ x p. let h = file_refusals f p.0 (refused_read p.1) in subst ListedHere (sym p.2) (bad_file h.0 h.1))
      (also (λ x p. subst ListedHere (sym p.1) bad_bound)
      (also (λ x p. subst ListedHere (sym p.1) other_letters)
      (also (λ x p. subst ListedHere (sym p.1) dead_state)
      (also (λ x p. subst ListedHere (sym p.1) not_smaller)
      (also (λ x p. subst ListedHere (sym p.1) (forward_walk, refl))
      (also (λ x p.
      let c = p.1.condition in
      subst ListedHere (sym p.2) (forward_walk, c.condition.1, omega (arith, c.condition.0, word_short c)))
      (also (λ x p. subst ListedHere (sym p.1) (back_walk, refl))
      (also (λ x p.
      let c = p.1.condition.condition in
      subst ListedHere (sym p.2) (back_walk, c.condition.1, omega (arith, c.condition.0, word_short c)))
      (also (λ x p.
      let c = p.2.condition in
      subst ListedHere (sym p.3) (final_place c, final_length c))
      (also (λ x p.
      let c = p.3.condition in
      subst ListedHere (sym p.4) (whole_count c.0, final_place c.1, final_length c.1))
      (also (λ x p.
      let c = p.2.condition in
      subst ListedHere (sym p.3) (whole_count c.0, whole_count c.1))
      tt)))))))))))))

  -- every answer is an outcome or a number of offer's list
  pub offer_numbers : OfferListed (slot_count (length work)) (length word) (offer_of E f b work word).answer
  offer_numbers =
      first_every ListedHere (offer_rows E f b work word) offer_listed (offer_of E f b work word).answer
      ((offer_table E f b work word (offer_of E f b work word).answer).0 refl)
