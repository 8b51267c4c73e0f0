-- Answer, work buffer and word buffer of an offer that passes the checks, read off its two walks: the back walk has as many slots and as
-- much room as the forward one, since a walk that comes to no final vertex keeps the lengths of both buffers. By cases on the walks.
-- Assumes nothing.
use mathlib.Core.Path.{◌≡◌, refl}
use mathlib.Core.Bool.{Bool, true, false, cond}
use mathlib.Core.List.{List}
use Prim.Native.Nat.{ℕ, ◌<◌}
use lib.Dec.{leb}
use lib.ListN.{length}
use Rattle.automaton.specs.declared.Automaton.{Automaton}
use Rattle.slots.specs.declared.Vertex.{Vertex}
use Rattle.slots.specs.Slots.{slot_count}
use Rattle.graph.specs.Discovery.{Walk, going, ended, full}
use Rattle.graph.specs.Walks.{walk_of, work_after, word_of}
use Rattle.graph.proofs.WorkBuffers.{work_length_kept}
use Rattle.answers.specs.Outcomes.{Comparison}
use Rattle.answers.specs.Outcomes.{Differs, NoRoom as Roomless}
use Rattle.answers.specs.Contain.{walk_word, comparing}
use Rattle.history.specs.OfferAnswers.{OfferAnswer}
use Rattle.history.specs.OfferAnswers.{Taken, Forward, Back, NoSlots, NoRoom}
use Rattle.history.specs.Offers.{back_answer, offer_answer, last_made, walks_of, walks_answer, walks_work, walks_word}

-- the answer x where a word of so many letters has room, else refusal 11 of the walk
abbrev pub fitting : ℕ → ℕ → ℕ → OfferAnswer → OfferAnswer
fitting walk room len x = cond (leb len room) x (NoRoom walk len)

-- by the back walk, after a forward walk of so many vertices
abbrev pub back_by : Automaton → Automaton → ℕ → ℕ → ℕ → ℕ → Walk Vertex → OfferAnswer
back_by H B b S room count (going ms) = Taken count (length ms)
back_by H B b S room count (ended ms m) =
    fitting 2 room (length (word_of B H b ms m)) (Back count (length ms) (length (word_of B H b ms m)))
back_by H B b S room count (full ms) = NoSlots 2 S

-- by both walks
abbrev pub answer_by : Automaton → Automaton → ℕ → ℕ → ℕ → Walk Vertex → Walk Vertex → OfferAnswer
answer_by H B b S room (going ns) back = back_by H B b S room (length ns) back
answer_by H B b S room (ended ns n) back =
    fitting 1 room (length (word_of H B b ns n)) (Forward (length ns) (length (word_of H B b ns n)))
answer_by H B b S room (full ns) back = NoSlots 1 S

abbrev pub work_by : List ℕ → Walk Vertex → Walk Vertex → List ℕ
work_by work (going ns) back = work_after (work_after work (going ns)) back
work_by work (ended ns n) back = work_after work (ended ns n)
work_by work (full ns) back = work_after work (full ns)

abbrev pub word_by : Automaton → Automaton → ℕ → List ℕ → Walk Vertex → Walk Vertex → List ℕ
word_by H B b word (going ns) back = walk_word B H b back word
word_by H B b word (ended ns n) back = walk_word H B b (ended ns n) word
word_by H B b word (full ns) back = word

-- the two cases of a word
forward_fits : (c : Bool) (place len : ℕ) (y : Comparison)
    → offer_answer (cond c (Differs place len) (Roomless len)) y ≡ cond c (Forward place len) (NoRoom 1 len)
forward_fits true place len y = refl
forward_fits false place len y = refl

back_fits : (c : Bool) (count place len : ℕ)
    → back_answer count (cond c (Differs place len) (Roomless len)) ≡ cond c (Back count place len) (NoRoom 2 len)
back_fits true count place len = refl
back_fits false count place len = refl

forward_left : (c : Bool) (place len : ℕ) (one two : List ℕ) → last_made (cond c (Differs place len) (Roomless len)) one two ≡ one
forward_left true place len one two = refl
forward_left false place len one two = refl

module _ (H B : Automaton) (b : ℕ) (work word : List ℕ) (inside : H.initial < H.states) where
  abbrev slots : ℕ
  slots = slot_count (length work)

  pub record Settled (w back : Walk Vertex) : Type 0 where
    pub answer : walks_answer (walks_of H B b work word) ≡ answer_by H B b slots (length word) w back
    pub work_left : walks_work (walks_of H B b work word) ≡ work_by work w back
    pub word_left : walks_word (walks_of H B b work word) ≡ word_by H B b word w back

  -- after containment the second walk begins with buffers of the same lengths
  pub walks_settled : (w back : Walk Vertex) → walk_of H B b slots ≡ w → walk_of B H b slots ≡ back → Settled w back
  unfolding comparing
  walks_settled (going ns) (going ms) d e =
      let l = work_length_kept H B b work ns inside d in
      record { answer = rw (d, l, e) refl; work_left = rw (d, l, e) refl; word_left = rw (d, l, e) refl }
  walks_settled (going ns) (ended ms m) d e =
      let l = work_length_kept H B b work ns inside d in
      let len = length (word_of B H b ms m) in
      record {
        answer = rw (d, l, e) (back_fits (leb len (length word)) (length ns) (length ms) len);
        work_left = rw (d, l, e) refl;
        word_left = rw (d, l, e) refl;
      }
  walks_settled (going ns) (full ms) d e =
      let l = work_length_kept H B b work ns inside d in
      record { answer = rw (d, l, e) refl; work_left = rw (d, l, e) refl; word_left = rw (d, l, e) refl }
  walks_settled (ended ns n) back d e =
      let len = length (word_of H B b ns n) in
      record {
        answer = rw d (forward_fits (leb len (length word)) (length ns) len _);
        work_left = rw d (forward_left (leb len (length word)) (length ns) len _ _);
        word_left = rw d (forward_left (leb len (length word)) (length ns) len _ _);
      }
  walks_settled (full ns) back d e = record { answer = rw d refl; work_left = rw d refl; word_left = rw d refl }
