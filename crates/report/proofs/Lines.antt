-- The line of an offer's refusal; and a line that is written to the front of a buffer, or is not for want of room. Assumes nothing.
use mathlib.Core.Path.{◌≡◌, refl, sym, ap, subst, ◌∙◌}
use mathlib.Core.Bool.{true, false}
use mathlib.Core.List.{List, ◌++◌}
use Prim.Native.Nat.{ℕ}
use native.Mathlib.Nat.{zero-add}
use lib.Dec.{leb}
use lib.ListN.{length, drop}
use Rattle.std.specs.Prelude.{Some, None, Err}
use Rattle.history.specs.declared.Entry.{Entry}
use Rattle.history.specs.declared.OfferRefusal.{OfferRefusal}
use Rattle.history.specs.declared.OfferRow.{OfferRow}
use Rattle.history.specs.declared.OfferRow.TheVariants.{Refused, NoSlots, NoRoom}
use Rattle.history.specs.OfferAnswers.{offer_refusal_number, offer_answer_of, offer_row, row_number, row_answer}
use Rattle.buffers.specs.Buffers.{WrittenAt}
use Rattle.buffers.specs.Cursors.{Added}
use Rattle.buffers.specs.declared.Cursor.{Cursor}
use Rattle.report.specs.Line.{offer_line, refused_line, line_after, answered_length, Lined}
use Rattle.history.proofs.OfferRows.{row_numbered}
use Rattle.buffers.proofs.Buffers.{written_keeps_length}

-- a row's line is that of its number
pub row_shown : (E : Entry) (w : List ℕ) (r : OfferRow) → refused_line (row_number r) ≡ offer_line E (row_answer r) w
unfolding offer_line
row_shown E w (Refused n) = refl
row_shown E w (NoSlots i n) = refl
row_shown E w (NoRoom i len) = refl

-- and a refusal's that of its own number
pub refusal_shown : (E : Entry) (w : List ℕ) (r : OfferRefusal) → refused_line (offer_refusal_number r) ≡ offer_line E (offer_answer_of (Err r)) w
refusal_shown E w r = ap (λ (n : ℕ). refused_line n) (sym (row_numbered r)) ∙ row_shown E w (offer_row r)

-- the buffer has the bytes that are asked for, and the line is written to its front
pub line_written : (m : ℕ) {l d e : List ℕ} {r : ℕ} → true ≡ leb m (length d) → WrittenAt d 0 l e r → Lined m l d e (Some r)
unfolding line_after answered_length
line_written m {l} {d} h u = record {
  bytes = u.bytes ∙ ap (λ (k : ℕ). l ++ drop k d) (zero-add (length l)) ∙ rw (sym h);
  answer = ap Some (u.behind ∙ zero-add (length l)) ∙ rw (sym h);
  within = rw (written_keeps_length u) u.within;
}

-- the same by a cursor that begins at the front of the buffer, where the buffer ends as the cursor leaves it
pub line_added : (m : ℕ) {l b e : List ℕ} {c d : Cursor} → true ≡ leb m (length b) → c.out.now ≡ b → c.at ≡ 0 → Added c l d → e ≡ d.out.now
    → Lined m l b e (Some d.at)
line_added m {l} {c = c} {d = d} h o z u q =
    rw (q, sym o) (line_written m (rw o h) (subst (λ (k : ℕ). WrittenAt c.out.now k l d.out.now d.at) z u.written))

-- it has not
pub line_left : (m : ℕ) {l : List ℕ} (d : List ℕ) → false ≡ leb m (length d) → Lined m l d d None
unfolding line_after answered_length
line_left m d h = record { bytes = rw (sym h); answer = rw (sym h); within = tt }
