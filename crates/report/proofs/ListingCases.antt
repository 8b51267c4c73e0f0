-- The line of the offer that the listing makes, and a written line where more room is asked for. Assumes nothing.
use mathlib.Core.Path.{◌≡◌, refl, sym, ap, subst, ◌∙◌}
use mathlib.Core.Bool.{true}
use mathlib.Core.List.{List, ◌++◌}
use Prim.Native.Nat.{ℕ, ◌+◌, ◌*◌, ◌≤◌}
use native.Mathlib.Omega.{arith}
use borrow.Author.Tests.{le-leb}
use lib.Dec.{leb}
use lib.ListN.{length, drop, take, replicate, length-replicate}
use lib.Seq.{length-take-le}
use Rattle.std.specs.Prelude.{Option, Some}
use Rattle.history.proofs.OfferBuffers.{offer_part_le}
use Rattle.history.specs.declared.Entry.{Entry}
use Rattle.history.specs.OfferAnswers.{OfferAnswer}
use Rattle.history.specs.Offers.{Offer, offer_of, offer_part, part_length}
use Rattle.buffers.specs.Buffers.{WrittenAt}
use Rattle.buffers.proofs.Buffers.{written_as}
use Rattle.report.specs.Line.{offer_line, line_after, answered_length, line_room, Lined}
use Rattle.report.specs.Listing.{work_bytes, word_bytes, offer_listing}

-- the same line, where more room is asked for and is there
pub lined_more : {m k : ℕ} {l d e : List ℕ} {n : Option ℕ} → m ≤ k → k ≤ length d → Lined m l d e n → Lined k l d e n
unfolding line_after answered_length
lined_more {m} {k} {l} {d} {e} {n} h r u =
    let less : leb m (length d) ≡ true = le-leb m (length d) (omega (arith, h, r)) in
    let more : leb k (length d) ≡ true = le-leb k (length d) r in
    let bytes : e ≡ l ++ drop (length l) d = u.bytes ∙ rw less in
    let answer : n ≡ Some (length l) = u.answer ∙ rw less in
    record { bytes = bytes ∙ rw more; answer = answer ∙ rw more; within = u.within }

-- the line by another name
pub lined_as : {m : ℕ} {l k d e : List ℕ} {n : Option ℕ} → l ≡ k → Lined m l d e n → Lined m k d e n
lined_as {m} {l} {k} {d} {e} {n} q u = subst (λ (x : List ℕ). Lined m x d e n) q u

pub answer_written : {d e : List ℕ} {r : ℕ} (E : Entry) (w : List ℕ) {x y : OfferAnswer} → x ≡ y
    → WrittenAt d 0 (offer_line E y w) e r → WrittenAt d 0 (offer_line E x w) e r
answer_written E w q u = written_as (ap (λ (x : OfferAnswer). offer_line E x w) (sym q)) u

-- the offer of the listing, with buffers of zeros
abbrev offer_made : Entry → List ℕ → ℕ → Offer
offer_made E offer b = offer_of E offer b (replicate work_bytes 0) (replicate word_bytes 0)

-- the line of an offer's answer and entry, and of the front of the word buffer that it leaves
pub listing_offered : (E : Entry) (offer : List ℕ) (b : ℕ) {x : OfferAnswer} {F : Entry} {word part : List ℕ} → x ≡ (offer_made E offer b).answer
    → F ≡ (offer_made E offer b).entry → word ≡ (offer_made E offer b).word → part ≡ take (part_length x) word
    → offer_listing E offer b ≡ offer_line F x part
unfolding offer_listing offer_part
listing_offered E offer b d e w p = rw (p, d, e, w) refl

-- the written part of the word buffer stands in it
pub part_le : (E : Entry) (offer : List ℕ) (b : ℕ) (x : OfferAnswer) → x ≡ (offer_made E offer b).answer → part_length x ≤ word_bytes
part_le E offer b x d =
    subst (λ (y : OfferAnswer). part_length y ≤ word_bytes) (sym d)
    (subst (λ (k : ℕ). part_length (offer_made E offer b).answer ≤ k) (length-replicate {A = ℕ} word_bytes 0)
    (offer_part_le E offer b (replicate work_bytes 0) (replicate word_bytes 0)))

-- the room that is asked for its line
pub part_room : (E : Entry) (offer : List ℕ) (b : ℕ) (x : OfferAnswer) (word part : List ℕ) → x ≡ (offer_made E offer b).answer
    → length word ≡ word_bytes → part ≡ take (part_length x) word → line_room part ≤ 256 + 4 * word_bytes
part_room E offer b x word part d long p =
    let h = part_le E offer b x d in omega (arith, h, ap length p, length-take-le (part_length x) word (omega (arith, h, long)))
