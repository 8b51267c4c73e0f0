-- A line is no longer than the room that is asked for it: a number of a machine word has at most 20 digits, a letter at most 3.
-- Assumes nothing.
use mathlib.Core.List.{List, [], ◌∷◌}
use Prim.Native.Nat.{ℕ, zero, suc, ◌+◌, ◌-◌, ◌*◌, ◌^◌, ◌≤◌, ◌<◌}
use native.Mathlib.Nat.{div-zero, div-lt_iff_lt-mul}
use native.Mathlib.Omega.{arith}
use lib.ListN.{length, length-append}
use Rattle.std.specs.List.{All}
use Rattle.std.proofs.lemmas.List.Elements.{All-tail}
use Rattle.history.specs.declared.Entry.{Entry}
use Rattle.history.specs.OfferAnswers.{OfferAnswer}
use Rattle.history.specs.OfferAnswers.{Taken, Forward, Back, Refused, NoSlots, NoRoom}
use Rattle.text.specs.Text.{decimal, percent_saved, letters}
use Rattle.report.specs.Line.{fields, refused_line, offer_line, line_room}
use Rattle.text.proofs.Decimals.{decimal_length}

-- a number of a machine word
abbrev pub Word : ℕ → Type 0
Word n = n < 2 ^ 64

-- the numbers that the line shows are those of machine words
pub record WordEntry (E : Entry) : Type 0 where
  pub edition : Word E.edition
  pub states : Word E.held.states
  pub first : Word E.first

abbrev pub WordAnswer : OfferAnswer → Type 0
WordAnswer (Taken m n) = Word m × Word n
WordAnswer (Forward m len) = Word m
WordAnswer (Back m n len) = Word m × Word n
WordAnswer (Refused n) = Word n
WordAnswer (NoSlots i n) = Unit
WordAnswer (NoRoom i len) = Unit

number_length : (n : ℕ) → Word n → length (decimal n) ≤ 20
number_length n h = decimal_length 19 n (omega arith)

percent_at_most : (first held : ℕ) → percent_saved first held < 101
unfolding percent_saved
percent_at_most zero held = omega (arith, div-zero (200 * (0 - held) + 0))
percent_at_most (suc f) held =
    (div-lt_iff_lt-mul {k = 2 * suc f} {x = 200 * (suc f - held) + suc f} {y = 101} (omega arith)).1 (omega arith)

fields_length : (E : Entry) → WordEntry E → length (fields E) ≤ 107
unfolding fields
fields_length E h =
    let p = percent_saved E.first E.held.states in
    let small = percent_at_most E.first E.held.states in
    let a = number_length E.edition h.edition in
    let b = number_length E.held.states h.states in
    let c = number_length E.first h.first in
    let d = number_length p (omega arith) in
    simp length-append (omega arith)

letters_length : (w : List ℕ) → All (λ a. a < 256) w → length (letters w) ≤ 4 * length w
unfolding letters
letters_length [] h = omega arith
letters_length (a ∷ w) h =
    let byte : a < 256 = h 0 0 (omega arith) in
    let first = decimal_length 2 a (omega (arith, byte)) in
    let rest = letters_length w (All-tail (λ x. x < 256) a w h) in
    simp length-append (omega arith)

refused_length : (n : ℕ) → Word n → length (refused_line n) ≤ 29
unfolding refused_line
refused_length n h = let a = number_length n h in simp length-append (omega arith)

pub offer_line_fits : (E : Entry) (x : OfferAnswer) (w : List ℕ) → WordEntry E → WordAnswer x → All (λ a. a < 256) w
    → length (offer_line E x w) ≤ line_room w
unfolding offer_line
offer_line_fits E (Taken m n) w e a b =
    let f = fields_length E e in
    let c = number_length m a.0 in
    let d = number_length n a.1 in
    simp length-append (omega arith)
offer_line_fits E (Forward m len) w e a b =
    let f = fields_length E e in
    let c = number_length m a in
    let l = letters_length w b in
    simp length-append (omega arith)
offer_line_fits E (Back m n len) w e a b =
    let f = fields_length E e in
    let c = number_length m a.0 in
    let d = number_length n a.1 in
    let l = letters_length w b in
    simp length-append (omega arith)
offer_line_fits E (Refused n) w e a b = let r = refused_length n a in omega arith
offer_line_fits E (NoSlots i n) w e a b = let r = refused_length 10 (omega arith) in omega arith
offer_line_fits E (NoRoom i len) w e a b = let r = refused_length 11 (omega arith) in omega arith
