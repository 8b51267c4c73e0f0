-- The line of an offer (01, "Listing"): the outcome's name, the edition number, the states held and those of the first edition, how many
-- percent fewer that is, rounded with halves up, the counts of both walks, `-` for a walk that was not made, and for forward and back the
-- word, a space before each letter. A refusal's line has its number alone. Byte 0A ends every line.
--   offer_line E x w       the line of the answer x, with the entry E after the call and the letters w of the word
--   refused_line n         the line of refusal n
--   line_room w            the bytes that are asked for a line with the letters w: a number takes at most 20, a letter and its space 4
--   line_after m l d       a buffer d after the line l, for which m bytes are asked: the line in front and the rest as it was, or
--                          nothing written where d has fewer
--   answered_length m l d  the length that is answered: the line's, or none where nothing is written
--   Lined m l d e n        the buffer d is e after the line l, and n is the length that is answered, which is within the buffer
--   misuse_line x          the line of a misuse of the listing: `usage` where its input is not one byte, `long` where a file is too long
-- Shown by `taken_line` and `back_line`, the lines that 01 prints, and by the contract of `offer_line`. Assumes nothing.
use Rattle.std.specs.Prelude.{◌≡◌, cond, List, [], ◌∷◌, ◌++◌, ℕ, ◌+◌, ◌*◌, ◌≤◌, leb, length, drop, Option, Some, None, IfSome}
use Rattle.text.specs.Text.{decimal, percent_saved, space, letters}
use Rattle.history.specs.declared.Entry.{Entry}
use Rattle.history.specs.OfferAnswers.{OfferAnswer}
use Rattle.history.specs.OfferAnswers.{Taken, Forward, Back, Refused, NoSlots, NoRoom}
use Rattle.report.specs.declared.Misuse.{Misuse}
use Rattle.report.specs.declared.Misuse.TheVariants.{Usage, Long}

abbrev pub newline : List ℕ
newline = 0x0a ∷ []

-- "taken", "forward", "back", "refused", "usage", "long"
abbrev pub taken_text : List ℕ
taken_text = 0x74 ∷ 0x61 ∷ 0x6b ∷ 0x65 ∷ 0x6e ∷ []

abbrev pub forward_text : List ℕ
forward_text = 0x66 ∷ 0x6f ∷ 0x72 ∷ 0x77 ∷ 0x61 ∷ 0x72 ∷ 0x64 ∷ []

abbrev pub back_text : List ℕ
back_text = 0x62 ∷ 0x61 ∷ 0x63 ∷ 0x6b ∷ []

abbrev pub refused_text : List ℕ
refused_text = 0x72 ∷ 0x65 ∷ 0x66 ∷ 0x75 ∷ 0x73 ∷ 0x65 ∷ 0x64 ∷ []

abbrev pub usage_text : List ℕ
usage_text = 0x75 ∷ 0x73 ∷ 0x61 ∷ 0x67 ∷ 0x65 ∷ []

abbrev pub long_text : List ℕ
long_text = 0x6c ∷ 0x6f ∷ 0x6e ∷ 0x67 ∷ []

-- " states ", " of ", " saved ", " walks ", " word"
abbrev pub states_text : List ℕ
states_text = 0x20 ∷ 0x73 ∷ 0x74 ∷ 0x61 ∷ 0x74 ∷ 0x65 ∷ 0x73 ∷ 0x20 ∷ []

abbrev pub of_text : List ℕ
of_text = 0x20 ∷ 0x6f ∷ 0x66 ∷ 0x20 ∷ []

abbrev pub saved_text : List ℕ
saved_text = 0x20 ∷ 0x73 ∷ 0x61 ∷ 0x76 ∷ 0x65 ∷ 0x64 ∷ 0x20 ∷ []

abbrev pub walks_text : List ℕ
walks_text = 0x20 ∷ 0x77 ∷ 0x61 ∷ 0x6c ∷ 0x6b ∷ 0x73 ∷ 0x20 ∷ []

abbrev pub word_text : List ℕ
word_text = 0x20 ∷ 0x77 ∷ 0x6f ∷ 0x72 ∷ 0x64 ∷ []

-- for a walk that was not made
abbrev pub no_walk : List ℕ
no_walk = 0x2d ∷ []

-- " edition states held of first saved percent walks "
unfoldable pub fields : Entry → List ℕ
fields E =
    space ++ decimal E.edition
    ++ states_text ++ decimal E.held.states
    ++ of_text ++ decimal E.first
    ++ saved_text ++ decimal (percent_saved E.first E.held.states)
    ++ walks_text

unfoldable pub refused_line : ℕ → List ℕ
refused_line n = refused_text ++ space ++ decimal n ++ newline

unfoldable pub offer_line : Entry → OfferAnswer → List ℕ → List ℕ
offer_line E (Taken m n) w = taken_text ++ fields E ++ decimal m ++ space ++ decimal n ++ newline
offer_line E (Forward m len) w = forward_text ++ fields E ++ decimal m ++ space ++ no_walk ++ word_text ++ letters w ++ newline
offer_line E (Back m n len) w = back_text ++ fields E ++ decimal m ++ space ++ decimal n ++ word_text ++ letters w ++ newline
offer_line E (Refused n) w = refused_line n
offer_line E (NoSlots i n) w = refused_line 10
offer_line E (NoRoom i len) w = refused_line 11

abbrev pub misuse_line : Misuse → List ℕ
misuse_line Usage = usage_text ++ newline
misuse_line Long = long_text ++ newline

abbrev pub line_room : List ℕ → ℕ
line_room w = 256 + 4 * length w

unfoldable pub line_after : ℕ → List ℕ → List ℕ → List ℕ
line_after m l d = cond (leb m (length d)) (l ++ drop (length l) d) d

unfoldable pub answered_length : ℕ → List ℕ → List ℕ → Option ℕ
answered_length m l d = cond (leb m (length d)) (Some (length l)) None

pub record Lined (m : ℕ) (l d e : List ℕ) (n : Option ℕ) : Type 0 where
  pub bytes : e ≡ line_after m l d
  pub answer : n ≡ answered_length m l d
  pub within : IfSome n (λ k. k ≤ length e)
