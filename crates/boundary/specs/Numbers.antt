-- The numbers that vendors get for the answers of contain, open, offer and verdict (01, "Contain"; docs/reference.md, "The boundary for vendors"), and of
-- a call that writes a file, from a file or a Hanoi text (02, S-1 and S-2).
--   outcome_number  kind + 2^8 count + 2^24 length; kind 0 contained, 1 differs, 100 + n refusal n; the count of 1-6 is the file's number,
--                   that of 10 the slots; the length of 11 is what the word needs; a part that an answer lacks is 0
--   open_number     0 opened, 100 plus a refusal's number
--   offer_number    kind + 2^8 forward count + 2^24 back count + 2^40 word length + 2^56 walk; kind 0 taken, 1 forward, 2 back,
--                   100 + n refusal n; the walk is 1 or 2 with refusals 10 and 11; the count of 10 is the slots, at its walk's
--                   place; the length of 11 is what the word needs; a part that an answer lacks is 0
--   verdict_number  0 no, 1 yes, 100 plus a refusal's number
--   write_number    kind + 2^8 length; kind 0 written, 100 + n refusal n, 116 with the length needed
-- Shown by `contain_number`, `open_number_lem`, `offer_number_lem`, `verdict_number_lem`, `write_number_lem` and `hanoi_number`. Assumes nothing.
use Rattle.std.specs.Prelude.{ℕ, ◌+◌, ◌*◌, ◌^◌, eqb, cond}
use Rattle.answers.specs.Outcomes.{Contained, Differs, NoSlots as Unslotted, NoRoom as Roomless}
use Rattle.answers.specs.Outcomes.{Outcome}
use Rattle.answers.specs.Outcomes.{Refused as Stopped, Compared}
use Rattle.fixed_form.specs.WriteAnswers.{WriteAnswer}
use Rattle.fixed_form.specs.WriteAnswers.{Wrote, Refused as WriteRefused, NoRoom as WriteRoomless}
use Rattle.history.specs.OpenAnswers.{OpenAnswer}
use Rattle.history.specs.OpenAnswers.{Opened, Refused as OpenRefused}
use Rattle.history.specs.OfferAnswers.{OfferAnswer}
use Rattle.history.specs.OfferAnswers.{Taken, Forward, Back, Refused, NoSlots, NoRoom}
use Rattle.history.specs.VerdictAnswers.{VerdictAnswer}
use Rattle.history.specs.VerdictAnswers.{Yes, No, Refused as VerdictRefused}

abbrev pub packed : ℕ → ℕ → ℕ → ℕ
packed kind count len = kind + 256 * count + 16777216 * len

abbrev pub outcome_number : Outcome → ℕ
outcome_number (Compared (Contained n)) = packed 0 n 0
outcome_number (Compared (Differs i len)) = packed 1 i len
outcome_number (Stopped n file) = packed (100 + n) file 0
outcome_number (Compared (Unslotted n)) = packed 110 n 0
outcome_number (Compared (Roomless len)) = packed 111 0 len

abbrev pub open_number : OpenAnswer → ℕ
open_number Opened = 0
open_number (OpenRefused n) = 100 + n

abbrev pub packed_offer : ℕ → ℕ → ℕ → ℕ → ℕ → ℕ
packed_offer kind forward back len walk = kind + 2 ^ 8 * forward + 2 ^ 24 * back + 2 ^ 40 * len + 2 ^ 56 * walk

abbrev pub offer_number : OfferAnswer → ℕ
offer_number (Taken m n) = packed_offer 0 m n 0 0
offer_number (Forward m len) = packed_offer 1 m 0 len 0
offer_number (Back m n len) = packed_offer 2 m n len 0
offer_number (Refused n) = packed_offer (100 + n) 0 0 0 0
offer_number (NoSlots i n) = packed_offer 110 (cond (eqb i 1) n 0) (cond (eqb i 1) 0 n) 0 i
offer_number (NoRoom i len) = packed_offer 111 0 0 len i

abbrev pub verdict_number : VerdictAnswer → ℕ
verdict_number No = 0
verdict_number Yes = 1
verdict_number (VerdictRefused n) = 100 + n

abbrev pub write_number : WriteAnswer → ℕ
write_number (Wrote len) = 256 * len
write_number (WriteRefused n) = 100 + n
write_number (WriteRoomless len) = 116 + 256 * len
