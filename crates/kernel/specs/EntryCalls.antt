-- Open, offer and verdict on entries as bytes, 2,061 of them, laid out as `Bytes` says. A length other than 2,061
-- or another byte 0 than 0 and 1 is condition 9. A refusal changes no byte of the entry; opened and taken write all 2,061.
--   open_bytes_number, open_bytes    open's number, and the entry's bytes afterwards
--   offer_bytes_number, offer_bytes  offer's number, and the entry's bytes afterwards
--   offer_bytes_work, offer_bytes_word  the work buffer and the word buffer after offer
--   verdict_bytes_number             verdict's number
-- Shown by `entry_open_demand_1`, `entry_offer_demand_1` and `entry_verdict_demand_1`. Assumes nothing.
use Rattle.std.specs.Prelude.{Bool, true, false, cond, List, ℕ}
use Rattle.history.specs.declared.Entry.{Entry}
use Rattle.history.specs.OpenAnswers.{OpenAnswer}
use Rattle.history.specs.OpenAnswers.{Opened, Refused}
use Rattle.history.specs.Opens.{open_of}
use Rattle.history.specs.Offers.{is_taken, offer_of}
use Rattle.history.specs.Verdicts.{verdict_of}
use Rattle.boundary.specs.Bytes.{is_entry, entry_of, entry_bytes}
use Rattle.boundary.specs.Numbers.{open_number, offer_number, verdict_number}

-- 100 plus 9
abbrev pub no_entry : ℕ
no_entry = 109

abbrev pub is_opened : OpenAnswer → Bool
is_opened Opened = true
is_opened (Refused n) = false

unfoldable pub open_bytes_number : List ℕ → List ℕ → ℕ
open_bytes_number s f = cond (is_entry s) (open_number (open_of (entry_of s) f).answer) no_entry

-- the bytes of the entry E where it is to be written, else the bytes s
abbrev pub stored : Bool → Entry → List ℕ → List ℕ
stored written E s = cond written (entry_bytes E) s

unfoldable pub open_bytes : List ℕ → List ℕ → List ℕ
open_bytes s f = cond (is_entry s) (stored (is_opened (open_of (entry_of s) f).answer) (open_of (entry_of s) f).entry s) s

module _ (s f : List ℕ) (b : ℕ) (work word : List ℕ) where
  unfoldable pub offer_bytes_number : ℕ
  offer_bytes_number = cond (is_entry s) (offer_number (offer_of (entry_of s) f b work word).answer) no_entry

  unfoldable pub offer_bytes : List ℕ
  offer_bytes =
      cond (is_entry s) (stored (is_taken (offer_of (entry_of s) f b work word).answer) (offer_of (entry_of s) f b work word).entry s) s

  unfoldable pub offer_bytes_work : List ℕ
  offer_bytes_work = cond (is_entry s) (offer_of (entry_of s) f b work word).work work

  unfoldable pub offer_bytes_word : List ℕ
  offer_bytes_word = cond (is_entry s) (offer_of (entry_of s) f b work word).word word

unfoldable pub verdict_bytes_number : List ℕ → List ℕ → List ℕ → ℕ
verdict_bytes_number s u v = cond (is_entry s) (verdict_number (verdict_of (entry_of s) u v)) no_entry
