-- What the program `listing` prints (01, "Listing"): its input is one byte, else the line is `usage`; no file is longer than 65,536 bytes, else
-- it is `long`; then the first file is opened in a fresh entry and the other one offered with that byte as the bound, 65,520 bytes of
-- work and 2,048 of word, and the line is that of the offer, or of the refusal that came up.
--   listing input first offer   the line, of the bytes of standard input and of the two files
--   bound_listing x f o         the line of what the input comes to, a misuse or a bound, with the files f and o
-- Shown by the contract of `listing_line`; only a contract between functions names `bound_listing`. Assumes nothing.
use Rattle.std.specs.Prelude.{cond, ◌||◌, not, List, ◌++◌, ℕ, eqb, ltb, length, get_or, replicate, Result, Ok, Err}
use Rattle.history.specs.declared.Entry.{Entry}
use Rattle.history.specs.OpenAnswers.{OpenAnswer}
use Rattle.history.specs.OpenAnswers.{Opened, Refused}
use Rattle.history.specs.Entries.{fresh_entry}
use Rattle.history.specs.Opens.{open_of}
use Rattle.history.specs.Offers.{offer_of, offer_part}
use Rattle.report.specs.declared.Misuse.{Misuse}
use Rattle.report.specs.Line.{newline, usage_text, long_text, refused_line, offer_line, misuse_line}

abbrev pub max_file : ℕ
max_file = 65536

abbrev pub work_bytes : ℕ
work_bytes = 65520

abbrev pub word_bytes : ℕ
word_bytes = 2048

-- the offer of a file to an entry, with buffers of zeros
unfoldable pub offer_listing : Entry → List ℕ → ℕ → List ℕ
offer_listing E offer b =
    let work : List ℕ = replicate work_bytes 0 in
    let word : List ℕ = replicate word_bytes 0 in
    let r = offer_of E offer b work word in
    offer_line r.entry r.answer (offer_part E offer b work word)

abbrev pub open_listing : OpenAnswer → Entry → List ℕ → ℕ → List ℕ
open_listing (Refused n) E offer b = refused_line n
open_listing Opened E offer b = offer_listing E offer b

unfoldable pub listing : List ℕ → List ℕ → List ℕ → List ℕ
listing input first offer =
    cond (not (eqb (length input) 1)) (usage_text ++ newline)
    (cond (ltb max_file (length first) || ltb max_file (length offer)) (long_text ++ newline)
    (open_listing (open_of fresh_entry first).answer (open_of fresh_entry first).entry offer (get_or input 0 0)))

abbrev pub bound_listing : Result ℕ Misuse → List ℕ → List ℕ → List ℕ
bound_listing (Err x) first offer = misuse_line x
bound_listing (Ok b) first offer =
    open_listing (open_of fresh_entry first).answer (open_of fresh_entry first).entry offer b
