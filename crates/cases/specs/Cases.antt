-- The cases marked P (01, "Worked automata"), files that are written (02, S-1) and Hanoi texts that are read (02, S-2), as one table.
--   Case       a call of contain: two files, the bound, the bytes of work, the bytes of word; then the outcome's number and the
--              letters that come back. Or a verdict: a file, a stem and a loop; then yes or no. Or a file to be written, or a Hanoi text, and the
--              output buffer; then the number and the buffer afterwards
--   Judged     a file that holds an automaton, and the verdict on it
--   Right c    the case comes to what its row says
--   nines n    n bytes of 9, which no file here has
--   on_five, on_four, on_eight  files of one state that loops on so many letters
--   cases      the table
--   opened_f   the entry that opening F makes of a fresh one
-- Shown by `proved_cases`; `offer_unrefused` offers G to the entry that F opens. Assumes nothing.
use Rattle.std.specs.Prelude.{◌≡◌, Bool, true, false, List, [], ◌∷◌, ◌++◌, ℕ, ◌+◌, ◌*◌, replicate}
use Rattle.automaton.specs.declared.Automaton.{Automaton}
use Rattle.format.specs.Writing.{accepting_item, transition_item, file_bytes}
use Rattle.format.specs.File.{holds, read_file}
use Rattle.fixed_form.specs.Write.{write_of}
use Rattle.tokens.specs.Spelled.{spelled}
use Rattle.hanoi.specs.Hanoi.{hanoi_of}
use Rattle.answers.specs.Contain.{outcome_of, word_part}
use Rattle.history.specs.declared.Entry.{Entry}
use Rattle.history.specs.Entries.{fresh_entry}
use Rattle.history.specs.Opens.{open_of}
use Rattle.boundary.specs.Numbers.{outcome_number, write_number}
use Rattle.lassos.specs.Verdict.{accepted}
use Rattle.cases.specs.Worked.{F, backwards_f, G, H, J, text_f, close_text, loop_on, bangs, on_body}

pub data Case : Type 0 where
  call : List ℕ → List ℕ → ℕ → ℕ → ℕ → ℕ → List ℕ → Case
  verdict : List ℕ → List ℕ → List ℕ → Bool → Case
  write : List ℕ → List ℕ → ℕ → List ℕ → Case
  hanoi : List ℕ → List ℕ → ℕ → List ℕ → Case

-- the file holds an automaton, and the verdict on it is the answer
pub record Judged (f u v : List ℕ) (answer : Bool) : Type 0 where
  pub automaton : Automaton
  pub read : read_file f ≡ holds automaton
  pub verdict_is : accepted automaton u v ≡ answer

abbrev pub buffer : ℕ → List ℕ
buffer n = replicate n 0

abbrev pub nines : ℕ → List ℕ
nines n = replicate n 9

-- one loop on the letters that make `0|1&!2` true, and on those that make 0 true
abbrev pub on_five : List ℕ
on_five =
    file_bytes 1 8 0
    (accepting_item 0 ∷ transition_item 0 1 0 ∷ transition_item 0 2 0 ∷ transition_item 0 3 0 ∷ transition_item 0 5 0 ∷ transition_item 0 7 0 ∷ [])

abbrev pub on_four : List ℕ
on_four = file_bytes 1 8 0 (accepting_item 0 ∷ transition_item 0 1 0 ∷ transition_item 0 3 0 ∷ transition_item 0 5 0 ∷ transition_item 0 7 0 ∷ [])

abbrev pub on_eight : List ℕ
on_eight =
    file_bytes 1 16 0
    (transition_item 0 8 0 ∷ transition_item 0 9 0 ∷ transition_item 0 10 0 ∷ transition_item 0 11 0
    ∷ transition_item 0 12 0 ∷ transition_item 0 13 0 ∷ transition_item 0 14 0 ∷ transition_item 0 15 0 ∷ [])

abbrev pub opened_f : Entry
opened_f = (open_of fresh_entry F).entry

abbrev pub Right : Case → Type 0
Right (call f g b work word n part) =
    (outcome_number (outcome_of f g b (buffer work) (buffer word)) ≡ n) × (word_part f g b (buffer work) (buffer word) ≡ part)
Right (verdict f u v answer) = Judged f u v answer
Right (write f out n left) = (write_number (write_of f out).answer ≡ n) × ((write_of f out).out ≡ left)
Right (hanoi s out n left) = (write_number (hanoi_of s out).answer ≡ n) × ((hanoi_of s out).out ≡ left)

abbrev pub cases : List Case
cases =
    call F G 1 400 4 (256 * 5) [] ∷  -- K1
    call F G 0 400 4 (256 * 4) [] ∷  -- K2
    call G F 0 400 4 (1 + 256 * 2 + 16777216 * 1) (0 ∷ []) ∷  -- K3
    call G F 0 40 4 (110 + 256 * 1) [] ∷  -- K3 with 1 slot
    call G F 1 400 4 (256 * 8) [] ∷  -- K4
    call H J 0 400 4 1 [] ∷  -- K6
    call H J 1 400 4 (256 * 2) [] ∷  -- K7
    verdict F [] (0 ∷ 1 ∷ []) true ∷  -- K8
    verdict F [] (0 ∷ []) false ∷  -- K9
    verdict F (1 ∷ []) (0 ∷ []) true ∷  -- K10
    write H (nines 17) (256 * 15) (H ++ nines 2) ∷  -- two bytes to spare
    write H (nines 14) (116 + 256 * 15) (nines 14) ∷  -- the example of refusal 16
    write F (nines 50) (256 * 50) F ∷
    write backwards_f (nines 50) (256 * 50) F ∷  -- another order
    write G (nines 53) (256 * 53) G ∷
    write (file_bytes 1 1 0 []) (nines 7) (256 * 7) (file_bytes 1 1 0 []) ∷  -- a dead state, and no record
    write [] (nines 7) 101 (nines 7) ∷  -- the example of refusal 1
    hanoi text_f (nines 52) (256 * 50) (F ++ nines 2) ∷  -- two bytes to spare
    hanoi text_f (nines 49) (116 + 256 * 50) (nines 49) ∷  -- one byte short
    hanoi close_text (nines 15) (256 * 15) (file_bytes 1 2 0 (accepting_item 0 ∷ transition_item 0 0 0 ∷ [])) ∷
    hanoi (loop_on (spelled "0|1&!2")) (nines 35) (256 * 35) on_five ∷
    hanoi (loop_on (bangs 64)) (nines 30) (256 * 30) on_four ∷
    hanoi (loop_on (bangs 65)) (nines 30) 117 (nines 30) ∷
    hanoi (on_body "1" "0" "4 \"a\" \"b\" \"c\" \"d\"" "State: 0 [3] 0") (nines 47) (256 * 47) on_eight ∷  -- 16 letters
    hanoi (on_body "1" "0" "0" "State: 0 {0} [t] 0 [f] 0") (nines 15) (256 * 15) H ∷  -- no proposition, and one letter
    hanoi (on_body "32" "31" "0" "") (nines 7) (256 * 7) (file_bytes 32 1 31 []) ∷  -- as many states as there may be, none declared
    hanoi (on_body "2" "1" "1 \"\"" "State:\n0\t[0]\r1 [t] 1 [0] 1") (nines 17) (256 * 17) (file_bytes 2 2 1 (transition_item 0 0 1 ∷ transition_item 0 1 1 ∷ [])) ∷
    hanoi [] (nines 7) 117 (nines 7) ∷  -- the example of refusal 17
    hanoi (spelled "HOA: v1 States: 1 Start: 0 AP: 5") (nines 7) 118 (nines 7) ∷  -- the example of refusal 18
    hanoi (spelled "HOA: v1 States: 33Start:") (nines 7) 103 (nines 7) ∷  -- the number ends first
    hanoi (spelled "HOA: v1 States: 3Start:") (nines 7) 117 (nines 7) ∷  -- letters touch a digit
    hanoi (loop_on (spelled "0] 1 [3")) (nines 7) 104 (nines 7) ∷  -- the target ends first
    hanoi (loop_on (spelled "3")) (nines 7) 117 (nines 7) ∷  -- a proposition that AP lacks
    hanoi (spelled "HOA: v1 States: 01") (nines 7) 117 (nines 7) ∷  -- no number
    hanoi (spelled "HOA: v1 States: 18446744073709551617") (nines 7) 103 (nines 7) ∷  -- 2 to the power of 64, and 1
    []
