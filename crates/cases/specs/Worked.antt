-- The worked automata F, G, H and J as files (01, "Worked automata"), written record by record: number of states, number of letters, initial state,
-- then the accepting states and the transitions (from, letter, to); F with its records last to first; and Hanoi texts. Shown by `proved_cases`, with the table
-- in `Cases`. Assumes nothing.
use Rattle.std.specs.Prelude.{List, [], ◌∷◌, ◌++◌, ℕ, replicate}
use Prim.Native.String.{String}
use Rattle.format.specs.Writing.{accepting_item, transition_item, file_bytes}
use Rattle.tokens.specs.Spelled.{spelled}

abbrev pub F : List ℕ
F =
    file_bytes 4 2 0
    (accepting_item 3
    ∷ transition_item 0 0 2 ∷ transition_item 0 1 1
    ∷ transition_item 1 0 3 ∷ transition_item 1 1 1
    ∷ transition_item 2 0 2 ∷ transition_item 2 1 3
    ∷ transition_item 3 0 3 ∷ transition_item 3 1 3 ∷ [])

abbrev pub backwards_f : List ℕ
backwards_f =
    file_bytes 4 2 0
    (transition_item 3 1 3 ∷ transition_item 3 0 3
    ∷ transition_item 2 1 3 ∷ transition_item 2 0 2
    ∷ transition_item 1 1 1 ∷ transition_item 1 0 3
    ∷ transition_item 0 1 1 ∷ transition_item 0 0 2
    ∷ accepting_item 3 ∷ [])

abbrev pub G : List ℕ
G =
    file_bytes 3 2 0
    (accepting_item 1 ∷ accepting_item 2
    ∷ transition_item 0 0 0 ∷ transition_item 0 0 2 ∷ transition_item 0 1 0 ∷ transition_item 0 1 1
    ∷ transition_item 1 0 1 ∷ transition_item 1 0 2
    ∷ transition_item 2 1 1 ∷ transition_item 2 1 2 ∷ [])

abbrev pub H : List ℕ
H = file_bytes 1 1 0 (accepting_item 0 ∷ transition_item 0 0 0 ∷ [])

abbrev pub J : List ℕ
J = file_bytes 2 1 0 (accepting_item 1 ∷ transition_item 0 0 1 ∷ transition_item 1 0 1 ∷ [])

-- F as a text: letter 1 is the one that makes p true
abbrev pub text_f : List ℕ
text_f =
    spelled "HOA: v1 States: 4 Start: 0 AP: 1 \"p\" acc-name: Buchi Acceptance: 1 Inf(0) --BODY-- "
    ++ spelled "State: 0 [!0] 2 [0] 1 State: 1 [!0] 3 [0] 1 State: 2 [!0] 2 [0] 3 State: 3 {0} [t] 3 --END--"

-- one state and one proposition, without a blank that can be left out
abbrev pub close_text : List ℕ
close_text = spelled "HOA:v1 States:1 Start:0 AP:1\"a\"acc-name:Buchi Acceptance:1 Inf(0)--BODY--State:0{0}[!0]0--END--"

-- one loop with this label, on eight letters
abbrev pub loop_on : List ℕ → List ℕ
loop_on label =
    spelled "HOA: v1 States: 1 Start: 0 AP: 3 \"a\" \"b\" \"c\" Acceptance: 1 Inf(0) --BODY-- State: 0 {0} [" ++ label ++ spelled "] 0 --END--"

-- so many `!` before a proposition
abbrev pub bangs : ℕ → List ℕ
bangs n = replicate n 0x21 ++ spelled "0"

-- a body behind a header with these states, start and propositions
abbrev pub on_body : String → String → String → String → List ℕ
on_body states start propositions parts =
    spelled "HOA: v1 States: " ++ spelled states ++ spelled " Start: " ++ spelled start ++ spelled " AP: " ++ spelled propositions
    ++ spelled " Acceptance: 1 Inf(0) --BODY-- " ++ spelled parts ++ spelled "--END--"
