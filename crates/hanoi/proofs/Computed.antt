-- Texts that are read or refused, computed: a whole file with no blank that could be left out, and first faults in text order. The reader is run on each.
-- Assumes nothing.
use mathlib.Core.Path.{◌≡◌, refl}
use mathlib.Core.List.{List, [], ◌∷◌, ◌++◌}
use mathlib.Core.Bool.{true}
use Prim.Native.Nat.{ℕ}
use Rattle.tokens.specs.Spelled.{spelled}
use Rattle.tokens.specs.Tokens.{whites, skip, starts_with, stands, digits, value, number_at, name_bytes}
use Rattle.labels.specs.Labels.{negation, proposition}
use Rattle.labels.specs.LabelReading.{atom_at, more, conjunction, disjunction, operand_at, label_at}
use Rattle.hanoi.specs.Descriptions.{Description, declared, edge}
use Rattle.hanoi.specs.Reading.{refused, expect, expect_number, check, names, acc_name_item, acceptance, is_declared, state_at, edge_at, edge_of, end_at, part_at, header, body, read_hanoi}
use Rattle.hanoi.specs.Grammar.{IsFile}
use Rattle.hanoi.proofs.Decided.{hanoi_grammar}

abbrev whole : List ℕ
whole = spelled "HOA:v1 States:1 Start:0 AP:1\"a\"acc-name:Buchi Acceptance:1 Inf(0)--BODY--State:0{0}[!0]0--END--"

abbrev whole_says : Description
whole_says = record { states = 1; start = 0; propositions = 1; parts = edge 0 (negation (proposition 0)) 0 ∷ declared 0 true ∷ [] }

pub whole_file : IsFile whole whole_says
unfolding whites skip starts_with stands digits value number_at name_bytes atom_at more conjunction disjunction operand_at label_at expect expect_number check names acc_name_item acceptance is_declared state_at edge_at edge_of end_at part_at header body read_hanoi
whole_file = (hanoi_grammar whole whole_says).0 refl

-- as many states and propositions as there may be, names of no bytes, and no part
abbrev largest : List ℕ
largest = spelled "HOA:v1 States:32 Start:31 AP:4\"\"\"\"\"\"\"\"Acceptance:1 Inf(0)--BODY----END--"

pub largest_file : IsFile largest (record { states = 32; start = 31; propositions = 4; parts = [] })
unfolding whites skip starts_with stands digits value number_at name_bytes atom_at more conjunction disjunction operand_at label_at expect expect_number check names acc_name_item acceptance is_declared state_at edge_at edge_of end_at part_at header body read_hanoi
largest_file = (hanoi_grammar largest (record { states = 32; start = 31; propositions = 4; parts = [] })).0 refl

-- the body behind a header of one state and one proposition
abbrev one_state : List ℕ → List ℕ
one_state body = spelled "HOA:v1 States:1 Start:0 AP:1\"a\"Acceptance:1 Inf(0)--BODY--" ++ body

-- texts with a fault, and its number
abbrev faulty : List (List ℕ × ℕ)
faulty =
    (spelled "HOA:v1 States:33Start:", 3)
    ∷ (spelled "HOA:v1 States:9Start:", 17)
    ∷ (spelled "HOA:v1 States:099", 17)
    ∷ (spelled "HOA:v1 States:1 Start:1", 3)
    ∷ (spelled "HOA:v1 States:1 Start:0 AP:9", 18)
    ∷ (one_state (spelled "[0]0--END--"), 17)
    ∷ (one_state (spelled "State:0 State:0--END--"), 17)
    ∷ (one_state (spelled "State:9{"), 4)
    ∷ (one_state (spelled "State:0[0]9State:"), 4)
    ∷ (one_state (spelled "State:0[9]9--END--"), 17)
    ∷ (one_state (spelled "--END--0"), 17)
    ∷ []

abbrev AllRefused : List (List ℕ × ℕ) → Type 0
AllRefused [] = Unit {0}
AllRefused (x ∷ xs) = (read_hanoi x.0 ≡ refused x.1) × AllRefused xs

pub first_faults : AllRefused faulty
unfolding whites skip starts_with stands digits value number_at name_bytes atom_at more conjunction disjunction operand_at label_at expect expect_number check names acc_name_item acceptance is_declared state_at edge_at edge_of end_at part_at header body read_hanoi
first_faults = (refl, (refl, (refl, (refl, (refl, (refl, (refl, (refl, (refl, (refl, (refl, tt)))))))))))
