-- How the code holds the header; only contracts between functions name these. `Reading` of the crate `hanoi` says what a step is.
--   headed_by h         the description of the header h alone
--   InRanges h          the header's values are in their ranges
--   start_step x j      what the header comes to, as a step of the reading, where the body begins at place j
-- Assumes nothing.
use Rattle.std.specs.Prelude.{ℕ, ◌≤◌, ◌<◌, Result, Ok, Err}
use Rattle.automaton.specs.Automata.{max_states}
use Rattle.hanoi.specs.declared.TextRefusal.{TextRefusal}
use Rattle.hanoi.specs.Numbers.{text_number}
use Rattle.hanoi.specs.Descriptions.{max_propositions, Description, headed}
use Rattle.hanoi.specs.Reading.{Step, over, next, refused}
use Rattle.hanoi_header.specs.declared.Header.{Header}

abbrev pub headed_by : Header → Description
headed_by h = headed h.states h.start h.propositions

abbrev pub InRanges : Header → Type 0
InRanges h = (1 ≤ h.states) × (h.states ≤ max_states) × (h.start < h.states) × (h.propositions ≤ max_propositions)

abbrev pub start_step : Result Header TextRefusal → ℕ → Step
start_step (Err f) j = over (refused (text_number f))
start_step (Ok h) j = next j (headed_by h)
