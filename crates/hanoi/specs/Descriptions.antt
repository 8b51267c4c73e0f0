-- What a Hanoi text says (02, S-2), before it is an automaton.
--   max_propositions  the most propositions that a text may have
--   Part            a piece of the body: a state declared, accepting or not, or an edge of the state declared last
--   Description     what a text describes: the header's numbers, and the parts
--   headed n q k  the description of a header alone
--   extended x D   the part x stands behind what D describes
-- Assumes nothing.
use Rattle.std.specs.Prelude.{Bool, List, [], ◌∷◌, ℕ}
use Rattle.labels.specs.Labels.{Label}

-- the most propositions: their letters are the most that a file has
abbrev pub max_propositions : ℕ
max_propositions = 4

pub data Part : Type 0 where
  declared : (q : ℕ) → (accepting : Bool) → Part
  edge : (q : ℕ) → Label → (r : ℕ) → Part

-- the part that stands last in the text is the first of the list
pub record Description : Type 0 where
  pub states : ℕ
  pub start : ℕ
  pub propositions : ℕ
  pub parts : List Part

abbrev pub headed : ℕ → ℕ → ℕ → Description
headed n q k = record { states = n; start = q; propositions = k; parts = [] }

abbrev pub extended : Part → Description → Description
extended x D =
    record { states = D.states; start = D.start; propositions = D.propositions; parts = x ∷ D.parts }
