-- The automaton of a Hanoi text (02, S-2): its letters are the sets of propositions, as numbers, and an edge stands for each letter that makes its label true.
--   Edge parts q a r   an edge from q to r stands among the parts whose label the letter a makes true
--   Describes D A      A has the states, the initial state, the letters, the accepting states and the transitions that D describes, and no others
--   IsDescribed D A    and A is in range and held in bytes, as the automaton of a file is: it is the automaton of D
--   automaton_of D     it, computed part by part
--   WellFormed D       the numbers of D are in their ranges, as those of every text that is read are
-- Shown by `hanoi_describes`: of a file of the grammar, `automaton_of D` is the automaton of D; by `described_only`: there is no other; by `undeclared_bare`: a
-- state that is not declared does not accept, and has no transitions. Assumes nothing.
use Rattle.std.specs.Prelude.{◌≡◌, true, false, ◌↔◌, ℕ, zero, suc, ◌^◌, ◌≤◌, ◌<◌, T}
use mathlib.Core.List.{List, [], ◌∷◌, Memᴰ}
use Rattle.automaton.specs.declared.Automaton.{Automaton}
use Rattle.automaton.specs.Sets.{Bytes}
use Rattle.automaton.specs.Automata.{max_states, accepts, transition, bare, with_accepting, with_transition, InRange}
use Rattle.labels.specs.Labels.{Label, truth, Below}
use Rattle.hanoi.specs.Descriptions.{max_propositions, Part, declared, edge, Description}

pub record Edge (parts : List Part) (q a r : ℕ) : Type 0 where
  pub label : Label
  pub stands : Memᴰ (edge q label r) parts
  pub true_at : T (truth label a)

pub record Describes (D : Description) (A : Automaton) : Type 0 where
  pub states : A.states ≡ D.states
  pub letters : A.letters ≡ 2 ^ D.propositions
  pub initial : A.initial ≡ D.start
  pub accepting : (q : ℕ) → T (accepts A q) ↔ Memᴰ (declared q true) D.parts
  pub transitions : (q a r : ℕ) → T (transition A q a r) ↔ ((a < A.letters) × Edge D.parts q a r)

pub record IsDescribed (D : Description) (A : Automaton) : Type 0 where
  pub describes : Describes D A
  pub in_range : InRange A
  pub accepting_bytes : Bytes 4 A.accepting
  pub transition_bytes : Bytes 2048 A.transitions

-- the transitions from q to r on those of the n letters from a on that make the label true
unfoldable pub with_letters : Automaton → ℕ → Label → ℕ → ℕ → ℕ → Automaton
with_letters A q L r zero a = A
with_letters A q L r (suc n) a =
    elim (truth L a) [ true ↦ with_letters (with_transition A q a r) q L r n (suc a) | false ↦ with_letters A q L r n (suc a) ]

unfoldable pub with_part : Automaton → Part → Automaton
with_part A (declared q true) = with_accepting A q
with_part A (declared q false) = A
with_part A (edge q L r) = with_letters A q L r A.letters 0

unfoldable pub with_parts : Automaton → List Part → Automaton
with_parts A [] = A
with_parts A (x ∷ xs) = with_part (with_parts A xs) x

unfoldable pub automaton_of : Description → Automaton
automaton_of D = with_parts (bare D.states (2 ^ D.propositions) D.start) D.parts

abbrev pub PartWithin : ℕ → ℕ → Part → Type 0
PartWithin n k (declared q b) = q < n
PartWithin n k (edge q L r) = (q < n) × Below k L × (r < n)

pub record WellFormed (D : Description) : Type 0 where
  pub some_states : 1 ≤ D.states
  pub few_states : D.states ≤ max_states
  pub start_below : D.start < D.states
  pub few_propositions : D.propositions ≤ max_propositions
  pub within : (x : Part) → Memᴰ x D.parts → PartWithin D.states D.propositions x
