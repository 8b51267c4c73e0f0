-- What the code holds of the two automata of a walk, for its contracts.
--   RulesOf        the rules, the tops, the left transitions and the masks are those of the automata A and B at the bound b
-- Shown by `rules_hold` of the walk. Assumes nothing.
use Rattle.std.specs.Prelude.{◌≡◌, ℕ, ◌<◌}
use Rattle.automaton.specs.declared.Automaton.{Automaton}
use Rattle.automaton.specs.Automata.{max_states, accepts, InRange}
use Rattle.automaton.specs.Sets.{bit}
use Rattle.step.specs.Steps.{RightRules}
use Rattle.successors.specs.declared.rules.Rules.{Rules}

pub record RulesOf (rules : Rules) (A B : Automaton) (b : ℕ) : Type 0 where
  pub letters_are : rules.left.now.letters ≡ A.letters
  pub accepting_is : (q : ℕ) → q < max_states → bit rules.accepting q ≡ accepts A q
  pub lefts_are : rules.left.now.transitions ≡ A.transitions
  pub in_range : InRange A
  pub right : RightRules rules.tops.now rules.masks.now rules.right.now.states rules.left.now.letters b B
