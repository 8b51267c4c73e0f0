-- `states_below` meets its contract. Assumes nothing.
use mathlib.Core.Path.{sym, ap, subst, ◌∙◌}
use mathlib.Core.List.{List}
use Prim.Native.Nat.{ℕ, ◌<◌}
use Rattle.std.specs.Prelude.{All}
use Rattle.automaton.specs.Ranges.{those}
use Rattle.automaton.specs.Sets.{bit}
use Rattle.relations.proofs.StateLists.{below_of_word, all_below}
use Rattle.relations.proofs.states.states_below.Goals as goal

pub returns-clause-states : goal.returns-clause-states
returns-clause-states c =
    ap (λ (w : ℕ). those (bit w) 32 0) c.below.ensures ∙ below_of_word c.args.set c.args.n c.requires

pub returns-clause-below : goal.returns-clause-below
returns-clause-below c =
    subst (λ (l : List ℕ). All (λ (q : ℕ). q < c.args.n) l)
    (sym (ap (λ (w : ℕ). those (bit w) 32 0) c.below.ensures ∙ below_of_word c.args.set c.args.n c.requires))
    (all_below (bit c.args.set) c.args.n)
