-- `next` of the states of a set meets its contract: of 0 there are none, and else the lowest is given and taken out. Assumes nothing.
use mathlib.Core.Path.{sym, ◌∙◌}
use native.Mathlib.Omega.{arith}
use Rattle.relations.proofs.StateLists.{next_of_word, none_of_word, goes}
use Rattle.relations.proofs.states.StatesIterator.next.Goals as goal

pub returns-then-self-eq0-clause-steps : goal.returns-then-self-eq0-clause-steps
returns-then-self-eq0-clause-steps c =
    let e = sym c.self.view_is ∙ none_of_word c.self.inside.rest c.if-self-eq0.true in (e, e)

pub returns-clause-steps : goal.returns-clause-steps
returns-clause-steps c = sym c.self.view_is ∙ next_of_word c.self.inside.rest c.least-q.result (omega arith) c.if-self-eq0.false c.least-q.ensures

pub returns-clause-goes : goal.returns-clause-goes
returns-clause-goes c =
    goes _ (λ l. tt) _ _ _ (sym c.self.view_is ∙ next_of_word c.self.inside.rest c.least-q.result (omega arith) c.if-self-eq0.false c.least-q.ensures)
