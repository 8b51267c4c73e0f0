-- `some_returns` meets its contract. Assumes nothing.
use mathlib.Core.Path.{refl, ap, ◌∙◌}
use mathlib.Core.Bool.{Bool, ◌&&◌}
use Prim.Native.Nat.{ℕ}
use native.Mathlib.Omega.{arith}
use Rattle.std.proofs.Common.{rules, tests}
use Rattle.automaton.specs.Sets.{bit}
use Rattle.relations.proofs.Calls.{some_from_any}
use Rattle.relations.proofs.Rows.{some_same}
use Rattle.verdict.specs.Words.{comes_back, returns_from}
use Rattle.verdict.proofs.some_returns.Goals as goal

pub returns : goal.returns
unfolding returns_from
returns c =
    let a = c.args in
    let reached = c.spread-reached in
    let back = λ (r : ℕ). comes_back a.n a.runs.now a.visits.now r in
    some_from_any (λ (r : ℕ). bit reached.result r && back r) 0 a.n a.n _ _ _ c.any.ensures.ran refl (omega arith) (λ x b q k. search (rules, tests))
    ∙ some_same _ _ a.n (λ r h. ap (λ (b : Bool). b && back r) (reached.ensures r))
