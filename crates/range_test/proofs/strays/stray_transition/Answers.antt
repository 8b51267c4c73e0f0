-- `stray_transition` meets its contract. Assumes nothing.
use mathlib.Core.Path.{refl}
use Prim.Native.Nat.{ℕ}
use Rattle.std.proofs.Common.{rules, tests}
use Rattle.automaton.specs.Automata.{stray_transition}
use Rattle.automaton.specs.Ranges.{some}
use Rattle.relations.proofs.Calls.{some_from_any}
use Rattle.range_test.proofs.strays.stray_transition.Goals as goal

pub returns : goal.returns
returns c =
    some_from_any (λ (q : ℕ). some (λ a. some (stray_transition c.args.automaton.now q a) 32 0) 16 0) 0 32 32 _ _ _ c.any.ensures.ran refl refl
    (λ x b q k. search (rules, tests))
