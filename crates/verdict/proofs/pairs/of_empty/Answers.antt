-- `of_empty` meets its contract: the word 1 shifted by p has bit p alone. Assumes nothing.
use mathlib.Core.Path.{◌≡◌, ap, ◌∙◌}
use Prim.Native.Nat.{ℕ, ◌*◌, ◌%◌, ◌^◌}
use native.Mathlib.Omega.{arith}
use Rattle.std.proofs.Common.{rules, tests}
use Rattle.automaton.specs.Sets.{bit}
use Rattle.relations.proofs.Calls.{array_each}
use Rattle.verdict.proofs.WordVerdict.{shifted_alone}
use Rattle.verdict.proofs.pairs.of_empty.Goals as goal

pub returns : goal.returns
returns c p q h =
    ap (λ (w : ℕ). bit w q) (array_each (λ (x w : ℕ). w ≡ 1 * 2 ^ x % 18446744073709551616) (λ x y f k. search (rules, tests))
    c.from_fn.result 0 32 c.from_fn.ensures.items p h)
    ∙ shifted_alone p q (omega arith)
