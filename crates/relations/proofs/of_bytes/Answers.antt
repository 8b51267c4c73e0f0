-- `relations::of_bytes` meets its contract: each byte below 256 stands below the bytes after it. Assumes nothing.
use mathlib.Core.Path.{ap, ◌∙◌}
use Prim.Native.Nat.{ℕ}
use borrow.Author.Rules.{rules}
use Rattle.automaton.specs.Sets.{bit}
use Rattle.relations.proofs.Rows.{bytes_set}
use Rattle.relations.proofs.of_bytes.Goals as goal

pub returns : goal.returns
returns c q h =
    ap (λ (w : ℕ). bit w q) c.from_le_bytes.ensures
    ∙ bytes_set c.args.set.now (search rules) (search rules) (search rules) (search rules) q h
