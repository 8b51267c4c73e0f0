-- `relations::row` meets its contract: each byte below 256 stands below the bytes after it. Assumes nothing.
use mathlib.Core.Path.{ap, ◌∙◌}
use mathlib.Core.List.{[], ◌∷◌}
use Prim.Native.Nat.{ℕ, ◌+◌, ◌*◌, ◌/◌, ◌%◌}
use native.Mathlib.Omega.{arith}
use borrow.Author.Rules.{rules}
use lib.ListN.{get_or}
use Rattle.automaton.specs.Sets.{bit}
use Rattle.relations.proofs.Rows.{bytes_set, four_bytes}
use Rattle.relations.proofs.row.Goals as goal

pub returns : goal.returns
returns c r h =
    let t = c.args.automaton.now.transitions in
    let at = (c.args.q * 16 + c.args.a) * 4 in
    ap (λ (w : ℕ). bit w r) c.from_le_bytes.ensures
    ∙ bytes_set (get_or t at 0 ∷ get_or t (at + 1) 0 ∷ get_or t (at + 2) 0 ∷ get_or t (at + 3) 0 ∷ []) (search rules) (search rules) (search rules) (search rules) r h
    ∙ ap (λ (w : ℕ). bit w (r % 8)) (four_bytes t at (r / 8) (omega arith))
