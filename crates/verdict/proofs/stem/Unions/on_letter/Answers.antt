-- `on_letter` meets its contract: the set names the entries of its states. Assumes nothing.
use native.Mathlib.Omega.{arith}
use Rattle.verdict.proofs.WordSets.{letter_held}
use Rattle.verdict.proofs.stem.Unions.on_letter.Goals as goal

pub returns-then-a-self : goal.returns-then-a-self
returns-then-a-self c =
    let s = c.args.self in
    letter_held s.valid.automaton.now c.args.set c.args.letter c.union.result s.tables.now s.held (omega arith) c.union.ensures
