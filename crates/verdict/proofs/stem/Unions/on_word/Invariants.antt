-- `on_word` meets its contract. The loop's invariant: from the states reached, the letters that are left lead where the whole
-- word leads from the set. Assumes nothing.
use mathlib.Core.Path.{◌≡◌}
use lib.ListN.{drop}
use Rattle.lassos.specs.Verdict.{on_word}
use Rattle.verdict.specs.Words.{set_of}
use Rattle.verdict.proofs.stem.Unions.on_word.Given as goal

abbrev pub invariant-loop-letter : goal.invariant-loop-letter
invariant-loop-letter l =
    let A = l.self.valid.automaton.now in
    on_word A (set_of A.states l.reached) (drop l.letter-index l.word) ≡ on_word A (set_of A.states l.set) l.word
