-- `of_word` meets its contract: at first all letters are left. Assumes nothing.
use mathlib.Core.Path.{◌∙◌}
use mathlib.Core.List.{[]}
use native.Mathlib.Omega.{arith}
use Rattle.std.proofs.Common.{append-nil}
use Rattle.verdict.proofs.WordSets.{pairs_begin}
use Rattle.verdict.proofs.pairs.of_word.Goals as goal

pub loop-letter-init : goal.loop-letter-init
loop-letter-init c =
    let valid = c.args.valid in
    let few = valid.in_range.few_states in (
      [],
      append-nil _ ∙ cc,
      pairs_begin valid.automaton.now valid.in_range c.of_empty-pairs.result (λ p q h. c.of_empty-pairs.ensures p q (omega arith)),
    )
