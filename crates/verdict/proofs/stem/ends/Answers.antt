-- `stem::ends` meets its contract: the set of the initial state goes through the stem. Assumes nothing.
use mathlib.Core.Path.{ap, ◌∙◌}
use mathlib.Core.Bool.{Bool}
use mathlib.Core.List.{List}
use native.Mathlib.Omega.{arith}
use Rattle.lassos.specs.Verdict.{on_word}
use Rattle.verdict.proofs.WordVerdict.{shifted_alone, only_set, set_same}
use Rattle.verdict.proofs.stem.ends.Goals as goal

pub returns : goal.returns
returns c =
    let A = c.args.valid.automaton.now in
    let r = c.args.valid.in_range in
    let few = r.few_states in
    let below = r.initial_below in
    set_same A.states c.low.result c.on_word.result few c.low.ensures
    ∙ c.on_word.ensures
    ∙ ap (λ (S : List Bool). on_word A S c.args.stem.now) (only_set A A.initial _ (λ q. shifted_alone A.initial q (omega arith)))
