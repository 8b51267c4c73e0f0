-- `met_pairs` meets its contract. Assumes nothing.
use mathlib.Core.Path.{ap, ◌∙◌}
use mathlib.Core.Bool.{Bool, ◌&&◌, ◌||◌}
use Prim.Native.Nat.{◌+◌}
use native.Mathlib.Omega.{arith}
use Rattle.relations.specs.Closure.{row_has}
use Rattle.verdict.proofs.WordVerdict.{accepting_held}
use Rattle.verdict.proofs.pairs.met_pairs.Goals as goal

pub returns : goal.returns
returns c =
    let l = c.loop-t.invariant in
    let valid = c.args.valid in
    let pairs = c.args.pairs.now in
    let accepting = c.of_bytes-accepting in record {
      runs = λ t q ht hq. l.runs t q (omega arith) hq;
      visits = λ t q ht hq. l.visits t q (omega arith) hq
          ∙ ap (λ (b : Bool). row_has pairs t (32 + q) || (b && row_has pairs t q))
          (accepting_held valid.automaton.now valid.in_range.few_states accepting.result accepting.ensures t ht);
    }
