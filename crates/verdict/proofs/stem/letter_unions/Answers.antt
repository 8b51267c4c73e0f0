-- `letter_unions` meets its contract: a letter's table is filled with the rows of its targets, and the others stay. Assumes nothing.
use mathlib.Core.Path.{subst, ◌∙◌}
use mathlib.Core.List.{List, []}
use Prim.Native.Nat.{ℕ}
use native.Mathlib.Omega.{arith}
use lib.ListN.{length-set}
use Rattle.relations.proofs.Calls.{each_more}
use Rattle.unions.specs.Unions.{Unions}
use Rattle.verdict.specs.Words.{HeldLetter}
use Rattle.verdict.proofs.WordSets.{bit_of_transition}
use Rattle.verdict.proofs.stem.letter_unions.Goals as goal

pub loop-a-preserved : goal.loop-a-preserved
loop-a-preserved c =
    let l = c.loop-a in
    let valid = c.args.valid in
    let A = valid.automaton.now in
    let rows = c.letter_targets.result in (
      length-set l.tables l.a _ ∙ l.invariant.0,
      each_more (λ (b : ℕ) (t : List ℕ). ∥ HeldLetter A b t ∥₁) [] l.tables l.a _ (omega (arith, l.invariant.0)) l.invariant.1
          ∣ record {
            rows = rows;
            targets = λ p q hp hq. c.letter_targets.ensures p q hp hq ∙ bit_of_transition A valid.in_range p l.a q hp (omega arith) hq;
            unions = subst (Unions c.fill.new.table rows) c.groups_for-groups.ensures.groups c.fill.ensures.unions;
          } ∣₁,
    )

pub returns : goal.returns
returns c = record { in_range = c.args.valid.in_range; letter = λ a h. c.loop-a.invariant.1 a (omega arith) }
