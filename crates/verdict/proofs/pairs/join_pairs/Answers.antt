-- `join_pairs` meets its contract, pair by pair: the targets of a state choose their values. Assumes nothing.
use mathlib.Core.Path.{◌≡◌, ◌∙◌}
use mathlib.Core.Bool.{◌&&◌}
use Prim.Native.Nat.{ℕ}
use native.Mathlib.Omega.{arith}
use lib.ListN.{length-set}
use Rattle.automaton.specs.Automata.{transition}
use Rattle.automaton.specs.Ranges.{some}
use Rattle.automaton.specs.Sets.{bit}
use Rattle.relations.proofs.Calls.{each_more}
use Rattle.relations.specs.Closure.{row_has}
use Rattle.unions.specs.Unions.{groups_for}
use Rattle.unions.proofs.UnionTables.{named_chosen}
use Rattle.verdict.proofs.WordSets.{bit_of_transition, targets_choose}
use Rattle.verdict.proofs.pairs.join_pairs.Goals as goal

pub loop-p-preserved : goal.loop-p-preserved
loop-p-preserved c =
    let l = c.loop-p in
    let a = c.args in
    let A = a.valid.automaton.now in record {
      size = length-set l.pairs l.p c.union.result ∙ l.invariant.size;
      joined = λ values u p x h.
          each_more (λ (p w : ℕ). bit w x ≡ some (λ t. transition A p a.a t && row_has values t x) A.states 0) 0 l.pairs l.p c.union.result
          (omega (arith, l.invariant.size)) (λ j m. l.invariant.joined values u j x m)
          (c.union.ensures x
          ∙ named_chosen a.table.now values (groups_for A.states) c.row.result x u
          ∙ targets_choose A a.valid.in_range l.p a.a c.row.result (λ t m. c.row.ensures t m ∙ bit_of_transition A a.valid.in_range l.p a.a t (omega arith) (omega arith) m) values x)
          p h;
    }

pub returns : goal.returns
returns c values u p x h = c.loop-p.invariant.joined values u p x (omega arith)
