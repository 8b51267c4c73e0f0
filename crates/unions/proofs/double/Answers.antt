-- `unions::double` meets its contract: the entries before place size stay. Assumes nothing.
use mathlib.Core.Path.{◌≡◌, ap, ◌∙◌}
use mathlib.Core.List.{List}
use Prim.Native.Nat.{ℕ, ◌+◌}
use native.Mathlib.Omega.{arith}
use lib.Bits.{bit_or}
use lib.ListN.{get_or, set}
use Rattle.relations.proofs.Rows.{changed_more, changed_kept}
use Rattle.unions.proofs.double.Goals as goal

pub loop-m-preserved : goal.loop-m-preserved
loop-m-preserved c =
    let l = c.loop-m in
    let a = c.args in
    let t = a.entries.now in
    let kept : get_or l.entries l.m 0 ≡ get_or t l.m 0 =
    ap (λ (x : List ℕ). get_or x l.m 0) l.invariant ∙ (changed_kept a.size l.m _ t (omega arith)).before l.m (omega arith) in
    ap (λ (x : List ℕ). set x (a.size + l.m) (bit_or (get_or l.entries l.m 0) a.value)) l.invariant
    ∙ changed_more a.size l.m _ t _ (omega arith) (ap (λ (w : ℕ). bit_or w a.value) kept)
