-- Whether a vertex that is not listed is final. By its counters where no slot has them; and where some slot has them it is not, since no slot
-- holds a final vertex. Assumes nothing.
use mathlib.Core.Path.{◌≡◌, refl, sym, ap, ◌∙◌}
use mathlib.Core.Bool.{Bool, true, false, ◌&&◌, not}
use mathlib.Core.List.{List}
use Prim.Native.Nat.{ℕ, zero, suc, ◌<◌}
use native.Mathlib.Omega.{arith}
use borrow.Author.Tests.{ltb-true, ltb-false}
use lib.Dec.{eqb, ltb}
use lib.ListN.{length, get_or}
use Rattle.automaton.specs.Ranges.{some}
use Rattle.automaton.proofs.Booleans.{T_true, is_true, and_both, clash}
use Rattle.automaton.proofs.Ranges.{some_at, some_below}
use Rattle.slots.specs.Slots.{all_zero}
use Rattle.slots.proofs.Compared.{not_zero_at, zero_everywhere}
use Rattle.classes.specs.Classes.{class_of}
use Rattle.classes.specs.declared.Index.{Index}
use Rattle.classes.proofs.Leaders.{class_some}
use Rattle.discovery.specs.declared.listed.Listed.{Listed}
use Rattle.discovery.specs.Representation.{Ready}

pub all_zero_is : (cs : List ℕ) → length cs ≡ 32 → not (some (λ i. ltb 0 (get_or cs i 0)) 32 0) ≡ all_zero cs
all_zero_is cs long = go (some (λ i. ltb 0 (get_or cs i 0)) 32 0) refl
  where
    above : (k : ℕ) → 0 < get_or cs k 0 → get_or cs k 0 ≡ 0 → ⊥
    above k l e = omega arith

    zero_at : some (λ i. ltb 0 (get_or cs i 0)) 32 0 ≡ false → (k : ℕ) → k < 32 → (c : Bool) → ltb 0 (get_or cs k 0) ≡ c → get_or cs k 0 ≡ 0
    zero_at e k l true q = clash (T_true (some (λ i. ltb 0 (get_or cs i 0)) 32 0) (some_at (λ i. ltb 0 (get_or cs i 0)) 32 k l (is_true (ltb 0 (get_or cs k 0)) q))) e
    zero_at e k l false q = omega (arith, ltb-false 0 (get_or cs k 0) q)

    go : (c : Bool) → some (λ i. ltb 0 (get_or cs i 0)) 32 0 ≡ c → not c ≡ all_zero cs
    go true e =
        let x = some_below (λ i. ltb 0 (get_or cs i 0)) 32 (is_true (some (λ i. ltb 0 (get_or cs i 0)) 32 0) e) in
        sym (not_zero_at cs x.0 (above x.0 (ltb-true 0 (get_or cs x.0 0) (T_true (ltb 0 (get_or cs x.0 0)) x.2))))
    go false e = sym (zero_everywhere cs (λ k l. zero_at e k (omega arith) (ltb 0 (get_or cs k 0)) refl))

pub final_zero : (cs : List ℕ) (c : ℕ) → (eqb c 0 && all_zero cs) ≡ true → all_zero cs ≡ true
final_zero cs c e = T_true (all_zero cs) (and_both (eqb c 0) (all_zero cs) (is_true _ e)).1

-- a slot that has the counters holds no final vertex
pub class_alive : (work : List ℕ) (index : Index) (cs : List ℕ) (n c : ℕ) → Ready work index n → c ≡ class_of work cs n → (c ≡ 0 → ⊥)
    → all_zero cs ≡ false
class_alive work index cs n zero R e h = absurd (h refl)
class_alive work index cs n (suc s) R e h =
    let d = class_some work cs n s (sym e) in
    ap all_zero (sym d.1) ∙ R.alive s d.0

pub not_final : (l : Listed) (cs : List ℕ) (c : ℕ) → c ≡ class_of l.work.now cs l.count → (eqb c 0 && all_zero cs) ≡ false
    → all_zero cs ≡ false
not_final l cs zero e h = h
not_final l cs (suc s) e h = class_alive l.work.now l.index.now cs l.count (suc s) l.ready e (λ z. absurd (omega arith))
