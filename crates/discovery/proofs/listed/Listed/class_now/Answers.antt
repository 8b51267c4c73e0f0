-- `discovery::class_now` meets its contract: a class that is sure, or not 0, is the class of the counters, and else it is looked up.
-- Assumes nothing.
use mathlib.Core.Path.{◌≡◌, sym, refl}
use mathlib.Core.Bool.{Bool, true, false, ◌||◌, not}
use Prim.Native.Nat.{ℕ, zero, suc}
use borrow.Author.Tests.{eq-eqb}
use lib.Dec.{eqb}
use Rattle.automaton.proofs.Booleans.{clash}
use Rattle.discovery.specs.Representation.{ClassKnown}
use Rattle.discovery.proofs.listed.Listed.class_now.Goals as goal

known_class : (class : ℕ) (sure : Bool) (c : ℕ) → ClassKnown class sure c → (sure || not (eqb class 0)) ≡ true → class ≡ c
known_class class true c K e = K.where_sure refl
known_class zero false c K e = clash (eq-eqb 0 0 refl) (flip (eqb 0 0) e)
  where
    flip : (b : Bool) → not b ≡ true → b ≡ false
    flip true q = sym q
    flip false q = refl
known_class (suc s) false c K e = K.where_some s refl

pub returns-then-sure-side : goal.returns-then-sure-side
returns-then-sure-side c = known_class c.args.side.class c.args.sure _ c.requires c.if-sure-side.true
