-- The records of an automaton: they are what it has and what each of its files has, within its header, and they ascend. Assumes nothing.
use mathlib.Core.Path.{◌≡◌, refl, sym, subst}
use mathlib.Core.Logic.{inl, inr, ⊎_elim, ◌↔◌}
use mathlib.Core.List.Memᴰ
use mathlib.Core.List.{List, map, Memᴰ}
use Prim.Native.Nat.{ℕ}
use lib.Dec.{T}
use Rattle.automaton.specs.declared.Automaton.{Automaton}
use Rattle.automaton.specs.Ranges.{those, chained}
use Rattle.automaton.specs.Automata.{accepts, transition, targets}
use Rattle.automaton.proofs.Ranges.{those_pass}
use Rattle.automaton.proofs.Lists.{those_at, chained_from, chained_at}
use Rattle.automaton.proofs.Transitions.{transition_parts, accepts_below}
use Rattle.format.specs.Writing.{Item, accepting_item, transition_item}
use Rattle.format.specs.Spelling.{Within, Spells}
use Rattle.format.proofs.RecordSteps.{Has}
use Rattle.format.proofs.FileBytes.{spells_has_iff}
use Rattle.fixed_form.specs.FixedForm.{Before, Ascending, accepting_items, transition_items, items_of}
use Rattle.fixed_form.proofs.Ascending.{ascending_append, ascending_those, ascending_chained}

module _ (A : Automaton) where
  -- the records of q on letter a, and those of q
  abbrev records_on : ℕ → ℕ → List Item
  records_on q a = map (transition_item q a) (targets A q a)

  abbrev records_from : ℕ → List Item
  records_from q = chained (records_on q) A.letters 0

  -- What the automaton has is among its records.

  accepting_has : (q : ℕ) → T (accepts A q) → Memᴰ (accepting_item q) (accepting_items A)
  unfolding accepting_items
  accepting_has q t = Memᴰ.map accepting_item (those_at (accepts A) A.states q (accepts_below A q t) t)

  transition_has : (q a r : ℕ) → T (transition A q a r) → Memᴰ (transition_item q a r) (transition_items A)
  unfolding transition_items targets
  transition_has q a r t =
      let p = transition_parts A q a r t in
      chained_at records_from A.states q (transition_item q a r) p.0
      (chained_at (records_on q) A.letters a (transition_item q a r) p.1
      (Memᴰ.map (transition_item q a) (those_at (transition A q a) A.states r p.2 t)))

  items_have : (x : Item) → Has A x → Memᴰ x (items_of A)
  items_have (accepting_item q) t = Memᴰ.append_left (transition_items A) (accepting_has q t)
  items_have (transition_item q a r) t = Memᴰ.append_right (accepting_items A) (transition_has q a r t)

  -- What is among its records the automaton has.

  record AcceptingItem (x : Item) : Type 0 where
    state : ℕ
    is : x ≡ accepting_item state
    holds : T (accepts A state)

  accepting_item_of : (x : Item) → Memᴰ x (accepting_items A) → AcceptingItem x
  unfolding accepting_items
  accepting_item_of x m =
      let r = Memᴰ.of_map accepting_item (those (accepts A) A.states 0) m in
      record { state = r.0; is = sym r.2; holds = those_pass (accepts A) A.states 0 r.0 r.1 }

  -- of a transition from q on letter a
  record LeadsOn (q a : ℕ) (x : Item) : Type 0 where
    to : ℕ
    is : x ≡ transition_item q a to
    holds : T (transition A q a to)

  leads_on : (q a : ℕ) (x : Item) → Memᴰ x (records_on q a) → LeadsOn q a x
  unfolding targets
  leads_on q a x m =
      let r = Memᴰ.of_map (transition_item q a) (targets A q a) m in
      record { to = r.0; is = sym r.2; holds = those_pass (transition A q a) A.states 0 r.0 r.1 }

  record LeadsFrom (q : ℕ) (x : Item) : Type 0 where
    letter : ℕ
    leads : LeadsOn q letter x

  leads_from : (q : ℕ) (x : Item) → Memᴰ x (records_from q) → LeadsFrom q x
  leads_from q x m =
      let r = chained_from (records_on q) A.letters 0 x m in
      record { letter = r.0; leads = leads_on q r.0 x r.3 }

  record TransitionItem (x : Item) : Type 0 where
    from : ℕ
    leads : LeadsFrom from x

  transition_item_of : (x : Item) → Memᴰ x (transition_items A) → TransitionItem x
  unfolding transition_items
  transition_item_of x m =
      let r = chained_from records_from A.states 0 x m in
      record { from = r.0; leads = leads_from r.0 x r.3 }

  items_had : (x : Item) → Memᴰ x (items_of A) → Has A x
  items_had x m =
      ⊎_elim (λ l. let r = accepting_item_of x l in subst (Has A) (sym r.is) r.holds)
      (λ l. let r = (transition_item_of x l).leads.leads in subst (Has A) (sym r.is) r.holds)
      (Memᴰ.append_cases (accepting_items A) m)

  pub items_iff : (x : Item) → Has A x ↔ Memᴰ x (items_of A)
  items_iff x = (items_have x, items_had x)

  -- and so has each file that spells it
  pub spelled_items_iff : (s : List ℕ) (S : Spells s A) (x : Item) → Memᴰ x S.items ↔ Memᴰ x (items_of A)
  spelled_items_iff s S x =
      (λ m. (items_iff x).0 ((spells_has_iff s A S x).1 m), λ m. (spells_has_iff s A S x).0 ((items_iff x).1 m))

  has_within : (x : Item) → Has A x → Within A.states A.letters x
  has_within (accepting_item q) t = accepts_below A q t
  has_within (transition_item q a r) t = let p = transition_parts A q a r t in (p.0, p.1, p.2)

  pub items_within : (x : Item) → Memᴰ x (items_of A) → Within A.states A.letters x
  items_within x m = has_within x (items_had x m)

  -- They ascend.

  before_as : {x y u v : Item} → x ≡ u → y ≡ v → Before u v → Before x y
  before_as {x} {y} {u} {v} e d h = subst (λ (z : Item). Before z y) (sym e) (subst (Before u) (sym d) h)

  on_ascends : (q a : ℕ) → Ascending (records_on q a)
  unfolding targets
  on_ascends q a = ascending_those (transition_item q a) (λ j k h. inr (refl, inr (refl, h))) (transition A q a) A.states 0

  from_ascends : (q : ℕ) → Ascending (records_from q)
  from_ascends q =
      ascending_chained (records_on q) (on_ascends q)
      (λ j k x y h m l. before_as (leads_on q j x m).is (leads_on q k y l).is (inr (refl, inl h))) A.letters 0

  transitions_ascend : Ascending (transition_items A)
  unfolding transition_items
  transitions_ascend =
      ascending_chained records_from from_ascends
      (λ j k x y h m l. before_as (leads_from j x m).leads.is (leads_from k y l).leads.is (inl h)) A.states 0

  accepting_ascends : Ascending (accepting_items A)
  unfolding accepting_items
  accepting_ascends = ascending_those accepting_item (λ j k h. h) (accepts A) A.states 0

  pub written_ascends : Ascending (items_of A)
  written_ascends =
      ascending_append (accepting_items A) (transition_items A) accepting_ascends transitions_ascend
      (λ x y m l. before_as (accepting_item_of x m).is (transition_item_of y l).leads.leads.is tt)
