-- The line of a place's class while the place is expanded: it has the steps of the place's counters, before the first letter and after each. The
-- idea: the slot that leads the class has the counters of the place, and slots stay. Assumes nothing.
use mathlib.Core.Path.{◌≡◌, refl, sym, ◌∙◌, ap}
use mathlib.Core.Logic.{◌≢◌}
use mathlib.Core.List.{List}
use Prim.Native.Nat.{ℕ, zero, suc, ◌+◌, ◌*◌, ◌%◌, ◌≤◌, ◌<◌}
use native.Mathlib.Omega.{arith}
use lib.ListN.{length, get_or, set}
use Rattle.std.specs.Prelude.{Ok}
use Rattle.automaton.specs.Automata.{max_letters}
use Rattle.automaton.proofs.Booleans.{clash}
use Rattle.slots.specs.declared.Vertex.{Vertex}
use Rattle.classes.specs.Classes.{counters_at, class_of}
use Rattle.classes.specs.Indexes.{class_at}
use Rattle.classes.proofs.Leaders.{lists_equal, class_none, class_some, class_le}
use Rattle.classes.proofs.ListedStates.{class_at_lem}
use Rattle.slots.specs.Slots.{max_slots}
use Rattle.discovery.specs.declared.listed.Listed.{Listed}
use Rattle.discovery.specs.Representation.{Grows}
use Rattle.kept.specs.declared.Kept.{Kept}
use Rattle.successors.specs.declared.rules.Rules.{Rules}
use Rattle.successors.specs.Steps.{LinesKept}
use Rattle.kept.specs.Kept.{lines, line_length, kept_after, KeptStep}
use Rattle.kept.proofs.KeptSteps.{kept_line, line_owner, kept_step, kept_grows}

-- a slot that leads its class and has the counters owns the line
pub record Owns (l : Listed) (line : ℕ) (counters owners : List ℕ) : Type 0 where
  pub slot : ℕ
  pub below : slot < l.count
  pub owner : get_or owners (suc slot % lines) 0 ≡ suc slot
  pub has : counters_at l.work.now slot ≡ counters
  pub from : line ≡ suc slot % lines * line_length

-- the class of a place that is listed
module _ (l : Listed) (p : ℕ) (inside : p < l.count) (class : ℕ) (is : class ≡ class_at l.index.now p) where
  class_is : class ≡ class_of l.work.now (counters_at l.work.now p) l.count
  class_is = is ∙ class_at_lem l.work.now l.index.now l.count l.ready.index_is.joined l.ready.lefts p inside

  pub class_small : class ≤ max_slots
  class_small = let r = l.ready.room in omega (arith, class_is, class_le l.work.now (counters_at l.work.now p) l.count)

  pub line_begins : (rules : Rules) (line : ℕ) (kept kept' : Kept) → LinesKept rules l kept → line ≡ class % lines * line_length
      → kept'.owners ≡ set kept.owners (class % lines) class → kept'.lines ≡ kept_after kept.owners kept.lines class
      → LinesKept rules l kept' × Owns l line (counters_at l.work.now p) kept'.owners
  line_begins rules line kept kept' K e f g = go class class_is e f g
    where
      go : (x : ℕ) → x ≡ class_of l.work.now (counters_at l.work.now p) l.count → line ≡ x % lines * line_length
          → kept'.owners ≡ set kept.owners (x % lines) x → kept'.lines ≡ kept_after kept.owners kept.lines x
          → LinesKept rules l kept' × Owns l line (counters_at l.work.now p) kept'.owners
      go zero q e f g =
          clash (lists_equal (counters_at l.work.now p) (counters_at l.work.now p) refl)
          (class_none l.work.now (counters_at l.work.now p) l.count (sym q) p inside)
      go (suc k) q e f g =
          let s = class_some l.work.now (counters_at l.work.now p) l.count k (sym q) in (
            rw (f, g)
                (kept_line rules.tops.now rules.masks.now rules.right.now.states l.work.now l.count kept.owners kept.lines K k s.0),
            record {
              slot = k;
              below = s.0;
              owner = ap (λ (x : List ℕ). get_or x (suc k % lines) 0) f
                  ∙ line_owner rules.tops.now rules.masks.now rules.right.now.states l.work.now l.count kept.owners kept.lines K k s.0;
              has = s.1;
              from = e;
            },
          )

module _ (rules : Rules) (l : Listed) (line : ℕ) (counters : List ℕ) (kept : Kept) (K : LinesKept rules l kept)
    (O : Owns l line counters kept.owners) (letter : ℕ) (few : letter < max_letters) where
  -- the step on the letter, by the places that are kept
  abbrev OnLetter : List ℕ → Type 0
  OnLetter places =
      KeptStep rules.tops.now rules.masks.now rules.right.now.states l.work.now l.count places (line + letter * 2) letter counters

  pub line_step : OnLetter kept.lines
  line_step =
      rw (O.from, ← O.has) ((K.owned (suc O.slot % lines) O.slot (omega arith) O.owner).1 letter few)

  pub place_fits : line + letter * 2 + 2 ≤ length kept.lines
  place_fits = omega (arith, O.from, K.kept_long)

  pub line_kept : (places : List ℕ) → length places ≡ length kept.lines → OnLetter places
      → ((i : ℕ) → i ≢ line + letter * 2 → i ≢ line + letter * 2 + 1 → get_or places i 0 ≡ get_or kept.lines i 0)
      → (m : Listed) → Grows l.work.now l.count m.work.now (Ok m.count)
      → LinesKept rules m (record { owners = kept.owners; lines = places }) × Owns m line counters kept.owners
  line_kept places e S others m G =
      let more = G.no_fewer in
      let d = O.below in (
        kept_grows rules.tops.now rules.masks.now rules.right.now.states l.work.now m.work.now l.count m.count G.slots G.no_fewer places
            kept.owners
            (kept_step rules.tops.now rules.masks.now rules.right.now.states l.work.now l.count kept.owners kept.lines K places
            (suc O.slot % lines) letter O.slot e (omega arith) few O.owner (rw (O.from, ← O.has) at S) (rw O.from at others)),
        record {
          slot = O.slot;
          below = omega arith;
          owner = O.owner;
          has = ap (λ (v : Vertex). v.counters) (G.slots O.slot O.below) ∙ O.has;
          from = O.from;
        },
      )
