-- Conditions 9 and 15 by the tests that lead to them, one after the other: each of them decides, or leaves it to the next ones.
-- Assumes nothing.
use mathlib.Core.Path.{◌≡◌, refl, ap}
use mathlib.Core.Bool.{Bool, true, false, ◌&&◌, ◌||◌, not}
use mathlib.Core.List.{List}
use Prim.Native.Nat.{ℕ, ◌+◌, ◌≤◌, ◌<◌}
use native.Mathlib.Numerals.{add-one}
use borrow.Author.Tests.{le-leb, lt-leb}
use lib.Dec.{leb}
use lib.ListN.{length, get_or, drop, drop_of_length-le}
use lib.Seq.{drop-cons}
use Rattle.automaton.specs.Automata.{max_states, InRange, in_range}
use Rattle.automaton.proofs.Booleans.{is_true, T_true, clash}
use Rattle.automaton.proofs.InRange.{in_range_iff}
use Rattle.automaton.specs.declared.Automaton.{Automaton}
use Rattle.deadstates.specs.DeadEnds.{has_dead}
use Rattle.history.specs.declared.Entry.{Entry}
use Rattle.history.specs.Entries.{max_edition, WellFormed, malformed}
use Rattle.history.specs.Verdicts.{outside}
use Rattle.history.proofs.EntryLaws.{malformed_iff, well_formed_stable}

-- the numbers beside the held automaton
abbrev bounds : Entry → Bool
bounds E = leb 1 E.first && leb E.first max_states && leb E.held.states E.first && leb E.edition max_edition

pub tested_in_range : (A : Automaton) → in_range A ≡ true → InRange A
tested_in_range A e = (in_range_iff A).0 (is_true (in_range A) e)

pub empty_not_malformed : (E : Entry) → E.filled ≡ false → malformed E ≡ false
unfolding malformed
empty_not_malformed E e = rw e

pub strays_malformed : (E : Entry) → E.filled ≡ true → in_range E.held ≡ false → malformed E ≡ true
unfolding malformed
strays_malformed E e r = rw (e, r)

dead_fails : (r f s t : Bool) → not (r && f && false && s && t) ≡ true
dead_fails true true s t = refl
dead_fails true false s t = refl
dead_fails false f s t = refl

pub dead_malformed : (E : Entry) → E.filled ≡ true → has_dead E.held ≡ true → malformed E ≡ true
unfolding malformed
dead_malformed E e d =
    rw (e, d) (dead_fails (in_range E.held) (leb 1 E.first && leb E.first max_states) _ _)

bounds_joined : (a b s t : Bool) → not (true && (a && b) && not false && s && t) ≡ not (a && b && s && t)
bounds_joined true true s t = refl
bounds_joined true false s t = refl
bounds_joined false b s t = refl

pub bounds_malformed : (E : Entry) → E.filled ≡ true → in_range E.held ≡ true → has_dead E.held ≡ false
    → malformed E ≡ not (bounds E)
unfolding malformed
bounds_malformed E e r d =
    rw (e, r, d)
    (bounds_joined (leb 1 E.first) (leb E.first max_states) (leb E.held.states E.first) (leb E.edition max_edition))

-- a filled entry past condition 9 is well formed
pub passed_well_formed : (E : Entry) → malformed E ≡ false → E.filled ≡ true → WellFormed E
passed_well_formed E m e = well_formed_stable E (λ h. clash (T_true (malformed E) ((malformed_iff E).1 (e, h))) m)

-- The letters from place i on.

module _ (k : ℕ) (w : List ℕ) (i : ℕ) where
  outside_at : i < length w → outside k (drop i w) ≡ (leb k (get_or w i 0) || outside k (drop (i + 1) w))
  unfolding outside
  outside_at h = rw (add-one i, drop-cons w i 0)

  pub outside_found : i < length w → k ≤ get_or w i 0 → outside k (drop i w) ≡ true
  outside_found h l = rw (outside_at h, le-leb k (get_or w i 0) l)

  pub outside_passed : i < length w → get_or w i 0 < k → outside k (drop (i + 1) w) ≡ outside k (drop i w)
  outside_passed h l = rw (outside_at h, lt-leb k (get_or w i 0) l)

  pub outside_end : length w ≤ i → outside k (drop i w) ≡ false
  unfolding outside
  outside_end h = ap (outside k) (drop_of_length-le w h)
