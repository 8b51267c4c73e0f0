-- `conditions::malformed` meets its contract: the first two tests decide condition 9, or leave it to the last two, of which either
-- makes an entry malformed. Assumes nothing.
use mathlib.Core.Path.{◌≡◌, sym, ap, ◌∙◌}
use mathlib.Core.Bool.{Bool, true, false, ◌||◌, ◌&&◌, not}
use lib.Dec.{leb}
use Rattle.automaton.specs.Automata.{max_states, in_range}
use Rattle.deadstates.specs.DeadEnds.{has_dead}
use Rattle.history.specs.declared.Entry.{Entry}
use Rattle.history.specs.Entries.{max_edition, malformed}
use Rattle.history.proofs.EntryChecks.{dead_malformed, bounds_malformed}
use Rattle.conditions.proofs.malformed.Goals as goal

-- the last two tests of a filled entry that is in range
last_tests : (E : Entry) (d b : Bool) → E.filled ≡ true → in_range E.held ≡ true → d ≡ has_dead E.held
    → b ≡ (leb 1 E.first && leb E.first max_states && leb E.held.states E.first && leb E.edition max_edition)
    → (d || not b) ≡ malformed E
last_tests E true b f r d o = sym (dead_malformed E f (sym d))
last_tests E false b f r d o = ap not o ∙ sym (bounds_malformed E f r (sym d))

pub returns : goal.returns
returns c =
    last_tests c.args.entry.now _ _ c.if-not-entry.false
    (sym c.in_range.ensures ∙ c.if-not-in_range.false)
    c.has_dead-dead.ensures
    c.in_bounds-outside.ensures
