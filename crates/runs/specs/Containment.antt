-- Containment at a bound (01, "Entry, open, offer"; the paper, section 3.2): whatever run prefix the first automaton has, the second has one on
-- that word which falls behind by b visits at most.
--   Follows A B b w π   B has a run prefix on w, and the lag of π and that prefix, in this order, is at most b
--   Contained A B b     B follows every run prefix of A so, on the prefix's own word
--   Shows A B b w       the word w shows that containment fails: B does not follow some run prefix of A on it
-- Shown by `walk_decides_containment` of the crate graph, and what it is good for by `containment_keeps_lassos`. Assumes nothing.
use Rattle.std.specs.Prelude.{List, ℕ, ◌≤◌}
use Rattle.automaton.specs.declared.Automaton.{Automaton}
use Rattle.runs.specs.Runs.{Prefix}
use Rattle.runs.specs.Lag.{LagIs}

pub record Follows (A B : Automaton) (b : ℕ) (w π : List ℕ) : Type 0 where
  pub states : List ℕ
  pub prefix : Prefix B w states
  pub lag : ℕ
  pub is : LagIs A B π states lag
  pub bounded : lag ≤ b

unfoldable pub Contained : Automaton → Automaton → ℕ → Type 0
Contained A B b = (w π : List ℕ) → Prefix A w π → Follows A B b w π

pub record Shows (A B : Automaton) (b : ℕ) (w : List ℕ) : Type 0 where
  pub states : List ℕ
  pub prefix : Prefix A w states
  pub unfollowed : Follows A B b w states → ⊥
