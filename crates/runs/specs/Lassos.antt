-- Lasso words and their acceptance (01, "Verdict"): the stem u, and after it the loop v again and again. The word is accepted where the stem and
-- some copies of the loop, or none, lead from the initial state to a state that one copy of the loop or more leads back to, past an accepting
-- state. Stem and loop have any length; without a letter in the loop there is no such word.
--   repeated n v     n copies of v
--   Meets A π        some state of π is accepting
--   Accepted A u v   the lasso word of stem u and loop v is accepted by A
-- Shown by `verdict_decides_acceptance` of the crate lassos. Assumes nothing.
use mathlib.Core.List.{List, [], ◌∷◌, ◌++◌, Memᴰ}
use Rattle.std.specs.Prelude.{ℕ, zero, suc, ◌≤◌, T, length}
use Rattle.automaton.specs.declared.Automaton.{Automaton}
use Rattle.automaton.specs.Automata.{accepts}
use Rattle.runs.specs.Runs.{Run}

unfoldable pub repeated : ℕ → List ℕ → List ℕ
repeated zero v = []
repeated (suc n) v = v ++ repeated n v

unfoldable pub Meets : Automaton → List ℕ → Type 0
Meets A π = (q : ℕ) × Memᴰ q π × T (accepts A q)

pub record Accepted (A : Automaton) (u v : List ℕ) : Type 0 where
  pub some_letter : 1 ≤ length v
  pub i : ℕ
  pub j : ℕ
  pub some_copy : 1 ≤ j
  pub state : ℕ
  pub stem : List ℕ
  pub stem_run : Run A A.initial (u ++ repeated i v) state stem
  pub cycle : List ℕ
  pub cycle_run : Run A state (repeated j v) state cycle
  pub meets : Meets A (state ∷ cycle)
