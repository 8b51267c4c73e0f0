-- The conditions of contain's rows that speak of files: a file's automaton has a dead state exactly where the test says so, and there is one
-- automaton of each file. Assumes nothing.
use mathlib.Core.Path.{◌≡◌, subst}
use mathlib.Core.Logic.{◌↔◌}
use mathlib.Core.List.{List}
use Prim.Native.Nat.{ℕ}
use lib.Dec.{T}
use Rattle.automaton.specs.declared.Automaton.{Automaton}
use Rattle.runs.specs.DeadStates.{Dead}
use Rattle.format.specs.File.{holds, read_file}
use Rattle.format.proofs.FileLaws.{file_in_range, read_same}
use Rattle.deadstates.specs.DeadEnds.{has_dead}
use Rattle.deadstates.proofs.DeadRight.{has_dead_right}
use Rattle.answers.specs.Table.{Both}

pub file_dead : (f : List ℕ) (A : Automaton) → read_file f ≡ holds A → T (has_dead A) ↔ ((q : ℕ) × Dead A q)
file_dead f A r = let i = file_in_range f A r in has_dead_right A i.initial_below i.few_states

module _ {f g : List ℕ} {A B : Automaton} {P : Automaton → Automaton → Type 0} where
  pub both_of : read_file f ≡ holds A → read_file g ≡ holds B → P A B → Both f g P
  both_of e d p = record { first = A; second = B; first_read = e; second_read = d; condition = p }

  -- what holds of the two files' automata holds of A and B
  pub both_at : read_file f ≡ holds A → read_file g ≡ holds B → Both f g P → P A B
  both_at e d p =
      subst (λ (Y : Automaton). P A Y) (read_same p.second_read d)
      (subst (λ (X : Automaton). P X p.second) (read_same p.first_read e) p.condition)

-- two such conditions hold of the same automata
pub both_same : {f g : List ℕ} {P Q : Automaton → Automaton → Type 0} (p : Both f g P) → Both f g Q → Q p.first p.second
both_same p q = both_at p.first_read p.second_read q
