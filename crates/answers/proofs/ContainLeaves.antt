-- What contain leaves in the word buffer: the word that it gives has room there. By the checks, each of which either refuses or passes on.
-- Assumes nothing.
use mathlib.Core.Path.{◌≡◌, refl}
use mathlib.Core.Bool.{Bool, true, false, cond, not}
use mathlib.Core.List.{List}
use Prim.Native.Nat.{ℕ, ◌≤◌}
use native.Mathlib.Omega.{arith}
use borrow.Author.Tests.{leb-true}
use lib.Dec.{eqb, leb, ltb}
use lib.ListN.{length}
use Rattle.automaton.specs.declared.Automaton.{Automaton}
use Rattle.format.specs.File.{read_file}
use Rattle.deadstates.specs.DeadEnds.{has_dead}
use Rattle.slots.specs.declared.Vertex.{Vertex}
use Rattle.slots.specs.Slots.{slot_count}
use Rattle.graph.specs.Discovery.{Walk, going, ended, full}
use Rattle.graph.specs.LagGraph.{max_bound}
use Rattle.graph.specs.Walks.{walk_of, word_of}
use Rattle.answers.specs.Outcomes.{Compared}
use Rattle.answers.specs.Outcomes.{Differs, NoRoom}
use Rattle.answers.specs.Contain.{Contain, compare_with, comparing, after_walk, refusing, deciding, containing, part_length, outcome_of}
use Rattle.checks.proofs.ChecksLaws.{by_test, by_read}

-- the two cases of a word
written_room : (place len room : ℕ) (c : Bool) → leb len room ≡ c
    → part_length (Compared (cond c (Differs place len) (NoRoom len))) ≤ room
written_room place len room true e = leb-true len room e
written_room place len room false e = omega arith

module _ (b : ℕ) (work word : List ℕ) where
  abbrev Roomy : Contain → Type 0
  Roomy c = part_length c.outcome ≤ length word

  refusing_roomy : (n file : ℕ) → Roomy (refusing n file work word)
  refusing_roomy n file = omega arith

  walk_roomy : (A B : Automaton) (w : Walk Vertex) → Roomy (after_walk (compare_with A B b work word w))
  walk_roomy A B (going ns) = omega arith
  walk_roomy A B (ended ns n) =
      let v = word_of A B b ns n in
      written_room (length ns) (length v) (length word) (leb (length v) (length word)) refl
  walk_roomy A B (full ns) = omega arith

  contain_roomy : (f g : List ℕ) → Roomy (containing f g b work word)
  unfolding containing deciding comparing
  contain_roomy f g =
      by_read Roomy (read_file f) (λ n. refusing n 1 work word) _ (λ n _. refusing_roomy n 1) λ A _.
      by_read Roomy (read_file g) (λ n. refusing n 2 work word) _ (λ n _. refusing_roomy n 2) λ B _.
      by_test Roomy (ltb max_bound b) (refusing 8 0 work word) _ (λ _. refusing_roomy 8 0) λ _.
      by_test Roomy (not (eqb A.letters B.letters)) (refusing 7 0 work word) _ (λ _. refusing_roomy 7 0) λ _.
      by_test Roomy (has_dead A) (refusing 6 1 work word) _ (λ _. refusing_roomy 6 1) λ _.
      by_test Roomy (has_dead B) (refusing 6 2 work word) (after_walk (compare_with A B b work word (walk_of A B b (slot_count (length work)))))
      (λ _. refusing_roomy 6 2) λ _.
      walk_roomy A B (walk_of A B b (slot_count (length work)))

module _ (f g : List ℕ) (b : ℕ) (work word : List ℕ) where
  pub part_le : part_length (outcome_of f g b work word) ≤ length word
  part_le = contain_roomy b work word f g
