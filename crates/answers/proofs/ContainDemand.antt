-- Demand 1 of contain, from the table, the numbers and the walk that the two buffers show. Assumes nothing.
use mathlib.Core.Path.{◌≡◌, refl, ap}
use mathlib.Core.Bool.{Bool, true, false, cond, not}
use mathlib.Core.List.{List, ◌++◌}
use Prim.Native.Nat.{ℕ}
use native.Mathlib.Nat.{lt_of_not-le}
use borrow.Author.Tests.{leb-false}
use lib.Dec.{eqb, leb, ltb}
use lib.ListN.{length, drop}
use Rattle.automaton.specs.declared.Automaton.{Automaton}
use Rattle.automaton.specs.Automata.{InRange}
use Rattle.format.specs.File.{holds, read_file}
use Rattle.format.proofs.FileLaws.{file_in_range}
use Rattle.format.proofs.FileRefusals.{file_reads_as}
use Rattle.deadstates.specs.DeadEnds.{has_dead}
use Rattle.slots.specs.declared.Vertex.{Vertex}
use Rattle.slots.specs.Slots.{slot_count}
use Rattle.graph.specs.Discovery.{Node, Walk, going, ended, full}
use Rattle.graph.specs.LagGraph.{max_bound}
use Rattle.graph.specs.Walks.{walk_of, work_after, word_of, NeedsMore}
use Rattle.graph.proofs.WalkTheorem.{walk_full, walk_full_front}
use Rattle.graph.proofs.ListExists.{list_exists}
use Rattle.answers.specs.Outcomes.{Compared}
use Rattle.answers.specs.Outcomes.{Differs, NoRoom}
use Rattle.answers.specs.Contain.{Contain, compare_with, comparing, after_walk, refusing, deciding, containing, outcome_of, work_of, word_buffer}
use Rattle.answers.specs.Table.{Both}
use Rattle.answers.specs.Demand1.{slots_over, FrontSlots, AfterContain, Demand1}
use Rattle.checks.proofs.ChecksLaws.{by_test, by_read}
use Rattle.answers.proofs.WalkRows.{whole_of, final_of}
use Rattle.answers.proofs.ContainTable.{contain_table}
use Rattle.answers.proofs.ContainAnswers.{contain_numbers}

-- the front of the discovery list stands in the slots after a walk that is full
pub full_front : (A B : Automaton) (b S : ℕ) → InRange A → (before : List ℕ) (ns : List (Node Vertex)) → walk_of A B b S ≡ full ns
    → FrontSlots A B b S before (work_after before (full ns))
unfolding work_after NeedsMore
full_front A B b S r before ns e =
    let l = list_exists A B b r.initial_below in
    let w = walk_full A B b S ns e in
    record {
      list = l.0;
      is_list = l.1;
      longer = lt_of_not-le (λ h. w.0 l.0 (record { list = l.1; room = h }));
      slots = ap (slots_over before) (walk_full_front A B b S ns e l.0 l.1);
    }

module _ (f g : List ℕ) (b : ℕ) (work word : List ℕ) where
  abbrev S : ℕ
  S = slot_count (length work)

  abbrev Left : Contain → Type 0
  Left c = AfterContain f g b work word c.outcome c.work c.word

  module _ (A B : Automaton) (rA : read_file f ≡ holds A) (rB : read_file g ≡ holds B) where
    both : {P : Automaton → Automaton → Type 0} → P A B → Both f g P
    both p = record { first = A; second = B; first_read = rA; second_read = rB; condition = p }

    walk_leaves : (w : Walk Vertex) → walk_of A B b S ≡ w → Left (after_walk (compare_with A B b work word w))
    unfolding work_after
    walk_leaves (going ns) e = both (whole_of e (refl, refl, refl))
    walk_leaves (ended ns n) e = go (leb (length (word_of A B b ns n)) (length word)) refl
      where
        v : List ℕ
        v = word_of A B b ns n

        go : (c : Bool) → leb (length v) (length word) ≡ c
            → AfterContain f g b work word (Compared (cond c (Differs (length ns) (length v)) (NoRoom (length v)))) (slots_over work ns)
            (cond c (v ++ drop (length v) word) word)
        go true t = both (final_of e (refl, refl, refl, refl))
        go false t = both (final_of e (refl, leb-false (length v) (length word) t, refl, refl))
    walk_leaves (full ns) e = both (refl, full_front A B b S (file_in_range f A rA) work ns e, refl)

  stops : (n file : ℕ) → Left (refusing n file work word)
  stops n file = (refl, refl)

  pub contain_leaves : AfterContain f g b work word (outcome_of f g b work word) (work_of f g b work word) (word_buffer f g b work word)
  unfolding containing deciding comparing
  contain_leaves =
      by_read Left (read_file f) (λ n. refusing n 1 work word) _ (λ n _. stops n 1) λ A rA.
      by_read Left (read_file g) (λ n. refusing n 2 work word) _ (λ n _. stops n 2) λ B rB.
      by_test Left (ltb max_bound b) (refusing 8 0 work word) _ (λ _. stops 8 0) λ _.
      by_test Left (not (eqb A.letters B.letters)) (refusing 7 0 work word) _ (λ _. stops 7 0) λ _.
      by_test Left (has_dead A) (refusing 6 1 work word) _ (λ _. stops 6 1) λ _.
      by_test Left (has_dead B) (refusing 6 2 work word) (after_walk (compare_with A B b work word (walk_of A B b S))) (λ _. stops 6 2) λ _.
      walk_leaves A B rA rB (walk_of A B b S) refl

  pub contain_demand_1 : Demand1 f g b work word
  contain_demand_1 =
      record {
        table = contain_table f g b work word;
        first_reads = file_reads_as f;
        second_reads = file_reads_as g;
        occurs = contain_numbers f g b work word;
        leaves = contain_leaves;
      }
