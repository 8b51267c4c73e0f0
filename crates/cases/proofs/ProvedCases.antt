-- The cases of the table hold: one computed test over the whole table, and the law that turns the test into
-- what is said of each case. Assumes nothing.
use mathlib.Core.Path.{◌≡◌, refl, subst, sym}
use mathlib.Core.Bool.{Bool, true, false, ◌&&◌, beq}
use mathlib.Core.List.Memᴰ
use mathlib.Core.List.{List, [], ◌∷◌, Memᴰ}
use mathlib.Core.Logic.{⊎_elim}
use Prim.Native.Nat.{ℕ}
use lib.Dec.{T, eqb, eqb→eq}
use Rattle.automaton.specs.Ranges as ranges
use Rattle.automaton.specs.Automata as automata
use Rattle.relations.specs.Closure as paths
use Rattle.automaton.proofs.Booleans.{and_both}
use Rattle.format.specs.Records as records
use Rattle.format.specs.Writing as writing
use Rattle.format.specs.File as file
use Rattle.format.specs.File.{Read, refused, holds, read_file}
use Rattle.fixed_form.specs.FixedForm as form
use Rattle.fixed_form.specs.Write as writes
use Rattle.fixed_form.specs.Write.{write_of}
use Rattle.tokens.specs.Tokens as tokens
use Rattle.labels.specs.Labels as labels
use Rattle.labels.specs.LabelReading as reads
use Rattle.hanoi.specs.Reading as texts
use Rattle.hanoi.specs.Meaning as meaning
use Rattle.hanoi.specs.Hanoi as calls
use Rattle.hanoi.specs.Hanoi.{hanoi_of}
use Rattle.deadstates.specs.DeadEnds as ends
use Rattle.slots.specs.Slots as slots
use Rattle.slots.specs.Slots.{same_list}
use Rattle.slots.proofs.Vertices.{same_list_eq}
use Rattle.graph.specs.LagGraph as graph
use Rattle.graph.specs.Walks as walks
use Rattle.answers.specs.Contain as contain
use Rattle.answers.specs.Contain.{outcome_of, word_part}
use Rattle.boundary.specs.Numbers.{outcome_number, write_number}
use Rattle.lassos.specs.Verdict as lasso
use Rattle.lassos.specs.Verdict.{accepted}
use Rattle.cases.specs.Cases.{Case, call, verdict, write, hanoi, Judged, buffer, Right, cases}

-- what a file's automaton comes to, as a test; a file that is refused fails it
judged : Read → List ℕ → List ℕ → Bool → Bool
judged (refused n) u v answer = false
judged (holds A) u v answer = beq (accepted A u v) answer

-- what is said of a case, as a test
test : Case → Bool
test (call f g b work word n part) =
    eqb (outcome_number (outcome_of f g b (buffer work) (buffer word))) n
    && same_list (word_part f g b (buffer work) (buffer word)) part
test (verdict f u v answer) = judged (read_file f) u v answer
test (write f out n left) = eqb (write_number (write_of f out).answer) n && same_list (write_of f out).out left
test (hanoi s out n left) = eqb (write_number (hanoi_of s out).answer) n && same_list (hanoi_of s out).out left

beq_eq : (a b : Bool) → T (beq a b) → a ≡ b
beq_eq true true t = refl
beq_eq true false t = absurd t
beq_eq false true t = absurd t
beq_eq false false t = refl

judged_right : (f u v : List ℕ) (answer : Bool) → T (judged (read_file f) u v answer) → Judged f u v answer
unfolding judged
judged_right f u v answer t = go (read_file f) refl t
  where
    go : (r : Read) → read_file f ≡ r → T (judged r u v answer) → Judged f u v answer
    go (refused n) e h = absurd h
    go (holds A) e h = record { automaton = A; read = e; verdict_is = beq_eq (accepted A u v) answer h }

test_right : (c : Case) → T (test c) → Right c
unfolding test
test_right (call f g b work word n part) t =
    let h = and_both (eqb (outcome_number (outcome_of f g b (buffer work) (buffer word))) n) (same_list (word_part f g b (buffer work) (buffer word)) part) t in
    (eqb→eq _ _ h.0, same_list_eq _ _ h.1)
test_right (verdict f u v answer) t = judged_right f u v answer t
test_right (write f out n left) t =
    let h = and_both (eqb (write_number (write_of f out).answer) n) (same_list (write_of f out).out left) t in
    (eqb→eq _ _ h.0, same_list_eq _ _ h.1)
test_right (hanoi s out n left) t =
    let h = and_both (eqb (write_number (hanoi_of s out).answer) n) (same_list (hanoi_of s out).out left) t in
    (eqb→eq _ _ h.0, same_list_eq _ _ h.1)

every : List Case → Bool
every [] = true
every (c ∷ cs) = test c && every cs

each : (cs : List Case) → T (every cs) → (c : Case) → Memᴰ c cs → T (test c)
unfolding every
each [] t c m = absurd (Memᴰ.not-nil m)
each (d ∷ cs) t c m =
    let h = and_both (test d) (every cs) t in
    ⊎_elim (λ e. subst (λ (x : Case). T (test x)) (sym e) h.0) (λ k. each cs h.1 c k) (Memᴰ.cases_cons m)

computed : T (every cases)
unfolding every test judged ranges.some ranges.those ranges.chained ranges.table ranges.largest automata.accepts automata.transition automata.targets automata.bare automata.with_accepting automata.with_transition automata.header_values paths.relation paths.through paths.rounds paths.closure writing.items_bytes records.record_in file.header file.takes file.records file.read_file ends.edge ends.paths ends.live ends.dead ends.dead_states ends.has_dead slots.same_list slots.same_vertex slots.all_zero graph.initial_counter graph.initial_vertex graph.counter graph.stepped graph.successor graph.successors walks.walk_of walks.word_of contain.comparing contain.deciding contain.containing contain.word_part lasso.only lasso.on_letter lasso.on_word lasso.loop_runs lasso.loop_visits lasso.accepted form.accepting_items form.transition_items form.written writes.writing writes.write_of tokens.whites tokens.skip tokens.starts_with tokens.stands tokens.digits tokens.value tokens.number_at tokens.name_bytes labels.truth reads.atom_at reads.more reads.conjunction reads.disjunction reads.operand_at reads.label_at texts.expect texts.expect_number texts.check texts.names texts.acc_name_item texts.acceptance texts.is_declared texts.state_at texts.edge_at texts.edge_of texts.end_at texts.part_at texts.header texts.body texts.read_hanoi meaning.with_letters meaning.with_part meaning.with_parts meaning.automaton_of calls.hanoi_of
computed = tt

pub proved_cases : (c : Case) → Memᴰ c cases → Right c
proved_cases c m = test_right c (each cases computed c m)
