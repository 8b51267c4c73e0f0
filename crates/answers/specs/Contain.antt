-- Contain as a whole (01, "Contain" and "The walk"): one definition for the outcome and both buffers.
--   contained n, differs i len, no_slots n, no_room len  the outcomes of a walk, by name
--   comparison       what a walk with S slots comes to, with room for a word of so many letters
--   Compare          what the walk of two automata gives: its answer, and the work buffer and the word buffer afterwards
--   comparing        the walk of two automata from the start of the work buffer, and the word of its final vertex in front of the word buffer
--   Contain          what contain gives: its outcome, and the two buffers afterwards
--   deciding         the checks of two automata in their order, bound, letter counts, dead states of the first and of the second, and the walk
--   containing       the whole call: the first file, the second file, and their automata
--   outcome_of, work_of, word_buffer  its three parts
--   part_length      the length of the part of the word buffer that is handed back: the word, an empty part where there is none
-- Shown by `contain_demand_1` and `demand_2`. Assumes nothing.
use Rattle.std.specs.Prelude.{cond, not, List, ℕ, eqb, leb, ltb, length, take}
use Rattle.automaton.specs.declared.Automaton.{Automaton}
use Rattle.format.specs.File.{read_file}
use Rattle.deadstates.specs.DeadEnds.{has_dead}
use Rattle.slots.specs.declared.Vertex.{Vertex}
use Rattle.slots.specs.Slots.{slot_count}
use Rattle.graph.specs.Discovery.{Walk, going, ended, full}
use Rattle.graph.specs.LagGraph.{max_bound}
use Rattle.graph.specs.Walks.{walk_of, work_after, word_of, word_after}
use Rattle.checks.specs.Checks.{on_read}
use Rattle.answers.specs.Outcomes.{Comparison}
use Rattle.answers.specs.Outcomes.{Contained, Differs, NoSlots, NoRoom}
use Rattle.answers.specs.Outcomes.{Outcome}
use Rattle.answers.specs.Outcomes.{Refused, Compared}

abbrev pub contained : ℕ → Outcome
contained n = Compared (Contained n)

abbrev pub differs : ℕ → ℕ → Outcome
differs i len = Compared (Differs i len)

abbrev pub no_slots : ℕ → Outcome
no_slots n = Compared (NoSlots n)

abbrev pub no_room : ℕ → Outcome
no_room len = Compared (NoRoom len)

-- a final vertex at a place, with a word of so many letters: 11 where they have no room
abbrev pub differing : ℕ → ℕ → ℕ → Comparison
differing room place len = cond (leb len room) (Differs place len) (NoRoom len)

abbrev pub comparison : Automaton → Automaton → ℕ → ℕ → ℕ → Walk Vertex → Comparison
comparison A B b S room (going ns) = Contained (length ns)
comparison A B b S room (ended ns n) = differing room (length ns) (length (word_of A B b ns n))
comparison A B b S room (full ns) = NoSlots S

-- only a final vertex has a word
abbrev pub walk_word : Automaton → Automaton → ℕ → Walk Vertex → List ℕ → List ℕ
walk_word A B b (going ns) word = word
walk_word A B b (ended ns n) word = word_after word (word_of A B b ns n)
walk_word A B b (full ns) word = word

pub record Compare : Type 0 where
  pub answer : Comparison
  pub work : List ℕ
  pub word : List ℕ

abbrev pub compare_with : Automaton → Automaton → ℕ → List ℕ → List ℕ → Walk Vertex → Compare
compare_with A B b work word w =
    record {
      answer = comparison A B b (slot_count (length work)) (length word) w;
      work = work_after work w;
      word = walk_word A B b w word;
    }

unfoldable pub comparing : Automaton → Automaton → ℕ → List ℕ → List ℕ → Compare
comparing A B b work word = compare_with A B b work word (walk_of A B b (slot_count (length work)))

pub record Contain : Type 0 where
  pub outcome : Outcome
  pub work : List ℕ
  pub word : List ℕ

-- a refusal before the walk changes neither buffer
abbrev pub refusing : ℕ → ℕ → List ℕ → List ℕ → Contain
refusing n file work word = record { outcome = Refused n file; work = work; word = word }

abbrev pub after_walk : Compare → Contain
after_walk c = record { outcome = Compared c.answer; work = c.work; word = c.word }

unfoldable pub deciding : Automaton → Automaton → ℕ → List ℕ → List ℕ → Contain
deciding A B b work word =
    cond (ltb max_bound b) (refusing 8 0 work word)
    (cond (not (eqb A.letters B.letters)) (refusing 7 0 work word)
    (cond (has_dead A) (refusing 6 1 work word)
    (cond (has_dead B) (refusing 6 2 work word)
    (after_walk (comparing A B b work word)))))

unfoldable pub containing : List ℕ → List ℕ → ℕ → List ℕ → List ℕ → Contain
containing f g b work word =
    on_read (read_file f) (λ n. refusing n 1 work word)
    (λ A. on_read (read_file g) (λ n. refusing n 2 work word)
    (λ B. deciding A B b work word))

module _ (f g : List ℕ) (b : ℕ) (work word : List ℕ) where
  abbrev pub outcome_of : Outcome
  outcome_of = (containing f g b work word).outcome

  abbrev pub work_of : List ℕ
  work_of = (containing f g b work word).work

  abbrev pub word_buffer : List ℕ
  word_buffer = (containing f g b work word).word

abbrev pub part_length : Outcome → ℕ
part_length (Refused n file) = 0
part_length (Compared (Contained n)) = 0
part_length (Compared (Differs i len)) = len
part_length (Compared (NoSlots n)) = 0
part_length (Compared (NoRoom len)) = 0

unfoldable pub word_part : List ℕ → List ℕ → ℕ → List ℕ → List ℕ → List ℕ
word_part f g b work word = take (part_length (outcome_of f g b work word)) (word_buffer f g b work word)
