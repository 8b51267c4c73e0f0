-- Demand 1 of contain (01, the table of refusals, "The walk" and "Contain"): what it answers, the refusals that can occur, and what word and
-- every byte of work hold for each answer. The numbers of answers are in the crate `boundary`.
--   ContainRefusal n file   n and its file are refusals of contain before the walk
--   Listed S room x         no other answer x occurs with S slots and room for so many letters; a word is no longer than the place of its final
--                           vertex
--   slots_over before ns    the slots of the vertices ns, then the bytes of `before`
--   FrontSlots              refusal 10's slots: the first S vertices of the discovery list, which is longer
--   AfterContain x ..       the buffers after the answer x
-- Shown by `contain_demand_1`. Assumes nothing.
use Rattle.std.specs.Prelude.{◌≡◌, List, ◌++◌, ◌↔◌, ℕ, ◌*◌, ◌≤◌, ◌<◌, length, take, drop}
use Rattle.automaton.specs.declared.Automaton.{Automaton}
use Rattle.format.specs.Refusals.{ReadsAs}
use Rattle.slots.specs.declared.Vertex.{Vertex}
use Rattle.slots.specs.Slots.{slot_size, slot_count}
use Rattle.graph.specs.Discovery.{Node, Walk, nodes_of, DiscoveryList}
use Rattle.graph.specs.LagGraph.{lag_graph}
use Rattle.graph.specs.Walks.{slots_of, word_of}
use Rattle.answers.specs.Outcomes.{Outcome}
use Rattle.answers.specs.Outcomes.{Refused, Compared}
use Rattle.answers.specs.Outcomes.{Contained, Differs, NoSlots, NoRoom}
use Rattle.checks.specs.Checks.{First}
use Rattle.answers.specs.Contain.{outcome_of, work_of, word_buffer}
use Rattle.answers.specs.Table.{Both, Final, Whole, contain_rows}

-- with the file, or 0 where none is meant
pub data ContainRefusal : ℕ → ℕ → Type 0 where
  first_file : {n : ℕ} → 1 ≤ n → n ≤ 5 → ContainRefusal n 1
  second_file : {n : ℕ} → 1 ≤ n → n ≤ 5 → ContainRefusal n 2
  bound : ContainRefusal 8 0
  letters : ContainRefusal 7 0
  first_dead : ContainRefusal 6 1
  second_dead : ContainRefusal 6 2

abbrev pub Listed : ℕ → ℕ → Outcome → Type 0
Listed S room (Compared (Contained n)) = n ≤ S
Listed S room (Compared (Differs i len)) = (i ≤ S) × (len ≤ i)
Listed S room (Refused n file) = ContainRefusal n file
Listed S room (Compared (NoSlots n)) = n ≡ S
Listed S room (Compared (NoRoom len)) = (room < len) × (len ≤ S)

abbrev pub slots_over : List ℕ → List (Node Vertex) → List ℕ
slots_over before ns = slots_of ns ++ drop (slot_size * length ns) before

pub record FrontSlots (A B : Automaton) (b S : ℕ) (before after : List ℕ) : Type 0 where
  pub list : Walk Vertex
  pub is_list : DiscoveryList (lag_graph A B b) list
  pub longer : S < length (nodes_of list)
  pub slots : after ≡ slots_over before (take S (nodes_of list))

module _ (f g : List ℕ) (b : ℕ) (work word : List ℕ) where
  abbrev pub AfterContain : Outcome → List ℕ → List ℕ → Type 0
  AfterContain (Refused n file) work' word' = (work' ≡ work) × (word' ≡ word)
  AfterContain (Compared (NoSlots n)) work' word' =
      let S = slot_count (length work) in
      Both f g (λ A B. (n ≡ S) × FrontSlots A B b S work work' × (word' ≡ word))
  AfterContain (Compared (NoRoom len)) work' word' =
      Both f g (λ A B. Final A B b (slot_count (length work)) (λ ns n.
      (len ≡ length (word_of A B b ns n)) × (length word < len) × (work' ≡ slots_over work ns) × (word' ≡ word)))
  AfterContain (Compared (Contained count)) work' word' =
      Both f g (λ A B. Whole A B b (slot_count (length work)) (λ ns.
      (count ≡ length ns) × (work' ≡ slots_over work ns) × (word' ≡ word)))
  AfterContain (Compared (Differs i len)) work' word' =
      Both f g (λ A B. Final A B b (slot_count (length work)) (λ ns n.
      (i ≡ length ns) × (len ≡ length (word_of A B b ns n)) × (work' ≡ slots_over work ns) × (word' ≡ word_of A B b ns n ++ drop len word)))

  pub record Demand1 : Type 0 where
    -- the first row of the table whose condition holds gives the answer
    pub table : (x : Outcome) → (outcome_of f g b work word ≡ x) ↔ First (contain_rows f g b work word) x
    -- its rows 1-5 in the table's terms, and the automaton of a file that is read
    pub first_reads : ReadsAs f
    pub second_reads : ReadsAs g
    pub occurs : Listed (slot_count (length work)) (length word) (outcome_of f g b work word)
    pub leaves : AfterContain (outcome_of f g b work word) (work_of f g b work word) (word_buffer f g b work word)
