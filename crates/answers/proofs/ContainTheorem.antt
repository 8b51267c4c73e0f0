-- Demand 2 of contain: where the files pass the checks the outcome is that of the walk, which decides containment; and an outcome of the
-- walk says that they pass, by the rows that come before its own. Assumes nothing.
use mathlib.Core.Path.{◌≡◌, refl, sym, ap, subst, ◌∙◌}
use mathlib.Core.Bool.{Bool, true, false, cond}
use mathlib.Core.List.{List}
use mathlib.Core.Logic.{◌⊎◌, inl, inr, ⊎_elim, ◌↔◌}
use Prim.Native.Nat.{ℕ, ◌≤◌, ◌<◌}
use mathlib.Core.HLevel.{dec→stable}
use native.Mathlib.Decide.{dec_le, ℕ_discrete}
use native.Mathlib.Nat.{lt_of_not-le}
use native.Mathlib.Omega.{arith}
use borrow.Author.Tests.{le-ltb, eq-eqb, le-leb, lt-leb, leb-true}
use lib.Dec.{leb}
use lib.ListN.{length, take}
use Rattle.automaton.specs.declared.Automaton.{Automaton}
use Rattle.runs.specs.Containment.{Contained, Shows}
use Rattle.runs.specs.DeadStates.{Dead}
use Rattle.automaton.proofs.Booleans.{not_T_false}
use Rattle.format.specs.File.{holds, read_file}
use Rattle.format.proofs.FileLaws.{file_in_range}
use Rattle.deadstates.specs.DeadEnds.{has_dead}
use Rattle.slots.specs.declared.Vertex.{Vertex}
use Rattle.slots.specs.Slots.{slot_count}
use Rattle.graph.specs.Discovery.{Node, Walk, going, ended, full}
use Rattle.graph.specs.LagGraph.{max_bound}
use Rattle.graph.specs.Walks.{walk_of, word_of, word_after, NeedsMore}
use Rattle.graph.proofs.WalkTheorem.{walk_decides_containment, walk_decides_difference, walk_ended, list_contained, list_differs}
use Rattle.answers.specs.Outcomes.{Outcome}
use Rattle.answers.specs.Outcomes.{Refused, Compared}
use Rattle.answers.specs.Outcomes.{Differs, NoRoom}
use Rattle.checks.specs.Checks.{None}
use Rattle.answers.specs.Contain.{contained, differs, no_slots, no_room, compare_with, comparison, Contain, comparing, after_walk, deciding, containing, outcome_of, word_buffer}
use Rattle.answers.specs.Table.{Final, Whole, contain_rows}
use Rattle.answers.specs.Demand2.{Passing, ListFits, Difference, Demand2}
use Rattle.checks.proofs.ChecksLaws.{none_fewer}
use Rattle.answers.proofs.FileRows.{file_dead, both_of}
use Rattle.answers.proofs.WalkRows.{going_enough, ended_enough}
use Rattle.answers.proofs.DifferenceWords.{written_shown}
use Rattle.answers.proofs.ContainAnswers.{contain_answer}

-- what an outcome carries
contained_number : {n m : ℕ} → contained n ≡ contained m → n ≡ m
contained_number e = cc

differs_place : {i j len size : ℕ} → differs i len ≡ differs j size → i ≡ j
differs_place e = cc

differs_length : {i j len size : ℕ} → differs i len ≡ differs j size → len ≡ size
differs_length e = cc

no_room_length : {len size : ℕ} → no_room len ≡ no_room size → len ≡ size
no_room_length e = cc

no_slots_number : {n m : ℕ} → no_slots n ≡ no_slots m → n ≡ m
no_slots_number e = cc

-- "differs" is said only where the word has room
differs_room : (c : Bool) (i len j size : ℕ) → Compared (cond c (Differs j size) (NoRoom size)) ≡ differs i len → c ≡ true
differs_room true i len j size e = refl
differs_room false i len j size e = absurd cc

-- a word that has room, or has none
room_cases : (c : Bool) (x : Outcome) (i len : ℕ) → x ≡ Compared (cond c (Differs i len) (NoRoom len))
    → ((j : ℕ) × (size : ℕ) × (x ≡ differs j size)) ⊎ ((size : ℕ) × (x ≡ no_room size))
room_cases true x i len e = inl (i, len, e)
room_cases false x i len e = inr (len, e)

-- a file's automaton without dead states passes the test
alive_test : (f : List ℕ) (A : Automaton) → read_file f ≡ holds A → ((q : ℕ) → Dead A q → ⊥) → has_dead A ≡ false
alive_test f A r h = not_T_false (has_dead A) (λ t. let d = (file_dead f A r).0 t in h d.0 d.1)

module _ (f g : List ℕ) (b : ℕ) (work word : List ℕ) where
  abbrev S : ℕ
  S = slot_count (length work)

  -- the checks pass, and the walk is made
  passing_call : {P : Automaton → Automaton → Type 0} (p : Passing f g b P) (w : Walk Vertex) → walk_of p.first p.second b S ≡ w
      → containing f g b work word ≡ after_walk (compare_with p.first p.second b work word w)
  unfolding containing deciding comparing
  passing_call p w e =
      rw (
        p.first_read,
        p.second_read,
        le-ltb max_bound b p.bound,
        eq-eqb p.first.letters p.second.letters p.letters,
        alive_test f p.first p.first_read p.first_alive,
        alive_test g p.second p.second_read p.second_alive,
        e,
      )

  passing_outcome : {P : Automaton → Automaton → Type 0} (p : Passing f g b P) (w : Walk Vertex)
      → walk_of p.first p.second b S ≡ w → outcome_of f g b work word ≡ Compared (comparison p.first p.second b S (length word) w)
  passing_outcome p w e = ap (λ (c : Contain). c.outcome) (passing_call p w e)

  passing_word : {P : Automaton → Automaton → Type 0} (p : Passing f g b P) (ns : List (Node Vertex)) (n : Node Vertex)
      → walk_of p.first p.second b S ≡ ended ns n → word_buffer f g b work word ≡ word_after word (word_of p.first p.second b ns n)
  passing_word p ns n e = ap (λ (c : Contain). c.word) (passing_call p (ended ns n) e)

  -- another fact of the same automata
  passing_with : {P Q : Automaton → Automaton → Type 0} (p : Passing f g b P) → Q p.first p.second → Passing f g b Q
  passing_with p q =
      record {
        first = p.first;
        second = p.second;
        first_read = p.first_read;
        second_read = p.second_read;
        bound = p.bound;
        letters = p.letters;
        first_alive = p.first_alive;
        second_alive = p.second_alive;
        condition = q;
      }

  -- an outcome of a row past those of 1-8 says that the checks pass
  passing_of : {P : Automaton → Automaton → Type 0} (m : ℕ) → 6 ≤ m → None (take m (contain_rows f g b work word)) → (A B : Automaton)
      → read_file f ≡ holds A → read_file g ≡ holds B → P A B → Passing f g b P
  passing_of m l none A B rA rB p =
      let h = none_fewer 6 m (contain_rows f g b work word) l none in
      record {
        first = A;
        second = B;
        first_read = rA;
        second_read = rB;
        bound = dec→stable (dec_le b max_bound) (λ n. h.1.1.0 (Refused 8 0) (lt_of_not-le n, refl));
        letters =
            dec→stable (ℕ_discrete A.letters B.letters) (λ n. h.1.1.1.0 (Refused 7 0) (both_of rA rB n, refl));
        first_alive = λ q d. h.1.1.1.1.0 (Refused 6 1) (both_of rA rB (q, d), refl);
        second_alive = λ q d. h.1.1.1.1.1.0 (Refused 6 2) (both_of rA rB (q, d), refl);
        condition = p;
      }

  says_contained : (n : ℕ) → outcome_of f g b work word ≡ contained n
      → Passing f g b (λ A B. Whole A B b S (λ ns. n ≡ length ns))
  says_contained n e =
      let a = (contain_answer f g b work word (contained n)).0 e in
      let q = a.1.1 in
      let w = q.condition in
      passing_of 8 (omega arith) a.0 q.first q.second q.first_read q.second_read
      (record { nodes = w.nodes; fits = w.fits; condition = contained_number a.1.2 ∙ w.condition })

  says_differs : (i len : ℕ) → outcome_of f g b work word ≡ differs i len
      → Passing f g b (λ A B. Final A B b S (λ ns n. (i ≡ length ns) × (len ≡ length (word_of A B b ns n))))
  says_differs i len e =
      let a = (contain_answer f g b work word (differs i len)).0 e in
      let q = a.1.2 in
      let w = q.condition in
      passing_of 9 (omega arith) a.0 q.first q.second q.first_read q.second_read
      (record {
        nodes = w.nodes;
        last = w.last;
        fits = w.fits;
        condition = (differs_place a.1.3 ∙ w.condition.0, differs_length a.1.3 ∙ w.condition.1);
      })

  says_no_room : (len : ℕ) → outcome_of f g b work word ≡ no_room len
      → Passing f g b (λ A B. Final A B b S (λ ns n. (len ≡ length (word_of A B b ns n)) × (length word < len)))
  says_no_room len e =
      let a = (contain_answer f g b work word (no_room len)).0 e in
      let q = a.1.1 in
      let w = q.condition in
      let d = no_room_length a.1.2 in
      passing_of 7 (omega arith) a.0 q.first q.second q.first_read q.second_read
      (record { nodes = w.nodes; last = w.last; fits = w.fits; condition = (d ∙ w.condition.0, omega (arith, d, w.condition.1)) })

  -- the second automaton has few enough states for the walk to decide containment
  module _ {A B : Automaton} (r : read_file g ≡ holds B) where
    whole_contained : {P : List (Node Vertex) → Type 0} → Whole A B b S P → Contained A B b
    whole_contained w =
        let i = file_in_range g B r in list_contained A B b S i.few_states i.initial_below w.nodes w.fits

    final_shows : {P : List (Node Vertex) → Node Vertex → Type 0} (w : Final A B b S P) → Shows A B b (word_of A B b w.nodes w.last)
    final_shows w =
        let i = file_in_range g B r in list_differs A B b S i.few_states i.initial_below w.nodes w.last w.fits

  contained_iff : ((n : ℕ) × (outcome_of f g b work word ≡ contained n))
      ↔ Passing f g b (λ A B. ListFits A B b S × Contained A B b)
  unfolding ListFits
  contained_iff = (
    λ e. let p = says_contained e.0 e.1 in
        passing_with p ((going p.condition.nodes, p.condition.fits), whole_contained p.second_read p.condition),
    λ p. let i = file_in_range g p.second p.second_read in
        let w = (walk_decides_containment p.first p.second b S i.few_states i.initial_below).1 p.condition in
        (length w.0, passing_outcome p (going w.0) w.1),
  )

  not_contained : {P : Automaton → Automaton → List (Node Vertex) → Node Vertex → Type 0}
      → Passing f g b (λ A B. Final A B b S (P A B)) → Passing f g b (λ A B. ListFits A B b S × (Contained A B b → ⊥))
  unfolding ListFits Contained
  not_contained p =
      let w = p.condition in
      let s = final_shows p.second_read w in
      passing_with p (
        (ended w.nodes w.last, w.fits),
        λ c. s.unfollowed (c (word_of p.first p.second b w.nodes w.last) s.states s.prefix),
      )

  differs_iff : (((i : ℕ) × (len : ℕ) × (outcome_of f g b work word ≡ differs i len))
      ⊎ ((len : ℕ) × (outcome_of f g b work word ≡ no_room len)))
      ↔ Passing f g b (λ A B. ListFits A B b S × (Contained A B b → ⊥))
  unfolding ListFits
  differs_iff = (
    ⊎_elim (λ e. not_contained (says_differs e.0 e.1 e.2)) (λ e. not_contained (says_no_room e.0 e.1)),
    λ p. let i = file_in_range g p.second p.second_read in
        let w = (walk_decides_difference p.first p.second b S i.few_states i.initial_below).1 p.condition in
        let len = length (word_of p.first p.second b w.0 w.1) in
        room_cases (leb len (length word)) (outcome_of f g b work word) (length w.0) len
        (passing_outcome p (ended w.0 w.1) w.2),
  )

  shown : (i len : ℕ) → outcome_of f g b work word ≡ differs i len
      → (p : Passing f g b (λ A B. Final A B b S (λ ns n. (i ≡ length ns) × (len ≡ length (word_of A B b ns n)))))
      → Difference p.first p.second b S i len (word_buffer f g b work word)
  shown i len e p =
      let w = p.condition in
      let v = word_of p.first p.second b w.nodes w.last in
      let d = (walk_ended p.first p.second b S w.nodes w.last).1 w.fits in
      let room = differs_room (leb (length v) (length word)) i len (length w.nodes) (length v)
      (sym (passing_outcome p (ended w.nodes w.last) d) ∙ e) in
      subst (Difference p.first p.second b S i len) (sym (passing_word p w.nodes w.last d))
      (written_shown word (file_in_range g p.second p.second_read) w.fits w.condition.0 w.condition.1 room)

  differs_shows : (i len : ℕ) → outcome_of f g b work word ≡ differs i len
      → Passing f g b (λ A B. Difference A B b S i len (word_buffer f g b work word))
  differs_shows i len e = let p = says_differs i len e in passing_with p (shown i len e p)

  -- the test for room, of a walk that ends with a final vertex
  ended_outcome : {P : Automaton → Automaton → List (Node Vertex) → Node Vertex → Type 0} (p : Passing f g b (λ A B. Final A B b S (P A B)))
      → outcome_of f g b work word
      ≡ Compared (comparison p.first p.second b S (length word) (ended p.condition.nodes p.condition.last))
  ended_outcome p =
      let w = p.condition in
      passing_outcome p (ended w.nodes w.last) ((walk_ended p.first p.second b S w.nodes w.last).1 w.fits)

  differs_own_iff : ((i : ℕ) × (len : ℕ) × (outcome_of f g b work word ≡ differs i len))
      ↔ Passing f g b (λ A B. Final A B b S (λ ns n. length (word_of A B b ns n) ≤ length word))
  differs_own_iff = (
    λ e.
        let p = says_differs e.0 e.1 e.2 in
        let w = p.condition in
        let size = length (word_of p.first p.second b w.nodes w.last) in
        let room = differs_room (leb size (length word)) e.0 e.1 (length w.nodes) size (sym (ended_outcome p) ∙ e.2) in
        passing_with p (record { nodes = w.nodes; last = w.last; fits = w.fits; condition = leb-true size (length word) room }),
    λ p.
        let w = p.condition in
        let size = length (word_of p.first p.second b w.nodes w.last) in
        (length w.nodes, size, ended_outcome p ∙ rw (le-leb size (length word) w.condition)),
  )

  no_room_own_iff : ((len : ℕ) × (outcome_of f g b work word ≡ no_room len))
      ↔ Passing f g b (λ A B. Final A B b S (λ ns n. length word < length (word_of A B b ns n)))
  no_room_own_iff = (
    λ e.
        let p = says_no_room e.0 e.1 in
        let w = p.condition in
        passing_with p
        (record { nodes = w.nodes; last = w.last; fits = w.fits; condition = omega (arith, w.condition.0, w.condition.1) }),
    λ p.
        let w = p.condition in
        let size = length (word_of p.first p.second b w.nodes w.last) in
        (size, ended_outcome p ∙ rw (lt-leb size (length word) w.condition)),
  )

  -- 10, with the number of slots
  no_slots_iff : (n : ℕ) → (outcome_of f g b work word ≡ no_slots n) ↔ (Passing f g b (λ A B. NeedsMore A B b S) × (n ≡ S))
  no_slots_iff n = (
    λ e. let a = (contain_answer f g b work word (no_slots n)).0 e in (
      passing_of 6 (omega arith) a.0 a.1.0.first a.1.0.second a.1.0.first_read a.1.0.second_read a.1.0.condition,
      no_slots_number a.1.1,
    ),
    λ h. no_slots_left h.0 (walk_of h.0.first h.0.second b S) refl ∙ ap no_slots (sym h.1),
  )
    where
      no_slots_left : (p : Passing f g b (λ A B. NeedsMore A B b S)) (w : Walk Vertex) → walk_of p.first p.second b S ≡ w
          → outcome_of f g b work word ≡ no_slots S
      no_slots_left p (going ns) e = absurd (going_enough p.first p.second b S ns e p.condition)
      no_slots_left p (ended ns n) e = absurd (ended_enough p.first p.second b S ns n e p.condition)
      no_slots_left p (full ns) e = passing_outcome p (full ns) e

  pub demand_2 : Demand2 f g b work word
  demand_2 =
      record {
        contained_iff = contained_iff;
        contained_count = says_contained;
        differs_iff = differs_iff;
        differs_own_iff = differs_own_iff;
        no_room_own_iff = no_room_own_iff;
        differs_shows = differs_shows;
        no_room_length = says_no_room;
        no_slots_iff = no_slots_iff;
      }
