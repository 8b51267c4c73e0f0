-- The fixed form: reading it gives the automaton, it is the only file that spells the automaton with ascending records, and two automata have the same one
-- exactly when they are the same automaton. Assumes nothing.
use mathlib.Core.Path.{◌≡◌, sym, ap, ap₂, subst, ◌∙◌}
use mathlib.Core.Logic.{◌↔◌}
use mathlib.Core.List.{List, map, ◌++◌}
use Prim.Native.Nat.{ℕ}
use lib.Dec.{T}
use Rattle.automaton.specs.declared.Automaton.{Automaton}
use Rattle.automaton.specs.Ranges.{those, chained}
use Rattle.automaton.specs.Sets.{Bytes}
use Rattle.automaton.specs.Automata.{accepts, transition, targets, bare, header_values, InRange}
use Rattle.automaton.proofs.Members.{those_same}
use Rattle.automaton.proofs.Lists.{chained_same}
use Rattle.automaton.proofs.InRange.{header_values_iff}
use Rattle.automaton.proofs.Bits.{bare_header}
use Rattle.format.specs.Writing.{Item, accepting_item, transition_item, file_bytes}
use Rattle.format.specs.File.{read_file, holds}
use Rattle.format.specs.Spelling.{with_items, Spells}
use Rattle.format.proofs.FileLaws.{file_in_range, read_same}
use Rattle.format.proofs.Items.{with_items_header, within_same}
use Rattle.format.proofs.FileBytes.{file_held_iff, spells_has_iff}
use Rattle.format.proofs.AnyOrder.{file_bytes_lem, equal_by_items}
use Rattle.fixed_form.specs.FixedForm.{FixedForm, accepting_items, transition_items, items_of, written, SameAutomaton}
use Rattle.fixed_form.proofs.Ascending.{ascending_distinct, ascending_same}
use Rattle.fixed_form.proofs.Items.{items_iff, items_within, written_ascends, spelled_items_iff}

-- Reading the written file.

module _ (A : Automaton) where
  -- the automaton that the records spell
  abbrev spelled : Automaton
  spelled = with_items (bare A.states A.letters A.initial) (items_of A)

  -- has the same header
  spelled_header : (A.states ≡ spelled.states) × (A.letters ≡ spelled.letters) × (A.initial ≡ spelled.initial)
  spelled_header =
      let g = bare_header A.states A.letters A.initial in
      let h = with_items_header (bare A.states A.letters A.initial) (items_of A) in
      (sym (h.0 ∙ g.0), sym (h.1 ∙ g.1), sym (h.2 ∙ g.2))

  module _ (in_a : InRange A) where
    spells : Spells (written A) spelled
    unfolding written
    spells =
        let n = spelled_header.0 in
        let k = spelled_header.1 in
        let i = spelled_header.2 in
        let values =
        (header_values_iff A.states A.letters A.initial).1
        (in_a.some_states, in_a.few_states, in_a.some_letters, in_a.few_letters, in_a.initial_below) in
        let same : header_values A.states A.letters A.initial ≡ header_values spelled.states spelled.letters spelled.initial =
        cc in
        let bare_same : bare A.states A.letters A.initial ≡ bare spelled.states spelled.letters spelled.initial = cc in
        record {
          items = items_of A;
          bytes = cc;
          values = subst T same values;
          within = λ x m. within_same x n k (items_within A x m);
          distinct = ascending_distinct (items_of A) (written_ascends A);
          all = ap (λ (X : Automaton). with_items X (items_of A)) bare_same;
        }

    -- it has the records of A, so it is A
    spelled_same : Bytes 4 A.accepting → Bytes 2048 A.transitions → A ≡ spelled
    unfolding spells written
    spelled_same acc tra =
        let e = (file_held_iff (written A) spelled).1 spells in
        equal_by_items A spelled in_a (file_in_range (written A) spelled e) (acc, tra) (file_bytes_lem (written A) spelled e)
        spelled_header.0 spelled_header.1 spelled_header.2
        (λ x. (
          λ t. (spells_has_iff (written A) spelled spells x).1 ((items_iff A x).0 t),
          λ t. (items_iff A x).1 ((spells_has_iff (written A) spelled spells x).0 t),
        ))

    written_fixed : Bytes 4 A.accepting → Bytes 2048 A.transitions → FixedForm (written A) A
    unfolding spells written
    written_fixed acc tra =
        subst (FixedForm (written A)) (sym (spelled_same acc tra)) (record { spells = spells; ascending = written_ascends A })

    -- reading the fixed form gives the automaton
    pub written_read : Bytes 4 A.accepting → Bytes 2048 A.transitions → read_file (written A) ≡ holds A
    written_read acc tra = (file_held_iff (written A) A).1 (written_fixed acc tra).spells

  -- a file that spells A with ascending records has the records of A
  fixed_written : (s : List ℕ) → FixedForm s A → s ≡ written A
  unfolding written
  fixed_written s f =
      let S = f.spells in
      let e : S.items ≡ items_of A =
      ascending_same S.items (items_of A) f.ascending (written_ascends A) (spelled_items_iff A s S) in
      S.bytes ∙ ap (file_bytes A.states A.letters A.initial) e

  -- the fixed form of an automaton in range is one file
  pub fixed_form_iff : InRange A → Bytes 4 A.accepting → Bytes 2048 A.transitions → (s : List ℕ) → FixedForm s A ↔ (s ≡ written A)
  fixed_form_iff in_a acc tra s = (fixed_written s, λ e. subst (λ (x : List ℕ). FixedForm x A) (sym e) (written_fixed in_a acc tra))

-- of the automaton that a file holds
pub file_written_read : (s : List ℕ) (A : Automaton) → read_file s ≡ holds A → read_file (written A) ≡ holds A
file_written_read s A e = let b = file_bytes_lem s A e in written_read A (file_in_range s A e) b.0 b.1

pub file_fixed_form_iff : (s : List ℕ) (A : Automaton) → read_file s ≡ holds A → (t : List ℕ) → FixedForm t A ↔ (t ≡ written A)
file_fixed_form_iff s A e = let b = file_bytes_lem s A e in fixed_form_iff A (file_in_range s A e) b.0 b.1

-- The same automaton, the same file.

same_written : (A B : Automaton) → SameAutomaton A B → written A ≡ written B
unfolding written accepting_items transition_items targets
same_written A B e =
    let n = e.states in
    let k = e.letters in
    let i = e.initial in
    let a : accepting_items A ≡ accepting_items B =
    ap (map accepting_item) (those_same (accepts A) (accepts B) A.states 0 (λ q l h. e.accepting q)
    ∙ ap (λ (m : ℕ). those (accepts B) m 0) n) in
    let on : (q b : ℕ) → map (transition_item q b) (targets A q b) ≡ map (transition_item q b) (targets B q b) =
    λ q b. ap (map (transition_item q b)) (those_same (transition A q b) (transition B q b) A.states 0 (λ r l h. e.transitions q b r)
    ∙ ap (λ (m : ℕ). those (transition B q b) m 0) n) in
    let t : transition_items A ≡ transition_items B =
    chained_same _ _ A.states 0 (λ q _ _. chained_same _ _ A.letters 0 (λ b _ _. on q b)
    ∙ ap (λ (m : ℕ). chained (λ b. map (transition_item q b) (targets B q b)) m 0) k)
    ∙ ap (λ (m : ℕ). chained (λ q. chained (λ b. map (transition_item q b) (targets B q b)) B.letters 0) m 0) n in
    ap₂ (λ (x y : List Item). file_bytes A.states A.letters A.initial (x ++ y)) a t ∙ rw (n, k, i)

same_automaton : {A B : Automaton} → A ≡ B → SameAutomaton A B
same_automaton {A} {B} e =
    record { states = rw e; letters = rw e; initial = rw e; accepting = λ q. rw e; transitions = λ q a r. rw e }

-- automata in range are the same exactly when the fixed forms are
pub written_alike : (A B : Automaton) → InRange A → Bytes 4 A.accepting × Bytes 2048 A.transitions → InRange B
    → Bytes 4 B.accepting × Bytes 2048 B.transitions → SameAutomaton A B ↔ (written A ≡ written B)
written_alike A B in_a bA in_b bB = (
  same_written A B,
  λ w. same_automaton (read_same (written_read A in_a bA.0 bA.1) (ap read_file w ∙ written_read B in_b bB.0 bB.1)),
)

-- of the automata that two files hold
pub file_written_alike : (s t : List ℕ) (A B : Automaton) → read_file s ≡ holds A → read_file t ≡ holds B → SameAutomaton A B ↔ (written A ≡ written B)
file_written_alike s t A B e d = written_alike A B (file_in_range s A e) (file_bytes_lem s A e) (file_in_range t B d) (file_bytes_lem t B d)
