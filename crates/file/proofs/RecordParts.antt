-- The parts of a reading as the code goes through them: the header, what a record does, and how the reading goes on after it. Each law goes by the
-- tests in their order. Assumes nothing.
use Rattle.std.specs.Prelude.{Option, Some, None, Result, Ok, Err}
use mathlib.Core.Path.{◌≡◌, refl, sym, ap, subst, ◌∙◌}
use mathlib.Core.Bool.{Bool, true, false}
use mathlib.Core.List.{List}
use Prim.Native.Nat.{ℕ, ◌+◌, ◌≤◌, ◌<◌}
use native.Mathlib.Omega.{arith}
use lib.ListN.{length, get_or, replicate}
use borrow.Author.Tests.{le-leb, lt-leb}
use Rattle.automaton.specs.declared.Automaton.{Automaton}
use Rattle.automaton.specs.Automata.{bare, header_values}
use Rattle.automaton.proofs.InRange.{header_values_iff}
use Rattle.automaton.proofs.Bits.{bare_header}
use Rattle.format.specs.declared.Record.{Record}
use Rattle.format.specs.declared.Record.TheVariants.{End}
use Rattle.format.specs.Marks.{marked, header_mark}
use Rattle.format.specs.Records.{record_in}
use Rattle.format.specs.File.{Read, Step, over, next, refused, holds, check, header, takes, record_at, read_file}
use Rattle.format.specs.declared.FileRefusal.{FileRefusal}
use Rattle.format.specs.Numbers.{file_number}
use Rattle.file.specs.declared.Header.{Header}
use Rattle.records.specs.Readers.{place_after}
use Rattle.file.specs.Taking.{started, Headed, added, progress_step, automaton_after, automaton_read, RecordTaken}
use Rattle.format.proofs.RecordSteps.{HeaderStep, without_header, starts, header_step, record_advances}
use Rattle.format.proofs.RecordSteps.{read_after, read_file_lem, read_over, read_next}
use Rattle.file.proofs.LeftAutomata.{left_after, left_file, left_over, left_next, unheaded_automaton}

-- The step of a record that was read.

-- what a record came to, with B left of A
pub taken : {x : Step} (p : Result (Option ℕ) FileRefusal) {A B : Automaton} → x ≡ progress_step p B → automaton_after (progress_step p B) A ≡ B → RecordTaken x p A B
taken p {A} e l = record { step = e; after = sym (ap (λ y. automaton_after y A) e ∙ l) }

pub record_taken : (s : List ℕ) (i : ℕ) (A : Automaton) (x y : Result Record FileRefusal) {p : Result (Option ℕ) FileRefusal} {B : Automaton} → x ≡ record_in s i → x ≡ y
    → RecordTaken (takes y A) p A B → RecordTaken (record_at s i A) p A B
record_taken s i A x y {p} {B} d e h = subst (λ (z : Result Record FileRefusal). RecordTaken (takes z A) p A B) (sym e ∙ d) h

-- The header's tests.

module _ (s : List ℕ) where
  pub header_short : length s < 2 → header s ≡ over (refused 1)
  unfolding header
  header_short h = rw (lt-leb 2 (length s) h)

  pub header_unmarked : 2 ≤ length s → marked s 0 header_mark ≡ false → header s ≡ over (refused 2)
  unfolding header
  header_unmarked h e = rw (le-leb 2 (length s) h, e)

  module _ (e : marked s 0 header_mark ≡ true) where
    pub header_cut : 2 ≤ length s → length s < 5 → header s ≡ over (refused 1)
    unfolding header
    header_cut h l = rw (le-leb 2 (length s) h, e, lt-leb 5 (length s) l)

-- The header: with its values n, k and i read, v says whether they are in their ranges.

pub header_values_lem : (s : List ℕ) → marked s 0 header_mark ≡ true → (n k i : ℕ) (v : Bool) → 5 ≤ length s → n ≡ get_or s 2 0 → k ≡ get_or s 3 0
    → i ≡ get_or s 4 0 → v ≡ header_values n k i → header s ≡ check v 3 (next 5 (bare n k i))
unfolding header
header_values_lem s e n k i v h p q r d =
    rw (le-leb 2 (length s) (omega arith), e, le-leb 5 (length s) h, d, p, q, r)

-- The reading goes on after a record, or is over.

-- the file s is read up to position i, with A the automaton so far
pub record ReadTo (s : List ℕ) (i : ℕ) (A : Automaton) : Type 0 where
  pub answer : read_file s ≡ read_after s (record_at s i A)
  pub automaton : automaton_read s ≡ left_after s (record_at s i A) A

-- the record at i comes to p, with B the automaton after it
module _ (s : List ℕ) (i : ℕ) (A B : Automaton) (p : Result (Option ℕ) FileRefusal) (to : ReadTo s i A) (t : RecordTaken (record_at s i A) p A B) where
  came : {q : Result (Option ℕ) FileRefusal} → p ≡ q → record_at s i A ≡ progress_step q B
  came d = t.step ∙ ap (λ (x : Result (Option ℕ) FileRefusal). progress_step x B) d

  reading_over : (x : Read) → record_at s i A ≡ over x → (read_file s ≡ x) × (automaton_read s ≡ B)
  reading_over x e = (
    to.answer ∙ ap (read_after s) e ∙ read_over s x,
    to.automaton ∙ ap (λ (y : Step). left_after s y A) e ∙ left_over s x A ∙ sym (t.after ∙ ap (λ (y : Step). automaton_after y A) e),
  )

  pub reading_refused : (f : FileRefusal) → p ≡ Err f → (read_file s ≡ refused (file_number f)) × (automaton_read s ≡ B)
  reading_refused f d = reading_over (refused (file_number f)) (came d)

  pub reading_ends : p ≡ Ok None → (read_file s ≡ holds B) × (automaton_read s ≡ B)
  reading_ends d = reading_over (holds B) (came d)

  pub reading_advances : (j : ℕ) → p ≡ Ok (Some j) → (i + 3 ≤ j) × (j ≤ length s) × ReadTo s j B
  reading_advances j d =
      let a = record_advances s i j A B (came d) in (
        a.0,
        a.1,
        record {
          answer = to.answer ∙ ap (read_after s) (came d) ∙ read_next s j B;
          automaton = to.automaton ∙ ap (λ (y : Step). left_after s y A) (came d) ∙ left_next s j B A;
        },
      )

-- The reading goes on after a record that the reader says, or is over: the reader stands at i in the file s, and says x.

module _ {s : List ℕ} {i : ℕ} {A : Automaton} {x : Result Record FileRefusal} (to : ReadTo s i A) (d : x ≡ record_in s i) where
  said : {y : Result Record FileRefusal} {p : Result (Option ℕ) FileRefusal} {B : Automaton} → x ≡ y → RecordTaken (takes y A) p A B → RecordTaken (record_at s i A) p A B
  said {y} h = record_taken s i A x y d h

  pub said_fault : {f : FileRefusal} → x ≡ Err f → (read_file s ≡ refused (file_number f)) × (automaton_read s ≡ A)
  unfolding takes
  said_fault {f} h = reading_refused s i A A (Err f) to (said h (taken (Err f) refl refl)) f refl

  pub said_end : x ≡ Ok End → (read_file s ≡ holds A) × (automaton_read s ≡ A)
  unfolding takes
  said_end h = reading_ends s i A A (Ok None) to (said h (taken (Ok None) refl refl)) refl

  -- the record y, with j the position after it, is added to A, which came to r and left B
  module _ {y : Result Record FileRefusal} (j : ℕ) {B : Automaton} {r : Result (Unit {0}) FileRefusal} (h : x ≡ y) (a : RecordTaken (takes y A) (added r j) A B) where
    pub said_refused : {f : FileRefusal} → r ≡ Err f → (read_file s ≡ refused (file_number f)) × (automaton_read s ≡ B)
    said_refused {f} c = reading_refused s i A B (added r j) to (said h a) f (ap (λ (z : Result (Unit {0}) FileRefusal). added z j) c)

    pub said_added : {u : Unit {0}} {k : ℕ} → r ≡ Ok u → k ≡ place_after x i → place_after y i ≡ j → (i + 3 ≤ k) × (k ≤ length s) × ReadTo s k B
    said_added c m n =
        subst (λ (k : ℕ). (i + 3 ≤ k) × (k ≤ length s) × ReadTo s k B)
        (sym (m ∙ ap (λ (z : Result Record FileRefusal). place_after z i) h ∙ n))
        (reading_advances s i A B (added r j) to (said h a) j (ap (λ (z : Result (Unit {0}) FileRefusal). added z j) c))

-- What a header that is there says of its file.

-- an automaton without transitions is begun as the bare one
pub started_bare : (h : Header) (A : Automaton) → A.transitions ≡ replicate 2048 0 → started h A ≡ bare h.states h.letters h.initial
unfolding bare
started_bare h A e = rw e (λ i. bare h.states h.letters h.initial)

abbrev Starts : List ℕ → Step → Type 0
Starts s (over r) = Unit {0}
Starts s (next j A) = (A.states ≤ 32) × (A.letters ≤ 16) × (5 ≤ length s)

step_starts : {s : List ℕ} {x : Step} → HeaderStep s x → Starts s x
step_starts (without_header f) = tt
step_starts (starts n k i t e v) =
    let b = (header_values_iff n k i).0 v in
    let h = bare_header n k i in
    (omega (arith, h.0, b.1), omega (arith, h.1, b.3), omega (arith, ap length e))

module _ (s : List ℕ) (A : Automaton) (is : Headed s A) where
  pub header_holds : (A.states ≤ 32) × (A.letters ≤ 16) × (5 ≤ length s)
  header_holds = subst (Starts s) (sym is) (step_starts (header_step s))

  pub reading_starts : ReadTo s 5 A
  reading_starts =
      record {
        answer = read_file_lem s ∙ ap (read_after s) (sym is) ∙ read_next s 5 A;
        automaton = left_file s ∙ ap (λ (y : Step). left_after s y (bare 0 0 0)) (sym is) ∙ left_next s 5 A (bare 0 0 0);
      }

pub reading_unstarted : (s : List ℕ) (n : ℕ) → over (refused n) ≡ header s → (refused n ≡ read_file s) × (bare 0 0 0 ≡ automaton_read s)
reading_unstarted s n d = (
  sym (read_file_lem s ∙ ap (read_after s) (sym d) ∙ read_over s (refused n)),
  sym (unheaded_automaton s (refused n) (sym d)),
)
