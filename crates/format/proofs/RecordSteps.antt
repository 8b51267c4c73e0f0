-- What the step of a record can be, by the bytes that stand at its place, and back from the bytes to the step: every law of the reader goes by
-- these cases. By them the number of records allowed never matters, since each record that the reading goes on after has three bytes or
-- more, so a file is read record after record until the reading is over. Assumes nothing.
use mathlib.Core.Path.{◌≡◌, refl, sym, ap, subst, ◌∙◌}
use mathlib.Core.Bool.{Bool, true, false, not}
use mathlib.Core.List.{List, ◌∷◌, ◌++◌}
use Prim.Native.Nat.{ℕ, zero, suc, ◌+◌, ◌*◌, ◌≤◌, ◌<◌}
use native.Mathlib.Omega.{arith}
use borrow.Author.Tests.{le-leb, lt-leb, lt-ltb}
use lib.Dec.{T, T_not, leb→le, ltb, ltb→lt, lt→ltb}
use lib.ListN.{length, get_or, drop, length-drop}
use Rattle.automaton.specs.declared.Automaton.{Automaton}
use Rattle.automaton.specs.Automata.{accepts, transition, bare, header_values}
use Rattle.automaton.proofs.Booleans.{T_true, not_T_false}
use Rattle.automaton.proofs.InRange.{in_header, in_header_iff}
use Rattle.format.specs.declared.Record.{Record}
use Rattle.format.specs.declared.FileRefusal.{FileRefusal}
use Rattle.std.specs.Prelude.{Result}
use Rattle.format.specs.Marks.{has, marked, header_mark, end_mark, HeaderMark, header_marked, RecordMark, end_marked}
use Rattle.format.specs.Writing.{Item, accepting_item, transition_item, header_bytes, item_bytes, end_bytes}
use Rattle.format.proofs.Stands.{record_of, Stands, short, cut, unknown, longer, item, end, record_stands, stands_record, item_fits, byte_now, byte_at, two_bytes, mark_bytes, bytes_marked, marked_bytes, not_has, rest_length, three_fields}
use Rattle.format.specs.File.{Read, refused, holds, Step, over, next, check, header, takes, record_at, records, read_file}
use Rattle.format.specs.Spelling.{Within, with_item}
use Rattle.format.specs.Refusals.{nothing, Ends, in_mark, in_fields, BadMark, misplaced, after_end, Fault, one, two, three}

-- The cases of a step.

-- the automaton has what the record says
abbrev pub Has : Automaton → Item → Type 0
Has A (accepting_item q) = T (accepts A q)
Has A (transition_item q a r) = T (transition A q a r)

-- the fault of the bytes l, with the automaton so far
pub data Faulty (A : Automaton) (l : List ℕ) : ℕ → Type 0 where
  first : Ends RecordMark l → Faulty A l 1
  second : BadMark RecordMark l → Faulty A l 2
  fourth : (x : Item) (t : List ℕ) → l ≡ item_bytes x ++ t → (Within A.states A.letters x → ⊥) → Faulty A l 4
  fifth : (x : Item) (t : List ℕ) → l ≡ item_bytes x ++ t → Within A.states A.letters x → Has A x → Faulty A l 5

pub data HeaderStep (s : List ℕ) : Step → Type 0 where
  without_header : {n : ℕ} → Fault nothing s n → HeaderStep s (over (refused n))
  starts : (n k i : ℕ) (t : List ℕ) → s ≡ header_bytes n k i ++ t → T (header_values n k i) → HeaderStep s (next 5 (bare n k i))

pub data RecordStep (s : List ℕ) (i : ℕ) (A : Automaton) : Step → Type 0 where
  fault : {n : ℕ} → Faulty A (drop i s) n → RecordStep s i A (over (refused n))
  ends : drop i s ≡ end_bytes → RecordStep s i A (over (holds A))
  adds : (x : Item) (t : List ℕ) → drop i s ≡ item_bytes x ++ t → Within A.states A.letters x → (Has A x → ⊥)
      → RecordStep s i A (next (i + length (item_bytes x)) (with_item A x))

module _ (P : Step → Type 0) where
  checked : (c : Bool) (n : ℕ) (x : Step) → ((T c → ⊥) → P (over (refused n))) → (T c → P x) → P (check c n x)
  checked true n x h k = k tt
  checked false n x h k = h (λ t. t)

pub header_step : (s : List ℕ) → HeaderStep s (header s)
unfolding header
header_step s =
    checked (HeaderStep s) (has s 0 2) 1 _ (λ h. without_header (one (in_mark (not_has s 0 2 h)))) λ h.
    let whole = leb→le 2 (length s) h in
    checked (HeaderStep s) (marked s 0 header_mark) 2 _
    (λ m. without_header (two (misplaced (two_bytes s 0 whole) λ fields d k. none (get_or s 1 0) fields refl d k m))) λ m.
    let mark = marked_bytes s 0 header_mark m whole in
    checked (HeaderStep s) (has s 0 5) 1 _
    (λ g. without_header (one (in_fields header_marked mark (rest_length s 0 3 (omega arith) (omega (arith, not_has s 0 5 g)))))) λ g.
    let bytes = mark ∙ ap (λ (t : List ℕ). 0x41 ∷ header_mark ∷ t) (three_fields s 0 (leb→le 5 (length s) g)) in
    checked (HeaderStep s) (header_values (get_or s 2 0) (get_or s 3 0) (get_or s 4 0)) 3 _ (λ v. without_header (three {t = drop 5 s} bytes v)) λ v.
    starts (get_or s 2 0) (get_or s 3 0) (get_or s 4 0) (drop 5 s) bytes v
  where
    none : (y fields : ℕ) → get_or s 1 0 ≡ y → get_or s 0 0 ≡ 0x41 → HeaderMark y fields → (T (marked s 0 header_mark) → ⊥) → ⊥
    none y fields e d header_marked f = f (bytes_marked s 0 header_mark d e)

module _ (s : List ℕ) (i : ℕ) (A : Automaton) where
  not_not_T : (c : Bool) → (T (not c) → ⊥) → T c
  not_not_T true h = tt
  not_not_T false h = absurd (h tt)

  item_step : (x : Item) (t : List ℕ) → drop i s ≡ item_bytes x ++ t → RecordStep s i A (takes (record_of x (i + length (item_bytes x))) A)
  unfolding takes
  item_step (accepting_item q) t e =
      checked (RecordStep s i A) (ltb q A.states) 4 _ (λ v. fault (fourth (accepting_item q) t e (λ w. v (lt→ltb q A.states w)))) λ v.
      checked (RecordStep s i A) (not (accepts A q)) 5 _
      (λ n. fault (fifth (accepting_item q) t e (ltb→lt q A.states v) (not_not_T (accepts A q) n))) λ n.
      adds (accepting_item q) t e (ltb→lt q A.states v) (T_not (accepts A q) n)
  item_step (transition_item q a r) t e =
      checked (RecordStep s i A) (in_header A q a r) 4 _ (λ v. fault (fourth (transition_item q a r) t e (λ w. v ((in_header_iff A q a r).1 w)))) λ v.
      checked (RecordStep s i A) (not (transition A q a r)) 5 _
      (λ n. fault (fifth (transition_item q a r) t e ((in_header_iff A q a r).0 v) (not_not_T (transition A q a r) n))) λ n.
      adds (transition_item q a r) t e ((in_header_iff A q a r).0 v) (T_not (transition A q a r) n)

  pub record_step : RecordStep s i A (record_at s i A)
  unfolding takes
  record_step = go (record_stands s i)
    where
      go : {x : Result Record FileRefusal} → Stands s i x → RecordStep s i A (takes x A)
      go (short h) = fault (first (in_mark h))
      go (cut m e h) = fault (first (in_fields m e h))
      go (unknown e h) = fault (second (misplaced e h))
      go (longer e) = fault (second (after_end end_marked e))
      go (item x t e) = item_step x t e
      go (end e) = ends e

-- From the bytes to the step.

header_short : (s : List ℕ) {m : ℕ} {t : List ℕ} (fields : ℕ) → HeaderMark m fields → s ≡ 0x41 ∷ m ∷ t → length t < fields
    → header s ≡ over (refused 1)
unfolding header
header_short s fields header_marked e h =
    let b₀ : get_or s 0 0 ≡ 0x41 = byte_now s 0 e in
    let b₁ : get_or s 1 0 ≡ header_mark = byte_at s 0 1 e in
    let n = ap length e in
    rw (b₀, b₁, le-leb 2 (length s) (omega (arith, n)), lt-leb 5 (length s) (omega (arith, n)))

pub header_fault : (s : List ℕ) {n : ℕ} → Fault nothing s n → header s ≡ over (refused n)
unfolding header
header_fault s (one (in_mark h)) = rw (lt-leb 2 (length s) h)
header_fault s (one (in_fields {fields = fields} m e h)) = header_short s fields m e h
header_fault s (two (misplaced e h)) =
    let n = ap length e in
    let no : marked s 0 header_mark ≡ false =
    not_T_false (marked s 0 header_mark) (λ t.
    let b = mark_bytes s 0 header_mark t in
    h 3 (sym (byte_now s 0 e) ∙ b.0) (subst (λ (z : ℕ). HeaderMark z 3) (sym (sym (byte_at s 0 1 e) ∙ b.1)) header_marked)) in
    rw (le-leb 2 (length s) (omega (arith, n)), no)
header_fault s (two (after_end r e)) = absurd (no_end end_mark 0 refl r)
  where
    no_end : (m k : ℕ) → m ≡ end_mark → HeaderMark m k → ⊥
    no_end m k e header_marked = omega arith
header_fault s (three {n = n} {k = k} {i = i} {t = t} e h) =
    ap header e ∙ rw (
      le-leb 2 (length (header_bytes n k i ++ t)) (omega arith),
      le-leb 5 (length (header_bytes n k i ++ t)) (omega arith),
      not_T_false (header_values n k i) h,
    )

pub header_starts : (n k i : ℕ) (t : List ℕ) → T (header_values n k i) → header (header_bytes n k i ++ t) ≡ next 5 (bare n k i)
unfolding header
header_starts n k i t v =
    let s : List ℕ = header_bytes n k i ++ t in
    rw (le-leb 2 (length s) (omega arith), le-leb 5 (length s) (omega arith), T_true (header_values n k i) v)

-- what a record within the header, or not, does
module _ (A : Automaton) (j : ℕ) where
  takes_outside : (x : Item) → (Within A.states A.letters x → ⊥) → takes (record_of x j) A ≡ over (refused 4)
  unfolding takes
  takes_outside (accepting_item q) h = rw (not_T_false (ltb q A.states) (λ v. h (ltb→lt q A.states v)))
  takes_outside (transition_item q a r) h = rw (not_T_false (in_header A q a r) (λ v. h ((in_header_iff A q a r).0 v)))

  takes_again : (x : Item) → Within A.states A.letters x → Has A x → takes (record_of x j) A ≡ over (refused 5)
  unfolding takes
  takes_again (accepting_item q) w h = rw (lt-ltb q A.states w, T_true (accepts A q) h)
  takes_again (transition_item q a r) w h = rw (T_true (in_header A q a r) ((in_header_iff A q a r).1 w), T_true (transition A q a r) h)

  takes_more : (x : Item) → Within A.states A.letters x → (Has A x → ⊥) → takes (record_of x j) A ≡ next j (with_item A x)
  unfolding takes
  takes_more (accepting_item q) w h = rw (lt-ltb q A.states w, not_T_false (accepts A q) h)
  takes_more (transition_item q a r) w h = rw (T_true (in_header A q a r) ((in_header_iff A q a r).1 w), not_T_false (transition A q a r) h)

module _ (s : List ℕ) (i : ℕ) (A : Automaton) where
  stands_step : {x : Result Record FileRefusal} → Stands s i x → record_at s i A ≡ takes x A
  stands_step h = ap (λ (x : Result Record FileRefusal). takes x A) (stands_record s i h)

  pub faulty_step : {n : ℕ} → Faulty A (drop i s) n → record_at s i A ≡ over (refused n)
  unfolding takes
  faulty_step (first (in_mark h)) = stands_step (short h)
  faulty_step (first (in_fields m e h)) = stands_step (cut m e h)
  faulty_step (second (misplaced e h)) = stands_step (unknown e h)
  faulty_step (second (after_end r e)) = stands_step (longer e)
  faulty_step (fourth x t e h) = stands_step (item x t e) ∙ takes_outside A (i + length (item_bytes x)) x h
  faulty_step (fifth x t e w h) = stands_step (item x t e) ∙ takes_again A (i + length (item_bytes x)) x w h

  pub end_step : drop i s ≡ end_bytes → record_at s i A ≡ over (holds A)
  unfolding takes
  end_step e = stands_step (end e)

  pub more_step : (x : Item) (t : List ℕ) → drop i s ≡ item_bytes x ++ t → Within A.states A.letters x → (Has A x → ⊥)
      → record_at s i A ≡ next (i + length (item_bytes x)) (with_item A x)
  more_step x t e w h = stands_step (item x t e) ∙ takes_more A (i + length (item_bytes x)) x w h

  -- past the file's last byte there is no record
  record_past : length s < i + 2 → record_at s i A ≡ over (refused 1)
  record_past h = faulty_step (first (in_mark (omega (arith, length-drop i s))))

-- The number of records allowed.

-- if a step leads on, it leads past a record, and not past the file
abbrev Past : List ℕ → ℕ → Step → Type 0
Past s i (over r) = Unit {0}
Past s i (next j A) = (i + 3 ≤ j) × (j ≤ length s)

step_past : {s : List ℕ} {i : ℕ} {A : Automaton} {x : Step} → RecordStep s i A x → Past s i x
step_past (fault f) = tt
step_past (ends e) = tt
step_past {s = s} {i = i} (adds x t e w h) = item_fits s i x t e

pub record_advances : (s : List ℕ) (i j : ℕ) (A B : Automaton) → record_at s i A ≡ next j B → (i + 3 ≤ j) × (j ≤ length s)
record_advances s i j A B e = subst (Past s i) e (step_past (record_step s i A))

-- n records are enough for what is left of s after a step
abbrev pub Enough : ℕ → List ℕ → Step → Type 0
Enough n s (over r) = Unit {0}
Enough n s (next i A) = length s ≤ i + 2 * n

past_enough : (n : ℕ) (s : List ℕ) (i : ℕ) (x : Step) → Past s i x → length s ≤ i + 2 * suc n → Enough n s x
past_enough n s i (over r) p h = tt
past_enough n s i (next j A) p h = omega (arith, p.0)

pub records_over : (n : ℕ) (s : List ℕ) (r : Read) → records n s (over r) ≡ r
unfolding records
records_over zero s r = refl
records_over (suc n) s r = refl

records_past : (n : ℕ) (s : List ℕ) (i : ℕ) (A : Automaton) → length s ≤ i → records n s (next i A) ≡ refused 1
unfolding records
records_past zero s i A h = refl
records_past (suc n) s i A h = ap (records n s) (record_past s i A (omega arith)) ∙ records_over n s (refused 1)

pub records_enough : (n m : ℕ) (s : List ℕ) (x : Step) → Enough n s x → Enough m s x → records n s x ≡ records m s x
unfolding records
records_enough zero m s (over r) h k = sym (records_over m s r)
records_enough zero m s (next i A) h k = sym (records_past m s i A (omega arith))
records_enough (suc n) m s (over r) h k = sym (records_over m s r)
records_enough (suc n) zero s (next i A) h k = records_past (suc n) s i A (omega arith)
records_enough (suc n) (suc m) s (next i A) h k =
    let p = step_past (record_step s i A) in
    records_enough n m s (record_at s i A) (past_enough n s i (record_at s i A) p h) (past_enough m s i (record_at s i A) p k)

-- The equations of the reading.

-- what s holds, read on after a step
unfoldable pub read_after : List ℕ → Step → Read
read_after s x = records (length s) s x

pub read_file_lem : (s : List ℕ) → read_file s ≡ read_after s (header s)
unfolding read_file read_after
read_file_lem s = refl

pub read_over : (s : List ℕ) (r : Read) → read_after s (over r) ≡ r
unfolding read_after
read_over s r = records_over (length s) s r

pub read_next : (s : List ℕ) (i : ℕ) (A : Automaton) → read_after s (next i A) ≡ read_after s (record_at s i A)
unfolding read_after records
read_next s i A = records_enough (length s) (suc (length s)) s (next i A) (omega arith) (omega arith)
