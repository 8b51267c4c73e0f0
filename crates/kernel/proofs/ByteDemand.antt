-- Demand 3 of the calls on an entry's bytes: each call writes the bytes of the entry that open or offer leaves, or leaves the bytes; by
-- induction over the calls the bytes describe the entry after the list. Letters and verdicts stay those of the first edition. Assumes
-- nothing.
use mathlib.Core.Path.{◌≡◌, refl, sym, ap, subst, ◌∙◌}
use mathlib.Core.Bool.{Bool, true, false, cond, not}
use mathlib.Core.Logic.{◌⊎◌, inl, inr, ◌↔◌}
use mathlib.Core.List.{List, [], ◌∷◌, ◌++◌}
use Prim.Native.Nat.{ℕ, ◌+◌, ◌*◌, ◌%◌, ◌^◌, ◌≤◌}
use native.Mathlib.Omega.{arith}
use borrow.Author.Tests.{eqb-true, eqb-false}
use lib.Dec.{eqb}
use lib.ListN.{length}
use Rattle.automaton.specs.declared.Automaton.{Automaton}
use Rattle.automaton.proofs.Booleans.{clash, same_test, not_T_false}
use Rattle.runs.specs.Lassos.{Accepted}
use Rattle.format.specs.File.{holds, read_file}
use Rattle.format.proofs.FileLaws.{file_whole}
use Rattle.deadstates.specs.DeadEnds.{has_dead}
use Rattle.lassos.specs.Verdict.{accepted}
use Rattle.lassos.proofs.VerdictTheorem.{verdict_decides_acceptance}
use Rattle.checks.proofs.ChecksLaws.{by_test, by_read}
use Rattle.history.specs.declared.Entry.{Entry}
use Rattle.history.specs.OfferAnswers.{OfferAnswer}
use Rattle.history.specs.OfferAnswers.{Taken, Forward, Back, Refused, NoSlots, NoRoom}
use Rattle.history.specs.VerdictAnswers.{VerdictAnswer}
use Rattle.history.specs.VerdictAnswers.{Yes, No, Refused as VerdictRefused}
use Rattle.history.specs.Entries.{malformed, WellFormed}
use Rattle.history.specs.Verdicts.{bad_lasso, verdict_of}
use Rattle.history.specs.Opens.{Vetted, stopped, passed, open_checks, opened, open_of, first_edition}
use Rattle.history.specs.Offers.{offer_of, is_taken, next_edition}
use Rattle.history.proofs.OfferCases.{by_offer}
use Rattle.boundary.specs.Bytes.{is_entry, entry_of, entry_bytes, Sized}
use Rattle.boundary.specs.Numbers.{offer_number, verdict_number}
use Rattle.history.specs.Calls.{Call, open_call, offer_call}
use Rattle.history.specs.Lists.{call_entry, entry_after}
use Rattle.history.specs.Account.{NextEdition, last_of, holding, Adds, Account, done, adds, keeps, accounted}
use Rattle.history.specs.Demand.{KeptIf}
use Rattle.history.proofs.EntryLaws.{malformed_iff}
use Rattle.boundary.proofs.EntryBytes.{is_entry_bytes, entry_of_bytes}
use Rattle.history.proofs.EntryEffects.{offer_keeps}
use Rattle.history.specs.OfferDemand.{OfferListed}
use Rattle.history.specs.OfferDemand as offers
use Rattle.history.proofs.OfferAnswers.{offer_numbers}
use Rattle.history.proofs.Editions.{last_append, fine_first, fine_formed}
use Rattle.history.proofs.DemandThree.{list_claim}
use Rattle.kernel.specs.EntryCalls.{is_opened, stored, offer_bytes, offer_bytes_number}
use Rattle.kernel.specs.ByteLists.{call_bytes, bytes_after, bytes_of, SameVerdicts, BytesClaim, DemandThreeBytes}
use Rattle.kernel.proofs.EntryCallLaws.{entry_open_bytes, entry_verdict_number}

-- The entry that is written.

-- its arrays have their lengths, and it is open
record WellStored (E : Entry) : Type 0 where
  sized : Sized E
  filled_is : E.filled ≡ true

file_written : (f : List ℕ) (A : Automaton) → read_file f ≡ holds A → (E : Entry) → E.held ≡ A → E.filled ≡ true → WellStored E
file_written f A r E h o =
    let w = file_whole f A r in
    record {
      sized =
          record {
            accepting_long = ap (λ (X : Automaton). length X.accepting) h ∙ w.accepting_length;
            transitions_long = ap (λ (X : Automaton). length X.transitions) h ∙ w.transitions_length;
          };
      filled_is = o;
    }

module _ (E : Entry) (f : List ℕ) where
  abbrev OpenWritten : Vetted → Type 0
  OpenWritten v = is_opened (opened E v).answer ≡ true → WellStored (opened E v).entry

  not_opened : (n : ℕ) → OpenWritten (stopped n)
  not_opened n e = clash e refl

  opened_written : is_opened (open_of E f).answer ≡ true → WellStored (open_of E f).entry
  unfolding open_of open_checks
  opened_written =
      by_test OpenWritten (malformed E) (stopped 9) _ (λ _. not_opened 9) λ _.
      by_test OpenWritten E.filled (stopped 12) _ (λ _. not_opened 12) λ _.
      by_read OpenWritten (read_file f) stopped _ (λ n _. not_opened n) λ A r.
      by_test OpenWritten (has_dead A) (stopped 6) (passed A) (λ _. not_opened 6) λ _ _.
      file_written f A r (first_edition A) refl refl

  not_opened_keeps : is_opened (open_of E f).answer ≡ false → (open_of E f).entry ≡ E
  unfolding open_of
  not_opened_keeps = go (open_checks E f)
    where
      go : (v : Vetted) → is_opened (opened E v).answer ≡ false → (opened E v).entry ≡ E
      go (stopped n) e = refl
      go (passed A) e = clash refl e

module _ (E : Entry) (f : List ℕ) (b : ℕ) (work word : List ℕ) where
  taken_written : is_taken (offer_of E f b work word).answer ≡ true → WellStored (offer_of E f b work word).entry
  taken_written =
      by_offer E f b work word (λ o. is_taken o.answer ≡ true → WellStored o.entry) (λ n e. clash e refl)
      (λ B r i w back d k e. rw e (file_written f B r (next_edition E B) refl refl))

-- The bytes after a list of calls.

-- t are the bytes s still, or those of an open entry; they describe E
record Describes (s t : List ℕ) (E : Entry) : Type 0 where
  entry_is : is_entry t ≡ true
  describes : entry_of t ≡ E
  bytes : (t ≡ s) ⊎ (((entry_of t).filled ≡ true) × (t ≡ entry_bytes (entry_of t)))

stored_bytes : (s : List ℕ) (c : Bool) (E : Entry) → is_entry s ≡ true → (c ≡ true → WellStored E) → (c ≡ false → E ≡ entry_of s)
    → Describes s (stored c E s) E
stored_bytes s true E i w k =
    let x = w refl in
    let d = entry_of_bytes E x.sized in
    record {
      entry_is = is_entry_bytes E x.sized;
      describes = d;
      bytes = inr (ap (λ (F : Entry). F.filled) d ∙ x.filled_is, ap entry_bytes (sym d));
    }
stored_bytes s false E i w k = record { entry_is = i; describes = sym (k refl); bytes = inl refl }

entry_offer_bytes : (s f : List ℕ) (b : ℕ) (work word : List ℕ) → is_entry s ≡ true
    → offer_bytes s f b work word ≡ stored (is_taken (offer_of (entry_of s) f b work word).answer) (offer_of (entry_of s) f b work word).entry s
unfolding offer_bytes
entry_offer_bytes s f b work word e = rw e refl

entry_offer_number : (s f : List ℕ) (b : ℕ) (work word : List ℕ) → is_entry s ≡ true
    → offer_bytes_number s f b work word ≡ offer_number (offer_of (entry_of s) f b work word).answer
unfolding offer_bytes_number
entry_offer_number s f b work word e = rw e refl

call_stored : (s : List ℕ) → is_entry s ≡ true → (c : Call) → Describes s (call_bytes s c) (call_entry (entry_of s) c)
unfolding call_bytes call_entry
call_stored s i (open_call f) =
    let E = entry_of s in
    subst (λ (t : List ℕ). Describes s t (open_of E f).entry) (sym (entry_open_bytes s f i))
    (stored_bytes s (is_opened (open_of E f).answer) (open_of E f).entry i (opened_written E f) (not_opened_keeps E f))
call_stored s i (offer_call f b work word) =
    let E = entry_of s in
    subst (λ (t : List ℕ). Describes s t (offer_of E f b work word).entry) (sym (entry_offer_bytes s f b work word i))
    (stored_bytes s (is_taken (offer_of E f b work word).answer) (offer_of E f b work word).entry i (taken_written E f b work word)
    (offer_keeps E f b work word))

join : {s r t : List ℕ} → (r ≡ s) ⊎ (((entry_of r).filled ≡ true) × (r ≡ entry_bytes (entry_of r)))
    → (t ≡ r) ⊎ (((entry_of t).filled ≡ true) × (t ≡ entry_bytes (entry_of t)))
    → (t ≡ s) ⊎ (((entry_of t).filled ≡ true) × (t ≡ entry_bytes (entry_of t)))
join (inl e) (inl d) = inl (d ∙ e)
join (inr e) (inl d) =
    inr (subst (λ (x : List ℕ). ((entry_of x).filled ≡ true) × (x ≡ entry_bytes (entry_of x))) (sym d) e)
join e (inr d) = inr d

after : (cs : List Call) (s : List ℕ) → is_entry s ≡ true → Describes s (bytes_after s cs) (entry_after (entry_of s) cs)
unfolding bytes_after entry_after
after [] s i = record { entry_is = i; describes = refl; bytes = inl refl }
after (c ∷ cs) s i = go (λ t j. after cs t j) (call_stored s i c)
  where
    go : ((t : List ℕ) → is_entry t ≡ true → Describes t (bytes_after t cs) (entry_after (entry_of t) cs))
        → Describes s (call_bytes s c) (call_entry (entry_of s) c)
        → Describes s (bytes_after (call_bytes s c) cs) (entry_after (call_entry (entry_of s) c) cs)
    go rest x =
        let r = rest (call_bytes s c) x.entry_is in
        record {
          entry_is = r.entry_is;
          describes = r.describes ∙ ap (λ (E : Entry). entry_after E cs) x.describes;
          bytes = join x.bytes r.bytes;
        }

-- The first edition's letters.

next_letters : (E : Entry) (f : List ℕ) (b : ℕ) (work word : List ℕ) (B : Automaton) → NextEdition E f b work word B
    → B.letters ≡ E.held.letters
next_letters E f b work word B t = go (eqb E.held.letters B.letters) refl
  where
    go : (c : Bool) → eqb E.held.letters B.letters ≡ c → B.letters ≡ E.held.letters
    go true e = sym (eqb-true E.held.letters B.letters e)
    go false e =
        absurd
        (t.unrefused.1.1.1.1.0 (Refused 7)
        (record { automaton = B; read = t.read; condition = eqb-false E.held.letters B.letters e }, refl))

abbrev FirstFine : List Automaton → Type 0
FirstFine [] = Unit {0}
FirstFine (A ∷ es) = WellFormed (first_edition A) × ((last_of A es).letters ≡ A.letters)

first_added : (es : List Automaton) (c : Call) (B : Automaton) → FirstFine es → Adds es c B → FirstFine (es ++ B ∷ [])
first_added [] (open_call f) B x o = (fine_formed B [] (fine_first f B o), refl)
first_added [] (offer_call f b work word) B x o = absurd o
first_added (A ∷ es) (open_call f) B x o = absurd o
first_added (A ∷ es) (offer_call f b work word) B x o = (
  x.0,
  ap (λ (X : Automaton). X.letters) (last_append A es B) ∙ (next_letters (holding A es) f b work word B o ∙ x.1),
)

account_first : {es fs : List Automaton} {cs : List Call} → Account es cs fs → FirstFine es → FirstFine fs
account_first done x = x
account_first (adds {es = es} {c = c} B a r) x = account_first r (first_added es c B x a)
account_first (keeps n r) x = account_first r x

-- Verdicts.

well_formed_passes : (E : Entry) → WellFormed E → malformed E ≡ false
well_formed_passes E w = not_T_false (malformed E) (λ t. ((malformed_iff E).0 t).1 w)

abbrev answer_of : Bool → Bool → Bool → Bool → VerdictAnswer
answer_of m o l a = cond m (VerdictRefused 9) (cond (not o) (VerdictRefused 13) (cond l (VerdictRefused 15) (cond a Yes No)))

verdict_by_tests : (E : Entry) (u v : List ℕ)
    → verdict_of E u v ≡ answer_of (malformed E) E.filled (bad_lasso E.held.letters u v) (accepted E.held u v)
unfolding verdict_of
verdict_by_tests E u v = refl

same_answer : {m m' o o' l l' a a' : Bool} → m ≡ m' → o ≡ o' → l ≡ l' → a ≡ a' → answer_of m o l a ≡ answer_of m' o' l' a'
same_answer {m' = m'} {o = o} {o' = o'} {l = l} {l' = l'} {a = a} p q r t =
    ap (λ (x : Bool). answer_of x o l a) p
    ∙ (ap (λ (x : Bool). answer_of m' x l a) q ∙ (ap (λ (x : Bool). answer_of m' o' x a) r ∙ ap (λ (x : Bool). answer_of m' o' l' x) t))

same_verdict : (E F : Entry) → E.filled ≡ true → F.filled ≡ true → WellFormed E → WellFormed F → E.held.letters ≡ F.held.letters
    → (u v : List ℕ) → Accepted E.held u v ↔ Accepted F.held u v → verdict_of E u v ≡ verdict_of F u v
same_verdict E F oE oF wE wF k u v h =
    let dE = verdict_decides_acceptance E.held wE.in_range.initial_below u v in
    let dF = verdict_decides_acceptance F.held wF.in_range.initial_below u v in
    verdict_by_tests E u v
    ∙ (same_answer (well_formed_passes E wE ∙ sym (well_formed_passes F wF)) (oE ∙ sym oF) (ap (λ (n : ℕ). bad_lasso n u v) k)
    (same_test (accepted E.held u v) (accepted F.held u v) (λ t. dF.1 (h.0 (dE.0 t))) (λ t. dE.1 (h.1 (dF.0 t))))
    ∙ sym (verdict_by_tests F u v))

-- Numbers.

slots_kind : (i n : ℕ) (c : Bool) → (110 + 2 ^ 8 * cond c n 0 + 2 ^ 24 * cond c 0 n + 2 ^ 40 * 0 + 2 ^ 56 * i) % 2 ^ 8 ≡ 0 → ⊥
slots_kind i n true e = omega (arith, e)
slots_kind i n false e = omega (arith, e)

refusal_kind : {n : ℕ} → offers.OfferRefusal n → (100 + n ≤ 114)
refusal_kind offers.malformed_entry = omega arith
refusal_kind offers.empty_entry = omega arith
refusal_kind (offers.bad_file l h) = omega arith
refusal_kind offers.bad_bound = omega arith
refusal_kind offers.other_letters = omega arith
refusal_kind offers.dead_state = omega arith
refusal_kind offers.not_smaller = omega arith

-- kind 0 is taken
kind_taken : (S room : ℕ) (x : OfferAnswer) → OfferListed S room x → (offer_number x % 2 ^ 8 ≡ 0) ↔ (is_taken x ≡ true)
kind_taken S room (Taken m n) h = (λ _. refl, λ _. omega arith)
kind_taken S room (Forward m len) h = (λ e. absurd (omega (arith, e)), λ d. clash d refl)
kind_taken S room (Back m n len) h = (λ e. absurd (omega (arith, e)), λ d. clash d refl)
kind_taken S room (Refused n) h = (λ e. absurd (omega (arith, e, refusal_kind h)), λ d. clash d refl)
kind_taken S room (NoSlots i n) h = (λ e. absurd (slots_kind i n (eqb i 1) e), λ d. clash d refl)
kind_taken S room (NoRoom i len) h = (λ e. absurd (omega (arith, e)), λ d. clash d refl)

-- The claim.

module _ (s : List ℕ) (i : is_entry s ≡ true) (vacant : (entry_of s).filled ≡ false) where
  told_bytes : (t : List ℕ) (E : Entry) (es : List Automaton) → E ≡ accounted (entry_of s) es → Describes s t E → t ≡ bytes_of s es
  told_bytes t E [] e x = go x.bytes
    where
      go : (t ≡ s) ⊎ (((entry_of t).filled ≡ true) × (t ≡ entry_bytes (entry_of t))) → t ≡ s
      go (inl d) = d
      go (inr d) = clash d.0 (ap (λ (F : Entry). F.filled) (x.describes ∙ e) ∙ vacant)
  told_bytes t E (A ∷ es) e x = go x.bytes
    where
      go : (t ≡ s) ⊎ (((entry_of t).filled ≡ true) × (t ≡ entry_bytes (entry_of t))) → t ≡ entry_bytes (holding A es)
      go (inl d) =
          clash (ap (λ (F : Entry). F.filled) (x.describes ∙ e)) (ap (λ (l : List ℕ). (entry_of l).filled) d ∙ vacant)
      go (inr d) = d.1 ∙ ap entry_bytes (x.describes ∙ e)

  same_verdicts : (t : List ℕ) (E : Entry) (n : ℕ) (es : List Automaton) → E ≡ accounted (entry_of s) es → Describes s t E
      → (E.filled ≡ true → WellFormed E) → KeptIf E n es → FirstFine es → SameVerdicts t es
  same_verdicts t E n [] e x w k g = tt
  same_verdicts t E n (A ∷ es) e x w k g = λ u v.
      let o : E.filled ≡ true = ap (λ (F : Entry). F.filled) e in
      let l : E.held.letters ≡ A.letters = ap (λ (F : Entry). F.held.letters) e ∙ g.1 in
      entry_verdict_number t u v x.entry_is
      ∙ ap (λ (F : Entry). verdict_number (verdict_of F u v)) x.describes
      ∙ ap verdict_number (same_verdict E (first_edition A) o refl (w o) g.0 l u v (k.verdict u v))

  pub bytes_claim : (cs : List Call) → BytesClaim s cs
  bytes_claim cs =
      let l = list_claim (entry_of s) vacant cs in
      let x = after cs s i in
      record {
        list = l;
        entry_is = x.entry_is;
        describes = x.describes;
        bytes = told_bytes (bytes_after s cs) (entry_after (entry_of s) cs) l.editions l.entry x;
        verdicts =
            same_verdicts (bytes_after s cs) (entry_after (entry_of s) cs) _ l.editions l.entry x l.well_formed l.kept
            (account_first l.account tt);
        taken_adds = λ ds more f b work word e es a.
            let y = after ds s i in
            let h = l.taken_adds ds more f b work word e es a in
            let E = entry_after (entry_of s) ds in
            let q = kind_taken _ _ (offer_of E f b work word).answer (offer_numbers E f b work word) in
            let r : offer_bytes_number (bytes_after s ds) f b work word ≡ offer_number (offer_of E f b work word).answer =
            entry_offer_number (bytes_after s ds) f b work word y.entry_is
            ∙ ap (λ (F : Entry). offer_number (offer_of F f b work word).answer) y.describes in (
              λ z. h.0 (q.0 (ap (λ (m : ℕ). m % 2 ^ 8) (sym r) ∙ z)),
              λ z. ap (λ (m : ℕ). m % 2 ^ 8) r ∙ q.1 (h.1 z),
            );
      }

pub demand_3_bytes : DemandThreeBytes
demand_3_bytes = bytes_claim
