-- What the editions of a list of calls have: the last one is in range, without dead states, with the fewest states, and accepts what
-- the first one does; each step lowers the rank, so that their number stays below 183,072. Assumes nothing.
use mathlib.Core.Path.{◌≡◌, refl, sym, ap, ap₂, subst, ◌∙◌}
use mathlib.Core.Bool.{Bool, true, false}
use borrow.Author.Tests.{eqb-true, eqb-false}
use lib.Dec.{eqb}
use mathlib.Core.Logic.{◌⊎◌, inl, inr, ◌↔◌}
use mathlib.Core.List.Memᴰ
use mathlib.Core.List.{List, [], ◌∷◌, ◌++◌, Memᴰ}
use Prim.Native.Nat.{ℕ, ◌+◌, ◌≤◌, ◌<◌}
use native.Mathlib.Omega.{arith}
use lib.ListN.{length, length-append}
use Rattle.automaton.specs.declared.Automaton.{Automaton}
use Rattle.automaton.specs.Automata.{InRange}
use Rattle.runs.specs.DeadStates.{Dead}
use Rattle.runs.specs.Lassos.{Accepted}
use Rattle.automaton.proofs.Rank.{rank, rank_below, rank_falls}
use Rattle.runs.proofs.KeepsLassos.{containment_keeps_lassos}
use Rattle.format.specs.File.{holds, read_file}
use Rattle.format.proofs.FileLaws.{file_in_range}
use Rattle.history.specs.declared.Entry.{Entry}
use Rattle.history.specs.OfferAnswers.{Refused}
use Rattle.history.specs.Entries.{max_edition, WellFormed, Smaller}
use Rattle.history.specs.Offers.{next_edition}
use Rattle.history.specs.Account.{FirstEdition, last_of, holding, NextEdition}
use Rattle.history.proofs.EntryLaws.{smaller_stable}

pub last_append : (A : Automaton) (es : List Automaton) (B : Automaton) → last_of A (es ++ B ∷ []) ≡ B
last_append A [] B = refl
last_append A (C ∷ es) B = last_append C es B

pub holding_append : (A : Automaton) (es : List Automaton) (B : Automaton) → next_edition (holding A es) B ≡ holding A (es ++ B ∷ [])
holding_append A es B =
    let e : length es + 1 ≡ length (es ++ B ∷ []) = sym (length-append es (B ∷ [])) in
    let entry : ℕ → Automaton → Entry = λ n H. record { filled = true; edition = n; first = A.states; held = H } in
    ap₂ entry e (sym (last_append A es B))

-- what the editions A ∷ es have, of the last of them, H, whose place is n
pub record FineAt (A : Automaton) (es : List Automaton) (H : Automaton) (n : ℕ) : Type 0 where
  pub first_in_range : InRange A
  pub last_in_range : InRange H
  pub alive : (q : ℕ) → Dead H q → ⊥
  pub fewest : (B : Automaton) → Memᴰ B (A ∷ es) → H.states ≤ B.states
  pub verdict : (u v : List ℕ) → Accepted H u v ↔ Accepted A u v
  pub verdicts : (B : Automaton) → Memᴰ B (A ∷ es) → (u v : List ℕ) → Accepted B u v ↔ Accepted A u v
  pub letters : H.letters ≡ A.letters
  pub ranks : n + rank H ≤ rank A

abbrev pub Fine : Automaton → List Automaton → Type 0
Fine A es = FineAt A es (last_of A es) (length es)

same_words : {B C A : Automaton} → B ≡ C → (u v : List ℕ) → Accepted C u v ↔ Accepted A u v → Accepted B u v ↔ Accepted A u v
same_words {A = A} e u v h = subst (λ (X : Automaton). Accepted X u v ↔ Accepted A u v) (sym e) h

pub fine_first : (f : List ℕ) (A : Automaton) → FirstEdition f A → Fine A []
fine_first f A o =
    record {
      first_in_range = file_in_range f A o.read;
      last_in_range = file_in_range f A o.read;
      alive = o.alive;
      fewest = λ B m. let e = ap (λ (X : Automaton). X.states) (Memᴰ.eq_of_singleton m) in omega arith;
      verdict = λ u v. (λ x. x, λ x. x);
      verdicts = λ B m u v. same_words (Memᴰ.eq_of_singleton m) u v (λ x. x, λ x. x);
      letters = refl;
      ranks = omega arith;
    }

smaller_states : (B A : Automaton) → Smaller B A → B.states ≤ A.states
smaller_states B A (inl h) = omega arith
smaller_states B A (inr h) = omega (arith, h.0)

module _ (E : Entry) (f : List ℕ) (b : ℕ) (work word : List ℕ) (B : Automaton) (t : NextEdition E f b work word B) where
  next_smaller : Smaller B E.held
  next_smaller =
      smaller_stable B E.held λ s.
      t.unrefused.1.1.1.1.1.1.0 (Refused 14) (record { automaton = B; read = t.read; condition = inl s }, refl)

  next_letters : B.letters ≡ E.held.letters
  next_letters = go (eqb E.held.letters B.letters) refl
    where
      go : (c : Bool) → eqb E.held.letters B.letters ≡ c → B.letters ≡ E.held.letters
      go true e = sym (eqb-true E.held.letters B.letters e)
      go false e =
          absurd
          (t.unrefused.1.1.1.1.0 (Refused 7)
          (record { automaton = B; read = t.read; condition = eqb-false E.held.letters B.letters e }, refl))

  next_alive : (q : ℕ) → Dead B q → ⊥
  next_alive q d = t.unrefused.1.1.1.1.1.0 (Refused 6) (record { automaton = B; read = t.read; condition = (q, d) }, refl)

module _ (A : Automaton) (es : List Automaton) (x : Fine A es) (f : List ℕ) (b : ℕ) (work word : List ℕ) (B : Automaton)
    (t : NextEdition (holding A es) f b work word B) where
  next_fewest : (C : Automaton) → Memᴰ C (A ∷ es) ⊎ Memᴰ C (B ∷ []) → B.states ≤ C.states
  next_fewest C (inl m) =
      let h = x.fewest C m in
      let k = smaller_states B (last_of A es) (next_smaller (holding A es) f b work word B t) in
      omega arith
  next_fewest C (inr m) = let e = ap (λ (X : Automaton). X.states) (Memᴰ.eq_of_singleton m) in omega arith

  taken_verdict : (u v : List ℕ) → Accepted B u v ↔ Accepted A u v
  taken_verdict u v =
      let k = x.verdict u v in (
        λ y. k.0 (containment_keeps_lassos B (last_of A es) b x.last_in_range.initial_below t.back u v y),
        λ y. containment_keeps_lassos (last_of A es) B b (file_in_range f B t.read).initial_below t.forward u v (k.1 y),
      )

  next_verdicts : (C : Automaton) → Memᴰ C (A ∷ es) ⊎ Memᴰ C (B ∷ []) → (u v : List ℕ) → Accepted C u v ↔ Accepted A u v
  next_verdicts C (inl m) u v = x.verdicts C m u v
  next_verdicts C (inr m) u v = same_words (Memᴰ.eq_of_singleton m) u v (taken_verdict u v)

  fine_taken : FineAt A (es ++ B ∷ []) B (length es + 1)
  fine_taken =
      let i = file_in_range f B t.read in
      record {
        first_in_range = x.first_in_range;
        last_in_range = i;
        alive = next_alive (holding A es) f b work word B t;
        fewest = λ C m. next_fewest C (Memᴰ.append_cases (A ∷ es) m);
        verdict = taken_verdict;
        verdicts = λ C m. next_verdicts C (Memᴰ.append_cases (A ∷ es) m);
        letters = next_letters (holding A es) f b work word B t ∙ x.letters;
        ranks =
            let h = x.ranks in
            let k = rank_falls B (last_of A es) i x.last_in_range (next_smaller (holding A es) f b work word B t) in
            omega arith;
      }

  pub fine_next : Fine A (es ++ B ∷ [])
  fine_next = rw (last_append A es B, length-append es (B ∷ [])) fine_taken

module _ (A : Automaton) (es : List Automaton) (x : Fine A es) where
  pub fine_bound : length es ≤ max_edition
  fine_bound = let h = x.ranks in let k = rank_below A x.first_in_range in omega arith

  pub fine_unspent : (f : List ℕ) (B : Automaton) → read_file f ≡ holds B → Smaller B (last_of A es) → length es < max_edition
  fine_unspent f B e s =
      let h = x.ranks in
      let k = rank_below A x.first_in_range in
      let l = rank_falls B (last_of A es) (file_in_range f B e) x.last_in_range s in
      omega arith

  pub fine_formed : WellFormed (holding A es)
  fine_formed =
      record {
        in_range = x.last_in_range;
        some_first = x.first_in_range.some_states;
        few_first = x.first_in_range.few_states;
        alive = x.alive;
        not_fewer = x.fewest A (Memᴰ.head refl);
        edition_in = fine_bound;
      }
