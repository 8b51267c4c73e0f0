-- The call that takes a Hanoi text, by cases: a text that is refused, and one that is read, whose automaton is written. What is said of a text's automaton
-- is said of the one that is computed, since a file describes one automaton. Assumes nothing.
use mathlib.Core.Path.{◌≡◌, refl, ap, subst}
use mathlib.Core.List.{List}
use Prim.Native.Nat.{ℕ}
use Rattle.automaton.specs.declared.Automaton.{Automaton}
use Rattle.fixed_form.specs.WriteAnswers.{Refused}
use Rattle.fixed_form.specs.Write.{writing}
use Rattle.hanoi.specs.Descriptions.{Description}
use Rattle.hanoi.specs.Reading.{Read, refused, describes, read_hanoi}
use Rattle.hanoi.specs.Grammar.{IsFile}
use Rattle.hanoi.specs.Meaning.{IsDescribed, automaton_of}
use Rattle.hanoi.specs.Hanoi.{on_text, hanoi_of}
use Rattle.hanoi.specs.HanoiTable.{TextHolds}
use Rattle.hanoi.proofs.Decided.{file_describes_one}
use Rattle.hanoi.proofs.Described.{described_only}
use Rattle.hanoi.proofs.WellFormed.{hanoi_describes}

-- what follows a text has P, by what the text comes to
pub by_text : {X : Type 0} (P : X → Type 0) (r : Read) (stop : ℕ → X) (go : Description → X) → ((n : ℕ) → r ≡ refused n → P (stop n))
    → ((D : Description) → r ≡ describes D → P (go D)) → P (on_text r stop go)
by_text P (refused n) stop go h k = h n refl
by_text P (describes D) stop go h k = k D refl

module _ (s out : List ℕ) where
  pub hanoi_refused : (n : ℕ) → read_hanoi s ≡ refused n → hanoi_of s out ≡ record { answer = Refused n; out = out }
  unfolding hanoi_of
  hanoi_refused n e = ap (λ (r : Read). on_text r (λ n. record { answer = Refused n; out = out }) (λ D. writing (automaton_of D) out)) e

  pub hanoi_read : (D : Description) → read_hanoi s ≡ describes D → hanoi_of s out ≡ writing (automaton_of D) out
  unfolding hanoi_of
  hanoi_read D e = ap (λ (r : Read). on_text r (λ n. record { answer = Refused n; out = out }) (λ D. writing (automaton_of D) out)) e

module _ {s : List ℕ} {P : Automaton → Type 0} where
  pub text_of : {D : Description} {A : Automaton} → IsFile s D → IsDescribed D A → P A → TextHolds s P
  text_of {D} {A} f d p = record { description = D; says = f; automaton = A; described = d; condition = p }

  -- what holds of the text's automaton holds of A
  pub text_at : {D : Description} {A : Automaton} → IsFile s D → IsDescribed D A → TextHolds s P → P A
  text_at {D} {A} f d t =
      let e = file_describes_one t.says f in
      subst P (described_only D t.automaton A (subst (λ (E : Description). IsDescribed E t.automaton) e t.described) d) t.condition

  -- of the one that is computed
  pub text_computed : {D : Description} → IsFile s D → P (automaton_of D) → TextHolds s P
  text_computed {D} f p = text_of f (hanoi_describes s D f) p

-- two such conditions hold of the same automaton
pub text_same : {s : List ℕ} {P Q : Automaton → Type 0} (t : TextHolds s P) → TextHolds s Q → Q t.automaton
text_same t u = text_at t.says t.described u
