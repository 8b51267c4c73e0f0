-- An open is answered "opened" exactly where the entry is empty and the file's automaton is a first edition, which the entry holds then:
-- read off the table of open's answers. Assumes nothing.
use mathlib.Core.Path.{◌≡◌, refl, subst}
use mathlib.Core.Bool.{false}
use mathlib.Core.Logic.{inl, inr}
use mathlib.Core.List.{List}
use Prim.Native.Nat.{ℕ}
use Rattle.automaton.specs.declared.Automaton.{Automaton}
use Rattle.runs.specs.DeadStates.{Dead}
use Rattle.automaton.proofs.Booleans.{T_true, not_T_false, clash}
use Rattle.format.proofs.FileLaws.{read_same, read_not_both}
use Rattle.checks.specs.Checks.{First}
use Rattle.checks.proofs.FileRows.{refused_read}
use Rattle.history.specs.declared.Entry.{Entry}
use Rattle.history.specs.OpenAnswers.{Opened, Refused}
use Rattle.history.specs.Opens.{open_of, first_edition}
use Rattle.history.specs.Tables.{open_rows}
use Rattle.history.specs.Account.{FirstEdition}
use Rattle.history.proofs.EntryEffects.{open_entry, open_keeps}
use Rattle.history.proofs.OpenTable.{open_table}

module _ (E : Entry) (f : List ℕ) where
  -- an open makes a first edition of an empty entry, or there is none and the entry stays
  pub data OpenEffect : Type 0 where
    opens_first : (B : Automaton) → FirstEdition f B → E.filled ≡ false → (open_of E f).entry ≡ first_edition B
        → (open_of E f).answer ≡ Opened → OpenEffect
    opens_none : (E.filled ≡ false → (B : Automaton) → FirstEdition f B → ⊥) → (open_of E f).entry ≡ E
        → ((open_of E f).answer ≡ Opened → ⊥) → OpenEffect

  refused_effect : (n : ℕ) → (open_of E f).answer ≡ Refused n → (E.filled ≡ false → (B : Automaton) → FirstEdition f B → ⊥) → OpenEffect
  refused_effect n e u = opens_none u (open_keeps E f n e) (λ d. cc)

  row_effect : First (open_rows E f) (open_of E f).answer → OpenEffect
  row_effect (inl p) = refused_effect 9 p.1 (λ e. clash p.0.0 e)
  row_effect (inr (_, inl p)) = refused_effect 12 p.1 (λ e. clash p.0 e)
  row_effect (inr (_, inr (_, inl p))) = refused_effect p.0 p.2 (λ e B o. read_not_both o.read (refused_read p.1))
  row_effect (inr (_, inr (_, inr (_, inl p)))) =
      refused_effect 6 p.1 λ e B o.
      let d = p.0.condition in
      o.alive d.0 (subst (λ (X : Automaton). Dead X d.0) (read_same p.0.read o.read) d.1)
  row_effect (inr (_, inr (closed, inr (_, inr (alive, inl p))))) =
      let q = p.0 in
      let A = q.automaton in
      opens_first A
      (record { read = q.read; alive = λ s d. alive (Refused 6) (record { automaton = A; read = q.read; condition = (s, d) }, refl) })
      (not_T_false E.filled (λ t. closed (Refused 12) (T_true E.filled t, refl)))
      (open_entry E f A q.read p.1)
      p.1
  row_effect (inr (_, inr (_, inr (_, inr (_, inr z))))) = absurd z.1

  pub open_effect : OpenEffect
  open_effect = row_effect ((open_table E f (open_of E f).answer).0 refl)
