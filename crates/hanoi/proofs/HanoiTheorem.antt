-- Demand 1 of the call that takes a Hanoi text, and what the file that it writes says: the text's automaton is in range and in bytes, as that of a file is, so
-- the laws of the fixed form apply to it. Assumes nothing.
use mathlib.Core.Path.{◌≡◌, refl, sym, ap, subst, ◌∙◌}
use mathlib.Core.List.{List}
use Prim.Native.Nat.{ℕ, ◌≤◌}
use borrow.Author.Tests.{ltb-true, ltb-false}
use lib.Dec.{ltb}
use lib.ListN.{length, take, drop}
use lib.Seq.{take_at}
use Rattle.format.specs.File.{holds, read_file}
use Rattle.checks.proofs.ChecksLaws.{by_test}
use Rattle.fixed_form.specs.WriteAnswers.{Wrote}
use Rattle.fixed_form.specs.FixedForm.{FixedForm, written}
use Rattle.fixed_form.specs.Write.{Write, writing}
use Rattle.fixed_form.specs.WriteDemand.{shortest_file, longest_file}
use Rattle.fixed_form.proofs.FixedFormTheorem.{written_read, fixed_form_iff}
use Rattle.fixed_form.proofs.Lengths.{written_bounds}
use Rattle.hanoi.specs.Descriptions.{Description}
use Rattle.hanoi.specs.Reading.{describes, read_hanoi}
use Rattle.hanoi.specs.Meaning.{automaton_of}
use Rattle.hanoi.specs.Hanoi.{hanoi_of}
use Rattle.hanoi.specs.HanoiTable.{TextHolds}
use Rattle.hanoi.specs.HanoiDemand.{HanoiListed, TextReads, AfterHanoi, HanoiDemand1, HanoiBack}
use Rattle.hanoi.proofs.Decided.{hanoi_grammar, hanoi_refused_iff}
use Rattle.hanoi.proofs.Described.{described_only}
use Rattle.hanoi.proofs.WellFormed.{hanoi_refusals, hanoi_describes}
use Rattle.hanoi.proofs.Undeclared.{undeclared_bare}
use Rattle.hanoi.proofs.HanoiCases.{by_text, text_of, text_computed}
use Rattle.hanoi.proofs.HanoiTable.{hanoi_table}

module _ (s : List ℕ) where
  text_reads : TextReads s
  text_reads =
      record {
        grammar = hanoi_grammar s;
        faults = hanoi_refused_iff s;
        automaton = hanoi_describes s;
        only = λ D A f d. described_only D A (automaton_of D) d (hanoi_describes s D f);
        undeclared = λ D A q f d n. undeclared_bare s D A q f d n;
      }

  bounds : (D : Description) → read_hanoi s ≡ describes D
      → (shortest_file ≤ length (written (automaton_of D))) × (length (written (automaton_of D)) ≤ longest_file)
  bounds D r =
      let i = (hanoi_describes s D ((hanoi_grammar s D).0 r)).in_range in
      written_bounds (automaton_of D) i.few_states i.few_letters

module _ (s out : List ℕ) where
  hanoi_occurs : HanoiListed (length out) (hanoi_of s out).answer
  unfolding hanoi_of writing
  hanoi_occurs =
      by_text (λ (w : Write). HanoiListed (length out) w.answer) (read_hanoi s) _ _ (λ n e. hanoi_refusals s n e) λ D r.
      let l = length (written (automaton_of D)) in
      by_test (λ (w : Write). HanoiListed (length out) w.answer) (ltb (length out) l) _ _
      (λ e. ((bounds s D r).0, (bounds s D r).1, ltb-true (length out) l e))
      (λ e. ((bounds s D r).0, (bounds s D r).1, ltb-false (length out) l e))

  hanoi_leaves : AfterHanoi s out (hanoi_of s out).answer (hanoi_of s out).out
  unfolding hanoi_of writing
  hanoi_leaves =
      by_text (λ (w : Write). AfterHanoi s out w.answer w.out) (read_hanoi s) _ _ (λ n e. refl) λ D r.
      by_test (λ (w : Write). AfterHanoi s out w.answer w.out) (ltb (length out) (length (written (automaton_of D)))) _ _ (λ e. refl)
      (λ e. text_computed ((hanoi_grammar s D).0 r) (refl, refl))

  pub hanoi_demand_1 : HanoiDemand1 s out
  hanoi_demand_1 = record { table = hanoi_table s out; reads = text_reads s; occurs = hanoi_occurs; leaves = hanoi_leaves }

  -- what is written stands in front
  pub hanoi_front : (len : ℕ) → (hanoi_of s out).answer ≡ Wrote len
      → TextHolds s (λ A. (len ≡ length (written A)) × (take len (hanoi_of s out).out ≡ written A))
  hanoi_front len e =
      let t = subst (λ x. AfterHanoi s out x (hanoi_of s out).out) e hanoi_leaves in
      let l = t.condition.0 in
      text_of t.says t.described (l, ap (take len) t.condition.1 ∙ take_at (written t.automaton) (drop len out) len (sym l))

pub hanoi_read_back : (s : List ℕ) → HanoiBack s
hanoi_read_back s = record { fixed = fixed; reads = reads }
  where
    fixed : (out : List ℕ) (len : ℕ) → (hanoi_of s out).answer ≡ Wrote len → TextHolds s (λ A. FixedForm (take len (hanoi_of s out).out) A)
    fixed out len e =
        let t = hanoi_front s out len e in
        let d = t.described in
        text_of t.says d
        ((fixed_form_iff t.automaton d.in_range d.accepting_bytes d.transition_bytes _).1 t.condition.1)

    reads : (out : List ℕ) (len : ℕ) → (hanoi_of s out).answer ≡ Wrote len
        → TextHolds s (λ A. read_file (take len (hanoi_of s out).out) ≡ holds A)
    reads out len e =
        let t = hanoi_front s out len e in
        let d = t.described in
        text_of t.says d
        (ap read_file t.condition.1 ∙ written_read t.automaton d.in_range d.accepting_bytes d.transition_bytes)
