-- The reader reads every text that goes by the grammar, and refuses every text with a fault by the fault's number: so it is decided exactly by the grammar
-- and the faults, and every text is one file or has one first fault. Assumes nothing.
use mathlib.Core.Path.{◌≡◌, refl, sym, ap, subst, ◌∙◌}
use mathlib.Core.Logic.{◌↔◌, ◌⊎◌, inl, inr}
use mathlib.Core.List.{List}
use Prim.Native.Nat.{ℕ, zero, suc, ◌+◌, ◌≤◌, ◌<◌}
use native.Mathlib.Omega.{arith}
use lib.ListN.{length}
use Rattle.tokens.proofs.LexicalLaws.{token_stands}
use Rattle.hanoi.specs.Descriptions.{Part, Description}
use Rattle.hanoi.specs.Reading.{refused, describes, over, next, outside, body, read_hanoi}
use Rattle.hanoi.specs.Grammar.{word, numbered, IsPart, state_part, edge_part, IsEnd, is_end, IsBody, ends, part, IsFile, file}
use Rattle.hanoi.specs.Faults.{HeaderFault, no_states, states_outside, no_start, start_outside, no_propositions, many_propositions, no_names, other_acc_name, no_acceptance, PartFault, no_part, more_text, no_state, state_outside, state_again, no_mark, edge_first, no_label, no_target, target_outside, BodyFault, here, later, Fault, fault_in_header, in_body}
use Rattle.hanoi.proofs.ReadSteps.{body_over}
use Rattle.hanoi.proofs.Forward.{stands_within, part_forward}
use Rattle.hanoi.proofs.Says.{Says, read_says}
use Rattle.hanoi.proofs.HeaderRead.{header_read, header_refused}
use Rattle.hanoi.proofs.PartRead.{part_past, end_read, part_read, part_refused}

part_within : {s : List ℕ} {D : Description} {i : ℕ} {x : Part} {j : ℕ} → IsPart s D i x j → i < length s
part_within {s = s} {i = i} (state_part (numbered (word x y) n) h d m) = stands_within 0x53 _ s i (λ z. omega (arith, z)) (token_stands x)
part_within {s = s} {i = i} (edge_part x o d n h) = stands_within 0x5B _ s i (λ z. omega (arith, z)) (token_stands x)

end_within : {s : List ℕ} {i : ℕ} → IsEnd s i → i < length s
end_within {s = s} {i = i} (is_end x r) = stands_within 0x2D _ s i (λ z. omega (arith, z)) (token_stands x)

body_read : {s : List ℕ} {E : Description} {i : ℕ} {D : Description} (n : ℕ) → IsBody s E i D → length s ≤ i + n → body n s (next i D) ≡ describes E
unfolding body
body_read zero (ends f e) h = absurd (omega (arith, h, end_within f))
body_read {s = s} (suc n) (ends {D = D} f e) h = ap (body n s) (end_read s D f) ∙ body_over n s (describes D) ∙ ap describes e
body_read zero (part p b) h = absurd (omega (arith, h, part_within p))
body_read {s = s} (suc n) (part {D = D} p b) h = ap (body n s) (part_read s D p) ∙ body_read n b (omega (arith, h, part_forward p))

body_refused : {s : List ℕ} {m i : ℕ} {D : Description} (n : ℕ) → BodyFault s m i D → length s ≤ i + n → body n s (next i D) ≡ refused m
unfolding body
body_refused {s = s} {m = m} {i = i} zero (here {D = D} f) h =
    let z : outside ≡ over (refused m) = sym (part_past s D i (omega (arith, h))) ∙ part_refused s D f in cc
body_refused {s = s} {m = m} (suc n) (here {D = D} f) h = ap (body n s) (part_refused s D f) ∙ body_over n s (refused m)
body_refused zero (later p b) h = absurd (omega (arith, h, part_within p))
body_refused {s = s} (suc n) (later {D = D} p b) h = ap (body n s) (part_read s D p) ∙ body_refused n b (omega (arith, h, part_forward p))

-- a text is read exactly when it is a file of the grammar, and describes what the grammar says
pub hanoi_grammar : (s : List ℕ) (D : Description) → (read_hanoi s ≡ describes D) ↔ IsFile s D
unfolding read_hanoi
hanoi_grammar s D = (λ e. subst (Says s) e (read_says s), reads)
  where
    reads : IsFile s D → read_hanoi s ≡ describes D
    reads (file h b) = ap (body (length s) s) (header_read h) ∙ body_read (length s) b (omega arith)

-- a text is refused with n exactly when its first fault is n
pub hanoi_refused_iff : (s : List ℕ) (n : ℕ) → (read_hanoi s ≡ refused n) ↔ Fault s n
unfolding read_hanoi
hanoi_refused_iff s n = (λ e. subst (Says s) e (read_says s), refuses)
  where
    refuses : Fault s n → read_hanoi s ≡ refused n
    refuses (fault_in_header f) = ap (body (length s) s) (header_refused f) ∙ body_over (length s) s (refused n)
    refuses (in_body h b) = ap (body (length s) s) (header_read h) ∙ body_refused (length s) b (omega arith)

-- So every text is a file or has a fault; and it is one file only, or has one first fault.

describes_one : {D E : Description} → describes D ≡ describes E → D ≡ E
describes_one e = cc

refused_one : {m n : ℕ} → refused m ≡ refused n → m ≡ n
refused_one e = cc

pub file_describes_one : {s : List ℕ} {D E : Description} → IsFile s D → IsFile s E → D ≡ E
file_describes_one {s = s} {D = D} {E = E} f g = describes_one (sym ((hanoi_grammar s D).1 f) ∙ (hanoi_grammar s E).1 g)

pub first_fault_one : {s : List ℕ} {m n : ℕ} → Fault s m → Fault s n → m ≡ n
first_fault_one {s = s} {m = m} {n = n} f g = refused_one (sym ((hanoi_refused_iff s m).1 f) ∙ (hanoi_refused_iff s n).1 g)

pub file_without_fault : {s : List ℕ} {D : Description} {n : ℕ} → IsFile s D → Fault s n → ⊥
file_without_fault {s = s} {D = D} {n = n} f g =
    let e : describes D ≡ refused n = sym ((hanoi_grammar s D).1 f) ∙ (hanoi_refused_iff s n).1 g in
    let z : ◌≡◌ {A = ℕ} 0 1 = cc in omega arith

-- the numbers of the refusals
pub fault_number : {s : List ℕ} {n : ℕ} → Fault s n → (n ≡ 3) ⊎ (n ≡ 4) ⊎ (n ≡ 17) ⊎ (n ≡ 18)
fault_number (fault_in_header f) = of_header f
  where
    of_header : {s : List ℕ} {n : ℕ} → HeaderFault s n → (n ≡ 3) ⊎ (n ≡ 4) ⊎ (n ≡ 17) ⊎ (n ≡ 18)
    of_header (states_outside x a) = inl refl
    of_header (start_outside h x a) = inl refl
    of_header (many_propositions h x a) = inr (inr (inr refl))
    of_header (no_states x) = inr (inr (inl refl))
    of_header (no_start h x) = inr (inr (inl refl))
    of_header (no_propositions h x) = inr (inr (inl refl))
    of_header (no_names h x) = inr (inr (inl refl))
    of_header (other_acc_name h e f) = inr (inr (inl refl))
    of_header (no_acceptance h a x) = inr (inr (inl refl))
fault_number (in_body h f) = of_body f
  where
    of_part : {s : List ℕ} {D : Description} {i n : ℕ} → PartFault s D i n → (n ≡ 3) ⊎ (n ≡ 4) ⊎ (n ≡ 17) ⊎ (n ≡ 18)
    of_part (state_outside x h) = inr (inl refl)
    of_part (target_outside e l d x h) = inr (inl refl)
    of_part (no_part x y z) = inr (inr (inl refl))
    of_part (more_text e n) = inr (inr (inl refl))
    of_part (no_state e n) = inr (inr (inl refl))
    of_part (state_again x h d) = inr (inr (inl refl))
    of_part (no_mark x h d e m) = inr (inr (inl refl))
    of_part (edge_first e p) = inr (inr (inl refl))
    of_part (no_label e l n) = inr (inr (inl refl))
    of_part (no_target e l d f n) = inr (inr (inl refl))

    of_body : {s : List ℕ} {n i : ℕ} {D : Description} → BodyFault s n i D → (n ≡ 3) ⊎ (n ≡ 4) ⊎ (n ≡ 17) ⊎ (n ≡ 18)
    of_body (here f) = of_part f
    of_body (later p b) = of_body b
