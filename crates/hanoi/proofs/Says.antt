-- What the reader answers: a text that is read goes by the grammar, and a text that is refused has that fault. The reader's steps are gone through once, by
-- cases, and each case is a rule or a fault. Assumes nothing.
use mathlib.Core.Path.{◌≡◌, refl, sym, ap, subst, ◌∙◌}
use mathlib.Core.Bool.{Bool, true, false, ◌&&◌, not}
use mathlib.Core.Logic.{◌↔◌}
use mathlib.Core.List.{List, [], ◌∷◌}
use Prim.Native.Nat.{ℕ, zero, suc, ◌+◌, ◌≤◌}
use native.Mathlib.Omega.{arith}
use lib.Dec.{eqb, leb, ltb}
use lib.ListN.{length}
use borrow.Author.Tests.{eqb-true, eqb-false, eq-eqb, ltb-true, ltb-false, leb-true, leb-false, le-leb, not-true, not-false}
use Rattle.automaton.specs.Automata.{max_states}
use Rattle.automaton.proofs.Booleans.{clash}
use Rattle.tokens.specs.Tokens.{skip, stands, behind}
use Rattle.tokens.specs.Lexical.{IsToken}
use Rattle.tokens.proofs.Runs.{white_run}
use Rattle.tokens.proofs.LexicalLaws.{and_left, and_right, number_lexical, a_token, no_token, token_stands, byte_stands, no_number_at}
use Rattle.labels.specs.Labels.{Label}
use Rattle.labels.specs.LabelReading.{Found, absent, found, label_at}
use Rattle.labels.specs.LabelGrammar.{IsLabel}
use Rattle.labels.proofs.Sound.{not_absent}
use Rattle.labels.proofs.Complete.{label_grammar}
use Rattle.hanoi.specs.Words.{Start, AP, END, State, left_bracket, right_bracket}
use Rattle.hanoi.specs.Descriptions.{max_propositions, Part, declared, edge, Description, extended}
use Rattle.hanoi.specs.Reading.{Read, refused, describes, Step, over, next, outside, expect, expect_number, check, is_declared, state_at, edge_at, edge_of, end_at, part_at, header, body, read_hanoi}
use Rattle.hanoi.specs.Grammar.{no_word, word, numbered, states_words, acceptance_words, has_states, has_start, has_propositions, has_names, IsHeader, header_stands, Latest, of_state, of_edge, Declares, declares, declares_before, IsPart, state_part, edge_part, IsEnd, is_end, IsBody, ends, part, IsFile, file}
use Rattle.hanoi.specs.Faults.{HeaderFault, no_states, states_outside, no_start, start_outside, no_propositions, many_propositions, no_names, other_acc_name, no_acceptance, PartFault, no_part, more_text, no_state, state_outside, state_again, no_mark, edge_first, no_label, no_target, target_outside, BodyFault, here, later, Fault, fault_in_header, in_body}
use Rattle.hanoi.proofs.ReadSteps.{body_over}
use Rattle.hanoi.proofs.Forward.{stands_byte, stands_past, part_forward}
use Rattle.hanoi.proofs.Cases.{expect_all, words_case, number_case, numbered_case, check_case, names_case, named_case, marked_case}

-- The header.

abbrev HeaderOver : List ℕ → Read → Type 0
HeaderOver s (refused n) = HeaderFault s n
HeaderOver s (describes D) = ⊥

abbrev HeaderSays : List ℕ → Step → Type 0
HeaderSays s (over r) = HeaderOver s r
HeaderSays s (next i D) = IsHeader s D i

pub states_in_range : (n : ℕ) → (leb 1 n && leb n max_states) ≡ true → (1 ≤ n) × (n ≤ max_states)
states_in_range n e = (leb-true 1 n (and_left (leb 1 n) (leb n max_states) e), leb-true n max_states (and_right (leb 1 n) (leb n max_states) e))

pub in_range_states : (n : ℕ) → 1 ≤ n → n ≤ max_states → (leb 1 n && leb n max_states) ≡ true
in_range_states n a b = ap (λ (x : Bool). x && leb n max_states) (le-leb 1 n a) ∙ le-leb n max_states b

header_says : (s : List ℕ) → HeaderSays s (header s)
unfolding header expect_all
header_says s =
    let P = HeaderSays s in
    numbered_case P s states_words 0 _ (λ n i x. check_case P s (leb 1 n && leb n max_states) 3 _ (λ a.
    let hn = has_states x (states_in_range n a).0 (states_in_range n a).1 in
    numbered_case P s (Start ∷ []) i _ (λ q j y. check_case P s (ltb q n) 3 _ (λ b.
    let hq = has_start hn y (ltb-true q n b) in
    numbered_case P s (AP ∷ []) j _ (λ k l z. check_case P s (leb k max_propositions) 18 _ (λ c.
    let hk = has_propositions hq z (leb-true k max_propositions c) in
    names_case P s k l _ (λ m u. let hm = has_names hk u in
    named_case P s m _ (λ o v. words_case P s acceptance_words o _ (λ e t. header_stands hm v t refl) (λ t. no_acceptance hm v t))
    (λ e f. other_acc_name hm e f))
    (λ u. no_names hk u))
    (λ c. many_propositions hq z (leb-false k max_propositions c))) (λ z. no_propositions hq z))
    (λ b. start_outside hn y (ltb-false q n b))) (λ y. no_start hn y))
    (λ a. states_outside x (λ h. clash (in_range_states n h.0 h.1) a))) (λ x. no_states x)

pub header_next : (s : List ℕ) (i : ℕ) (D : Description) → header s ≡ next i D → IsHeader s D i
header_next s i D e = subst (HeaderSays s) e (header_says s)

-- The body.

declared_declares : (q : ℕ) (xs : List Part) → is_declared q xs ≡ true → Declares q xs
unfolding is_declared
declared_declares q [] e = absurd (clash e refl)
declared_declares q (declared p b ∷ xs) e = by (declared_declares q xs) (eqb q p) refl e
  where
    by : (is_declared q xs ≡ true → Declares q xs) → (c : Bool) → eqb q p ≡ c → elim c [ true ↦ true | false ↦ is_declared q xs ] ≡ true
        → Declares q (declared p b ∷ xs)
    by ih true h f = subst (λ (r : ℕ). Declares q (declared r b ∷ xs)) (eqb-true q p h) declares
    by ih false h f = declares_before (ih f)
declared_declares q (edge p L r ∷ xs) e = declares_before (declared_declares q xs e)

declares_declared : {q : ℕ} {xs : List Part} → Declares q xs → is_declared q xs ≡ true
unfolding is_declared
declares_declared {q = q} (declares {xs = xs}) = ap (λ (c : Bool). elim c [ true ↦ true | false ↦ is_declared q xs ]) (eq-eqb q q refl)
declares_declared {q = q} (declares_before {x = declared p b} {xs = xs} m) = by (eqb q p) (declares_declared m)
  where
    by : (c : Bool) → is_declared q xs ≡ true → elim c [ true ↦ true | false ↦ is_declared q xs ] ≡ true
    by true h = refl
    by false h = h
declares_declared (declares_before {x = edge p L r} m) = declares_declared m

pub declared_iff : (q : ℕ) (xs : List Part) → (is_declared q xs ≡ true) ↔ Declares q xs
declared_iff q xs = (declared_declares q xs, declares_declared)

pub data NextPart (s : List ℕ) (D : Description) (i j : ℕ) (E : Description) : Type 0 where
  next_part : {x : Part} → IsPart s D i x j → E ≡ extended x D → NextPart s D i j E

abbrev PartOver : List ℕ → Description → ℕ → Read → Type 0
PartOver s D i (refused n) = PartFault s D i n
PartOver s D i (describes E) = IsEnd s i × (D ≡ E)

abbrev PartSays : List ℕ → Description → ℕ → Step → Type 0
PartSays s D i (over r) = PartOver s D i r
PartSays s D i (next j E) = NextPart s D i j E

-- a label with its `]` is read as the grammar has it
pub label_read : (s : List ℕ) (k i : ℕ) (L : Label) (j l : ℕ) → IsLabel s k i L j → IsToken right_bracket s j l → label_at s k i ≡ found L j
label_read s k i L j l d x = (label_grammar s k i L j).1 (d, λ a b. omega (arith, byte_stands b, stands_byte 0x5D [] s j (token_stands x)))

-- what stands from i on, behind its first token at place a
module _ (s : List ℕ) (D : Description) (i a : ℕ) where
  end_says : IsToken END s i a → PartSays s D i (end_at s a D)
  unfolding end_at
  end_says x = by (eqb (skip s a) (length s)) refl
    where
      by : (b : Bool) → eqb (skip s a) (length s) ≡ b → PartSays s D i (elim b [ true ↦ over (describes D) | false ↦ outside ])
      by true f = (is_end x ((white_run s a (length s)).1 (sym (eqb-true (skip s a) (length s) f))), refl)
      by false f = more_text x (λ r. eqb-false (skip s a) (length s) f (sym ((white_run s a (length s)).0 r)))

  state_says : IsToken State s i a → PartSays s D i (state_at s a D)
  unfolding state_at
  state_says y =
      let P = PartSays s D i in
      number_case P s a _ (λ q j f. let x = numbered (word y (no_word refl)) ((number_lexical s a q j).0 f) in
      check_case P s (ltb q D.states) 4 _ (λ b. let h = ltb-true q D.states b in
      check_case P s (not (is_declared q D.parts)) 17 _ (λ c.
      let d : Declares q D.parts → ⊥ = λ m. clash ((declared_iff q D.parts).1 m) (not-true (is_declared q D.parts) c) in
      marked_case P s j (λ b k. next k (extended (declared q b) D)) (λ b k m. next_part (state_part x h d m) refl) (λ g m. no_mark x h d g m))
      (λ c. state_again x h ((declared_iff q D.parts).0 (not-false (is_declared q D.parts) c))))
      (λ b. state_outside x (ltb-false q D.states b)))
      (λ f. no_state y (no_number_at s a f))

  edge_says : (q : ℕ) → IsToken left_bracket s i a → Latest q D.parts → PartSays s D i (edge_at s a q D)
  unfolding edge_at expect
  edge_says q e l = by (label_at s D.propositions a) refl
    where
      target : (L : Label) (j : ℕ) → label_at s D.propositions a ≡ found L j → (b : Bool) → stands right_bracket s j ≡ b
          → PartSays s D i (elim b [
            | true ↦ expect_number s (behind right_bracket s j) (λ r k. check (ltb r D.states) 4 (next k (extended (edge q L r) D)))
            | false ↦ outside
          ])
      target L j x true f =
          let P = PartSays s D i in
          let d = ((label_grammar s D.propositions a L j).0 x).0 in
          let u = a_token right_bracket s j f in
          number_case P s (behind right_bracket s j) (λ r k. check (ltb r D.states) 4 (next k (extended (edge q L r) D))) (λ r k g.
          let y = numbered (word u (no_word refl)) ((number_lexical s (behind right_bracket s j) r k).0 g) in
          check_case P s (ltb r D.states) 4 _ (λ b. next_part (edge_part e l d y (ltb-true r D.states b)) refl)
          (λ b. target_outside e l d y (ltb-false r D.states b)))
          (λ g. no_target e l d u (no_number_at s (behind right_bracket s j) g))
      target L j x false f =
          no_label e l (λ M k n d g. let z : found L j ≡ found M k = sym x ∙ label_read s D.propositions a M k n d g in
          let p : j ≡ k = cc in clash (ap (stands right_bracket s) p ∙ token_stands g) f)

      by : (x : Found) → label_at s D.propositions a ≡ x → PartSays s D i (elim x [
        | absent ↦ outside
        | found L j ↦ expect right_bracket s j (λ k. expect_number s k (λ r m. check (ltb r D.states) 4 (next m (extended (edge q L r) D))))
      ])
      by absent x = no_label e l (λ M k n d g. not_absent (sym x ∙ label_read s D.propositions a M k n d g))
      by (found L j) x = target L j x (stands right_bracket s j) refl

  edge_of_says : IsToken left_bracket s i a → (xs : List Part) → D.parts ≡ xs → PartSays s D i (edge_of s a xs D)
  unfolding edge_of
  edge_of_says e [] f = edge_first e f
  edge_of_says e (declared q b ∷ xs) f = edge_says q e (subst (Latest q) (sym f) of_state)
  edge_of_says e (edge q L r ∷ xs) f = edge_says q e (subst (Latest q) (sym f) of_edge)

module _ (s : List ℕ) (D : Description) (i : ℕ) where
  part_says : PartSays s D i (part_at s i D)
  unfolding part_at
  part_says = by (stands END s i) (stands State s i) (stands left_bracket s i) refl refl refl
    where
      by : (a b c : Bool) → stands END s i ≡ a → stands State s i ≡ b → stands left_bracket s i ≡ c → PartSays s D i (elim a [
        | true ↦ end_at s (behind END s i) D
        | false ↦ elim b [
          | true ↦ state_at s (behind State s i) D
          | false ↦ elim c [ true ↦ edge_of s (behind left_bracket s i) D.parts D | false ↦ outside ]
        ]
      ])
      by true b c x y z = end_says s D i (behind END s i) (a_token END s i x)
      by false true c x y z = state_says s D i (behind State s i) (a_token State s i y)
      by false false true x y z = edge_of_says s D i (behind left_bracket s i) (a_token left_bracket s i z) D.parts refl
      by false false false x y z = no_part (no_token END s i x) (no_token State s i y) (no_token left_bracket s i z)

pub part_next : (s : List ℕ) (i j : ℕ) (D E : Description) → part_at s i D ≡ next j E → NextPart s D i j E
part_next s i j D E e = subst (PartSays s D i) e (part_says s D i)

abbrev BodySays : List ℕ → ℕ → Description → Read → Type 0
BodySays s i D (refused n) = BodyFault s n i D
BodySays s i D (describes E) = IsBody s E i D

body_says : (n : ℕ) (s : List ℕ) (i : ℕ) (D : Description) → length s ≤ i + n → BodySays s i D (body n s (next i D))
unfolding body
body_says zero s i D h =
    let g : length s ≤ i = omega (arith, h) in
    here (no_part (no_token END s i (stands_past 0x2D _ s i (λ z. omega (arith, z)) g))
    (no_token State s i (stands_past 0x53 _ s i (λ z. omega (arith, z)) g))
    (no_token left_bracket s i (stands_past 0x5B _ s i (λ z. omega (arith, z)) g)))
body_says (suc n) s i D h = by (body_says n s) (part_at s i D) (part_says s D i)
  where
    by : ((j : ℕ) (E : Description) → length s ≤ j + n → BodySays s j E (body n s (next j E))) → (x : Step) → PartSays s D i x
        → BodySays s i D (body n s x)
    by ih (over (refused m)) f = subst (BodySays s i D) (sym (body_over n s (refused m))) (here f)
    by ih (over (describes E)) f = subst (BodySays s i D) (sym (body_over n s (describes E))) (ends f.0 f.1)
    by ih (next j E) (next_part p e) = onward (body n s (next j E)) (ih j E (omega (arith, h, part_forward p)))
      where
        onward : (r : Read) → BodySays s j E r → BodySays s i D r
        onward (refused m) f = later p (subst (BodyFault s m j) e f)
        onward (describes F) f = part p (subst (IsBody s F j) e f)

abbrev pub Says : List ℕ → Read → Type 0
Says s (refused n) = Fault s n
Says s (describes D) = IsFile s D

pub read_says : (s : List ℕ) → Says s (read_hanoi s)
unfolding read_hanoi
read_says s = by (header s) (header_says s)
  where
    by : (x : Step) → HeaderSays s x → Says s (body (length s) s x)
    by (over (refused n)) f = subst (Says s) (sym (body_over (length s) s (refused n))) (fault_in_header f)
    by (over (describes D)) f = absurd f
    by (next i D) f = onward (body (length s) s (next i D)) (body_says (length s) s i D (omega arith))
      where
        onward : (r : Read) → BodySays s i D r → Says s r
        onward (refused n) b = in_body f b
        onward (describes E) b = file f b
