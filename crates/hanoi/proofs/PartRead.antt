-- A part or an end that goes by the grammar is read, and a fault there is answered with its number: the first token tells which of the three stands, and
-- then its tests follow. Assumes nothing.
use mathlib.Core.Path.{◌≡◌, refl, sym, ap, ◌∙◌}
use mathlib.Core.Bool.{Bool, true, false, not}
use mathlib.Core.List.{List, [], ◌∷◌}
use Prim.Native.Nat.{ℕ, ◌≤◌, ◌<◌}
use native.Mathlib.Omega.{arith}
use lib.Dec.{ltb}
use lib.ListN.{length}
use borrow.Author.Tests.{eq-eqb, ne_eqb, lt-ltb, le-ltb}
use Rattle.tokens.specs.Tokens.{skip, stands, behind}
use Rattle.tokens.specs.Lexical.{IsToken}
use Rattle.tokens.proofs.Runs.{white_run}
use Rattle.tokens.proofs.LexicalLaws.{token_stands, token_behind, no_token_stands}
use Rattle.labels.specs.Labels.{Label}
use Rattle.labels.specs.LabelReading.{Found, absent, found, label_at}
use Rattle.labels.specs.LabelGrammar.{IsLabel}
use Rattle.labels.proofs.Complete.{label_grammar}
use Rattle.hanoi.specs.Words.{zero_word, END, State, left_brace, right_brace, left_bracket, right_bracket}
use Rattle.hanoi.specs.Descriptions.{Part, declared, edge, Description, extended}
use Rattle.hanoi.specs.Reading.{refused, describes, Step, over, next, outside, expect, expect_number, check, acceptance, is_declared, state_at, edge_at, edge_of, end_at, part_at}
use Rattle.hanoi.specs.Grammar.{word, Numbered, Marked, accepting, rejecting, Latest, of_state, of_edge, Declares, IsPart, state_part, edge_part, IsEnd, is_end}
use Rattle.hanoi.specs.Faults.{PartFault, no_part, more_text, no_state, state_outside, state_again, no_mark, edge_first, no_label, no_target, target_outside}
use Rattle.hanoi.proofs.ReadSteps.{edge_first_step, edge_state_step, edge_again_step}
use Rattle.hanoi.proofs.Forward.{stands_one, stands_past}
use Rattle.hanoi.proofs.Cases.{expect_all}
use Rattle.hanoi.proofs.Says.{declared_iff, label_read}
use Rattle.hanoi.proofs.TokensRead.{one_numbered, expect_read, expect_refused, words_read, words_refused, number_read, number_refused, check_read, check_refused}

undeclared : {q : ℕ} {xs : List Part} → (Declares q xs → ⊥) → is_declared q xs ≡ false
undeclared {q = q} {xs = xs} n = by (is_declared q xs) refl
  where
    by : (b : Bool) → is_declared q xs ≡ b → b ≡ false
    by true e = absurd (n ((declared_iff q xs).0 e))
    by false e = refl

module _ (s : List ℕ) (D : Description) where
  part_by : (i : ℕ) (a b c : Bool) → stands END s i ≡ a → stands State s i ≡ b → stands left_bracket s i ≡ c → part_at s i D ≡ elim a [
    | true ↦ end_at s (behind END s i) D
    | false ↦ elim b [
      | true ↦ state_at s (behind State s i) D
      | false ↦ elim c [ true ↦ edge_of s (behind left_bracket s i) D.parts D | false ↦ outside ]
    ]
  ]
  unfolding part_at
  part_by i a b c x y z =
      ap (λ (a : Bool). elim a [
        | true ↦ end_at s (behind END s i) D
        | false ↦ elim (stands State s i) [
          | true ↦ state_at s (behind State s i) D
          | false ↦ elim (stands left_bracket s i) [ true ↦ edge_of s (behind left_bracket s i) D.parts D | false ↦ outside ]
        ]
      ]) x
      ∙ ap (λ (b : Bool). elim a [
        | true ↦ end_at s (behind END s i) D
        | false ↦ elim b [
          | true ↦ state_at s (behind State s i) D
          | false ↦ elim (stands left_bracket s i) [ true ↦ edge_of s (behind left_bracket s i) D.parts D | false ↦ outside ]
        ]
      ]) y
      ∙ ap (λ (c : Bool). elim a [
        | true ↦ end_at s (behind END s i) D
        | false ↦ elim b [
          | true ↦ state_at s (behind State s i) D
          | false ↦ elim c [ true ↦ edge_of s (behind left_bracket s i) D.parts D | false ↦ outside ]
        ]
      ]) z

  at_end : {i a : ℕ} → IsToken END s i a → part_at s i D ≡ end_at s a D
  at_end {i = i} x =
      part_by i true (stands State s i) (stands left_bracket s i) (token_stands x) refl refl ∙ ap (λ (a : ℕ). end_at s a D) (token_behind x)

  at_state : {i a : ℕ} → IsToken State s i a → part_at s i D ≡ state_at s a D
  at_state {i = i} x =
      let e = token_stands x in
      part_by i false true (stands left_bracket s i) (stands_one 0x53 _ 0x2D _ s i (λ z. omega (arith, z)) e) e refl
      ∙ ap (λ (a : ℕ). state_at s a D) (token_behind x)

  at_edge : {i a : ℕ} → IsToken left_bracket s i a → part_at s i D ≡ edge_of s a D.parts D
  at_edge {i = i} x =
      let e = token_stands x in
      part_by i false false true (stands_one 0x5B _ 0x2D _ s i (λ z. omega (arith, z)) e) (stands_one 0x5B _ 0x53 _ s i (λ z. omega (arith, z)) e) e
      ∙ ap (λ (a : ℕ). edge_of s a D.parts D) (token_behind x)

  pub part_past : (i : ℕ) → length s ≤ i → part_at s i D ≡ outside
  part_past i h =
      part_by i false false false (stands_past 0x2D _ s i (λ z. omega (arith, z)) h) (stands_past 0x53 _ s i (λ z. omega (arith, z)) h)
      (stands_past 0x5B _ s i (λ z. omega (arith, z)) h)

  pub end_read : {i : ℕ} → IsEnd s i → part_at s i D ≡ over (describes D)
  unfolding end_at
  end_read (is_end {a = a} x r) =
      at_end x
      ∙ ap (λ (b : Bool). elim b [ true ↦ over (describes D) | false ↦ outside ])
      (eq-eqb (skip s a) (length s) (sym ((white_run s a (length s)).0 r)))

  -- a state's number is read; its tests follow
  state_read : {i q j : ℕ} → Numbered s (State ∷ []) i q j
      → part_at s i D ≡ check (ltb q D.states) 4 (check (not (is_declared q D.parts)) 17 (acceptance s j (λ b k. next k (extended (declared q b) D))))
  unfolding state_at
  state_read {i = i} {q = q} {j = j} x = let y = one_numbered x in at_state y.1 ∙ number_read _ y.2

  state_in_range : {i q j : ℕ} → Numbered s (State ∷ []) i q j → q < D.states
      → part_at s i D ≡ check (not (is_declared q D.parts)) 17 (acceptance s j (λ b k. next k (extended (declared q b) D)))
  state_in_range {q = q} x h = state_read x ∙ check_read _ _ _ (lt-ltb q D.states h)

  marked_by : (i : ℕ) (go : Bool → ℕ → Step) (b : Bool) → stands left_brace s i ≡ b
      → acceptance s i go ≡ elim b [ true ↦ expect_all (zero_word ∷ right_brace ∷ []) s (behind left_brace s i) (go true) | false ↦ go false i ]
  unfolding acceptance expect_all
  marked_by i go b e =
      ap (λ (x : Bool). elim x [ true ↦ expect_all (zero_word ∷ right_brace ∷ []) s (behind left_brace s i) (go true) | false ↦ go false i ]) e

  marked_on : {i a : ℕ} (go : Bool → ℕ → Step) → IsToken left_brace s i a → acceptance s i go ≡ expect_all (zero_word ∷ right_brace ∷ []) s a (go true)
  marked_on {i = i} go x =
      marked_by i go true (token_stands x) ∙ ap (λ (a : ℕ). expect_all (zero_word ∷ right_brace ∷ []) s a (go true)) (token_behind x)

  marked_read : {i : ℕ} {b : Bool} {j : ℕ} (go : Bool → ℕ → Step) → Marked s i b j → acceptance s i go ≡ go b j
  marked_read go (accepting (word x y)) = marked_on go x ∙ words_read (go true) y
  marked_read go (rejecting {i = i} n p) = marked_by i go false (no_token_stands left_brace s i n) ∙ ap (go false) p

  latest_read : (i : ℕ) {q : ℕ} {xs : List Part} → Latest q xs → edge_of s i xs D ≡ edge_at s i q D
  latest_read i {q = q} (of_state {b = b} {xs = xs}) = edge_state_step s i D q b xs
  latest_read i {q = q} (of_edge {L = L} {r = r} {xs = xs}) = edge_again_step s i D q L r xs

  -- an edge's label is read, with its `]`; its target follows
  edge_read : {i a q : ℕ} {L : Label} {j l : ℕ} → IsToken left_bracket s i a → Latest q D.parts → IsLabel s D.propositions a L j
      → IsToken right_bracket s j l → part_at s i D ≡ expect_number s l (λ r l. check (ltb r D.states) 4 (next l (extended (edge q L r) D)))
  unfolding edge_at
  edge_read {a = a} {q = q} {L = L} {j = j} {l = l} x o d y =
      at_edge x ∙ latest_read a o
      ∙ ap (λ (x : Found). elim x [
        | absent ↦ outside
        | found L j ↦ expect right_bracket s j (λ k. expect_number s k (λ r l. check (ltb r D.states) 4 (next l (extended (edge q L r) D))))
      ]) (label_read s D.propositions a L j l d y)
      ∙ expect_read _ y

  edge_refused : {i a q : ℕ} → IsToken left_bracket s i a → Latest q D.parts
      → ((L : Label) (j l : ℕ) → IsLabel s D.propositions a L j → IsToken right_bracket s j l → ⊥) → part_at s i D ≡ outside
  unfolding edge_at
  edge_refused {a = a} {q = q} x o n = at_edge x ∙ latest_read a o ∙ by (label_at s D.propositions a) refl
    where
      by : (x : Found) → label_at s D.propositions a ≡ x → elim x [
        | absent ↦ outside
        | found L j ↦ expect right_bracket s j (λ k. expect_number s k (λ r l. check (ltb r D.states) 4 (next l (extended (edge q L r) D))))
      ] ≡ outside
      by absent x = refl
      by (found L j) x =
          expect_refused right_bracket s j (λ k. expect_number s k (λ r l. check (ltb r D.states) 4 (next l (extended (edge q L r) D))))
          (λ l. n L j l ((label_grammar s D.propositions a L j).0 x).0)

  -- an edge's target is read; its test follows
  target_read : {i a q : ℕ} {L : Label} {j r l : ℕ} → IsToken left_bracket s i a → Latest q D.parts → IsLabel s D.propositions a L j
      → Numbered s (right_bracket ∷ []) j r l → part_at s i D ≡ check (ltb r D.states) 4 (next l (extended (edge q L r) D))
  target_read {i = i} x o d z = let y = one_numbered z in edge_read x o d y.1 ∙ number_read _ y.2

  pub part_read : {i : ℕ} {x : Part} {j : ℕ} → IsPart s D i x j → part_at s i D ≡ next j (extended x D)
  part_read (state_part x h d m) = state_in_range x h ∙ check_read _ _ _ (ap not (undeclared d)) ∙ marked_read _ m
  part_read (edge_part {r = r} x o d y h) = target_read x o d y ∙ check_read _ _ _ (lt-ltb r D.states h)

  pub part_refused : {i n : ℕ} → PartFault s D i n → part_at s i D ≡ over (refused n)
  unfolding end_at state_at
  part_refused {i = i} (no_part x y z) =
      part_by i false false false (no_token_stands END s i x) (no_token_stands State s i y) (no_token_stands left_bracket s i z)
  part_refused (more_text {a = a} x n) =
      at_end x
      ∙ ap (λ (b : Bool). elim b [ true ↦ over (describes D) | false ↦ outside ])
      (ne_eqb (skip s a) (length s) (λ e. n ((white_run s a (length s)).1 (sym e))))
  part_refused (no_state {a = a} x n) = at_state x ∙ number_refused s a _ n
  part_refused {i = i} (state_outside {q = q} x h) = state_read x ∙ check_refused _ _ _ (le-ltb q D.states h)
  part_refused (state_again x h d) = state_in_range x h ∙ check_refused _ _ _ (ap not ((declared_iff _ D.parts).1 d))
  part_refused (no_mark x h d y m) = state_in_range x h ∙ check_read _ _ _ (ap not (undeclared d)) ∙ marked_on _ y ∙ words_refused _ m
  part_refused (edge_first {a = a} x p) = at_edge x ∙ ap (λ (xs : List Part). edge_of s a xs D) p ∙ edge_first_step s a D
  part_refused (no_label x o n) = edge_refused x o n
  part_refused (no_target {l = l} x o d y n) = edge_read x o d y ∙ number_refused s l _ n
  part_refused {i = i} (target_outside {r = r} x o d y h) = target_read x o d y ∙ check_refused _ _ _ (le-ltb r D.states h)
