-- What stands at a place of the body does to what the code holds: the description gets one part more, and the automaton that the code leaves is the one before
-- with that part. Assumes nothing.
use mathlib.Core.Path.{◌≡◌, refl, sym, ap, subst, ◌∙◌}
use mathlib.Core.Bool.{Bool, true, false, ◌&&◌, ◌||◌, not}
use mathlib.Core.Logic.{⊎_elim, ∥∥₁_elim}
use denote.Struct.Props.{props}
use mathlib.Core.List.Memᴰ
use mathlib.Core.List.{List, [], ◌∷◌, Memᴰ}
use Prim.Native.Nat.{ℕ, ◌+◌, ◌/◌, ◌%◌, ◌^◌, ◌≤◌, ◌<◌}
use native.Mathlib.Omega.{arith}
use lib.Dec.{T, eqb, leb, ltb, eqb→eq, eqb_refl}
use lib.ListN.{length, drop, replicate, get_or-replicate, length-set}
use borrow.Author.Tests.{eq-eqb, ne_eqb}
use Rattle.std.specs.Prelude.{Option, Some, None, Result, Ok, Err}
use Rattle.std.proofs.lemmas.Option.{none-some, same_Some}
use Rattle.automaton.specs.declared.Automaton.{Automaton}
use Rattle.automaton.specs.Sets.{bit, member}
use Rattle.automaton.specs.Automata.{max_states, bare, InRange}
use Rattle.automaton.specs.Members.{with_member}
use Rattle.automaton.proofs.Booleans.{or_cases, or_left, or_right, same_test}
use Rattle.automaton.proofs.Bits.{bit_zero, member_with}
use Rattle.tokens.specs.Tokens.{skip, touches, starts_with, stands}
use Rattle.tokens.specs.declared.scanner.Scanner.{Scanner}
use Rattle.tokens.specs.Scanners.{Ahead, Moved}
use Rattle.tokens.specs.Places.{token_at}
use Rattle.tokens.proofs.Places.{token_missed, token_taken, token_skip}
use Rattle.tokens.proofs.Runs.{skip_skip}
use Rattle.labels.specs.LabelReading.{label_at}
use Rattle.labels.proofs.Below.{label_below, below_more}
use Rattle.label_reader.specs.Truths.{answer_of}
use Rattle.label_reader.proofs.ReadTruths.{Reads, answer_some, answer_none}
use Rattle.hanoi.specs.declared.TextRefusal.{TextRefusal}
use Rattle.hanoi.specs.Words.{END, State, left_brace, zero_word, right_brace, left_bracket, right_bracket}
use Rattle.hanoi.specs.Descriptions.{Part, declared, edge, Description, extended}
use Rattle.hanoi.specs.Reading.{Step, over, next, refused, describes, outside, expect, expect_number, check, is_declared, acceptance, declaration, state_at, edge_at, edge_of, end_at, part_at}
use Rattle.hanoi.specs.Meaning.{IsDescribed, with_letters, with_part, with_parts, automaton_of, PartWithin, WellFormed}
use Rattle.hanoi.proofs.Described.{described}
use Rattle.hanoi.proofs.ReadSteps.{declared_none, declared_state, declared_edge}
use Rattle.hanoi.proofs.TokensRead.{check_read, check_refused}
use Rattle.hanoi_header.proofs.ItemLaws.{below_in}
use Rattle.hanoi_reader.specs.declared.parts.Body.{Body}
use Rattle.hanoi_reader.specs.Taking.{with_mask, latest_state, Held, Holds}
use Rattle.hanoi_reader.specs.Bodies.{Taken}
use Rattle.hanoi_reader.proofs.LetterLaws.{letters_mask}

-- Marks, by what a call for the brace answered.

module _ (s : List ℕ) (i : ℕ) (go : Bool → ℕ → Step) where
  pub mark_none : None ≡ token_at left_brace s i → acceptance s i go ≡ go false i
  unfolding acceptance
  mark_none e = rw (acceptance, token_missed left_brace s i e) refl

  pub mark_begins : (j : ℕ) → Some j ≡ token_at left_brace s i → acceptance s i go ≡ expect zero_word s j (λ k. expect right_brace s k (go true))
  unfolding acceptance
  mark_begins j e = let t = token_taken left_brace s i j e in rw (acceptance, t.0, t.1) refl

-- What is held: an automaton in range, with the description's states and letters, and a latest state that is one of these.

pub held_described : {D : Description} {ps : ℕ} {ds : List ℕ} {ls : Option ℕ} {A : Automaton} → Held D ps ds ls A → IsDescribed D A
held_described {D} H = subst (IsDescribed D) (sym H.automaton) (described D H.well_formed)

pub held_in_range : {D : Description} {ps : ℕ} {ds : List ℕ} {ls : Option ℕ} {A : Automaton} → Held D ps ds ls A → InRange A
held_in_range H = (held_described H).in_range

-- a number is below the number of states exactly when it is below the automaton's
pub held_states : {D : Description} {ps : ℕ} {ds : List ℕ} {ls : Option ℕ} {A : Automaton} → Held D ps ds ls A
    → (v : ℕ) → ltb v D.states ≡ (leb 0 v && ltb v A.states)
held_states {A = A} H v = ap (ltb v) (sym (held_described H).describes.states) ∙ below_in A.states v

pub held_small : {D : Description} {ps : ℕ} {ds : List ℕ} {ls : Option ℕ} {A : Automaton} → Held D ps ds ls A
    → {q : ℕ} → q < A.states → q < max_states
held_small H h = let r = held_in_range H in omega (arith, h, r.few_states)

latest_within : (n k q : ℕ) (xs : List Part) → latest_state xs ≡ Some q → ((x : Part) → Memᴰ x xs → PartWithin n k x) → q < n
latest_within n k q [] e h = absurd (none-some q e)
latest_within n k q (declared p b ∷ xs) e h = subst (λ (m : ℕ). m < n) (same_Some p q e) (h (declared p b) (Memᴰ.head refl))
latest_within n k q (edge p L r ∷ xs) e h = subst (λ (m : ℕ). m < n) (same_Some p q e) (h (edge p L r) (Memᴰ.head refl)).0

pub held_latest : {D : Description} {ps : ℕ} {ds : List ℕ} {ls : Option ℕ} {A : Automaton} → Held D ps ds ls A
    → (q : ℕ) → ls ≡ Some q → q < D.states
held_latest {D} H q e = latest_within D.states D.propositions q D.parts (H.latest ∙ e) H.well_formed.within

-- the same where a description is known to be held, and not which
pub record Small (l : Option ℕ) (A : Automaton) : Type 0 where
  pub states : A.states ≤ max_states
  pub letters : A.letters ≤ 16
  pub latest : (q : ℕ) → l ≡ Some q → q < max_states

pub holds_small : {k : ℕ} {d : List ℕ} {l : Option ℕ} {A : Automaton} → ∥ Holds k d l A ∥₁ → Small l A
holds_small t =
    record {
      states = ∥∥₁_elim t (search props) (λ h. (held_in_range h.1).few_states);
      letters = ∥∥₁_elim t (search props) (λ h. (held_in_range h.1).few_letters);
      latest = λ q e. ∥∥₁_elim t (search props) (λ h. omega (arith, held_latest h.1 q e, h.1.well_formed.few_states));
    }

-- with one part more
more_well_formed : {D : Description} → WellFormed D → (x : Part) → PartWithin D.states D.propositions x → WellFormed (extended x D)
more_well_formed {D} f x h =
    record {
      some_states = f.some_states;
      few_states = f.few_states;
      start_below = f.start_below;
      few_propositions = f.few_propositions;
      within = λ y m. ⊎_elim (λ e. subst (PartWithin D.states D.propositions) (sym e) h) (f.within y) (Memᴰ.cases_cons m);
    }

-- The beginning: nothing is declared.

none_declared : (q : ℕ) → q < max_states → member (replicate 4 0) q ≡ false
none_declared q h = ap (λ (w : ℕ). bit w (q % 8)) (get_or-replicate {A = ℕ} 4 (q / 8) 0 0 (omega (arith, h))) ∙ bit_zero (q % 8)

pub held_starts : (D : Description) → WellFormed D → D.parts ≡ [] → Held D D.propositions (replicate 4 0) None (bare D.states (2 ^ D.propositions) D.start)
unfolding automaton_of with_parts
held_starts D f e =
    record {
      well_formed = f;
      propositions = refl;
      automaton = sym (ap (with_parts (bare D.states (2 ^ D.propositions) D.start)) e);
      size = refl;
      declares = λ q l. none_declared q l ∙ sym (ap (is_declared q) e ∙ declared_none q);
      latest = ap latest_state e;
    }

-- States.

same_flipped : (q p : ℕ) → T (eqb q p) → T (eqb p q)
same_flipped q p t = subst (λ (n : ℕ). T (eqb n q)) (eqb→eq q p t) (eqb_refl q)

swapped : (x : Bool) (q p : ℕ) → (x || eqb q p) ≡ (eqb p q || x)
swapped x q p =
    same_test (x || eqb q p) (eqb p q || x)
    (λ t. ⊎_elim (or_right (eqb p q) x) (λ e. or_left (eqb p q) x (same_flipped q p e)) (or_cases x (eqb q p) t))
    (λ t. ⊎_elim (λ e. or_right x (eqb q p) (same_flipped p q e)) (or_left x (eqb q p)) (or_cases (eqb p q) x t))

pub declared_again : {D : Description} {ps : ℕ} {ds : List ℕ} {ls : Option ℕ} {A : Automaton} → Held D ps ds ls A → (s : List ℕ) (q k : ℕ)
    → q < max_states → member ds q ≡ true → declaration s k q D ≡ over (refused 17)
declared_again H s q k small e = check_refused _ 17 _ (ap not (sym (H.declares q small) ∙ e))

module _ {D : Description} {ps : ℕ} {ds : List ℕ} {ls : Option ℕ} {A : Automaton} (H : Held D ps ds ls A) (s : List ℕ) (q k : ℕ)
    (small : q < A.states) where
  -- undeclared: what the mark behind it comes to decides; t is the text by another name
  pub undeclared : member ds q ≡ false → (t : List ℕ) → t ≡ s → declaration s k q D ≡ acceptance t k (λ a l. next l (extended (declared q a) D))
  undeclared e t g =
      check_read _ 17 _ (ap not (sym (H.declares q (held_small H small)) ∙ e))
      ∙ ap (λ u. acceptance u k (λ a l. next l (extended (declared q a) D))) (sym g)

  pub held_state : (a : Bool) (C : Automaton) → C ≡ with_part A (declared q a) → (ps' : ℕ) → ps' ≡ ps
      → (ds' : List ℕ) → ds' ≡ with_member ds q → (ls' : Option ℕ) → ls' ≡ Some q → Held (extended (declared q a) D) ps' ds' ls' C
  unfolding automaton_of with_parts
  held_state a C e ps' p ds' d ls' l =
      record {
        well_formed = more_well_formed H.well_formed (declared q a) (subst (λ (n : ℕ). q < n) (held_described H).describes.states small);
        propositions = H.propositions ∙ sym p;
        automaton = e ∙ ap (λ (B : Automaton). with_part B (declared q a)) H.automaton;
        size = ap length d ∙ length-set ds _ _ ∙ H.size;
        declares = λ v h. ap (λ x. member x v) d ∙ member_with ds q v (omega (arith, H.size, (held_small H small)))
            ∙ ap (λ (x : Bool). x || eqb q v) (H.declares v h) ∙ swapped (is_declared v D.parts) q v ∙ sym (declared_state v q a D.parts);
        latest = sym l;
      }

-- Edges, by what a call for the label answered.

module _ {D : Description} {ps : ℕ} {ds : List ℕ} {ls : Option ℕ} {A : Automaton} (H : Held D ps ds ls A) (s : List ℕ) (j q : ℕ) where
  same_label : answer_of (label_at s ps j) ≡ answer_of (label_at s D.propositions j)
  same_label = ap (λ k. answer_of (label_at s k j)) (sym H.propositions)

  pub edge_unlabelled : None ≡ answer_of (label_at s ps j) → edge_at s j q D ≡ over (refused 17)
  unfolding edge_at
  edge_unlabelled e = rw (answer_none (label_at s D.propositions j) (e ∙ same_label), edge_at) refl

  module _ (m l : ℕ) (e : Some (m, l) ≡ answer_of (label_at s ps j)) where
    pub label_read : Reads (label_at s D.propositions j) m l
    label_read = answer_some (label_at s D.propositions j) m l (e ∙ same_label)

    -- t is the text by another name
    pub edge_labelled : (t : List ℕ) → t ≡ s → edge_at s j q D
        ≡ expect right_bracket t l (λ k. expect_number t k (λ r i. check (ltb r D.states) 4 (next i (extended (edge q label_read.label r) D))))
    unfolding edge_at
    edge_labelled t g =
        let rest : List ℕ → Step =
        λ u. expect right_bracket u l (λ k. expect_number u k (λ r i. check (ltb r D.states) 4 (next i (extended (edge q label_read.label r) D))))
        in rw (label_read.read, edge_at) (ap rest (sym g))

    pub held_edge : (r : ℕ) → ls ≡ Some q → r < A.states → (C : Automaton) → C ≡ with_mask A q m r A.letters 0
        → Held (extended (edge q label_read.label r) D) ps ds ls C
    unfolding automaton_of with_parts with_part
    held_edge r g h C c =
        let L = label_read.label in
        let below = label_below s D.propositions j L l label_read.read in
        let few = below_more D.propositions 4 L below H.well_formed.few_propositions in
        record {
          well_formed = more_well_formed H.well_formed (edge q L r) (held_latest H q g, below, subst (λ (n : ℕ). r < n) (held_described H).describes.states h);
          propositions = H.propositions;
          automaton = c ∙ letters_mask q L m label_read.mask few r A.letters 0 (omega (arith, (held_in_range H).few_letters)) A
              ∙ ap (λ (B : Automaton). with_letters B q L r B.letters 0) H.automaton;
          size = H.size;
          declares = λ v u. H.declares v u ∙ sym (declared_edge v q L r D.parts);
          latest = sym g;
        }

-- What stands at place i, by what the calls for the words answered at place j, behind the white space in front.

module _ (s : List ℕ) (i j : ℕ) (here : j ≡ skip s i) (D : Description) where
  token_here : (w : List ℕ) → token_at w s j ≡ token_at w s i
  token_here w = rw here (token_skip w s i)

  expect_here : (w : List ℕ) (go : ℕ → Step) → expect w s i go ≡ expect w s j go
  unfolding expect stands
  expect_here w go =
      let at : ℕ → Step = λ k. elim (starts_with w (drop k s) && not (touches s k)) [ true ↦ go (k + length w) | false ↦ outside ] in
      rw here (sym (ap at (skip_skip s i)))

  pub ended_part : (l : ℕ) → Some l ≡ token_at END s j → part_at s i D ≡ end_at s l D
  unfolding part_at
  ended_part l e = let t = token_taken END s i l (e ∙ token_here END) in rw (part_at, t.0, t.1) refl

  module _ (e : None ≡ token_at END s j) where
    pub state_part : (l : ℕ) → Some l ≡ token_at State s j → part_at s i D ≡ state_at s l D
    unfolding part_at
    state_part l f =
        let t = token_taken State s i l (f ∙ token_here State) in
        rw (part_at, token_missed END s i (e ∙ token_here END), t.0, t.1) refl

    pub edge_part : None ≡ token_at State s j → part_at s i D ≡ expect left_bracket s j (λ l. edge_of s l D.parts D)
    unfolding part_at expect
    edge_part f =
        let a = token_missed END s i (e ∙ token_here END) in
        let b = token_missed State s i (f ∙ token_here State) in
        let c = expect_here left_bracket (λ l. edge_of s l D.parts D) in
        rw (part_at, a, b) c

-- the same over the scanners between those calls: w before them, u behind the white space, y and z behind a call
module _ (D : Description) (w u y z : Scanner) (t : u.at ≡ skip w.text.now w.at) (a : Ahead 0 w u) (k l : ℕ) (e : None ≡ token_at END u.text.now u.at)
    (m : Moved false k u y) where
  pub at_state : Some z.at ≡ token_at State y.text.now y.at → Moved true l y z → part_at w.text.now w.at D ≡ state_at z.text.now z.at D
  at_state f n =
      state_part _ _ _ t D (rw a.text at e) _ (rw (m.text, a.text, m.stays refl) at f) ∙ rw (← a.text, ← m.text, ← n.text) refl

  pub at_edge : None ≡ token_at State y.text.now y.at → Moved false l y z
      → part_at w.text.now w.at D ≡ expect left_bracket z.text.now z.at (λ i. edge_of z.text.now i D.parts D)
  at_edge f n =
      edge_part _ _ _ t D (rw a.text at e) (rw (m.text, a.text, m.stays refl) at f)
      ∙ rw (← a.text, ← m.text, ← n.text, ← m.stays refl, ← n.stays refl) refl

-- what it comes to, from the scanner w on that moved on to y before the step
module _ (D : Description) (b c : Body) (w y z : Scanner) where
  pub part_taken : (k : ℕ) → Ahead k w y → (v x : Step) → v ≡ x → (r : Result Bool TextRefusal) → Taken y D x b z c r → Taken w D v b z c r
  part_taken k m v x e (Err f) t = (e ∙ t.0, t.1, t.2)
  part_taken k m v x e (Ok false) t = (e ∙ t.0, t.1, t.2)
  part_taken k m v x e (Ok true) a = record {
    description = a.description;
    step = e ∙ a.step;
    held = a.held;
    ahead = record { text = a.ahead.text ∙ m.text; forward = omega (arith, m.forward, a.ahead.forward) };
  }

pub end_whole : (s : List ℕ) (j : ℕ) (D : Description) → skip s j ≡ length s → end_at s j D ≡ over (describes D)
unfolding end_at
end_whole s j D e = rw (eq-eqb (skip s j) (length s) e, end_at) refl

pub end_followed : (s : List ℕ) (j : ℕ) (D : Description) → (skip s j ≡ length s → ⊥) → end_at s j D ≡ over (refused 17)
unfolding end_at
end_followed s j D n = rw (ne_eqb (skip s j) (length s) n, end_at) refl

-- the state that an edge belongs to
pub latest_none : (s : List ℕ) (i : ℕ) (D : Description) → latest_state D.parts ≡ None → edge_of s i D.parts D ≡ over (refused 17)
unfolding edge_of
latest_none s i D e = by D.parts e
  where
    by : (xs : List Part) → latest_state xs ≡ None → edge_of s i xs D ≡ over (refused 17)
    by [] g = refl
    by (declared q b ∷ xs) g = absurd (none-some q (sym g))
    by (edge q L r ∷ xs) g = absurd (none-some q (sym g))

pub latest_some : (s : List ℕ) (i q : ℕ) (D : Description) → latest_state D.parts ≡ Some q → edge_of s i D.parts D ≡ edge_at s i q D
unfolding edge_of
latest_some s i q D e = by D.parts e
  where
    by : (xs : List Part) → latest_state xs ≡ Some q → edge_of s i xs D ≡ edge_at s i q D
    by [] g = absurd (none-some q g)
    by (declared p b ∷ xs) g = ap (λ n. edge_at s i n D) (same_Some p q g)
    by (edge p L r ∷ xs) g = ap (λ n. edge_at s i n D) (same_Some p q g)
