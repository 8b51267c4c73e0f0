-- The classes that are kept are those of the counters after a step: at the beginning, after a class has taken its line, after a step is kept, and
-- among more slots. The idea: places that are 0 say nothing, and a class that is not 0 stays. Assumes nothing.
use mathlib.Core.Path.{◌≡◌, refl, sym, ◌∙◌, ap, subst}
use mathlib.Core.Bool.{Bool, true, false, cond}
use mathlib.Core.Logic.{◌≢◌}
use mathlib.Core.List.{List}
use Prim.Native.Nat.{ℕ, suc, ◌+◌, ◌*◌, ◌%◌, ◌≤◌, ◌<◌}
use native.Mathlib.Omega.{arith}
use borrow.Author.Tests.{eqb-true, eqb-false, ltb-true, ltb-false}
use borrow.Rule.Slice.PartMut.{mid_of, put_mid}
use lib.Dec.{eqb, ltb}
use lib.ListN.{length, get_or, set, replicate, length-set, length-take, length-drop, length-replicate, get_or-replicate}
use lib.Seq.{get_or-set_same, get_or-set_other, drop-drop}
use Rattle.automaton.specs.Automata.{max_letters}
use Rattle.automaton.specs.Ranges.{table}
use Rattle.relations.specs.Rows.{changed_rows}
use Rattle.relations.proofs.Rows.{changed_length, changed_row, changed_kept}
use Rattle.slots.specs.declared.Vertex.{Vertex}
use Rattle.slots.specs.Bytes.{vertex_at}
use Rattle.classes.specs.Classes.{counters_at}
use Rattle.classes.proofs.Leaders.{class_later}
use Rattle.classes.proofs.Appended.{class_same}
use Rattle.kept.specs.Kept.{lines, line_length, kept_after, after_side, KeptStep, KeptLines}

-- a line that is filled with 0
pub line_cleared : (places part : List ℕ) (at n : ℕ) → at + line_length ≤ length places → n ≡ line_length
    → part ≡ replicate (length (mid_of at n places)) 0 → put_mid at n places part ≡ changed_rows at line_length (λ i. 0) places
unfolding changed_rows table
line_cleared places part at n room e f =
    let l : length (mid_of at n places) ≡ line_length = simp (length-take, length-drop) (omega arith) in
    rw (f, l, e, drop-drop line_length at places)

-- places that are the same say the same
step_same : (tops m : List ℕ) (states : ℕ) (work : List ℕ) (n : ℕ) (kept kept' : List ℕ) (at a : ℕ) (f : List ℕ)
    → ((y : ℕ) → y < 2 → get_or kept' (at + y) 0 ≡ get_or kept (at + y) 0)
    → KeptStep tops m states work n kept at a f → KeptStep tops m states work n kept' at a f
step_same tops m states work n kept kept' at a f same S y s l e = S y s l (sym (same y l) ∙ e)

-- no class has a line
pub kept_begin : (tops m : List ℕ) (states : ℕ) (work : List ℕ) (n : ℕ)
    → KeptLines tops m states work n (replicate lines 0) (replicate (lines * line_length) 0)
kept_begin tops m states work n =
    record {
      owners_long = length-replicate {A = ℕ} lines 0;
      kept_long = length-replicate {A = ℕ} (lines * line_length) 0;
      owned = λ l k h e. absurd (omega (arith, get_or-replicate {A = ℕ} lines l 0 0 h));
    }

module _ (tops m : List ℕ) (states : ℕ) (work : List ℕ) (n : ℕ) (owners kept : List ℕ) (K : KeptLines tops m states work n owners kept) where
  -- the class of slot k takes line L
  module _ (k : ℕ) (inside : k < n) (L : ℕ) (below : L < lines) where
    abbrev cleared : List ℕ
    cleared = changed_rows (L * line_length) line_length (λ i. 0) kept

    fits : L * line_length + line_length ≤ length kept
    fits = omega (arith, K.kept_long)

    long_after : (b : Bool) → length (cond b kept cleared) ≡ lines * line_length
    long_after true = K.kept_long
    long_after false = changed_length (L * line_length) line_length (λ i. 0) kept fits ∙ K.kept_long

    own_line : (b : Bool) → eqb (get_or owners L 0) (suc k) ≡ b → (a : ℕ) → a < max_letters
        → KeptStep tops m states work n (cond b kept cleared) (L * line_length + a * 2) a (counters_at work k)
    own_line true e a h = (K.owned L k below (eqb-true _ _ e)).1 a h
    own_line false e a h = λ y s l q.
        let z = changed_row (L * line_length) line_length (λ i. 0) kept fits (a * 2 + y) (omega arith) in
        let p : L * line_length + (a * 2 + y) ≡ L * line_length + a * 2 + y = omega arith in
        absurd (omega (arith, sym (ap (λ (i : ℕ). get_or cleared i 0) p) ∙ z, q))

    other_line : (b : Bool) (l a y : ℕ) → (l ≡ L → ⊥) → a < max_letters → y < 2
        → get_or (cond b kept cleared) (l * line_length + a * 2 + y) 0 ≡ get_or kept (l * line_length + a * 2 + y) 0
    other_line true l a y d h i = refl
    other_line false l a y d h i = go (ltb l L) refl
      where
        go : (c : Bool) → ltb l L ≡ c → get_or cleared (l * line_length + a * 2 + y) 0 ≡ get_or kept (l * line_length + a * 2 + y) 0
        go true e =
            let less = ltb-true l L e in
            (changed_kept (L * line_length) line_length (λ j. 0) kept fits).before (l * line_length + a * 2 + y) (omega arith)
        go false e =
            let more = ltb-false l L e in
            (changed_kept (L * line_length) line_length (λ j. 0) kept fits).after (l * line_length + a * 2 + y) (omega (arith, d))

    owner_after : get_or (set owners L (suc k)) L 0 ≡ suc k
    owner_after = get_or-set_same owners L (suc k) 0 (omega (arith, K.owners_long))

    line_taken : (b : Bool) → eqb (get_or owners L 0) (suc k) ≡ b → KeptLines tops m states work n (set owners L (suc k)) (cond b kept cleared)
    line_taken b e =
        record {
          owners_long = length-set owners L (suc k) ∙ K.owners_long;
          kept_long = long_after b;
          owned = λ l j h q. owned l j h q (eqb l L) refl;
        }
      where
        owned : (l j : ℕ) → l < lines → get_or (set owners L (suc k)) l 0 ≡ suc j → (c : Bool) → eqb l L ≡ c → (j < n)
            × ((a : ℕ) → a < max_letters
            → KeptStep tops m states work n (cond b kept cleared) (l * line_length + a * 2) a (counters_at work j))
        owned l j h q true d =
            let f : l ≡ L = eqb-true l L d in
            let g : k ≡ j = omega (arith, sym (ap (λ (i : ℕ). get_or (set owners L (suc k)) i 0) f ∙ owner_after), q) in
            subst (λ (i : ℕ). (j < n)
            × ((a : ℕ) → a < max_letters → KeptStep tops m states work n (cond b kept cleared) (i * line_length + a * 2) a (counters_at work j)))
            (sym f)
            (subst (λ (i : ℕ). (i < n)
            × ((a : ℕ) → a < max_letters → KeptStep tops m states work n (cond b kept cleared) (L * line_length + a * 2) a (counters_at work i)))
            g (inside, own_line b e))
        owned l j h q false d =
            let f = eqb-false l L d in
            let o = K.owned l j h (sym (get_or-set_other owners L l (suc k) 0 f) ∙ q) in (
              o.0,
              λ a i. step_same tops m states work n kept (cond b kept cleared) (l * line_length + a * 2) a (counters_at work j)
                  (λ y u. other_line b l a y f i u) (o.1 a i),
            )

  -- after the class of slot k has taken its line
  module _ (k : ℕ) (inside : k < n) where
    pub kept_line : KeptLines tops m states work n (set owners (suc k % lines) (suc k)) (kept_after owners kept (suc k))
    kept_line = line_taken k inside (suc k % lines) (omega arith) (eqb (get_or owners (suc k % lines) 0) (suc k)) refl

    pub line_owner : get_or (set owners (suc k % lines) (suc k)) (suc k % lines) 0 ≡ suc k
    line_owner = owner_after k inside (suc k % lines) (omega arith)

  -- a step is kept: the two places of line l and letter a change
  pub kept_step : (kept' : List ℕ) (l a k : ℕ) → length kept' ≡ length kept → l < lines → a < max_letters → get_or owners l 0 ≡ suc k
      → KeptStep tops m states work n kept' (l * line_length + a * 2) a (counters_at work k)
      → ((i : ℕ) → i ≢ l * line_length + a * 2 → i ≢ l * line_length + a * 2 + 1 → get_or kept' i 0 ≡ get_or kept i 0)
      → KeptLines tops m states work n owners kept'
  kept_step kept' l a k e h i o S others =
      record {
        owners_long = K.owners_long;
        kept_long = e ∙ K.kept_long;
        owned = λ l' k' h' o'. ((K.owned l' k' h' o').0, λ a' i'. go l' k' h' o' a' i' (eqb (l' * line_length + a' * 2) (l * line_length + a * 2)) refl);
      }
    where
      go : (l' k' : ℕ) → l' < lines → get_or owners l' 0 ≡ suc k' → (a' : ℕ) → a' < max_letters → (c : Bool)
          → eqb (l' * line_length + a' * 2) (l * line_length + a * 2) ≡ c
          → KeptStep tops m states work n kept' (l' * line_length + a' * 2) a' (counters_at work k')
      go l' k' h' o' a' i' true d =
          let q = eqb-true _ (l * line_length + a * 2) d in
          let f : l ≡ l' = omega arith in
          let g : a ≡ a' = omega arith in
          let j : k ≡ k' = omega (arith, o, ap (λ (x : ℕ). get_or owners x 0) f, o') in
          subst (λ (x : ℕ). KeptStep tops m states work n kept' (x * line_length + a' * 2) a' (counters_at work k')) f
          (subst (λ (x : ℕ). KeptStep tops m states work n kept' (l * line_length + x * 2) x (counters_at work k')) g
          (subst (λ (x : ℕ). KeptStep tops m states work n kept' (l * line_length + a * 2) a (counters_at work x)) j S))
      go l' k' h' o' a' i' false d =
          let q = eqb-false (l' * line_length + a' * 2) (l * line_length + a * 2) d in
          step_same tops m states work n kept kept' (l' * line_length + a' * 2) a' (counters_at work k')
          (λ y u. others (l' * line_length + a' * 2 + y) (λ x. apart l' a' y u i' q x) (λ x. apart_next l' a' y u i' q x))
          ((K.owned l' k' h' o').1 a' i')
        where
          apart : (l' a' y : ℕ) → y < 2 → a' < max_letters → (l' * line_length + a' * 2 ≡ l * line_length + a * 2 → ⊥)
              → l' * line_length + a' * 2 + y ≡ l * line_length + a * 2 → ⊥
          apart l' a' y u i' q x = q (omega arith)

          apart_next : (l' a' y : ℕ) → y < 2 → a' < max_letters → (l' * line_length + a' * 2 ≡ l * line_length + a * 2 → ⊥)
              → l' * line_length + a' * 2 + y ≡ l * line_length + a * 2 + 1 → ⊥
          apart_next l' a' y u i' q x = q (omega arith)

-- the slots below n are the same, and there are no fewer
module _ (tops m : List ℕ) (states : ℕ) (work work' : List ℕ) (n n' : ℕ) (same : (s : ℕ) → s < n → vertex_at work' s ≡ vertex_at work s)
    (more : n ≤ n') (kept : List ℕ) where
  pub kept_step_grows : (at a : ℕ) (f : List ℕ) → KeptStep tops m states work n kept at a f → KeptStep tops m states work' n' kept at a f
  kept_step_grows at a f S y s l e =
      let g = after_side tops m states a f y in
      class_later work' g n n' s more (class_same work work' n (vertex_at work' n) same refl g n (omega arith) ∙ S y s l e)

  pub kept_grows : (owners : List ℕ) → KeptLines tops m states work n owners kept → KeptLines tops m states work' n' owners kept
  kept_grows owners K =
      record {
        owners_long = K.owners_long;
        kept_long = K.kept_long;
        owned = λ l k h o.
            let q = K.owned l k h o in
            let r : k < n = q.0 in (
              omega arith,
              λ a i.
                  subst (λ (v : Vertex). KeptStep tops m states work' n' kept (l * line_length + a * 2) a v.counters) (sym (same k r))
                  (kept_step_grows (l * line_length + a * 2) a (counters_at work k) (q.1 a i)),
            );
      }
