-- Bytes that a cursor adds one after another are bytes that it adds at once, by the laws of `WrittenAt`. Assumes nothing.
use mathlib.Core.Path.{◌≡◌, refl, sym, ap, subst, ◌∙◌}
use mathlib.Core.List.{List, [], ◌++◌, append_assoc}
use Prim.Native.Nat.{ℕ}
use native.Mathlib.Omega.{arith}
use lib.ListN.{length}
use Rattle.buffers.specs.declared.Cursor.{Cursor}
use Rattle.buffers.specs.Buffers.{WrittenAt}
use Rattle.buffers.specs.Cursors.{HasRoom, Added}
use Rattle.buffers.proofs.Buffers.{written_nothing, written_append, written_as, written_keeps_length}

-- nothing is written
pub added_nothing : (c : Cursor) → HasRoom c 0 → Added c [] c
added_nothing c h = record { same_buffer = refl; written = written_nothing c.out.now c.at (omega arith) }

module _ {c : Cursor} {l : List ℕ} {d : Cursor} (u : Added c l d) where
  pub added_length : length d.out.now ≡ length c.out.now
  added_length = written_keeps_length u.written

  pub added_append : {m : List ℕ} {e : Cursor} → Added d m e → Added c (l ++ m) e
  added_append v = record { same_buffer = v.same_buffer ∙ u.same_buffer; written = written_append u.written v.written }

-- the bytes that are written, by another name
pub added_as : {c : Cursor} {l m : List ℕ} {d : Cursor} → l ≡ m → Added c l d → Added c m d
added_as q u = record { same_buffer = u.same_buffer; written = written_as q u.written }

-- two or three texts behind what is written
pub added_two : {c : Cursor} {l : List ℕ} {d : Cursor} (a b : List ℕ) {e : Cursor} → Added c l d → Added d (a ++ b) e → Added c (l ++ a ++ b) e
added_two {l = l} a b u v = added_as (sym (append_assoc l a b)) (added_append u v)

pub added_three : {c : Cursor} {l : List ℕ} {d : Cursor} (a b m : List ℕ) {e : Cursor} → Added c l d → Added d (a ++ b ++ m) e
    → Added c (l ++ a ++ b ++ m) e
added_three {l = l} a b m u v =
    added_as (sym (append_assoc l (a ++ b) m) ∙ ap (λ (x : List ℕ). x ++ m) (sym (append_assoc l a b))) (added_append u v)

-- what is written from the front of a buffer on stands at the front of the buffer
pub added_front : {d : List ℕ} {c : Cursor} {l : List ℕ} {e : Cursor} → c.out.now ≡ d → c.at ≡ 0 → Added c l e → WrittenAt d 0 l e.out.now e.at
added_front {d} {c} {l} {e} p q u =
    subst (λ (x : List ℕ). WrittenAt x 0 l e.out.now e.at) p (subst (λ (k : ℕ). WrittenAt c.out.now k l e.out.now e.at) q u.written)
