-- Records written one after another, by a loop over the states of a set and by a loop over numbers: what is written and what is left make up all
-- of them. Assumes nothing.
use mathlib.Core.Path.{◌≡◌, sym, ap, subst, ◌∙◌}
use mathlib.Core.List.{List, [], ◌∷◌, ◌++◌, map}
use Prim.Native.Nat.{ℕ, ◌+◌, ◌-◌, ◌≤◌, ◌<◌}
use native.Mathlib.Omega.{arith}
use lib.ListN.{length}
use Rattle.std.specs.Prelude.{All}
use Rattle.std.proofs.lemmas.List.Elements.{All-rest}
use Rattle.automaton.specs.Ranges.{chained}
use Rattle.automaton.proofs.Lists.{chained_start, chained_past, chained_end}
use Rattle.format.specs.Writing.{Item, item_bytes, items_bytes}
use Rattle.buffers.specs.declared.Cursor.{Cursor}
use Rattle.buffers.specs.Cursors.{HasRoom, Added}
use Rattle.buffers.proofs.Left.{Left, left_start, left_length, left_room, left_more, left_end}
use Rattle.fixed_form.proofs.Lengths.{items_append}

-- A loop over the states of a set that writes the record g of each: `states` are left, all below n, and so far the cursor c has become d.
pub record Listing (g : ℕ → Item) (n : ℕ) (all : List Item) (c : Cursor) (states : List ℕ) (d : Cursor) : Type 0 where
  pub below : All (λ q. q < n) states
  pub left : Left c (items_bytes all) (items_bytes (map g states)) d

-- the iterator's states are the members of the set
pub listing_start : {g : ℕ → Item} {n : ℕ} {all : List Item} {items states members : List ℕ} (c : Cursor) → states ≡ items → items ≡ members
    → All (λ q. q < n) items → all ≡ map g members → HasRoom c (length (items_bytes all)) → Listing g n all c states c
listing_start {g} {n} c p q b e h =
    record {
      below = subst (All (λ (k : ℕ). k < n)) (sym p) b;
      left = left_start c _ _ (ap items_bytes (e ∙ ap (map g) (sym (p ∙ q)))) (omega arith);
    }

module _ {g : ℕ → Item} {n : ℕ} {all : List Item} {c : Cursor} {states : List ℕ} {d : Cursor} (u : Listing g n all c states d) where
  pub listing_length : length d.out.now ≡ length c.out.now
  listing_length = left_length u.left

  pub listing_end : states ≡ [] → Added c (items_bytes all) d
  unfolding items_bytes
  listing_end e = left_end u.left (ap (λ (l : List ℕ). items_bytes (map g l)) e)

  -- state q is next
  module _ (q : ℕ) (rest : List ℕ) (e : states ≡ q ∷ rest) where
    next_record : items_bytes (map g states) ≡ item_bytes (g q) ++ items_bytes (map g rest)
    unfolding items_bytes
    next_record = ap (λ (l : List ℕ). items_bytes (map g l)) e

    pub listing_room : HasRoom c (length (items_bytes all)) → HasRoom d (length (item_bytes (g q)))
    listing_room h = left_room u.left (item_bytes (g q)) _ next_record h

    pub listing_more : {d' : Cursor} → Added d (item_bytes (g q)) d' → Listing g n all c rest d'
    listing_more w =
        record {
          below = All-rest (λ (k : ℕ). k < n) q rest states e u.below;
          left = left_more u.left (item_bytes (g q)) _ next_record w;
        }

-- A loop over m numbers that writes the records f of each: it has come to i.
abbrev pub Chaining : (ℕ → List Item) → ℕ → Cursor → ℕ → Cursor → Type 0
Chaining f m c i d = Left c (items_bytes (chained f m 0)) (items_bytes (chained f (m - i) i)) d

pub chaining_start : (f : ℕ → List Item) (m : ℕ) (c : Cursor) → HasRoom c 0 → Chaining f m c 0 c
chaining_start f m c h = left_start c _ _ (ap items_bytes (chained_start f m)) h

pub chaining_length : (f : ℕ → List Item) (m : ℕ) {c : Cursor} (i : ℕ) {d : Cursor} → Chaining f m c i d → length d.out.now ≡ length c.out.now
chaining_length f m i u = left_length u

module _ (f : ℕ → List Item) (m : ℕ) {c : Cursor} {i : ℕ} {d : Cursor} (u : Chaining f m c i d) where
  pub chaining_end : m ≤ i → Added c (items_bytes (chained f m 0)) d
  unfolding items_bytes
  chaining_end h = left_end u (ap items_bytes (chained_end f m i h))

  module _ (below : i < m) where
    next_records : items_bytes (chained f (m - i) i) ≡ items_bytes (f i) ++ items_bytes (chained f (m - (i + 1)) (i + 1))
    next_records = ap items_bytes (chained_past f m i below) ∙ items_append (f i) _

    pub chaining_room : HasRoom c (length (items_bytes (chained f m 0))) → HasRoom d (length (items_bytes (f i)))
    chaining_room h = left_room u (items_bytes (f i)) _ next_records h

    pub chaining_more : {d' : Cursor} → Added d (items_bytes (f i)) d' → Chaining f m c (i + 1) d'
    chaining_more w = left_more u (items_bytes (f i)) _ next_records w
