-- What one step of the label reader comes to, as the code answers: a chain between two turns of its loop, and the kinds of operands. A chain's fuel is a number
-- of bytes that are left or more, so it is never used up. Assumes nothing.
use mathlib.Core.Path.{◌≡◌, refl, sym, ap, ap₂, subst, ◌∙◌}
use mathlib.Core.Bool.{Bool, true, false}
use mathlib.Core.List.{List}
use Prim.Native.Nat.{ℕ, zero, suc, ◌+◌, ◌-◌, ◌≤◌, ◌<◌, min}
use native.Mathlib.Nat.{add-zero}
use native.Mathlib.Omega.{arith}
use lib.Bits.{bit_and, bit_or, and_lt, or_lt}
use lib.ListN.{length, get_or}
use borrow.Author.Tests.{eq-eqb, ne_eqb, lt-ltb, le-ltb}
use Rattle.std.specs.Prelude.{Some, None}
use Rattle.std.proofs.lemmas.Option.{none-some, same_Some}
use Rattle.tokens.specs.Tokens.{byte_at, skip, Number, none, number, number_at}
use Rattle.tokens.specs.Places.{byte_from, mark_at, capped}
use Rattle.tokens.specs.declared.scanner.Scanner.{Scanner}
use Rattle.tokens.specs.Scanners.{Ahead, Moved}
use Rattle.tokens.proofs.Runs.{skip_end, byte_past, byte_within}
use Rattle.tokens.proofs.Places.{byte_missed, byte_taken}
use Rattle.labels.specs.Labels.{Label, always, never, both, either, proposition, negation, proposition_mask, mask_of}
use Rattle.labels.specs.LabelReading.{Found, absent, found, proposition_of, atom_at, operand_at, negated, closed, more, chain, conjunction, disjunction}
use Rattle.labels.proofs.LabelSteps.{operand_bare, operand_bang, operand_paren, operand_atom, atom_t, atom_f, atom_other}
use Rattle.label_reader.specs.Truths.{answer_of}

-- What an answer says of what was read.

pub record Reads (x : Found) (m j : ℕ) : Type 0 where
  pub label : Label
  pub read : x ≡ found label j
  pub mask : m ≡ mask_of label

pub answer_some : (x : Found) (m j : ℕ) → Some (m, j) ≡ answer_of x → Reads x m j
unfolding answer_of
answer_some absent m j e = absurd (none-some (m, j) (sym e))
answer_some (found L i) m j e =
    let h = same_Some _ _ e in
    record { label = L; read = ap (found L) (sym (ap (λ x. x.1) h)); mask = ap (λ x. x.0) h }

pub answer_none : (x : Found) → None ≡ answer_of x → x ≡ absent
unfolding answer_of
answer_none absent e = refl
answer_none (found L i) e = absurd (none-some _ e)

pub found_answer : (L : Label) (m j : ℕ) → m ≡ mask_of L → Some (m, j) ≡ answer_of (found L j)
unfolding answer_of
found_answer L m j e =
    let held : ℕ → ℕ × ℕ = λ n. (n, j) in
    ap (λ n. Some (held n)) e

-- A mark other than byte 0 stands within the text.

pub mark_within : (s : List ℕ) (j q b mark : ℕ) → q ≡ skip s j → b ≡ byte_at s q → b ≡ mark → (mark ≡ 0 → ⊥)
    → (byte_at s (skip s j) ≡ mark) × (q + 1 ≤ length s)
mark_within s j q b mark e d f z =
    let h : byte_at s q ≡ mark = sym d ∙ f in
    let w = byte_within s q mark h z in
    (subst (λ (n : ℕ). byte_at s n ≡ mark) e h, omega (arith, w))

pub mark_not : (s : List ℕ) (j q b mark : ℕ) → q ≡ skip s j → b ≡ byte_at s q → (b ≡ mark → ⊥) → byte_at s (skip s j) ≡ mark → ⊥
mark_not s j q b mark e d n h = n (d ∙ subst (λ (k : ℕ). byte_at s k ≡ mark) (sym e) h)

-- Chains of what `operand` reads, joined behind each byte `mark`.

module _ (s : List ℕ) (mark : ℕ) (join : Label → Label → Label) (operand : ℕ → Found) where
  abbrev more_of : ℕ → Label → ℕ → Found
  more_of = more s mark join operand

  -- between two turns: a label of the truth m ends at place j, and what follows from there comes to `whole`
  pub record Chained (whole : Found) (m j : ℕ) : Type 0 where
    pub fuel : ℕ
    pub label : Label
    pub mask : m ≡ mask_of label
    pub enough : length s ≤ j + fuel
    pub onward : more_of fuel label j ≡ whole

  first_of : Found → Found
  first_of x = elim x [ absent ↦ absent | found L k ↦ more_of (length s) L k ]

  pub chain_starts : (i m j : ℕ) → Some (m, j) ≡ answer_of (operand i) → Chained (chain s mark join operand i) m j
  unfolding first_of
  chain_starts i m j e =
      let r = answer_some (operand i) m j e in
      record { fuel = length s; label = r.label; mask = r.mask; enough = omega arith; onward = sym (ap first_of r.read) }

  pub chain_absent : (i : ℕ) → None ≡ answer_of (operand i) → None ≡ answer_of (chain s mark join operand i)
  unfolding answer_of first_of
  chain_absent i e = sym (ap answer_of (ap first_of (answer_none (operand i) e)))

  pub chain_ends : (whole : Found) (m j : ℕ) → Chained whole m j → (byte_at s (skip s j) ≡ mark → ⊥) → Some (m, j) ≡ answer_of whole
  unfolding more
  chain_ends whole m j c n = found_answer c.label m j c.mask ∙ ap answer_of (sym (stops c.fuel) ∙ c.onward)
    where
      stops : (k : ℕ) → more_of k c.label j ≡ found c.label j
      stops zero = refl
      stops (suc k) =
          ap (λ (b : Bool). elim b [
            | true ↦ elim (operand (skip s j + 1)) [ absent ↦ absent | found M i ↦ more_of k (join c.label M) i ]
            | false ↦ found c.label j
          ]) (ne_eqb (byte_at s (skip s j)) mark n)

  module _ (whole : Found) (m j : ℕ) (c : Chained whole m j) where
    -- one operand more: what follows from behind it comes to the whole, or there is none and the whole is absent
    after : ℕ → Found → Found
    after n x = elim x [ absent ↦ absent | found M i ↦ more_of n (join c.label M) i ]

    record Turned : Type 0 where
      left : ℕ
      room : length s < j + suc left + 1
      turn : after left (operand (skip s j + 1)) ≡ whole

    turned : byte_at s (skip s j) ≡ mark → (mark ≡ 0 → ⊥) → Turned
    unfolding more after
    turned e z = go c.fuel c.enough c.onward
      where
        go : (k : ℕ) → length s ≤ j + k → more_of k c.label j ≡ whole → Turned
        go zero h x =
            let past : length s ≤ j = omega (arith, h, add-zero j) in
            absurd (z (sym e ∙ ap (λ (i : ℕ). get_or s i 0) (skip_end s j past) ∙ byte_past s j past))
        go (suc k) h x =
            record {
              left = k;
              room = omega arith;
              turn =
                  sym (ap (λ (b : Bool). elim b [
                    | true ↦ elim (operand (skip s j + 1)) [ absent ↦ absent | found M i ↦ more_of k (join c.label M) i ]
                    | false ↦ found c.label j
                  ]) (eq-eqb (byte_at s (skip s j)) mark e)) ∙ x;
            }

    pub chain_breaks : byte_at s (skip s j) ≡ mark → (mark ≡ 0 → ⊥) → None ≡ answer_of (operand (skip s j + 1)) → None ≡ answer_of whole
    unfolding answer_of after
    chain_breaks e z b = let r = turned e z in sym (ap answer_of (sym r.turn ∙ ap (after r.left) (answer_none _ b)))

    pub chain_goes_on : (op : ℕ → ℕ → ℕ) → ((L M : Label) → mask_of (join L M) ≡ op (mask_of L) (mask_of M)) → byte_at s (skip s j) ≡ mark
        → (mark ≡ 0 → ⊥) → (p k : ℕ) → Some (p, k) ≡ answer_of (operand (skip s j + 1)) → j < k → Chained whole (op m p) k
    unfolding after
    chain_goes_on op law e z p k b h =
        let r = turned e z in
        let y = answer_some (operand (skip s j + 1)) p k b in
        record {
          fuel = r.left;
          label = join c.label y.label;
          mask = ap₂ op c.mask y.mask ∙ sym (law c.label y.label);
          enough = omega (arith, r.room);
          onward = sym (ap (after r.left) y.read) ∙ r.turn;
        }

-- What joins two labels, its byte, and what it joins, where f reads an operand.

pub data Operator : Type 0 where
  And : Operator
  Or : Operator

abbrev pub mark_of : Operator → ℕ
mark_of And = 0x26
mark_of Or = 0x7C

abbrev pub joined : Operator → Label → Label → Label
joined And = both
joined Or = either

abbrev pub joined_mask : Operator → ℕ → ℕ → ℕ
joined_mask And = bit_and
joined_mask Or = bit_or

abbrev pub part_of : Operator → List ℕ → (ℕ → Found) → ℕ → Found
part_of And s f = f
part_of Or s f = conjunction s f

abbrev pub chain_of : Operator → List ℕ → (ℕ → Found) → ℕ → Found
chain_of And s f = conjunction s f
chain_of Or s f = disjunction s f

mark_some : (o : Operator) → mark_of o ≡ 0 → ⊥
mark_some And e = omega (arith, e)
mark_some Or e = omega (arith, e)

pub mask_both : (L M : Label) → mask_of (both L M) ≡ bit_and (mask_of L) (mask_of M)
unfolding mask_of
mask_both L M = refl

pub mask_either : (L M : Label) → mask_of (either L M) ≡ bit_or (mask_of L) (mask_of M)
unfolding mask_of
mask_either L M = refl

mask_joined : (o : Operator) (L M : Label) → mask_of (joined o L M) ≡ joined_mask o (mask_of L) (mask_of M)
mask_joined And L M = mask_both L M
mask_joined Or L M = mask_either L M

pub and_narrow : (x y : ℕ) → x < 65536 → y < 65536 → bit_and x y < 65536
and_narrow x y a b = and_lt 16 x y a b

pub or_narrow : (x y : ℕ) → x < 65536 → y < 65536 → bit_or x y < 65536
or_narrow x y a b = or_lt 16 x y a b

chain_is : (o : Operator) (s : List ℕ) (f : ℕ → Found) (i : ℕ) → chain s (mark_of o) (joined o) (part_of o s f) i ≡ chain_of o s f i
unfolding conjunction disjunction
chain_is And s f i = refl
chain_is Or s f i = refl

-- A chain that begins at the scanner x, of operands in which d more may open: between two turns the scanner is y, and the truth so far m.

module _ (o : Operator) (k d : ℕ) (x : Scanner) where
  abbrev operand_of : Scanner → ℕ → Found
  operand_of y = operand_at y.text.now k d

  -- what one part of the chain comes to, where the scanner is y
  abbrev part_here : Scanner → Found
  part_here y = part_of o y.text.now (operand_of y) y.at

  abbrev parts : ℕ → Found
  parts = part_of o x.text.now (operand_of x)

  abbrev whole_here : Found
  whole_here = chain_of o x.text.now (operand_of x) x.at

  abbrev ChainedHere : Found → ℕ → ℕ → Type 0
  ChainedHere = Chained x.text.now (mark_of o) (joined o) parts

  pub record Chaining (m : ℕ) (y : Scanner) : Type 0 where
    chained : ChainedHere whole_here m y.at
    pub moved : Ahead 1 x y

  pub chaining_absent : None ≡ answer_of (part_here x) → None ≡ answer_of whole_here
  chaining_absent e = chain_absent x.text.now (mark_of o) (joined o) parts x.at e ∙ ap answer_of (chain_is o x.text.now (operand_of x) x.at)

  pub chaining_starts : (m : ℕ) (y : Scanner) → Some (m, y.at) ≡ answer_of (part_here x) → Ahead 1 x y → Chaining m y
  chaining_starts m y e a =
      record {
        chained = subst (λ (w : Found). ChainedHere w m y.at) (chain_is o x.text.now (operand_of x) x.at)
            (chain_starts x.text.now (mark_of o) (joined o) parts x.at m y.at e);
        moved = a;
      }

  module _ (m : ℕ) (y : Scanner) (c : Chaining m y) (z : Scanner) where
    pub chaining_ends : None ≡ mark_at (mark_of o) y.text.now y.at → Moved false 1 y z → Some (m, z.at) ≡ answer_of whole_here
    chaining_ends e a =
        rw (a.stays refl)
        (chain_ends x.text.now (mark_of o) (joined o) parts whole_here m y.at c.chained
        (byte_missed (mark_of o) x.text.now (skip x.text.now y.at) (rw (← c.moved.text) e)))

    module _ (e : Some z.at ≡ mark_at (mark_of o) y.text.now y.at) (a : Moved true 1 y z) where
      mark_here : (byte_at x.text.now (skip x.text.now y.at) ≡ mark_of o) × (z.at ≡ skip x.text.now y.at + 1)
      mark_here = byte_taken (mark_of o) x.text.now (skip x.text.now y.at) z.at (rw (← c.moved.text) e)

      pub chaining_breaks : None ≡ answer_of (part_here z) → None ≡ answer_of whole_here
      chaining_breaks b =
          chain_breaks x.text.now (mark_of o) (joined o) parts whole_here m y.at c.chained mark_here.0 (mark_some o)
          (subst (λ (n : ℕ). None ≡ answer_of (parts n)) mark_here.1 (rw (← c.moved.text, ← a.text) b))

      pub chaining_goes_on : (n : ℕ) (w : Scanner) → Some (n, w.at) ≡ answer_of (part_here z) → Ahead 1 z w → Chaining (joined_mask o m n) w
      chaining_goes_on n w b h =
          record {
            chained =
                chain_goes_on x.text.now (mark_of o) (joined o) parts whole_here m y.at c.chained (joined_mask o) (mask_joined o) mark_here.0
                (mark_some o) n w.at (subst (λ (i : ℕ). Some (n, w.at) ≡ answer_of (parts i)) mark_here.1 (rw (← c.moved.text, ← a.text) b))
                (omega (arith, a.forward, h.forward));
            moved = record { text = h.text ∙ a.text ∙ c.moved.text; forward = omega (arith, c.moved.forward, a.forward, h.forward) };
          }

-- Negations of the label that x is.

module _ (x : Found) where
  pub negated_bad : None ≡ answer_of x → None ≡ answer_of (negated x)
  unfolding answer_of
  negated_bad e = rw (answer_none x e) refl

  pub negated_on : (m j : ℕ) → Some (m, j) ≡ answer_of x → Some (65535 - m, j) ≡ answer_of (negated x)
  unfolding mask_of
  negated_on m j e =
      let r = answer_some x m j e in
      rw r.read (found_answer (negation r.label) (65535 - m) j (ap (λ x. 65535 - x) r.mask))

-- Operands at place i, of which j is the place behind white space, and l that behind a `!` or a `(`.

module _ (s : List ℕ) (k d i j : ℕ) (here : j ≡ skip s i) where
  pub operand_bare_here : d ≡ 0 → operand_at s k d i ≡ atom_at s k j
  operand_bare_here e = rw here (operand_bare s k d i e)

  module _ (more : d ≡ 0 → ⊥) (l : ℕ) where
    module _ (e : Some l ≡ byte_from 0x21 s j) where
      operand_negated : operand_at s k d i ≡ negated (operand_at s k (d - 1) l)
      operand_negated =
          let t = byte_taken 0x21 s j l e in
          rw (t.1, here) (operand_bang s k d i more (ap (byte_at s) (sym here) ∙ t.0))

      pub negated_some : (m n : ℕ) → Some (m, n) ≡ answer_of (operand_at s k (d - 1) l) → Some (65535 - m, n) ≡ answer_of (operand_at s k d i)
      negated_some m n b = rw operand_negated (negated_on (operand_at s k (d - 1) l) m n b)

      pub negated_none : None ≡ answer_of (operand_at s k (d - 1) l) → None ≡ answer_of (operand_at s k d i)
      negated_none b = rw operand_negated (negated_bad (operand_at s k (d - 1) l) b)

    pub operand_closed : Some l ≡ byte_from 0x28 s j → operand_at s k d i ≡ closed s (disjunction s (operand_at s k (d - 1)) l)
    operand_closed e =
        let t = byte_taken 0x28 s j l e in
        rw (t.1, here) (operand_paren s k d i more (ap (byte_at s) (sym here) ∙ t.0))

  pub operand_other : None ≡ byte_from 0x21 s j → None ≡ byte_from 0x28 s j → operand_at s k d i ≡ atom_at s k j
  operand_other e f =
      let at : ℕ → ℕ = byte_at s in
      rw here (operand_atom s k d i (λ q. byte_missed 0x21 s j e (ap at here ∙ q)) (λ q. byte_missed 0x28 s j f (ap at here ∙ q)))

pub ruleset operand_steps = (operand_bare_here, negated_some, negated_none, operand_closed, operand_other)

-- Parentheses, behind the label that x is.

module _ (s : List ℕ) (x : Found) where
  pub closed_none : None ≡ answer_of x → None ≡ answer_of (closed s x)
  unfolding answer_of
  closed_none e = rw (answer_none x e) refl

  module _ (m j : ℕ) (e : Some (m, j) ≡ answer_of x) where
    pub closed_some : (k : ℕ) → Some k ≡ mark_at 0x29 s j → Some (m, k) ≡ answer_of (closed s x)
    closed_some k b =
        let r = answer_some x m j e in
        let t = byte_taken 0x29 s (skip s j) k b in
        rw (r.read, eq-eqb (byte_at s (skip s j)) 0x29 t.0, t.1)
        (found_answer r.label m (skip s j + 1) r.mask)

    pub unclosed : None ≡ mark_at 0x29 s j → None ≡ answer_of (closed s x)
    unfolding answer_of
    unclosed b = let r = answer_some x m j e in rw (r.read, ne_eqb (byte_at s (skip s j)) 0x29 (byte_missed 0x29 s (skip s j) b)) refl

pub ruleset paren_steps = (closed_none, closed_some, unclosed)

-- Propositions, of a number x that the code holds.

module _ (k : ℕ) (x : Number) where
  pub proposition_missing : None ≡ capped x → None ≡ answer_of (proposition_of k x)
  unfolding answer_of
  proposition_missing = by x
    where
      by : (y : Number) → None ≡ capped y → None ≡ answer_of (proposition_of k y)
      by none e = refl
      by (number v j) e = absurd (none-some _ e)

  module _ (few : k ≤ 4) (p j : ℕ) (e : Some (p, j) ≡ capped x) where
    pub proposition_known : p < k → Some (proposition_mask p, j) ≡ answer_of (proposition_of k x)
    unfolding mask_of
    proposition_known l = by x e
      where
        by : (y : Number) → Some (p, j) ≡ capped y → Some (proposition_mask p, j) ≡ answer_of (proposition_of k y)
        by none f = absurd (none-some _ (sym f))
        by (number v i) f =
            let h = same_Some _ _ f in
            let a : p ≡ min v 1000 = ap (λ c. c.0) h in
            let q : v ≡ p = omega (arith, a, l, few) in
            rw (lt-ltb v k (omega (arith, q, l)), ← ap (λ c. c.1) h) (found_answer (proposition v) _ j (ap proposition_mask (sym q)))

    pub proposition_lacking : k ≤ p → None ≡ answer_of (proposition_of k x)
    unfolding answer_of
    proposition_lacking l = by x e
      where
        by : (y : Number) → Some (p, j) ≡ capped y → None ≡ answer_of (proposition_of k y)
        by none f = refl
        by (number v i) f =
            let a : p ≡ min v 1000 = ap (λ c. c.0) (same_Some _ _ f) in
            rw (le-ltb v k (omega (arith, a, l))) refl

-- Atoms.

module _ (s : List ℕ) (k j : ℕ) where
  pub atom_always : (l : ℕ) → Some l ≡ byte_from 0x74 s j → Some (65535, l) ≡ answer_of (atom_at s k j)
  unfolding mask_of
  atom_always l e =
      let t = byte_taken 0x74 s j l e in
      rw (atom_t s k j t.0, t.1) (found_answer always 65535 (j + 1) refl)

  pub atom_never : (l : ℕ) → Some l ≡ byte_from 0x66 s j → Some (0, l) ≡ answer_of (atom_at s k j)
  unfolding mask_of
  atom_never l e =
      let t = byte_taken 0x66 s j l e in
      rw (atom_f s k j t.0, t.1) (found_answer never 0 (j + 1) refl)

  module _ (t : None ≡ byte_from 0x74 s j) (f : None ≡ byte_from 0x66 s j) where
    atom_number : atom_at s k j ≡ proposition_of k (number_at s j)
    atom_number = atom_other s k j (byte_missed 0x74 s j t) (byte_missed 0x66 s j f)

    pub atom_missing : None ≡ capped (number_at s j) → None ≡ answer_of (atom_at s k j)
    atom_missing e = rw atom_number (proposition_missing k (number_at s j) e)

    module _ (few : k ≤ 4) (p l : ℕ) (e : Some (p, l) ≡ capped (number_at s j)) where
      pub atom_lacking : k ≤ p → None ≡ answer_of (atom_at s k j)
      atom_lacking h = rw atom_number (proposition_lacking k (number_at s j) few p l e h)

      pub atom_known : p < k → (m : ℕ) → m ≡ proposition_mask p → Some (m, l) ≡ answer_of (atom_at s k j)
      atom_known h m q = rw (q, atom_number) (proposition_known k (number_at s j) few p l e h)

pub ruleset atom_steps = (atom_always, atom_never, atom_missing, atom_lacking, atom_known)
