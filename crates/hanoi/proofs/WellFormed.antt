-- What a text describes is well formed: the grammar's rules say that the header's numbers and those of each part are in their ranges, and an edge belongs to
-- a state that stands before it. So the automaton of a file is the one that it describes. Assumes nothing.
use mathlib.Core.Path.{◌≡◌, refl, sym, subst}
use mathlib.Core.Logic.{◌⊎◌, ⊎_elim}
use mathlib.Core.List.Memᴰ
use mathlib.Core.List.{List, Memᴰ}
use Prim.Native.Nat.{ℕ, ◌<◌}
use Rattle.labels.proofs.Below.{disjunction_below}
use Rattle.hanoi.specs.Descriptions.{Part, declared, edge, Description, headed, extended}
use Rattle.hanoi.specs.Reading.{refused, describes, next, header, part_at, read_hanoi}
use Rattle.hanoi.specs.Grammar.{has_states, has_start, has_propositions, HasNames, has_names, IsHeader, header_stands, Latest, of_state, of_edge, IsPart, state_part, edge_part, IsBody, ends, part, IsFile, file}
use Rattle.hanoi.specs.Meaning.{IsDescribed, automaton_of, PartWithin, WellFormed}
use Rattle.hanoi.proofs.Says.{header_next, NextPart, next_part, part_next}
use Rattle.hanoi.proofs.Decided.{hanoi_grammar, hanoi_refused_iff, fault_number}
use Rattle.hanoi.proofs.Described.{described}

-- The header.

headed_well_formed : {s : List ℕ} {n q k j : ℕ} → HasNames s n q k j → WellFormed (headed n q k)
headed_well_formed (has_names (has_propositions (has_start (has_states x a b) y c) z d) u) =
    record {
      some_states = a;
      few_states = b;
      start_below = c;
      few_propositions = d;
      within = λ y m. absurd (Memᴰ.not-nil m);
    }

header_well_formed : {s : List ℕ} {D : Description} {j : ℕ} → IsHeader s D j → WellFormed D
header_well_formed (header_stands h a x e) = subst WellFormed (sym e) (headed_well_formed h)

-- The parts.

-- the state that an edge belongs to is one of the description's states
latest_below : {q n : ℕ} {xs : List Part} (k : ℕ) → Latest q xs → ((x : Part) → Memᴰ x xs → PartWithin n k x) → q < n
latest_below k (of_state {b = b}) h = h (declared _ b) (Memᴰ.head refl)
latest_below k (of_edge {L = L} {r = r}) h = (h (edge _ L r) (Memᴰ.head refl)).0

part_within : {s : List ℕ} {D : Description} {i : ℕ} {x : Part} {j : ℕ} → WellFormed D → IsPart s D i x j → PartWithin D.states D.propositions x
part_within f (state_part x h d m) = h
part_within f (edge_part e l d x h) = (latest_below _ l f.within, disjunction_below d, h)

part_well_formed : {s : List ℕ} {D : Description} {i : ℕ} {x : Part} {j : ℕ} → WellFormed D → IsPart s D i x j → WellFormed (extended x D)
part_well_formed {D = D} f p =
    record {
      some_states = f.some_states;
      few_states = f.few_states;
      start_below = f.start_below;
      few_propositions = f.few_propositions;
      within = λ y m. ⊎_elim (λ e. subst (PartWithin D.states D.propositions) (sym e) (part_within f p)) (f.within y) (Memᴰ.cases_cons m);
    }

body_well_formed : {s : List ℕ} {E : Description} {i : ℕ} {D : Description} → WellFormed D → IsBody s E i D → WellFormed E
body_well_formed f (ends x e) = subst WellFormed e f
body_well_formed f (part p b) = body_well_formed (part_well_formed f p) b

file_well_formed : {s : List ℕ} {D : Description} → IsFile s D → WellFormed D
file_well_formed (file h b) = body_well_formed (header_well_formed h) b

-- What the reader comes to.

pub hanoi_well_formed : (s : List ℕ) (D : Description) → read_hanoi s ≡ describes D → WellFormed D
hanoi_well_formed s D e = file_well_formed ((hanoi_grammar s D).0 e)

-- so are the descriptions on the way
pub header_next_well_formed : (s : List ℕ) (i : ℕ) (D : Description) → header s ≡ next i D → WellFormed D
header_next_well_formed s i D e = header_well_formed (header_next s i D e)

pub part_next_well_formed : (s : List ℕ) (i j : ℕ) (D E : Description) → WellFormed D → part_at s i D ≡ next j E → WellFormed E
part_next_well_formed s i j D E f e = by (part_next s i j D E e)
  where
    by : NextPart s D i j E → WellFormed E
    by (next_part p d) = subst WellFormed (sym d) (part_well_formed f p)

-- no other refusal occurs
pub hanoi_refusals : (s : List ℕ) (n : ℕ) → read_hanoi s ≡ refused n → (n ≡ 3) ⊎ (n ≡ 4) ⊎ (n ≡ 17) ⊎ (n ≡ 18)
hanoi_refusals s n e = fault_number ((hanoi_refused_iff s n).0 e)

-- the automaton of a file is computed
pub hanoi_describes : (s : List ℕ) (D : Description) → IsFile s D → IsDescribed D (automaton_of D)
hanoi_describes s D f = described D (file_well_formed f)
