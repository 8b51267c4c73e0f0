-- A state that a file leaves undeclared neither accepts nor has transitions: an edge belongs to a state that stands before it in the text, and only a
-- declaration makes a state accepting. Assumes nothing.
use mathlib.Core.Path.{◌≡◌, refl, subst, sym}
use mathlib.Core.Bool.{Bool, true, false}
use mathlib.Core.Logic.{⊎_elim}
use mathlib.Core.List.Memᴰ
use mathlib.Core.List.{List, [], ◌∷◌, Memᴰ}
use Prim.Native.Nat.{ℕ}
use native.Mathlib.Omega.{arith}
use Rattle.automaton.specs.declared.Automaton.{Automaton}
use Rattle.automaton.specs.Automata.{accepts, transition}
use Rattle.automaton.proofs.Booleans.{not_T_false}
use Rattle.labels.specs.Labels.{Label}
use Rattle.hanoi.specs.Descriptions.{Part, declared, edge, Description}
use Rattle.hanoi.specs.Grammar.{Latest, of_state, of_edge, Declares, declares, declares_before, IsPart, state_part, edge_part, IsBody, ends, part, header_stands, IsFile, file}
use Rattle.hanoi.specs.Meaning.{IsDescribed}

-- a declaration among the parts
among_declares : (q : ℕ) (b : Bool) (xs : List Part) → Memᴰ (declared q b) xs → Declares q xs
among_declares q b [] m = absurd (Memᴰ.not-nil m)
among_declares q b (x ∷ xs) m =
    ⊎_elim (λ e. subst (λ (y : Part). Declares q (y ∷ xs)) e declares) (λ k. declares_before (among_declares q b xs k)) (Memᴰ.cases_cons m)

-- each edge among the parts belongs to a state that is declared among them
abbrev Owned : List Part → Type 0
Owned xs = (q : ℕ) (L : Label) (r : ℕ) → Memᴰ (edge q L r) xs → Declares q xs

no_parts_owned : Owned []
no_parts_owned q L r m = absurd (Memᴰ.not-nil m)

latest_declared : {q : ℕ} {xs : List Part} → Owned xs → Latest q xs → Declares q xs
latest_declared o of_state = declares
latest_declared o (of_edge {L = L} {r = r}) = o _ L r (Memᴰ.head refl)

part_owned : {s : List ℕ} {D : Description} {i : ℕ} {x : Part} {j : ℕ} → Owned D.parts → IsPart s D i x j → Owned (x ∷ D.parts)
part_owned o (state_part n h d m) p L r k =
    ⊎_elim (λ e. absurd (no_edge e)) (λ l. declares_before (o p L r l)) (Memᴰ.cases_cons k)
  where
    no_edge : {p : ℕ} {L : Label} {r q : ℕ} {b : Bool} → edge p L r ≡ declared q b → ⊥
    no_edge e = let z : ◌≡◌ {A = ℕ} 0 1 = cc in omega arith
part_owned {D = D} o (edge_part {q = q} e l d n h) p L r k =
    ⊎_elim (λ f. declares_before (subst (λ (t : ℕ). Declares t D.parts) (sym (same f)) (latest_declared o l))) (λ m. declares_before (o p L r m)) (Memᴰ.cases_cons k)
  where
    same : {p q : ℕ} {L M : Label} {r t : ℕ} → edge p L r ≡ edge q M t → p ≡ q
    same f = cc

body_owned : {s : List ℕ} {E : Description} {i : ℕ} {D : Description} → Owned D.parts → IsBody s E i D → Owned E.parts
body_owned o (ends f e) = subst (λ (X : Description). Owned X.parts) e o
body_owned o (part p b) = body_owned (part_owned o p) b

file_owned : {s : List ℕ} {D : Description} → IsFile s D → Owned D.parts
file_owned (file (header_stands h a x e) b) = body_owned (subst (λ (X : Description). Owned X.parts) (sym e) no_parts_owned) b

pub undeclared_bare : (s : List ℕ) (D : Description) (A : Automaton) (q : ℕ) → IsFile s D → IsDescribed D A → (Declares q D.parts → ⊥)
    → (accepts A q ≡ false) × ((a r : ℕ) → transition A q a r ≡ false)
undeclared_bare s D A q f d n = (
  not_T_false (accepts A q) (λ t. n (among_declares q true D.parts ((d.describes.accepting q).0 t))),
  λ a r. not_T_false (transition A q a r) (λ t. let e = ((d.describes.transitions q a r).0 t).1 in n (file_owned f q e.label r e.stands)),
)
