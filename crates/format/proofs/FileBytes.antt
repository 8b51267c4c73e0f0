-- A file holds an automaton exactly if it is the bytes of a header in range, of records within the header and without repeats, in
-- any order, and of the end record; its accepting states and transitions are those of its records. Assumes nothing.
use mathlib.Core.Path.{◌≡◌, refl, sym, ap, subst, ◌∙◌}
use mathlib.Core.Logic.{◌⊎◌, inr, ⊎_elim, ◌↔◌}
use mathlib.Core.List.{List, ◌++◌, Memᴰ}
use Prim.Native.Nat.{ℕ}
use native.Mathlib.Omega.{arith}
use lib.Dec.{T}
use lib.ListN.{length, drop}
use Rattle.automaton.specs.declared.Automaton.{Automaton}
use Rattle.automaton.specs.Automata.{bare, header_values}
use Rattle.automaton.proofs.Bits.{bare_accepts, bare_transition, bare_header}
use Rattle.format.specs.Writing.{Item, accepting_item, transition_item, header_bytes, items_bytes, end_bytes}
use Rattle.format.specs.File.{holds, Step, header, read_file}
use Rattle.format.specs.Spelling.{with_items, Spells}
use Rattle.format.proofs.RecordSteps.{Has, HeaderStep, without_header, starts, header_step, header_starts, read_after, read_file_lem, read_over}
use Rattle.format.proofs.FileLaws.{bare_whole, read_not_both}
use Rattle.format.proofs.Items.{within_same, Fit, fit_of, fit_within, fit_distinct, with_items_has_iff, with_items_header}
use Rattle.format.proofs.FileStops.{at_end, Stops, last_holds, records_stop, stops_read}

pub bare_has : (n k i : ℕ) (x : Item) → Has (bare n k i) x → ⊥
bare_has n k i (accepting_item q) t = subst T (bare_accepts n k i q) t
bare_has n k i (transition_item q a r) t = subst T (bare_transition n k i q a r) t

held_spells : (s : List ℕ) (A : Automaton) → read_file s ≡ holds A → Spells s A
unfolding read_after
held_spells s A e = go (header_step s) (sym (read_file_lem s) ∙ e)
  where
    spells : (n k i : ℕ) (t : List ℕ) → s ≡ header_bytes n k i ++ t → T (header_values n k i) → Stops s 5 (bare n k i) (holds A) → Spells s A
    spells n k i t b v r =
        let h = with_items_header (bare n k i) r.items in
        let g = bare_header n k i in
        let w = bare_whole n k i v in
        let l = last_holds refl r.last in
        let hn : A.states ≡ n = ap (λ (X : Automaton). X.states) l.0 ∙ h.0 ∙ g.0 in
        let hk : A.letters ≡ k = ap (λ (X : Automaton). X.letters) l.0 ∙ h.1 ∙ g.1 in
        let hi : A.initial ≡ i = ap (λ (X : Automaton). X.initial) l.0 ∙ h.2 ∙ g.2 in
        let same : header_values n k i ≡ header_values A.states A.letters A.initial = cc in
        let rest : t ≡ items_bytes r.items ++ end_bytes =
        sym (ap (drop 5) b) ∙ r.bytes ∙ ap (λ (x : List ℕ). items_bytes r.items ++ x) l.1 in
        let all = l.0 in
        record {
          items = r.items;
          bytes = cc;
          values = subst T same v;
          within = λ x m. within_same x (g.0 ∙ sym hn) (g.1 ∙ sym hk) (fit_within (bare n k i) r.items r.fit x m);
          distinct = fit_distinct (bare n k i) r.items w r.fit;
          all = cc;
        }

    go : {x : Step} → HeaderStep s x → read_after s x ≡ holds A → Spells s A
    go (without_header f) d = absurd (read_not_both (sym (read_over s _) ∙ d) refl)
    go (starts n k i t b v) d = spells n k i t b v (subst (Stops s 5 (bare n k i)) d (records_stop (length s) s 5 (bare n k i) (omega arith)))

spells_fit : (s : List ℕ) (A : Automaton) (S : Spells s A) → Fit (bare A.states A.letters A.initial) S.items
spells_fit s A S =
    let g = bare_header A.states A.letters A.initial in
    fit_of _ S.items (bare_whole A.states A.letters A.initial S.values)
    (λ x m. within_same x (sym g.0) (sym g.1) (S.within x m)) S.distinct
    (λ x m. bare_has A.states A.letters A.initial x)

spells_held : (s : List ℕ) (A : Automaton) → Spells s A → read_file s ≡ holds A
spells_held s A S =
    read_file_lem s
    ∙ ap (read_after s) (ap header S.bytes ∙ header_starts A.states A.letters A.initial (items_bytes S.items ++ end_bytes) S.values)
    ∙ stops_read s S.items 5 _ end_bytes _ (ap (drop 5) S.bytes) (spells_fit s A S) (at_end refl)
    ∙ ap holds (sym S.all)

pub file_held_iff : (s : List ℕ) (A : Automaton) → (read_file s ≡ holds A) ↔ Spells s A
file_held_iff s A = (held_spells s A, spells_held s A)

-- an automaton's accepting states and transitions are those of the records of its file
pub spells_has_iff : (s : List ℕ) (A : Automaton) (S : Spells s A) (x : Item) → Has A x ↔ Memᴰ x S.items
spells_has_iff s A S x =
    subst (λ (X : Automaton). Has X x ↔ Memᴰ x S.items) (sym S.all) (
      λ t. ⊎_elim (λ u. absurd (bare_has A.states A.letters A.initial x u)) (λ m. m) (e.0 t),
      λ m. e.1 (inr m),
    )
  where
    e : Has (with_items (bare A.states A.letters A.initial) S.items) x
        ↔ (Has (bare A.states A.letters A.initial) x ⊎ Memᴰ x S.items)
    e = with_items_has_iff _ S.items (bare_whole A.states A.letters A.initial S.values) (spells_fit s A S) x
