-- A file is refused with a number exactly if its records fit up to a place and the record there has that fault. Assumes nothing.
use mathlib.Core.Path.{◌≡◌, refl, sym, ap, subst, ◌∙◌}
use mathlib.Core.Logic.{inr, ⊎_elim, ◌↔◌}
use mathlib.Core.List.{List, ◌++◌, Memᴰ}
use Prim.Native.Nat.{ℕ}
use native.Mathlib.Omega.{arith}
use lib.Dec.{T}
use lib.ListN.{length, drop}
use Rattle.automaton.specs.declared.Automaton.{Automaton}
use Rattle.automaton.specs.Automata.{bare, header_values}
use Rattle.automaton.proofs.Bits.{bare_header}
use Rattle.format.specs.Writing.{Item, header_bytes, items_bytes}
use Rattle.format.specs.File.{refused, Step, header, read_file}
use Rattle.format.specs.Spelling.{with_items}
use Rattle.format.specs.Refusals.{Front, nothing, past, front_bytes, FrontFits, Fault, one, two, four, five, Refusal, ReadsAs}
use Rattle.format.proofs.RecordSteps.{Has, Faulty, first, second, fourth, fifth, HeaderStep, without_header, starts, header_step, header_starts, header_fault, read_after, read_file_lem, read_over}
use Rattle.format.proofs.FileLaws.{bare_whole}
use Rattle.format.proofs.Items.{within_same, Fit, fit_of, fit_within, fit_distinct, with_items_has_iff, with_items_header}
use Rattle.format.proofs.FileStops.{at_fault, Stops, last_refused, records_stop, stops_read}
use Rattle.format.proofs.FileBytes.{file_held_iff, bare_has}

-- the fault at a place, with the automaton so far, is the fault after the records before it
module _ (n k i : ℕ) (xs : List Item) (v : T (header_values n k i)) (f : Fit (bare n k i) xs) where
  abbrev A : Automaton
  A = with_items (bare n k i) xs

  states_are : A.states ≡ n
  states_are = (with_items_header (bare n k i) xs).0 ∙ (bare_header n k i).0

  letters_are : A.letters ≡ k
  letters_are = (with_items_header (bare n k i) xs).1 ∙ (bare_header n k i).1

  has_iff : (x : Item) → Has A x ↔ Memᴰ x xs
  has_iff x =
      let e = with_items_has_iff (bare n k i) xs (bare_whole n k i v) f x in
      (λ t. ⊎_elim (λ u. absurd (bare_has n k i x u)) (λ m. m) (e.0 t), λ m. e.1 (inr m))

  faulty_fault : {l : List ℕ} {c : ℕ} → Faulty A l c → Fault (past n k i xs) l c
  faulty_fault (first e) = one e
  faulty_fault (second m) = two m
  faulty_fault (fourth x t e h) = four x t e (λ w. h (within_same x (sym states_are) (sym letters_are) w))
  faulty_fault (fifth x t e w h) = five x t e (within_same x states_are letters_are w) ((has_iff x).0 h)

  fault_faulty : {l : List ℕ} {c : ℕ} → Fault (past n k i xs) l c → Faulty A l c
  fault_faulty (one e) = first e
  fault_faulty (two m) = second m
  fault_faulty (four x t e h) = fourth x t e (λ w. h (within_same x states_are letters_are w))
  fault_faulty (five x t e w m) = fifth x t e (within_same x (sym states_are) (sym letters_are) w) ((has_iff x).1 m)

refused_refusal : (s : List ℕ) (c : ℕ) → read_file s ≡ refused c → Refusal s c
unfolding read_after
refused_refusal s c e = go (header_step s) (sym (read_file_lem s) ∙ e)
  where
    refused_same : {n m : ℕ} → refused n ≡ refused m → n ≡ m
    refused_same d = cc

    breaks : (n k i : ℕ) (t : List ℕ) → s ≡ header_bytes n k i ++ t → T (header_values n k i) → Stops s 5 (bare n k i) (refused c) → Refusal s c
    breaks n k i t d v b =
        let g = bare_header n k i in
        record {
          front = past n k i b.items;
          rest = b.rest;
          bytes = d ∙ ap (λ (l : List ℕ). header_bytes n k i ++ l) (sym (ap (drop 5) d) ∙ b.bytes);
          fits = (
            v,
            λ x m. within_same x g.0 g.1 (fit_within (bare n k i) b.items b.fit x m),
            fit_distinct (bare n k i) b.items (bare_whole n k i v) b.fit,
          );
          fault = faulty_fault n k i b.items v b.fit (last_refused refl b.last);
        }

    go : {x : Step} → HeaderStep s x → read_after s x ≡ refused c → Refusal s c
    go (without_header {n = n} f) d =
        record {
          front = nothing;
          rest = s;
          bytes = refl;
          fits = tt;
          fault = subst (Fault nothing s) (refused_same (sym (read_over s (refused n)) ∙ d)) f;
        }
    go (starts n k i t b v) d = breaks n k i t b v (subst (Stops s 5 (bare n k i)) d (records_stop (length s) s 5 (bare n k i) (omega arith)))

refusal_refused : (s : List ℕ) (c : ℕ) → Refusal s c → read_file s ≡ refused c
refusal_refused s c r = go r.front r.bytes r.fits r.fault
  where
    go : (F : Front) → s ≡ front_bytes F ++ r.rest → FrontFits F → Fault F r.rest c → read_file s ≡ refused c
    go nothing e t f =
        read_file_lem s ∙ ap (read_after s) (header_fault s (subst (λ (l : List ℕ). Fault nothing l c) (sym e) f)) ∙ read_over s (refused c)
    go (past n k i xs) e t f =
        let g = bare_header n k i in
        let fit = fit_of (bare n k i) xs (bare_whole n k i t.0) (λ x m. within_same x (sym g.0) (sym g.1) (t.1 x m)) t.2
        (λ x m. bare_has n k i x) in
        read_file_lem s
        ∙ ap (read_after s) (ap header e ∙ header_starts n k i (items_bytes xs ++ r.rest) t.0)
        ∙ stops_read s xs 5 (bare n k i) r.rest (refused c) (ap (drop 5) e) fit (at_fault (fault_faulty n k i xs t.0 fit f))

-- a file meets refusal c first exactly when the reader says so
pub file_refused_iff : (s : List ℕ) (c : ℕ) → (read_file s ≡ refused c) ↔ Refusal s c
file_refused_iff s c = (refused_refusal s c, refusal_refused s c)

pub file_reads_as : (s : List ℕ) → ReadsAs s
file_reads_as s = record { refused_iff = file_refused_iff s; holds_iff = file_held_iff s }
