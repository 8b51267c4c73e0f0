-- A file written part by part: the header, the accepting records, the transitions and the end, and what is left after each. Assumes nothing.
use mathlib.Core.Path.{refl}
use mathlib.Core.List.{List, [], ◌++◌}
use Prim.Native.Nat.{ℕ}
use native.Mathlib.Omega.{arith}
use lib.ListN.{length}
use Rattle.automaton.specs.declared.Automaton.{Automaton}
use Rattle.format.specs.Writing.{header_bytes, items_bytes, end_bytes}
use Rattle.buffers.specs.declared.Cursor.{Cursor}
use Rattle.buffers.specs.Cursors.{HasRoom, Added}
use Rattle.buffers.proofs.Left.{Left, left_start, left_room, left_more, left_end}
use Rattle.fixed_form.specs.FixedForm.{accepting_items, transition_items, written}
use Rattle.writer.proofs.WrittenParts.{written_parts}

module _ (A : Automaton) (c : Cursor) (room : HasRoom c (length (written A))) where
  abbrev header : List ℕ
  header = header_bytes A.states A.letters A.initial

  abbrev accepting : List ℕ
  accepting = items_bytes (accepting_items A)

  abbrev transitions : List ℕ
  transitions = items_bytes (transition_items A)

  all_left : Left c (written A) (header ++ (accepting ++ (transitions ++ end_bytes))) c
  all_left = left_start c _ _ (written_parts A) (omega arith)

  pub header_room : HasRoom c (length header)
  header_room = left_room all_left header _ refl room

  module _ {d : Cursor} (first : Added c header d) where
    header_done : Left c (written A) (accepting ++ (transitions ++ end_bytes)) d
    header_done = left_more all_left header _ refl first

    pub accepting_room : HasRoom d (length accepting)
    accepting_room = left_room header_done accepting _ refl room

    module _ {e : Cursor} (second : Added d accepting e) where
      accepting_done : Left c (written A) (transitions ++ end_bytes) e
      accepting_done = left_more header_done accepting _ refl second

      pub transitions_room : HasRoom e (length transitions)
      transitions_room = left_room accepting_done transitions end_bytes refl room

      module _ {f : Cursor} (third : Added e transitions f) where
        transitions_done : Left c (written A) end_bytes f
        transitions_done = left_more accepting_done transitions end_bytes refl third

        pub end_room : HasRoom f (length end_bytes)
        end_room = left_room transitions_done end_bytes [] refl room

        pub all_done : {g : Cursor} → Added f end_bytes g → Added c (written A) g
        all_done last = left_end (left_more transitions_done end_bytes [] refl last) refl
