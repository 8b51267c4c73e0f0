-- The targets of a step that are gone through, and the classes by which they are known.
--   TargetsUnlisted    x has the targets of both sides, w and v, without those that are listed with the classes c and d
--   Known l cs c       the class c is that of the counters cs in the list l where it is not 0
-- Nothing settles it: only contracts between functions name it. Assumes nothing.
use Rattle.std.specs.Prelude.{◌≡◌, ◌&&◌, ◌||◌, not, List, ℕ, suc}
use Rattle.automaton.specs.Sets.{bit}
use Rattle.classes.specs.declared.Index.{Index}
use Rattle.classes.specs.Classes.{class_of}
use Rattle.classes.specs.Indexes.{listed_in}
use Rattle.discovery.specs.declared.listed.Listed.{Listed}

abbrev pub TargetsUnlisted : Index → ℕ → ℕ → ℕ → ℕ → ℕ → Type 0
TargetsUnlisted index c d w v x =
    (t : ℕ) → bit x t ≡ ((bit w t && not (bit (listed_in index c) t)) || (bit v t && not (bit (listed_in index d) t)))

abbrev pub Known : Listed → List ℕ → ℕ → Type 0
Known l cs c = (s : ℕ) → c ≡ suc s → class_of l.work.now cs l.count ≡ suc s
