-- The word buffer after a word: where the word has room it stands in front and the rest is as it was, else nothing changes. Assumes nothing.
use mathlib.Core.Path.{◌≡◌, ap}
use mathlib.Core.Bool.{Bool, cond}
use mathlib.Core.List.{List, ◌++◌}
use Prim.Native.Nat.{ℕ, ◌≤◌, ◌<◌}
use borrow.Author.Tests.{le-leb, lt-leb}
use lib.ListN.{length, drop}
use Rattle.graph.specs.Walks.{word_after}

pub word_with_room : (word w : List ℕ) → length w ≤ length word → word_after word w ≡ w ++ drop (length w) word
word_with_room word w h = ap (λ (c : Bool). cond c (w ++ drop (length w) word) word) (le-leb (length w) (length word) h)

pub word_without_room : (word w : List ℕ) → length word < length w → word_after word w ≡ word
word_without_room word w h = ap (λ (c : Bool). cond c (w ++ drop (length w) word) word) (lt-leb (length w) (length word) h)
