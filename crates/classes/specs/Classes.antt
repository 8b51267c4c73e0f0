-- Classes of equal counters, by which the walk finds the vertices that are listed (01, "The walk"): the slots that have the same counters are
-- a class, and the first of them leads it. Only contracts between functions name these.
--   counters_at work s       the counters in slot s
--   class_of work cs n        the class of the counters cs among the first n slots: 1 + the first slot that has them, and 0 where none has
--   leads work s             slot s leads its class: no lower slot has its counters
--   listed_with work cs n t  one of the first n slots has the left state t and the counters cs
--   key_of cs                 the key of counters, a number below 4,096
--   top_leader work k n      1 + the last of the first n slots that leads its class and has key k, and 0 where none does
--   empty_index              the index of no slots
--   Chained                  heads[k] is the top leader with key k, and nexts[s] of a leader s the one below it with its key
--   Joined                   listed[s] of a leader s has the left states that are listed with its counters; a slot that leads no class has
--                            nothing there, and its class in nexts; a slot from n on has nothing in listed
--   Classes                  both: the index of the first n slots
--   class_at                  the class of slot s, as the index has it
--   index_after              the index after slot n with key k and left state t has joined the class c, or led one where c is 0
-- Shown by `class_listed`, `class_at_lem` and `classes_append`. Assumes nothing.
use Rattle.std.specs.Prelude.{◌≡◌, Bool, true, false, cond, ◌&&◌, List, ℕ, zero, suc, ◌+◌, ◌*◌, ◌/◌, ◌%◌, ◌^◌, ◌≤◌, ◌<◌, eqb, length, get_or, set, replicate}
use Rattle.std.specs.Int.Bits.{bit_or, bit_xor}
use Rattle.automaton.specs.Automata.{max_states}
use Rattle.automaton.specs.Ranges.{some}
use Rattle.automaton.specs.Sets.{bit, with_bit}
use Rattle.slots.specs.Slots.{max_slots, same_list}
use Rattle.slots.specs.Bytes.{vertex_at}
use Rattle.classes.specs.declared.Index.{Index}

abbrev pub counters_at : List ℕ → ℕ → List ℕ
counters_at work s = (vertex_at work s).counters

-- a class that is there, or else d
abbrev pub class_or : ℕ → ℕ → ℕ
class_or zero d = d
class_or (suc c) d = suc c

unfoldable pub class_of : List ℕ → List ℕ → ℕ → ℕ
class_of work cs zero = 0
class_of work cs (suc n) = class_or (class_of work cs n) (cond (same_list cs (counters_at work n)) (suc n) 0)

unfoldable pub leads : List ℕ → ℕ → Bool
leads work s = eqb (class_of work (counters_at work s) s) 0

unfoldable pub listed_with : List ℕ → List ℕ → ℕ → ℕ → Bool
listed_with work cs n t = some (λ s. eqb (vertex_at work s).left t && same_list cs (counters_at work s)) n 0

-- the number of keys
abbrev pub keys : ℕ
keys = 4096

-- eight counters, from number i on, as one number, the first one lowest
unfoldable pub eight_from : List ℕ → ℕ → ℕ
eight_from cs i =
    bit_or (bit_or (bit_or (bit_or (bit_or (bit_or (bit_or (get_or cs i 0) (get_or cs (i + 1) 0 * 2 ^ 8 % 2 ^ 64)) (get_or cs (i + 2) 0 * 2 ^ 16 % 2 ^ 64))
    (get_or cs (i + 3) 0 * 2 ^ 24 % 2 ^ 64)) (get_or cs (i + 4) 0 * 2 ^ 32 % 2 ^ 64)) (get_or cs (i + 5) 0 * 2 ^ 40 % 2 ^ 64))
    (get_or cs (i + 6) 0 * 2 ^ 48 % 2 ^ 64)) (get_or cs (i + 7) 0 * 2 ^ 56 % 2 ^ 64)

-- the key of four numbers of 64 bits: folded to 64 bits and to 32, and multiplied. The 12 bits in the middle of the product depend on each of the four
unfoldable pub key_from : ℕ → ℕ → ℕ → ℕ → ℕ
key_from w0 w1 w2 w3 =
    let a = bit_xor w0 (w1 * 2 ^ 4 % 2 ^ 64) in
    let b = bit_xor w2 (w3 * 2 ^ 4 % 2 ^ 64) in
    let x = bit_xor (bit_xor a (b / 2 ^ 29)) (b * 2 ^ 35 % 2 ^ 64) in
    bit_xor x (x / 2 ^ 30) % 2 ^ 32 * 2654435761 / 2 ^ 20 % keys

unfoldable pub key_of : List ℕ → ℕ
key_of cs = key_from (eight_from cs 0) (eight_from cs 8) (eight_from cs 16) (eight_from cs 24)

unfoldable pub top_leader : List ℕ → ℕ → ℕ → ℕ
top_leader work k zero = 0
top_leader work k (suc n) = cond (leads work n && eqb (key_of (counters_at work n)) k) (suc n) (top_leader work k n)

abbrev pub empty_index : Index
empty_index = record { heads = replicate keys 0; nexts = replicate max_slots 0; listed = replicate max_slots 0 }

pub record Chained (work heads nexts : List ℕ) (n : ℕ) : Type 0 where
  pub heads_long : length heads ≡ keys
  pub nexts_long : length nexts ≡ max_slots
  pub head_is : (k : ℕ) → k < keys → get_or heads k 0 ≡ top_leader work k n
  pub next_is : (s : ℕ) → s < n → leads work s ≡ true → get_or nexts s 0 ≡ top_leader work (key_of (counters_at work s)) s

pub record Joined (work : List ℕ) (index : Index) (n : ℕ) : Type 0 where
  pub listed_long : length index.listed ≡ max_slots
  pub leader_listed : (s : ℕ) → s < n → leads work s ≡ true
      → (t : ℕ) → t < max_states → bit (get_or index.listed s 0) t ≡ listed_with work (counters_at work s) n t
  pub other_listed : (s : ℕ) → s < n → leads work s ≡ false → get_or index.listed s 0 ≡ 0
  pub free_listed : (s : ℕ) → n ≤ s → get_or index.listed s 0 ≡ 0
  pub other_next : (s : ℕ) → s < n → leads work s ≡ false → get_or index.nexts s 0 ≡ class_of work (counters_at work s) s

pub record Classes (work : List ℕ) (index : Index) (n : ℕ) : Type 0 where
  pub chained : Chained work index.heads index.nexts n
  pub joined : Joined work index n

abbrev pub class_at : List ℕ → List ℕ → ℕ → ℕ
class_at nexts listed s = cond (eqb (get_or listed s 0) 0) (get_or nexts s 0) (s + 1)

-- the left states that are listed with the counters of the class
abbrev pub listed_in : List ℕ → ℕ → ℕ
listed_in listed zero = 0
listed_in listed (suc s) = get_or listed s 0

abbrev pub index_after : Index → ℕ → ℕ → ℕ → ℕ → Index
index_after index zero t k n =
    record {
      heads = set index.heads k (n + 1);
      nexts = set index.nexts n (get_or index.heads k 0);
      listed = set index.listed n (with_bit 0 t);
    }
index_after index (suc c) t k n =
    record {
      heads = index.heads;
      nexts = set index.nexts n (suc c);
      listed = set index.listed c (with_bit (get_or index.listed c 0) t);
    }
