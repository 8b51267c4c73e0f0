-- `walk::final_word` meets its contract: the parent's word is read back from the slots, and the letter of the final vertex goes behind it.
-- Assumes nothing.
use Prim.Native.Nat.{◌<◌}
use native.Mathlib.Omega.{arith}
use Rattle.slots.proofs.Words.{word_short}
use Rattle.walk.proofs.FinalWords.{read_none, read_short, read_written}
use Rattle.walk.proofs.final_word.Goals as goal

pub returns-then-place-eq0 : goal.returns-then-place-eq0
returns-then-place-eq0 c = let a = c.args in
    let both = read_none a.work.now a.place a.letter a.parent a.word.now c.if-place-eq0.true in record { count = both.0; letters = both.1 }

pub overflow_add-result : goal.overflow_add-result
overflow_add-result c = let s = c in
    let a = s.args in
    let p = s.requires (omega (arith, c.if-place-eq0.false)) in
    omega (arith, c.word_length-before.ensures, p.0, word_short a.work.now a.parent a.parent (omega arith) p.1)

pub returns-then-word-before : goal.returns-then-word-before
returns-then-word-before c = let w = c.word_length-before in
    let a = c.args in
    let h : 0 < a.place = omega (arith, c.if-place-eq0.false) in
    let both = read_short a.work.now a.place a.letter a.parent a.word.now w.result h w.ensures c.if-word-before.true in record { count = both.0; letters = both.1 }

pub returns : goal.returns
returns c = let e = c in
    let w = e.word_length-before in
    let k = c.read_back-at in
    let a = e.args in
    let h : 0 < a.place = omega (arith, e.if-place-eq0.false) in
    let both = read_written a.work.now a.place a.letter a.parent a.word.now w.result h w.ensures e.if-word-before.false
    k.new.word k.result k.ensures.count k.ensures.letters in record { count = both.0; letters = both.1 }
