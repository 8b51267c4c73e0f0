-- `digits` meets its contract: the value so far with the digits that are left is the whole value, as far as 1,000. Assumes nothing.
use Rattle.std.proofs.Common.{◌≡◌, ◌+◌, ◌≤◌, min, drop}
use Rattle.tokens.specs.Tokens.{value, digits}
use Rattle.tokens.proofs.digits.Given as goal

abbrev pub invariant-loop-j : goal.invariant-loop-j
invariant-loop-j l = record {
  same_value : min (value 0 l.text) 1000 ≡ min (value l.value (drop l.j l.text)) 1000;
  same_end : digits l.text ≡ l.j + digits (drop l.j l.text);
  held : l.value ≤ 1000;
}
