-- `report::offer_line` meets its contract: the line of the answer where there is room, and nothing where there is not. Assumes nothing.
use Rattle.std.proofs.Common.{rules}
use Rattle.report.proofs.Lines.{line_added, line_left}
use Rattle.report.proofs.offer_line.Goals as goal

pub returns-then-not-has_room : goal.returns-then-not-has_room
returns-then-not-has_room g c = line_left _ _ c.if-not-has_room.ensures

pub returns : goal.returns
returns g c =
    let same = c.put_answer.ensures.same_buffer in
    line_added _ c.if-not-has_room.ensures c.new-cursor.ensures.out c.new-cursor.ensures.at c.put_answer.ensures (search rules)
