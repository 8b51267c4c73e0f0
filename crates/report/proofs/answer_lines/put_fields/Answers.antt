-- `report::answer_lines::put_fields` meets its contract: the fields one after another. Assumes nothing.
use Rattle.std.proofs.Common.{ℕ, ap, ◌++◌}
use Rattle.text.specs.Text.{decimal}
use Rattle.report.specs.Line.{states_text, of_text, saved_text, fields}
use Rattle.buffers.proofs.Cursors.{added_append, added_as, added_two}
use Rattle.report.proofs.answer_lines.put_fields.Goals as goal

pub returns-clause-added : goal.returns-clause-added
unfolding fields
returns-clause-added c =
    let states = added_two states_text (decimal _) c.put_field.ensures.added c.put_field-2.ensures.added in
    let first = added_two of_text (decimal _) states c.put_field-3.ensures.added in
    let saved = added_as (ap (λ (p : ℕ). saved_text ++ decimal p) c.percent_saved.ensures) c.put_field-4.ensures.added in
    added_append (added_two saved_text (decimal _) first saved) c.put_text.ensures
