use Rattle.std.specs.Prelude.{unwrap_or}
use Rattle.std.proofs.Common.{ap, ◌∙◌}
use Rattle.jpa_opening.specs.reader.Numbers.{zero_column}
use Rattle.jpa_opening.proofs.reader.Said.{number_found, no_number_found}
use Rattle.jpa_opening.proofs.reader.next_numbers.number_in.Goals as goal

pub returns-in-Some : goal.returns-in-Some
returns-in-Some c =
    c.unwrap_or.ensures ∙ ap (λ o. unwrap_or o 1) c.natural_in.ensures.number ∙ number_found c.args.row.now c.in-Some.field.now (c.in-Some.ensures ∙ ap zero_column c.as_slice.ensures)

pub returns-in-None : goal.returns-in-None
returns-in-None c = no_number_found c.args.row.now (c.in-None.ensures ∙ ap zero_column c.as_slice.ensures)
