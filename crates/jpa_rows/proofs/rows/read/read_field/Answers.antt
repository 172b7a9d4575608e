use Rattle.std.specs.Prelude.{ℕ, List, Option}
use Rattle.std.proofs.Common.{sym, subst}
use Rattle.jpa_rows.specs.declared.rows.row.Field.{Field}
use Rattle.jpa_rows.specs.rows.Spellings.{Finds, SpellsContent, SpellsField}
use Rattle.jpa_rows.proofs.rows.Fields.{field_found}
use Rattle.jpa_rows.proofs.rows.read.read_field.Goals as goal

pub returns-in_ok-read_content-in-Some-clause-spelled : goal.returns-in_ok-read_content-in-Some-clause-spelled
returns-in_ok-read_content-in-Some-clause-spelled c =
    let rule = c.in-Some.rule.now in
    let found = c.in_ok-read_content-in-Some.field-0 in
    subst (λ (o : Option Field). Finds (SpellsField c.args.table.now c.args.cell.now) o) (sym c.field_of.ensures)
    (field_found c.args.table.now c.args.cell.now rule found (sym c.in-Some.ensures)
    (subst (λ (bytes : List ℕ). Finds (SpellsContent rule.holds bytes) found) c.as_slice.ensures c.in_ok-read_content-in-Some.ensures.spelled))
