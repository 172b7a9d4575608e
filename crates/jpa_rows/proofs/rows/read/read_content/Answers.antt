use Rattle.std.specs.Prelude.{List, Option}
use Rattle.std.proofs.Common.{sym, subst}
use Rattle.jpa_value.specs.declared.value.Kind.{Kind}
use Rattle.jpa_rows.specs.declared.rows.row.Content.{Content}
use Rattle.jpa_rows.specs.declared.rows.schema.Holds.{Holds}
use Rattle.jpa_rows.specs.rows.Spellings.{Finds, SpellsContent}
use Rattle.jpa_rows.proofs.rows.Contents.{IsReference, reference_contents}
use Rattle.jpa_rows.proofs.rows.read.read_content.Goals as goal

pub returns-in_ok-read_reference-in-Reference-clause-spelled : goal.returns-in_ok-read_reference-in-Reference-clause-spelled
returns-in_ok-read_reference-in-Reference-clause-spelled c =
    let found = c.in_ok-read_reference-in-Reference.field-0 in
    subst (λ (h : Holds). Finds (SpellsContent h c.args.bytes.now) c.as_reference.result) (sym c.in-Reference.is)
    (subst (λ (o : Option Content). Finds (SpellsContent (Holds.Reference c.in-Reference.kinds) c.args.bytes.now) o) (sym c.as_reference.ensures)
    (reference_contents c.in-Reference.kinds c.args.bytes.now found
    (subst (λ (kinds : List Kind). Finds (IsReference kinds c.args.bytes.now) found) c.as_slice.ensures c.in_ok-read_reference-in-Reference.ensures.spelled)))
