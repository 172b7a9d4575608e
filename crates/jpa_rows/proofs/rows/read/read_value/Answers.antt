use Rattle.std.specs.Prelude.{Option}
use Rattle.std.proofs.Common.{sym, subst}
use Rattle.jpa_value.specs.declared.value.Kind.{Kind}
use Rattle.jpa_value.specs.declared.value.Value.{Value}
use Rattle.jpa_rows.proofs.keys.Spelling.{are_bytes_fit}
use Rattle.jpa_rows.specs.declared.rows.schema.Holds.{Holds}
use Rattle.jpa_rows.specs.rows.Spellings.{Finds, SpellsValue}
use Rattle.jpa_rows.proofs.rows.Contents.{bytes_found, text_found}
use Rattle.jpa_rows.proofs.rows.read.read_value.Goals as goal

pub returns-in_ok-text_in-in-Text-clause-spelled : goal.returns-in_ok-text_in-in-Text-clause-spelled
returns-in_ok-text_in-in-Text-clause-spelled c =
    subst (λ (k : Kind). Finds (SpellsValue (Holds.Kind k) c.args.bytes.now) c.in_ok-text_in-in-Text.field-0) (sym c.in-Text.is)
    (subst (λ (o : Option Value). Finds (SpellsValue (Holds.Kind Kind.Text) c.args.bytes.now) o) (sym c.in_ok-text_in-in-Text.ensures.ok) (text_found c.args.bytes.now))

pub returns-in_ok-bytes_in-in-Bytes-clause-spelled : goal.returns-in_ok-bytes_in-in-Bytes-clause-spelled
returns-in_ok-bytes_in-in-Bytes-clause-spelled c =
    subst (λ (k : Kind). Finds (SpellsValue (Holds.Kind k) c.args.bytes.now) c.in_ok-bytes_in-in-Bytes.field-0) (sym c.in-Bytes.is)
    (subst (λ (o : Option Value). Finds (SpellsValue (Holds.Kind Kind.Bytes) c.args.bytes.now) o) (sym c.in_ok-bytes_in-in-Bytes.ensures.ok)
    (bytes_found c.args.bytes.now (are_bytes_fit c.args.bytes.now c.type_inv.bytes)))
