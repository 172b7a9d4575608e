use Rattle.std.specs.Prelude.{Option}
use Rattle.std.proofs.Common.{sym, subst}
use Rattle.jpa_value.specs.declared.value.Kind.{Kind}
use Rattle.jpa_value.specs.declared.value.Value.{Value}
use Rattle.jpa_rows.specs.declared.rows.schema.Holds.{Holds}
use Rattle.jpa_rows.specs.rows.Spellings.{Finds, SpellsValue}
use Rattle.jpa_rows.proofs.rows.Contents.{int_found}
use Rattle.jpa_rows.proofs.rows.read.read_int.Goals as goal

pub returns-clause-spelled : goal.returns-clause-spelled
returns-clause-spelled c =
    subst (λ (o : Option Value). Finds (SpellsValue (Holds.Kind Kind.Int) c.args.bytes.now) o) (sym c.part_in.ensures)
    (int_found c.args.bytes.now c.in_ok-decode_key.field-0 c.in_ok-decode_key.ensures.spelled)
