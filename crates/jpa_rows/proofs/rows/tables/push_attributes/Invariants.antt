use Rattle.std.proofs.Common.{◌≡◌, ◌++◌, map, take}
use Rattle.jpa_rows.specs.rows.Tables.{attribute_rule}
use Rattle.jpa_rows.proofs.rows.tables.push_attributes.Given as goal

abbrev pub invariant-loop-attribute : goal.invariant-loop-attribute
invariant-loop-attribute l = l.rules ≡ l.fn.rules ++ map attribute_rule (take l.attribute-index l.attributes)
