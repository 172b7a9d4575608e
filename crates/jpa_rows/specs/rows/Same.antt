-- Whether rows are the same, column by column.
use Rattle.std.specs.Prelude.{Bool, false, ◌==◌, ◌&&◌}
use Rattle.std.specs.Ordering.{is_eq}
use Rattle.jpa_value.specs.Value.{same_value, key_cmp}
use Rattle.jpa_stored.specs.objects.Sets.{each_fits}
use Rattle.jpa_rows.specs.declared.rows.row.Content.{Content}
use Rattle.jpa_rows.specs.declared.rows.row.Field.{Field}
use Rattle.jpa_rows.specs.rows.Rows.{Row}

-- whether two contents are the same value, or references by the same key
abbrev pub same_content : Content → Content → Bool
same_content (Content.Value v) (Content.Value w) = same_value v w
same_content (Content.Value v) (Content.Reference k) = false
same_content (Content.Reference k) (Content.Value v) = false
same_content (Content.Reference k) (Content.Reference l) = is_eq (key_cmp k l)

-- whether two fields have one column and the same content
abbrev pub same_field : Field → Field → Bool
same_field f g = (f.column == g.column) && same_content f.content g.content

-- whether two rows have the same fields in turn
abbrev pub same_row : Row → Row → Bool
same_row = each_fits same_field
