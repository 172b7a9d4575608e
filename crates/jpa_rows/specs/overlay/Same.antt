-- Whether what stands in two places is the same.
use Rattle.std.specs.Prelude.{Bool, true, false, Option, Some, None}
use Rattle.jpa_rows.specs.rows.Rows.{Row}
use Rattle.jpa_rows.specs.rows.Same as rows

-- both none, or the same row
abbrev pub same_row : Option Row → Option Row → Bool
same_row None None = true
same_row None (Some b) = false
same_row (Some a) None = false
same_row (Some a) (Some b) = rows.same_row a b
