-- What groups and DISTINCT go by, in one total order.
use Rattle.std.specs.Prelude.{Bool, List}
use Rattle.std.specs.Cmp.{IsTotalOrder}
use Rattle.std.specs.Cmp.Lexicographic.{slice_cmp, lists_total}
use Rattle.std.specs.Ordering.{is_eq}
use Rattle.std.specs.declared.cmp.Ordering.{Ordering}
use Rattle.jpql_meaning.specs.declared.eval.datum.Datum.{Datum}
use Rattle.jpql_meaning.specs.eval.Data.{datum_cmp}
use Rattle.jpql_meaning.specs.eval.SeenOrder.{datum_total}

-- the order of lists of data: datum by datum
abbrev pub data_cmp : List Datum → List Datum → Ordering
data_cmp = slice_cmp datum_cmp

-- whether two lists of data are equal in the order
abbrev pub is_same : List Datum → List Datum → Bool
is_same x y = is_eq (data_cmp x y)

-- the order of lists of data is total
pub data_total : IsTotalOrder data_cmp
data_total = lists_total datum_total
