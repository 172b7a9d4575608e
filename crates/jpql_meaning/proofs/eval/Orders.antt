-- What is the same is what ties in the order of what expressions give.
use Rattle.std.proofs.Common.{◌≡◌, refl, ap, Less, Equal, Greater}
use Rattle.std.specs.Ordering.{ordering_then, is_eq}
use Rattle.std.specs.declared.cmp.Ordering.{Ordering}
use Rattle.jpa_value.specs.Value.{value_cmp}
use Rattle.jpql_meaning.specs.declared.eval.datum.Datum.{Datum}
use Rattle.jpql_meaning.specs.declared.eval.datum.Datum.TheVariants as d
use Rattle.jpql_meaning.specs.eval.Data.{same_datum, datum_cmp}

pub then_equal : (o : Ordering) → ordering_then o Equal ≡ o
then_equal Less = refl
then_equal Equal = refl
then_equal Greater = refl

pub same_by_order : (a b : Datum) → is_eq (datum_cmp a b) ≡ same_datum a b
same_by_order (d.Plain x) (d.Plain y) = ap is_eq (then_equal (value_cmp x y))
same_by_order (d.Plain x) (d.Entity y) = refl
same_by_order (d.Entity x) (d.Plain y) = refl
same_by_order (d.Entity x) (d.Entity y) = refl
