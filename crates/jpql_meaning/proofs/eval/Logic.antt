-- One truth more in OR and AND of a list, and none.
use Rattle.std.proofs.Common.{◌≡◌, refl}
use Rattle.jpql_meaning.specs.declared.eval.datum.Truth.{Truth}
use Rattle.jpql_meaning.specs.declared.eval.datum.Truth.TheVariants as t
use Rattle.jpql_meaning.specs.eval.Truths.{and3, or3}

pub or3_then : (a b c : Truth) → or3 (or3 a b) c ≡ or3 a (or3 b c)
or3_then t.Yes b c = refl
or3_then t.No b c = refl
or3_then t.Unknown t.Yes c = refl
or3_then t.Unknown t.No c = refl
or3_then t.Unknown t.Unknown t.Yes = refl
or3_then t.Unknown t.Unknown t.No = refl
or3_then t.Unknown t.Unknown t.Unknown = refl

pub and3_then : (a b c : Truth) → and3 (and3 a b) c ≡ and3 a (and3 b c)
and3_then t.No b c = refl
and3_then t.Yes b c = refl
and3_then t.Unknown t.No c = refl
and3_then t.Unknown t.Yes c = refl
and3_then t.Unknown t.Unknown t.No = refl
and3_then t.Unknown t.Unknown t.Yes = refl
and3_then t.Unknown t.Unknown t.Unknown = refl

pub or3_no : (a : Truth) → or3 a Truth.No ≡ a
or3_no t.Yes = refl
or3_no t.No = refl
or3_no t.Unknown = refl

pub and3_yes : (a : Truth) → and3 a Truth.Yes ≡ a
and3_yes t.No = refl
and3_yes t.Yes = refl
and3_yes t.Unknown = refl
