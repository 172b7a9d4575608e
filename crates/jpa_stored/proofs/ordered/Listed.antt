-- A list of entries with one more behind them has that one.
use Rattle.std.specs.Prelude.{◌≡◌, Bool, true, false, ◌||◌, List, [], ◌∷◌, ◌++◌}
use Rattle.std.proofs.Common.{refl, ap, ◌∙◌}
use Rattle.std.specs.List.{list_any}
use Rattle.std.specs.Ordering.{is_eq}
use Rattle.std.specs.Cmp.{tied_itself}
use Rattle.std.proofs.lemmas.List.Folds.{list_any-append}
use Rattle.jpa_stored.specs.declared.ordered.valued.Valued.{Valued}
use Rattle.jpa_stored.specs.ordered.Values.{IsIn, same_valued, valued_total}

at_last : (a b : Bool) → b ≡ true → (a || (b || false)) ≡ true
at_last true b e = refl
at_last false true e = refl
at_last false false e = e

pub is_listed : (vs : List Valued) (v : Valued) → IsIn (vs ++ v ∷ []) v
is_listed vs v =
    list_any-append (same_valued v) vs (v ∷ [])
    ∙ at_last (list_any (same_valued v) vs) (same_valued v v) (ap is_eq (tied_itself valued_total v))
