use Rattle.std.proofs.Common.{arith, ◌≡◌, ◌≤◌, List, [], ◌∷◌, false, map, length, refl}
use Rattle.jpql_meaning.specs.declared.eval.datum.Datum.{Datum}
use Rattle.jpql_meaning.specs.eval.Data.{same_data}
use Rattle.jpql_run.specs.Runs.{path_datum}
use Rattle.jpql_meaning.specs.eval.Seen.{seen}
use Rattle.jpql_select.proofs.select.groups.+is_grouped_by.Goals as goal

longer : {A B : Type 0} (f : A → Datum) (g : B → Datum) (xs : List A) (ys : List B) → 1 ≤ length xs → length ys ≤ 0 → false ≡ same_data (map f xs) (map g ys)
longer f g (x ∷ xs) [] some none = refl
longer f g [] ys some none = absurd (omega (arith, some))
longer f g (x ∷ xs) (y ∷ ys) some none = absurd (omega (arith, none))

pub returns-in-len1-up-key : goal.returns-in-len1-up-key
returns-in-len1-up-key t c =
    longer seen (path_datum c.args.run.now c.args.tuple.now) c.args.key.now c.args.paths.now (omega (arith, c.in-len1-up-key.len_at_least)) (omega (arith, c.in-empty.len_below))
