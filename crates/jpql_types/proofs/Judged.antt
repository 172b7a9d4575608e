-- What is judged of parts, taken together.
use Rattle.std.proofs.Common.{◌≡◌, refl, Bool, false, not, ◌&&◌, ◌||◌, Option, Some, None, Result}
use Rattle.jpa_model.specs.WellFormed.{is_some_that}
use Rattle.jpql_types.specs.declared.error.TypingError.{TypingError}
use Rattle.jpql_trees.specs.declared.typed.path.TypedPath.{TypedPath}
use Rattle.jpql_types.specs.declared.sort.Sort.{Sort}
use Rattle.jpql_types.specs.Gives.{IsJudged}
use Rattle.jpql_types.specs.Sorts.{is_basic}
use Rattle.jpql_types.specs.Typing.{pass_both}

-- in the scope that there is
pub judged_in : {A B : Type 0} (r : Result A TypingError) (o : Option B) (test : B → Bool) (x : B) → o ≡ Some x → IsJudged r (test x) → IsJudged r (is_some_that test o)
judged_in r o test x e h = rw e h

-- nothing passes a test together with what isn't there
pub pass_both_none : {A B : Type 0} (test : A → B → Bool) (a : Option A) → pass_both test a None ≡ false
pass_both_none test None = refl
pass_both_none test (Some x) = refl

-- a key of ORDER BY, where its path means something
pub sorted_by : (sort : Option Sort) (path : Option TypedPath) (is_distinct : Bool) (keeps : TypedPath → Bool) (s : Sort) (p : TypedPath) → sort ≡ Some s → path ≡ Some p
    → (is_some_that is_basic sort && (not is_distinct || is_some_that keeps path)) ≡ (is_basic s && (not is_distinct || keeps p))
sorted_by sort path is_distinct keeps s p e f = rw e (rw f)
