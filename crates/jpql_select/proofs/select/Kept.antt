-- Tests that pass.
use Rattle.std.proofs.Common.{◌≡◌, cond, List, [], ◌∷◌, refl}
use Rattle.jpql_meaning.specs.declared.eval.datum.Truth.{Truth}
use Rattle.jpql_meaning.specs.eval.Answers.{Answer, gives, both}
use Rattle.jpql_meaning.specs.eval.Truths.{is_yes}
use Rattle.jpql_meaning.specs.plan.Meaning.{kept}

-- where each passes, all are left
pub none_left_out : {B : Type 0} (test : B → Answer Truth) → ((x : B) → test x ≡ gives Truth.Yes) → (all : List B) → kept test all ≡ gives all
none_left_out test passes [] = refl
none_left_out test passes (x ∷ all) = λ i. both (λ t more. cond (is_yes t) (x ∷ more) more) (passes x i) (none_left_out test passes all i)
