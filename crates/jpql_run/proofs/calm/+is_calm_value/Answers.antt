use Rattle.std.proofs.Common.{◌≡◌, ◌∙◌, ap, sym, subst}
use Rattle.std.specs.Prelude.{◌&&◌}
use Rattle.std.specs.List.{list_all}
use Rattle.jpql_trees.specs.declared.typed.typed.TypedValue.{TypedValue}
use Rattle.jpql_run.specs.Calm.{is_calm_value}
use Rattle.jpql_run.proofs.CalmParts.{calm_of_call}
use Rattle.jpql_run.proofs.calm.+is_calm_value.Goals as goal

pub is_calm_value-returns-then-is_calm_function : goal.is_calm_value-returns-then-is_calm_function
is_calm_value-returns-then-is_calm_function t c =
    let all = c.in-Call.all in
    subst (λ (v : TypedValue). c.are_calm_values.result ≡ is_calm_value v) (sym c.in-Call.is)
    (c.are_calm_values.ensures ∙ ap (list_all is_calm_value) c.as_slice.ensures
    ∙ sym (calm_of_call c.in-Call.function all ∙ ap (λ b. b && list_all is_calm_value all) (sym c.is_calm_function.ensures ∙ c.if-is_calm_function.true)))
