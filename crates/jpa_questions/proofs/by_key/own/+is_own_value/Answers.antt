use Rattle.std.proofs.Common.{◌≡◌, ◌∙◌, ap, sym, subst}
use Rattle.std.specs.List.{list_all}
use Rattle.jpql_trees.specs.declared.typed.typed.TypedValue.{TypedValue}
use Rattle.jpa_questions.specs.by_key.Own.{is_own_value}
use Rattle.jpa_questions.proofs.by_key.Same.{own_of_call}
use Rattle.jpa_questions.proofs.by_key.own.+is_own_value.Goals as goal

pub is_own_value-returns-in-Call : goal.is_own_value-returns-in-Call
is_own_value-returns-in-Call t c =
    let m = c.args.metamodel.now in
    let all = c.in-Call.all in
    subst (λ (v : TypedValue). c.are_own_values.result ≡ is_own_value m v) (sym c.in-Call.is)
    (c.are_own_values.ensures ∙ ap (list_all (is_own_value m)) c.as_slice.ensures ∙ sym (own_of_call m c.in-Call.field-0 all))
