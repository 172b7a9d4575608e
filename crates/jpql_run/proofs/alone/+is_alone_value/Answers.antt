use Rattle.std.proofs.Common.{◌≡◌, ◌∙◌, ap, sym, subst}
use Rattle.std.specs.List.{list_all}
use Rattle.jpql_trees.specs.declared.typed.typed.TypedValue.{TypedValue}
use Rattle.jpql_meaning.specs.plan.Alone.{is_alone_value}
use Rattle.jpql_run.proofs.AloneParts.{alone_of_call}
use Rattle.jpql_run.proofs.alone.+is_alone_value.Goals as goal

pub is_alone_value-returns-in-Call : goal.is_alone_value-returns-in-Call
is_alone_value-returns-in-Call t c =
    let n = c.args.around in
    subst (λ (v : TypedValue). c.are_alone_values.result ≡ is_alone_value n v) (sym c.in-Call.is)
    (c.are_alone_values.ensures ∙ ap (list_all (is_alone_value n)) c.as_slice.ensures ∙ sym (alone_of_call n _ c.in-Call.all))
