use Rattle.std.proofs.Common.{ap, ◌∙◌}
use Rattle.std.specs.Prelude.{map}
use Rattle.std.proofs.lemmas.Result.{err_from_is_err_and}
use Rattle.jpa_questions.specs.questions.Questions.{named_sort}
use Rattle.jpa_questions.proofs.questions.Selected.{typed_asked, typed_refused, untyped_text}
use Rattle.jpa_questions.proofs.questions.question.read_select.Goals as goal

pub returns-in_err-typed-clause-refused : goal.returns-in_err-typed-clause-refused
returns-in_err-typed-clause-refused c =
    let p = err_from_is_err_and c.from_residual-in_err-typed.result c.from_residual-in_err-typed.ensures.1 in
    rw (p.1, p.2)
    (untyped_text c.args.metamodel.now c.args.language c.args.text.now c.args.parameters.now
    _ (c.as_slice.ensures ∙ c.in_ok-lists.ensures.ok) _ (c.as_slice-2.ensures ∙ c.in_ok-lists.ensures.ok)
    c.in_ok-tree.tree c.in_ok-uses.uses c.in_ok-tree.ensures.read c.in_ok-uses.ensures.uses
    _ (c.as_slice-3.ensures ∙ c.in_ok-sorts.ensures.ok ∙ ap (map named_sort) c.requires) _ c.in_err-typed.ensures)

pub returns-clause-asked : goal.returns-clause-asked
returns-clause-asked c =
    typed_asked c.args.metamodel.now c.args.language c.args.text.now c.args.parameters.now
    _ (c.as_slice.ensures ∙ c.in_ok-lists.ensures.ok) _ (c.as_slice-2.ensures ∙ c.in_ok-lists.ensures.ok)
    c.in_ok-tree.tree c.in_ok-uses.uses c.in_ok-tree.ensures.read c.in_ok-uses.ensures.uses
    _ (c.as_slice-3.ensures ∙ c.in_ok-sorts.ensures.ok ∙ ap (map named_sort) c.requires)
    c.in_ok-typed.typed c.in_ok-typed.ensures c.select_if.result c.select_if.ensures

pub returns-clause-refused : goal.returns-clause-refused
returns-clause-refused c =
    typed_refused c.args.metamodel.now c.args.language c.args.text.now c.args.parameters.now
    _ (c.as_slice.ensures ∙ c.in_ok-lists.ensures.ok) _ (c.as_slice-2.ensures ∙ c.in_ok-lists.ensures.ok)
    c.in_ok-tree.tree c.in_ok-uses.uses c.in_ok-tree.ensures.read c.in_ok-uses.ensures.uses
    _ (c.as_slice-3.ensures ∙ c.in_ok-sorts.ensures.ok ∙ ap (map named_sort) c.requires)
    c.in_ok-typed.typed c.in_ok-typed.ensures c.select_if.result c.select_if.ensures
