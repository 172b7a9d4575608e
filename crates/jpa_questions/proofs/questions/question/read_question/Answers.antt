use Rattle.std.proofs.Common.{◌≡◌, ◌⊎◌, List, true, inl, inr, rules}
use Rattle.std.proofs.lemmas.Result.{err_from_is_err_and}
use Rattle.jpa_value.specs.declared.refusal.Cause.{Cause}
use Rattle.jpa_model.specs.declared.unit.PersistenceUnit.{PersistenceUnit}
use Rattle.jpql_trees.specs.declared.tree.Language.{Language}
use Rattle.jpql_trees.specs.tree.Names.{Text}
use Rattle.jpa_questions.specs.declared.questions.parameter.Parameter.{Parameter}
use Rattle.jpa_questions.specs.questions.Questions.{IsTextRefused, IsUnasked, are_short}
use Rattle.jpa_questions.proofs.questions.question.read_question.Goals as goal

unasked : (m : PersistenceUnit) (l : Language) (text : Text) (ps : List Parameter) (cause : Cause) → are_short ps ≡ true → (cause ≡ Cause.OutOfMemory) ⊎ IsTextRefused m l text ps cause → IsUnasked m l text ps cause
unasked m l text ps cause short (inl memory) = inl memory
unasked m l text ps cause short (inr refused) = inr (inr (short, refused))

pub returns-in_err-select-clause-refused : goal.returns-in_err-select-clause-refused
returns-in_err-select-clause-refused c =
    let p = err_from_is_err_and c.from_residual-in_err-select.result c.from_residual-in_err-select.ensures.1 in
    let short : are_short c.args.parameters.now ≡ true = search rules in
    rw (p.1, p.2) (unasked c.args.metamodel.now c.args.language c.args.text.now c.args.parameters.now _ short c.in_err-select.ensures.refused)
