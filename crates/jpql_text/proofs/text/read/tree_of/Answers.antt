use Rattle.std.proofs.Common.{◌≡◌, ◌∙◌, true, Err, ap, sym, subst}
use Rattle.jpql_text.specs.text.Answers.{IsAnswered}
use Rattle.jpql_text.specs.text.Together.{are_few}
use Rattle.jpql_text.proofs.text.Whole.{too_many, unread, too_many_variables, tree_found}
use Rattle.jpql_text.proofs.text.read.tree_of.Goals as goal

pub returns-then-not-are_few : goal.returns-then-not-are_few
returns-then-not-are_few c text short shallow is =
    too_many c.args.language c.args.lists.now text c.args.written.items short shallow is (ap (are_few c.args.lists.now) (sym c.as_slice.ensures.value) ∙ sym c.are_few.ensures ∙ c.if-not-are_few.true)

pub returns-in-Err : goal.returns-in-Err
returns-in-Err c text short shallow is =
    let few : are_few c.args.lists.now c.args.written.items ≡ true = ap (are_few c.args.lists.now) (sym c.as_slice.ensures.value) ∙ sym c.are_few.ensures ∙ c.if-not-are_few.false in
    subst (λ cause. IsAnswered c.args.language c.args.lists.now text (Err cause)) (sym c.cause_of.ensures)
    (unread c.args.language c.args.lists.now text c.args.written.items short shallow is few c.in-Err.error c.in-Err.ensures)

pub returns-then-declared-gt-MOST_QUERY_VARIABLES : goal.returns-then-declared-gt-MOST_QUERY_VARIABLES
returns-then-declared-gt-MOST_QUERY_VARIABLES c text short shallow is =
    too_many_variables c.args.language c.args.lists.now text c.args.written.items short shallow is c.in-Ok.query c.declared.result c.in-Ok.ensures c.declared.ensures c.if-declared-gt-MOST_QUERY_VARIABLES.true

pub returns-else-declared-gt-MOST_QUERY_VARIABLES : goal.returns-else-declared-gt-MOST_QUERY_VARIABLES
returns-else-declared-gt-MOST_QUERY_VARIABLES c text short shallow is =
    let few : are_few c.args.lists.now c.args.written.items ≡ true = ap (are_few c.args.lists.now) (sym c.as_slice.ensures.value) ∙ sym c.are_few.ensures ∙ c.if-not-are_few.false in
    tree_found c.args.language c.args.lists.now text c.args.written.items short shallow is few c.in-Ok.query c.declared.result c.in-Ok.ensures c.declared.ensures c.if-declared-gt-MOST_QUERY_VARIABLES.false
