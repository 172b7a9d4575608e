use Rattle.std.proofs.Common.{◌≡◌, false, Vec, Global, Err, sym, subst}
use Rattle.jpql_grammar.specs.grammar.Limits.{nests_over}
use Rattle.jpql_grammar.specs.declared.grammar.token.Token.{Token}
use Rattle.jpql_text.specs.text.Answers.{IsAnswered}
use Rattle.jpql_text.proofs.text.Whole.{no_tokens}
use Rattle.jpql_text.proofs.text.read.read_query.Goals as goal

pub returns-in-Err : goal.returns-in-Err
returns-in-Err c =
    let shallow = subst (λ text. nests_over 32 false 0 text ≡ false) c.as_bytes.ensures.value (sym c.if-nests_over.ensures) in
    let a = subst (λ cause. IsAnswered c.args.language c.args.lists.now c.args.text.now (Err cause)) (sym c.cause_of.ensures)
    (no_tokens {X = Vec Token Global} c.args.language c.args.lists.now c.args.text.now (λ v. v.items) c.in-Err.error c.if-text-gt-MOST_QUERY_BYTES.false shallow c.in-Err.ensures.only) in
    record { read = a.read; refused = a.refused; only = a.only }

pub returns-in-Ok : goal.returns-in-Ok
returns-in-Ok c =
    let shallow = subst (λ text. nests_over 32 false 0 text ≡ false) c.as_bytes.ensures.value (sym c.if-nests_over.ensures) in
    let a = c.tree_of.ensures c.args.text.now c.if-text-gt-MOST_QUERY_BYTES.false shallow c.in-Ok.ensures.found in
    record { read = a.read; refused = a.refused; only = a.only }
