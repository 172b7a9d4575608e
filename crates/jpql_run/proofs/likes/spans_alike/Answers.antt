use Rattle.std.proofs.Common.{subst, ℕ}
use Rattle.jpql_run.specs.Ends.{IsOwn}
use Rattle.jpql_run.proofs.Alike.{of_like}
use Rattle.jpql_run.proofs.likes.spans_alike.Goals as goal

pub returns-in_ok-spans_of_front-in-Some : goal.returns-in_ok-spans_of_front-in-Some
returns-in_ok-spans_of_front-in-Some c =
    let member = c.args.member in
    let value = c.args.value.now in
    let own = subst (λ (n : ℕ). IsOwn n member value) c.len.ensures (c.is_own.ensures c.if-not-is_own.false) in
    of_like c.args.run.now c.args.tuple.now member value c.args.pattern.now c.args.escape.now c.in-Some.front.now c.in_ok-spans_of_front-in-Some.field-0.items own
    c.in-Some.ensures c.in_ok-spans_of_front-in-Some.ensures
