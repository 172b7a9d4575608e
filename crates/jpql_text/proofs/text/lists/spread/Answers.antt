use Rattle.std.proofs.Common.{◌≡◌, Err, rules, ap, ◌∙◌}
use Rattle.jpql_text.proofs.text.Spreading.{left_of, turned, failed, ended, none_left}
use Rattle.jpql_text.proofs.text.lists.spread.Goals as goal

pub returns-in_err-found : goal.returns-in_err-found
returns-in_err-found c =
    let same_error : c.from_residual.result ≡ Err c.in_err-found.field-0.0 = search rules in
    rw same_error (failed c.in_err-found.field-0.0 c.args.lists.now c.loop-token.before c.loop-token.found.items c.pop_front.new.self.items c.in-Some.token c.closes_next.result _
    (c.loop-token.invariant ∙ ap (left_of c.args.lists.now c.loop-token.before c.loop-token.found.items) c.in-Some.ensures.items) c.closes_next.ensures c.in_err-found.ensures)

pub loop-token-preserved : goal.loop-token-preserved
loop-token-preserved c =
    turned c.args.lists.now c.loop-token.before c.behind-after.result c.loop-token.found.items c.in_ok-found.found.items c.pop_front.new.self.items c.in-Some.token c.closes_next.result _
    (c.loop-token.invariant ∙ ap (left_of c.args.lists.now c.loop-token.before c.loop-token.found.items) c.in-Some.ensures.items) c.closes_next.ensures c.behind-after.ensures c.in_ok-found.ensures

pub returns : goal.returns
returns c =
    let over = none_left c.loop-token.left.items (c.in_default.ensures.items ∙ c.in_default.ensures.rest) in
    c.loop-token.invariant ∙ ap (left_of c.args.lists.now c.loop-token.before c.loop-token.found.items) over ∙ ended c.args.lists.now c.loop-token.before c.loop-token.found.items
