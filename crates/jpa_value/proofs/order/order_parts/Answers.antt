use Rattle.std.proofs.Common.{◌≡◌, ◌∙◌, ap, sym, arith, drop, []}
use Rattle.std.proofs.lemmas.List.{drop_all}
use Rattle.std.proofs.lemmas.Grind.{common_steps}
use Rattle.jpa_value.specs.Value.{key_cmp}
use Rattle.jpa_value.proofs.Orders.{ends_first}
use Rattle.jpa_value.proofs.order.order_parts.Goals as goal

-- the first key ends, and the second goes on
pub returns-then-a-b : goal.returns-then-a-b
returns-then-a-b c =
    let a = c.args.a.now in
    let b = c.args.b.now in
    let i = c.loop-i.i in
    let ended : drop i a ≡ [] = drop_all i a (omega arith) in
    ends_first (drop i b) (grind (arith, common_steps)) ∙ ap (λ xs. key_cmp xs (drop i b)) (sym ended) ∙ c.loop-i.invariant.rest
