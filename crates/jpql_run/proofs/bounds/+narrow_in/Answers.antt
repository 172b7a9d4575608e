use Rattle.std.proofs.Common.{◌≡◌, ◌∙◌, ap, sym, ◌&&◌}
use Rattle.jpql_run.proofs.Narrowed.{by_any, by_parts}
use Rattle.jpql_run.proofs.bounds.+narrow_in.Goals as goal
use Rattle.jpql_run.proofs.bounds.+narrow_in.Goals.{then-first, else-first}

pub returns-after-first : goal.returns-after-first
returns-after-first t c =
    let first = c.narrow_in-first.result in
    let second = c.narrow_in-second.result in
    let whole : c.if-first.result ≡ (first.is_whole && second.is_whole) =
    elim c.if-first.branch [
      | then-first w ↦ w.result-is ∙ ap (λ b. b && second.is_whole) (sym w.if-first.true)
      | else-first w ↦ w.result-is ∙ w.if-first.false ∙ ap (λ b. b && second.is_whole) (sym w.if-first.false)
    ] in
    by_parts c.args.run.now c.args.condition.now c.get.result.now c.get-in-And.result.now c.in-And.left c.in-And.right c.args.tuples.items first.tuples.items second.tuples.items first.is_whole second.is_whole c.if-first.result
    c.in-And.is c.get.ensures c.get-in-And.ensures whole c.narrow_in-first.ensures c.narrow_in-second.ensures

pub returns-in_default : goal.returns-in_default
returns-in_default t c = by_any c.args.run.now c.args.condition.now c.args.tuples.items
