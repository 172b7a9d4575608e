use Rattle.std.proofs.Common.{◌∙◌, ap, sym, cond, get_or, take, None}
use Rattle.std.specs.Prelude.{◌==◌}
use Rattle.std.specs.List.{list_any}
use Rattle.jpa_work.specs.context.Indexed.{place_in}
use Rattle.jpa_work.proofs.context.Staying.{forgotten, any_take}
use Rattle.jpa_work.proofs.context.leaving.forget_objects.Goals as goal

pub loop-object-preserved : goal.loop-object-preserved
loop-object-preserved c = λ n.
    let objects = c.args.objects.now in
    let i = c.loop-object.object-index in
    let before = place_in c.args.at.now n in
    forgotten (list_any (λ m. m == n) (take i objects)) (get_or objects i 0 == n) before (place_in c.loop-object.at n) (place_in c.forget.new.self n) (c.loop-object.invariant n) (c.forget.ensures n)
    ∙ ap (λ b. cond b None before) (sym (any_take (λ m. m == n) objects i 0 c.loop-object-test.true))
