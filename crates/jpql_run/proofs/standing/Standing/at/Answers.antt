use Rattle.std.proofs.Common.{arith, ◌≡◌, ◌∙◌, ◌<◌, ap, subst, length, map, slice_get, Some}
use Rattle.std.specs.Borrow.{Bor}
use Rattle.std.proofs.lemmas.Grind.{common_steps}
use Rattle.std.proofs.lemmas.Option.{gets}
use Rattle.jpql_meaning.specs.plan.Paths.{Entry}
use Rattle.jpql_run.specs.Standing.{entries}
use Rattle.jpql_run.specs.declared.standing.Standing.{Standing}
use Rattle.jpql_run.proofs.standing.Standing.at.Goals as goal

pub returns-in-Layered : goal.returns-in-Layered
returns-in-Layered c =
    let all = c.in-Layered.all.items in
    let within : c.args.place < length (map (λ (e : Bor Entry). e.now) all) = subst (λ (s : Standing). c.args.place < length (entries s)) c.in-Layered.is c.requires in
    let there : slice_get (map (λ (e : Bor Entry). e.now) all) c.args.place ≡ Some c.index.result.now.now = grind (arith, common_steps, gets) in
    ap (λ (s : Standing). slice_get (entries s) c.args.place) c.in-Layered.is ∙ there
