use Rattle.std.proofs.Common.{◌≡◌, ◌∙◌, ap, sym, take}
use Rattle.std.specs.Borrow.{Bor}
use Rattle.std.proofs.lemmas.List.{take-map}
use Rattle.jpa_open.specs.Opened.{lent}
use Rattle.jpql_meaning.specs.plan.Paths.{Entry}
use Rattle.jpql_run.specs.Standing.{entries}
use Rattle.jpql_run.specs.declared.standing.Standing.{Standing}
use Rattle.jpql_run.proofs.standing.Standing.first.Goals as goal

pub returns-in-Layered : goal.returns-in-Layered
returns-in-Layered c =
    let count = c.args.count in
    ap lent c.truncate.ensures.items ∙ sym (take-map (λ (e : Bor Entry). e.now) count c.in-Layered.all.items) ∙ ap (λ (s : Standing). take count (entries s)) (sym c.in-Layered.is)
