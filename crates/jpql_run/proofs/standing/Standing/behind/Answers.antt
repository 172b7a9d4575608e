use Rattle.std.proofs.Common.{arith, ◌≡◌, ◌∙◌, ap, sym, drop}
use Rattle.std.specs.Borrow.{Bor}
use Rattle.std.proofs.lemmas.Grind.{common_steps}
use Rattle.std.proofs.lemmas.List.{drop-map}
use Rattle.jpa_open.specs.Opened.{lent}
use Rattle.jpql_meaning.specs.plan.Paths.{Entry}
use Rattle.jpql_run.specs.Standing.{entries}
use Rattle.jpql_run.specs.declared.standing.Standing.{Standing}
use Rattle.jpql_run.proofs.standing.Standing.behind.Goals as goal

pub returns-in-Layered : goal.returns-in-Layered
returns-in-Layered c =
    let count = c.args.count in
    let all = c.in-Layered.all.items in
    let left : c.truncate.new.self.items ≡ drop count all = grind (arith, common_steps) in
    ap lent left ∙ sym (drop-map (λ (e : Bor Entry). e.now) count all) ∙ ap (λ (s : Standing). drop count (entries s)) (sym c.in-Layered.is)
