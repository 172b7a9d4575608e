use Rattle.std.proofs.Common.{sym, subst, map, Bool}
use Rattle.std.specs.Global.{Vec}
use Rattle.jpql_meaning.specs.eval.Finds.{Finds}
use Rattle.jpql_run.specs.declared.object.Object.{Object}
use Rattle.jpql_run.specs.Objects.{entry}
use Rattle.jpql_bulk.specs.bulk.Bulks.{kept_of}
use Rattle.jpql_bulk.proofs.bulk.concerned.kept_objects.Goals as goal

pub returns-then-is_named : goal.returns-then-is_named
returns-then-is_named c =
    subst (λ (b : Bool). Finds (λ (v : Vec Object). map entry v.items) c.kept_named.result (kept_of c.args.run.now b c.args.filter.now (map entry c.args.objects.now)))
    (sym c.if-is_named.true)
    c.kept_named.ensures
