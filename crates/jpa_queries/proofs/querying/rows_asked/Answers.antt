use Rattle.std.proofs.Common.{List, sym, subst}
use Rattle.jpa_behaviour.specs.Served.{world_of_unit}
use Rattle.jpa_work.specs.context.Steps.{Meets}
use Rattle.jpa_work.specs.context.Undo.{now}
use Rattle.jpql_meaning.specs.declared.eval.datum.Datum.{Datum}
use Rattle.jpa_queries.specs.Queries.{rows_found}
use Rattle.jpa_queries.proofs.Rows.{rows_so, on_any}
use Rattle.jpa_queries.proofs.querying.rows_asked.Goals as goal

pub returns-clause-asks : goal.returns-clause-asks
returns-clause-asks g c =
    let m = c.args.unit.now.metamodel in
    let world = world_of_unit g.B.Behaviour.meaning c.args.unit.now in
    let call = c.args.asked.now in
    let v = now c.flush_if.new.work in
    let q = c.in_ok-select.select in
    let meets = Meets c.rows_found.result v in
    record {
      meets = subst meets (sym (rows_so world c.args.flushes call q c.in_ok-select.arguments (now c.args.work.now) v c.in_ok-select.ensures.meets c.in_ok-flush_if.ensures.meets))
          (subst (λ (ds : List Datum). meets (rows_found m q ds call.first call.max v)) c.as_slice.ensures c.rows_found.ensures.meets);
      since = c.flush_if.ensures.since;
    }

pub returns-clause-ready : goal.returns-clause-ready
returns-clause-ready g c = on_any c.rows_found.result (c.requires.then_ready (now c.flush_if.new.work) c.in_ok-flush_if.ensures.meets).ready

pub rows_found-requires : goal.rows_found-requires
rows_found-requires g c = record { ready = c.requires.then_ready (now c.flush_if.new.work) c.in_ok-flush_if.ensures.meets }
