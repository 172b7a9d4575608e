-- The rows that are asked, part by part.
use Rattle.std.proofs.Common.{◌≡◌, ◌∙◌, Bool, List, Result, Ok, Err, ap}
use Rattle.std.specs.Prelude.{OnOk}
use Rattle.jpa_behaviour.specs.Behaviour.{World}
use Rattle.jpa_work.specs.context.Steps.{◌>>◌, Outcome, Done, after}
use Rattle.jpa_work.specs.context.Work.{Work}
use Rattle.jpql_trees.specs.declared.typed.typed.TypedSelect.{TypedSelect}
use Rattle.jpql_meaning.specs.declared.eval.datum.Datum.{Datum}
use Rattle.jpa_asked.specs.declared.asked.Asked.{Asked}
use Rattle.jpa_flush.specs.flush.Flush.{flush_if}
use Rattle.jpa_queries.specs.Queries.{judged, rows_found, rows_asked}

pub rows_so : (world : World) (flushes : Bool) (call : Asked) (select : TypedSelect) (arguments : List Datum) (w v : Work) →
    judged world.model call w ≡ Done (select, arguments) w → flush_if flushes world w ≡ Done tt v →
    rows_asked world flushes call w ≡ rows_found world.model select arguments call.first call.max v
rows_so world flushes call select arguments w v asked flushed =
    ap (λ (o : Outcome (TypedSelect × List Datum)). after o (λ q. flush_if flushes world >> rows_found world.model q.0 q.1 call.first call.max)) asked
    ∙ ap (λ o. after o (λ _. rows_found world.model select arguments call.first call.max)) flushed

pub on_any : {A E P : Type 0} (r : Result A E) → P → OnOk r P
on_any (Ok a) p = p
on_any (Err e) p = tt
