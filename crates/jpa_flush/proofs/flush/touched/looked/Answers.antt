use Rattle.jpa_work.specs.context.Undo.{now}
use Rattle.jpa_flush.specs.flush.Marked.{IsUntouched}
use Rattle.jpa_flush.proofs.flush.Choosing.{none_elsewhere, untouched_elsewhere}
use Rattle.jpa_flush.proofs.flush.touched.looked.Goals as goal

pub returns-then-not-is_known-clause-ok : goal.returns-then-not-is_known-clause-ok
returns-then-not-is_known-clause-ok c =
    let w = now c.args.work.now in
    none_elsewhere (IsUntouched c.args._metamodel.now w _) w.context c.len-len.result c.in_ok-places.places c.len-len.ensures c.in_ok-places.ensures.rising c.in_ok-places.ensures.all

pub returns-clause-ok : goal.returns-clause-ok
returns-clause-ok c =
    let u = c.args.work.now in
    untouched_elsewhere c.args._metamodel.now u c.in_ok-touched.touched.keys c.requires.ready.distinct c.requires.marked (c.is_known.ensures c.if-not-is_known.false) c.in_ok-touched.ensures.ok
    c.are_linked_still-linked.result c.len-len.result c.in_ok-places-2.places c.are_linked_still-linked.ensures c.len-len.ensures c.in_ok-places-2.ensures.rising c.in_ok-places-2.ensures.all
