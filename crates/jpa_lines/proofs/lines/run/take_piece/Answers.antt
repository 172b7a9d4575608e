use Rattle.std.proofs.lemmas.Result.{err_from_is_err_and, on_ok_weaker}
use Rattle.jpa_lines.specs.lines.Run.{BreaksOff}
use Rattle.jpa_lines.proofs.lines.Feeds.{end_unbroken, feed_within, line_more, line_breaks, rest_held, rest_breaks}
use Rattle.jpa_lines.proofs.lines.SoFar.{if_err}
use Rattle.jpa_lines.proofs.lines.run.take_piece.Goals as goal

pub take_end-requires : goal.take_end-requires
take_end-requires g c = end_unbroken c.args.piece.now c.lines.done c.in-Some.len c.in-Some.ensures

pub returns-in_err-take_end-clause-err : goal.returns-in_err-take_end-clause-err
returns-in_err-take_end-clause-err g c =
    let p = err_from_is_err_and c.from_residual.result c.from_residual.ensures.1 in
    rw (p.1, p.2)
    (line_breaks c.args.language g.P.PersistenceProvider.steps c.args.provider.now c.lines.provider c.take_end.new.provider c.args.held.now.items c.lines.held.items c.take_end.new.held.items c.args.piece.now c.lines.done _ _ _
    c.lines.invariant.gone c.in_err-take_end.field-0.0 c.in-Some.len c.in-Some.ensures c.in_err-take_end.ensures.err)

pub lines-preserved : goal.lines-preserved
lines-preserved g c = record {
  within = feed_within c.args.piece.now c.lines.done c.in-Some.len c.lines.invariant.within c.in-Some.ensures;
  gone =
      line_more c.args.language g.P.PersistenceProvider.steps c.args.provider.now c.lines.provider c.take_end.new.provider c.args.held.now.items c.lines.held.items c.take_end.new.held.items c.args.piece.now c.lines.done _ _ _
      c.lines.invariant.gone c.in-Some.len c.in-Some.ensures c.in_ok-take_end.ensures.ok;
}

pub returns-clause-ok : goal.returns-clause-ok
returns-clause-ok g c =
    on_ok_weaker c.hold.result
    (rest_held c.args.language g.P.PersistenceProvider.steps c.args.provider.now c.lines.provider c.lines.provider c.args.held.now.items c.lines.held.items c.hold.new.held.items c.args.piece.now c.lines.done _ _ (g.W.Write.contents c.lines.writer)
    c.lines.invariant.gone c.in_default.ensures)
    c.hold.ensures.ok

pub returns-clause-err : goal.returns-clause-err
returns-clause-err g c =
    if_err (λ fault. BreaksOff c.args.language g.P.PersistenceProvider.steps c.args.provider.now c.lines.provider fault c.args.held.now.items c.args.piece.now (g.W.Write.contents c.args.writer.now) (g.W.Write.contents c.lines.writer))
    c.hold.result
    (rest_breaks c.args.language g.P.PersistenceProvider.steps c.args.provider.now c.lines.provider c.lines.provider c.args.held.now.items c.lines.held.items c.lines.held.items c.args.piece.now c.lines.done _ _ (g.W.Write.contents c.lines.writer) c.lines.invariant.gone)
