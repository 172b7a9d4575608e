use Rattle.std.proofs.Common.{take, subst, arith}
use Rattle.std.proofs.lemmas.Result.{on_ok_weaker, err_from_is_err_and, IfErr-weaker}
use Rattle.jpa_lines.specs.lines.Run.{Finishes, FailsToFinish}
use Rattle.jpa_lines.proofs.lines.Taken.{begins, broken_here, broken_now, broken_within, goes_further, served_all, broken_at_end, stays_underway, none_taken, answers_read, no_read, keeps_here}
use Rattle.jpa_lines.proofs.lines.run.answer_lines.Goals as goal

pub reads-init : goal.reads-init
reads-init g c = rw c.new-held.ensures.items (begins c.args.language g.P.PersistenceProvider.steps c.args.provider.now (g.R.Read.remaining c.args.reader.now) (g.W.Write.contents c.args.writer.now))

pub returns-in_default-clause-err : goal.returns-in_default-clause-err
returns-in_default-clause-err g c = broken_now c.args.language g.P.PersistenceProvider.steps c.args.provider.now c.reads.provider _ _ _ c.reads.held.items _ _ c.reads.invariant

pub returns-then-count-eq0-clause-ok : goal.returns-then-count-eq0-clause-ok
returns-then-count-eq0-clause-ok g c =
    on_ok_weaker c.finish.result
    (λ f. served_all c.args.language g.P.PersistenceProvider.steps c.args.provider.now c.reads.provider c.finish.new.provider _ _ _ c.reads.held.items _ _ _ c.reads.invariant
    (none_taken _ _ c.in-Ok.count c.read.new.buf c.if-count-eq0.true c.in-Ok.ensures.bytes.0)
    (c.in-Ok.ensures.bytes.1 c.if-count-eq0.true (omega arith))
    (subst (λ xs. Finishes c.args.language g.P.PersistenceProvider.steps c.reads.provider c.finish.new.provider xs (g.W.Write.contents c.reads.writer) (g.W.Write.contents c.finish.new.writer)) c.as_slice.ensures.value f))
    c.finish.ensures.ok

pub returns-then-count-eq0-clause-err : goal.returns-then-count-eq0-clause-err
returns-then-count-eq0-clause-err g c =
    IfErr-weaker c.finish.result _ _
    (λ fault f. broken_at_end c.args.language g.P.PersistenceProvider.steps c.args.provider.now c.reads.provider c.finish.new.provider fault _ _ _ c.reads.held.items _ _ _ c.reads.invariant
    (none_taken _ _ c.in-Ok.count c.read.new.buf c.if-count-eq0.true c.in-Ok.ensures.bytes.0)
    (c.in-Ok.ensures.bytes.1 c.if-count-eq0.true (omega arith))
    (subst (λ xs. FailsToFinish c.args.language g.P.PersistenceProvider.steps c.reads.provider c.finish.new.provider fault xs (g.W.Write.contents c.reads.writer) (g.W.Write.contents c.finish.new.writer)) c.as_slice.ensures.value f))
    c.finish.ensures.err

pub returns-in_err-take_piece-clause-err : goal.returns-in_err-take_piece-clause-err
returns-in_err-take_piece-clause-err g c =
    let p = err_from_is_err_and c.from_residual.result c.from_residual.ensures.1 in
    rw (p.1, p.2)
    (broken_within c.args.language g.P.PersistenceProvider.steps c.args.provider.now c.reads.provider c.take_piece.new.provider _ _ _ _ c.reads.held.items (take c.in-Ok.count c.read.new.buf) _ _ _ c.reads.invariant
    c.in-Ok.ensures.bytes.0 c.in_err-take_piece.ensures.err)

pub returns-then-is_err-clause-err : goal.returns-then-is_err-clause-err
returns-then-is_err-clause-err g c =
    broken_here c.args.language g.P.PersistenceProvider.steps c.args.provider.now c.take_piece.new.provider _ _ _ c.take_piece.new.held.items _ _ _
    (goes_further c.args.language g.P.PersistenceProvider.steps c.args.provider.now c.reads.provider c.take_piece.new.provider _ _ _ c.reads.held.items c.take_piece.new.held.items (take c.in-Ok.count c.read.new.buf) _ _ _ c.reads.invariant
    c.in-Ok.ensures.bytes.0 c.in_ok-take_piece.ensures.ok)
    c.flush.ensures.bytes

pub reads-preserved : goal.reads-preserved
reads-preserved g c =
    stays_underway c.args.language g.P.PersistenceProvider.steps c.args.provider.now c.take_piece.new.provider _ _ c.take_piece.new.held.items _ _ _
    (goes_further c.args.language g.P.PersistenceProvider.steps c.args.provider.now c.reads.provider c.take_piece.new.provider _ _ _ c.reads.held.items c.take_piece.new.held.items (take c.in-Ok.count c.read.new.buf) _ _ _ c.reads.invariant
    c.in-Ok.ensures.bytes.0 c.in_ok-take_piece.ensures.ok)
    c.flush.ensures.bytes

pub returns-clause-err : goal.returns-clause-err
returns-clause-err g c = broken_now c.args.language g.P.PersistenceProvider.steps c.args.provider.now c.reads.provider _ _ _ c.reads.held.items _ _ c.reads.invariant

pub returns-in_default-clause-read : goal.returns-in_default-clause-read
returns-in_default-clause-read g c = answers_read c.args.language g.P.PersistenceProvider.steps c.args.provider.now c.reads.provider _ _ _ c.reads.held.items _ _ c.reads.invariant c.in_default.ensures.bytes

pub returns-then-count-eq0-clause-read : goal.returns-then-count-eq0-clause-read
returns-then-count-eq0-clause-read g c = IfErr-weaker c.finish.result _ _ (no_read c.args.language g.P.PersistenceProvider.steps c.args.provider.now c.finish.new.provider _ _ _ _) c.finish.ensures.no_read

pub returns-in_err-take_piece-clause-read : goal.returns-in_err-take_piece-clause-read
returns-in_err-take_piece-clause-read g c =
    let p = err_from_is_err_and c.from_residual.result c.from_residual.ensures.1 in
    rw (p.1, p.2) (no_read c.args.language g.P.PersistenceProvider.steps c.args.provider.now c.take_piece.new.provider _ _ _ _ c.in_err-take_piece.field-0.0 c.in_err-take_piece.ensures.no_read)

pub returns-clause-read : goal.returns-clause-read
returns-clause-read g c = answers_read c.args.language g.P.PersistenceProvider.steps c.args.provider.now c.reads.provider _ _ _ c.reads.held.items _ _ c.reads.invariant (keeps_here _)
