use Rattle.std.proofs.Common.{◌∷◌, [], ◌++◌}
use Rattle.std.proofs.lemmas.Result.{err_from_is_err_and}
use Rattle.jpa_lines.specs.lines.Run.{BreaksOff}
use Rattle.jpa_lines.proofs.lines.SoFar.{end_served, end_off, breaks_off, if_err}
use Rattle.jpa_lines.proofs.lines.run.take_end.Goals as goal

pub returns-in_err-hold-clause-err : goal.returns-in_err-hold-clause-err
returns-in_err-hold-clause-err g c =
    if_err (λ fault. BreaksOff c.args.language g.P.PersistenceProvider.steps c.args.provider.now c.args.provider.now fault c.args.held.now.items (c.args.end.now ++ 10 ∷ []) (g.W.Write.contents c.args.writer.now) (g.W.Write.contents c.args.writer.now))
    c.from_residual.result (λ fault. breaks_off c.args.language g.P.PersistenceProvider.steps c.args.provider.now fault c.args.held.now.items (c.args.end.now ++ 10 ∷ []) _)

pub returns-in_err-serve-clause-err : goal.returns-in_err-serve-clause-err
returns-in_err-serve-clause-err g c =
    let p = err_from_is_err_and c.from_residual-in_err-serve.result c.from_residual-in_err-serve.ensures.1 in
    rw (p.1, p.2)
    (end_off c.args.language g.P.PersistenceProvider.steps c.args.provider.now c.serve.new.provider _ c.args.held.now.items c.hold.new.held.items c.as_slice.result.now c.args.end.now _ _
    c.requires c.in_ok-hold.ensures.ok c.as_slice.ensures.value c.in_err-serve.ensures.err)

pub returns-clause-ok : goal.returns-clause-ok
returns-clause-ok g c =
    end_served c.args.language g.P.PersistenceProvider.steps c.args.provider.now c.serve.new.provider c.args.held.now.items c.hold.new.held.items c.as_slice.result.now c.clear.new.self.items c.args.end.now _ _
    c.requires c.in_ok-hold.ensures.ok c.as_slice.ensures.value c.clear.ensures.items c.in_ok-serve.ensures.ok
