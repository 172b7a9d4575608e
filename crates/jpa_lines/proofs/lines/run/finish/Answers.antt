use Rattle.std.proofs.Common.{◌≡◌, ◌<◌, length, arith}
use Rattle.std.proofs.lemmas.Bool.Decides.{nat_tests}
use Rattle.std.proofs.lemmas.Result.{on_ok_weaker, IfErr-weaker}
use Rattle.std.proofs.lemmas.List.{nil_from_length}
use Rattle.jpa_lines.proofs.lines.SoFar.{all_served, last_served, last_off}
use Rattle.jpa_lines.proofs.lines.run.finish.Goals as goal

pub returns-then-is_empty-clause-ok : goal.returns-then-is_empty-clause-ok
returns-then-is_empty-clause-ok g c =
    let none : length c.args.held.now ≡ 0 = grind (arith, nat_tests, c.if-is_empty.ensures) in
    all_served c.args.language g.P.PersistenceProvider.steps c.args.provider.now c.args.held.now (g.W.Write.contents c.args.writer.now) (nil_from_length c.args.held.now none)

pub returns-else-is_empty-clause-ok : goal.returns-else-is_empty-clause-ok
returns-else-is_empty-clause-ok g c =
    let some : 0 < length c.args.held.now = grind (arith, nat_tests, c.if-is_empty.ensures, c.is_empty.ensures) in
    on_ok_weaker c.serve_last.result (last_served c.args.language g.P.PersistenceProvider.steps c.args.provider.now c.serve_last.new.provider c.args.held.now _ _ some) c.serve_last.ensures.ok

pub returns-else-is_empty-clause-err : goal.returns-else-is_empty-clause-err
returns-else-is_empty-clause-err g c =
    let some : 0 < length c.args.held.now = grind (arith, nat_tests, c.if-is_empty.ensures, c.is_empty.ensures) in
    IfErr-weaker c.serve_last.result _ _ (λ fault. last_off c.args.language g.P.PersistenceProvider.steps c.args.provider.now c.serve_last.new.provider fault c.args.held.now _ _ some) c.serve_last.ensures.err
