use Rattle.jpa_lines.proofs.lines.Kept.{run_keeps}
use Rattle.jpa_lines.proofs.lines.run.run.Goals as goal

pub returns-clause-stands : goal.returns-clause-stands
returns-clause-stands g c =
    run_keeps c.args.language g.P.PersistenceProvider.steps g.P.PersistenceProvider.stands g.met.P.PersistenceProvider.kept c.args.provider.now c.answer_lines.new.provider _ _ _ c.answer_lines.result c.answer_lines.ensures.ok c.answer_lines.ensures.err
