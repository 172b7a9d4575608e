use Rattle.jpql_meaning.proofs.eval.TakenOff.{end_off}
use Rattle.jpql_meaning.proofs.eval.trims.trimmed_end.Goals as goal

pub returns : goal.returns
returns c =
    let m = c.trim_end_matches.ensures.matches in
    end_off c.args.off.now c.args.text.now c.trim_end_matches.result.now m.0.0 m.0.1 m.1.0 m.1.1 m.1.2
