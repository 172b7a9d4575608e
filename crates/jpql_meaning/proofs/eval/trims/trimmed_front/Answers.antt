use Rattle.jpql_meaning.proofs.eval.TakenOff.{front_off}
use Rattle.jpql_meaning.proofs.eval.trims.trimmed_front.Goals as goal

pub returns : goal.returns
returns c =
    let m = c.trim_start_matches.ensures.matches in
    front_off c.args.off.now c.args.text.now c.trim_start_matches.result.now m.0.0 m.0.1 m.1.0 m.1.1 m.1.2
