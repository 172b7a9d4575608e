use Rattle.std.proofs.lemmas.Result.{err_from_is_err_and}
use Rattle.jpa_json.proofs.mapping.Texts.{drafts_refused, drafts_answered}
use Rattle.jpa_json.proofs.mapping.reading.read_drafts.Goals as goal

pub returns-in_err-json : goal.returns-in_err-json
returns-in_err-json c =
    let p = err_from_is_err_and c.from_residual.result c.from_residual.ensures.1 in
    rw (p.1, p.2) (drafts_refused c.args.bytes.now c.json_of.result _ c.json_of.ensures c.in_err-json.ensures)

pub returns : goal.returns
returns c = rw c.or_refuse-2.ensures (drafts_answered c.args.bytes.now c.json_of.result _ c.drafts_of.result c.json_of.ensures c.in_ok-json.ensures c.drafts_of.ensures)
