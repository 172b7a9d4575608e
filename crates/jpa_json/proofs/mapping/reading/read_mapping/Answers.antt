use Rattle.std.proofs.lemmas.Result.{err_from_is_err_and}
use Rattle.jpa_json.proofs.mapping.Texts.{mapping_refused, mapping_answered}
use Rattle.jpa_json.proofs.mapping.reading.read_mapping.Goals as goal

pub returns-in_err-drafts-clause-read : goal.returns-in_err-drafts-clause-read
returns-in_err-drafts-clause-read c =
    let p = err_from_is_err_and c.from_residual.result c.from_residual.ensures.1 in
    rw (p.1, p.2) (mapping_refused c.args.bytes.now _ c.in_err-drafts.ensures)

pub returns-clause-read : goal.returns-clause-read
returns-clause-read c = mapping_answered c.args.bytes.now _ c.checked.result c.in_ok-drafts.ensures c.checked.ensures.read
