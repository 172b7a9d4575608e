use Rattle.std.proofs.lemmas.Result.{err_from_is_err_and}
use Rattle.jpa_json.proofs.functions.Texts.{text_refused, functions_read, once_read}
use Rattle.jpa_json.proofs.functions.reading.read_functions.Goals as goal

pub returns-in_err-json-clause-functions : goal.returns-in_err-json-clause-functions
returns-in_err-json-clause-functions c =
    let p = err_from_is_err_and c.from_residual.result c.from_residual.ensures.1 in
    rw (p.1, p.2) (text_refused c.args.bytes.now c.json_of.result _ c.json_of.ensures c.in_err-json.ensures)

pub returns-clause-functions : goal.returns-clause-functions
returns-clause-functions c =
    functions_read c.args.bytes.now c.json_of.result _ c.functions_at.result c.json_of.ensures c.in_ok-json.ensures c.functions_at.ensures

pub returns-clause-once : goal.returns-clause-once
returns-clause-once c =
    once_read c.args.bytes.now c.functions_at.result
    (functions_read c.args.bytes.now c.json_of.result _ c.functions_at.result c.json_of.ensures c.in_ok-json.ensures c.functions_at.ensures)
