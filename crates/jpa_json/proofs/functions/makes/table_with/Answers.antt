use Rattle.jpa_json.proofs.functions.Proven.{table_is}
use Rattle.jpa_json.proofs.functions.makes.table_with.Goals as goal

pub returns-then-none_meets : goal.returns-then-none_meets
returns-then-none_meets c = table_is c.args.pairs _
