use Rattle.std.proofs.Common.{◌∙◌, arith, ap, sym, Some}
use Rattle.jpql_run.proofs.Alike.{other_one}
use Rattle.jpql_run.proofs.likes.is_other.Goals as goal

pub returns-then-only-le-LAST : goal.returns-then-only-le-LAST
returns-then-only-le-LAST c =
    other_one c.args.escape.now c.as_bytes.result.now c.args.byte (c.in-Some.is ∙ ap Some (sym c.as_bytes.ensures)) c.in-len1.len_at_least c.in-len1.len_below
    (omega (arith, c.if-only-le-LAST.true))
