use Rattle.std.proofs.Common.{subst}
use Rattle.jpql_text.specs.text.Answers.{IsRefused}
use Rattle.jpa_asked.proofs.Read.{read_argument, read_refused, not_argument}
use Rattle.jpa_asked.proofs.statement.unread.Goals as goal

pub returns-in-IllegalArgument : goal.returns-in-IllegalArgument
returns-in-IllegalArgument c = record {
  meets = λ l lists text h u w. read_argument l lists text c.args.uses_lists w c.in-IllegalArgument.field-0 u (subst (IsRefused l lists text) c.in-IllegalArgument.is h);
}

pub returns-in_default : goal.returns-in_default
returns-in_default c = record { meets = λ l lists text h u w. read_refused l lists text w c.args.cause (not_argument c.args.cause c.in_default.not-IllegalArgument) h }
