use Rattle.std.proofs.Common.{List, sym, subst}
use Rattle.jpa_stored.specs.declared.ordered.valued.Valued.{Valued}
use Rattle.jpa_stored.specs.ordered.Values.{IsIn}
use Rattle.jpa_stored.proofs.ordered.Listed.{is_listed}
use Rattle.jpa_stored.proofs.ordered.entries.list_entry.Goals as goal

pub returns-clause-added : goal.returns-clause-added
returns-clause-added c = subst (λ (vs : List Valued). IsIn vs c.args.entry) (sym c.in_ok-push.ensures.items) (is_listed c.args.entries.now.items c.args.entry)
