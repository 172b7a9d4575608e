use Rattle.std.proofs.Common.{sym, ap, ◌∙◌, drop, ◌&&◌}
use Rattle.std.specs.List.{list_any}
use Rattle.jpa_value.specs.Value.{same_identity}
use Rattle.jpa_open.specs.Leads.{is_of_column}
use Rattle.jpa_constraints.proofs.Leading.{no_pairs_left}
use Rattle.jpa_constraints.proofs.unique.is_owned.Goals as goal

pub returns : goal.returns
returns c =
    sym (c.loop-i.invariant
    ∙ ap (list_any (λ p. is_of_column c.args.column p.0 && list_any (same_identity c.args.id.now) p.1)) (no_pairs_left (drop c.loop-i.i c.args.relations.now) c.args.owned.now c.loop-i.i c.loop-i-test.false))
