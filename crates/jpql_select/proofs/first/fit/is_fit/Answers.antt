use Rattle.std.proofs.Common.{◌∙◌, sym, subst}
use Rattle.std.specs.Prelude.{All}
use Rattle.jpql_run.specs.Keys.{NeverOverflows}
use Rattle.jpql_select.specs.first.First.{GoesByTuple}
use Rattle.jpql_select.proofs.first.fit.is_fit.Goals as goal

pub returns-then-are_plain : goal.returns-then-are_plain
returns-then-are_plain c = λ h.
    record {
      alone = sym c.is_grouping.ensures ∙ c.if-is_grouping.false;
      all = c.if-statement.false;
      given = subst (All NeverOverflows) c.as_slice.ensures (c.are_plain.ensures c.if-are_plain.true);
      placed = subst (All GoesByTuple) c.as_slice-then-are_plain.ensures (c.are_paths.ensures h);
    }
