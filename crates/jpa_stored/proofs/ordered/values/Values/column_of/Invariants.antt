use Rattle.std.proofs.Common.{◌≡◌, ◌<◌, ℕ, true, get_or}
use Rattle.jpa_stored.specs.declared.ordered.column.Column.{Column}
use Rattle.jpa_stored.specs.ordered.Values.{is_of, HaveColumns}
use Rattle.jpa_stored.proofs.ordered.values.Values.column_of.Given as goal

-- none of those so far
abbrev pub invariant-loop-column : goal.invariant-loop-column
invariant-loop-column l = (k : ℕ) (d : Column) → k < l.column-index → is_of l.class l.member (get_or (l.self).columns k d) ≡ true →
    HaveColumns l.metamodel (l.self).columns l.class l.member (get_or (l.self).columns k d).number → ⊥
