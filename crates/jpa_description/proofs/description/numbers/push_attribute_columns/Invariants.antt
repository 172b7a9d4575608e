use Rattle.std.proofs.Common.{◌≡◌, ◌++◌, map, drop}
use Rattle.jpa_description.proofs.description.numbers.push_attribute_columns.Given as goal

abbrev pub invariant-loop-attribute : goal.invariant-loop-attribute
invariant-loop-attribute l =
    l.columns.items ++ map (λ a. a.column) (drop l.attribute-index l.attributes) ≡ l.fn.columns.items ++ map (λ a. a.column) l.attributes
