-- The numbers of columns fit 32 bits.
use Rattle.std.specs.Prelude.{◌<◌, ◌^◌, List}
use Rattle.std.specs.List.{AllByRecursion}
use Rattle.jpa_model.specs.declared.unit.Attribute.{Attribute}
use Rattle.jpa_model.specs.declared.unit.Relation.{Relation}
use Rattle.jpa_model.specs.Chains.{column_of}
use Rattle.jpa_rows.specs.rows.Numbers.{IsNarrowLink}

-- the columns of attributes fit 32 bits
abbrev pub HaveNarrowColumns : List Attribute → Type 0
HaveNarrowColumns = AllByRecursion (λ a. a.column < 2 ^ 32)

-- of the sides that have one
abbrev pub HaveNarrowLinks : List Relation → Type 0
HaveNarrowLinks = AllByRecursion (λ r. IsNarrowLink (column_of r.side))
