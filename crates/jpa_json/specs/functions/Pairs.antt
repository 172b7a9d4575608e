-- The pairs of a table: an attribute's value, and the value that stands for it in the column.
use Rattle.std.specs.Prelude.{Bool, ◌||◌, List, find, Option, option_map}
use Rattle.jpa_value.specs.declared.value.Value.{Value}
use Rattle.jpa_value.specs.Value.{same_value}
use Rattle.jpa_json.specs.declared.functions.make.Pair.{Pair}
use Rattle.jpa_json.specs.functions.Distinct.{none_meets}

-- whether two pairs have one attribute's value or one column's value
abbrev pub share_a_side : Pair → Pair → Bool
share_a_side p q = same_value p.attribute q.attribute || same_value p.column q.column

-- no side stands twice
abbrev pub are_apart : List Pair → Bool
are_apart = none_meets share_a_side

-- the pair of a value of the attribute, and of one of the column
abbrev pub with_attribute : List Pair → Value → Option Pair
with_attribute pairs v = find (λ p. same_value p.attribute v) pairs

-- the pair of a value of the column
abbrev pub with_column : List Pair → Value → Option Pair
with_column pairs v = find (λ p. same_value p.column v) pairs

-- what stands beside a value of the attribute, and beside one of the column
abbrev pub column_beside : List Pair → Value → Option Value
column_beside pairs v = option_map (λ p. p.column) (with_attribute pairs v)

-- what stands beside a value of the column
abbrev pub attribute_beside : List Pair → Value → Option Value
attribute_beside pairs v = option_map (λ p. p.attribute) (with_column pairs v)
