use Rattle.std.proofs.Common.{◌∙◌, ap, map}
use Rattle.std.proofs.lemmas.List.{map-append}
use Rattle.jpql_meaning.specs.plan.Meaning.{source, in_turn}
use Rattle.jpql_meaning.proofs.plan.Parts.{a_range, in_turn_append}
use Rattle.jpql_meaning.proofs.plan.Blocks.{inner, inner_of_all, left_joins, left_null, beside_rows, rows_each, exists_any}
use Rattle.jpql_meaning.proofs.plan.laws.from_laws.Goals as goal

pub returns : goal.returns
returns c = λ m s ps.
    record {
      range = a_range m s ps;
      inner = inner m s ps;
      inner_of_all = inner_of_all m s ps;
      left_keeps = left_joins m s ps;
      left_null = left_null m s ps;
      parted = λ all more t. ap (λ fs. in_turn fs t) (map-append (source m s ps) all more) ∙ in_turn_append (map (source m s ps) all) (map (source m s ps) more) t;
      rows_each = rows_each m s ps;
      beside_rows = beside_rows m s ps;
      exists_any = exists_any m s ps;
    }
