use Rattle.std.proofs.Common.{sym, subst, true, map, ◌≡◌}
use Rattle.std.proofs.lemmas.List.Sorted.{IsNonDecreasingBy-from_sort}
use Rattle.jpa_rows.specs.declared.rows.schema.Schema.{Schema}
use Rattle.jpa_rows.specs.declared.rows.schema.TableRule.{TableRule}
use Rattle.jpa_object_rows.specs.meaning.Unambiguous.{are_distinct_numbers}
use Rattle.jpa_object_rows.proofs.meaning.Bytes.Described.{unambiguous}
use Rattle.jpa_opening.proofs.reader.Rising.{distinct_tables, sorted_numbers}
use Rattle.jpa_opening.proofs.reader.read.table_numbers.Goals as goal

pub returns-clause-ok : goal.returns-clause-ok
returns-clause-ok c =
    let m = c.args.metamodel.now in
    let clear = unambiguous m c.unit-unit.ensures.described in
    let distinct = subst (λ (s : Schema). are_distinct_numbers (map (λ (t : TableRule). t.table) s.tables) ≡ true) (sym c.requires) (distinct_tables m clear.tables) in
    sorted_numbers c.args.schema.now c.in_ok-numbers.numbers.items c.sort.new.self.items c.in_ok-numbers.ensures.ok distinct c.in_ok-sort.ensures.permutation
    (IsNonDecreasingBy-from_sort (λ x. x) c.sort.new.self.items c.in_ok-sort.ensures.sorted)
