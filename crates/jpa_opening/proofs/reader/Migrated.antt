-- The migration of all tables of a store: what is read of them so, and the changes that make them so.
use Rattle.std.specs.Prelude.{◌≡◌, ℕ, pos, Bool, true, false, cond, List, []}
use Rattle.std.proofs.Common.{refl, sym, ap, subst, ◌∙◌}
use Rattle.std.proofs.lemmas.List.Sorted.{IsPermutation-refl, IsPermutation-sym}
use Rattle.std.specs.List.{AllByRecursion, flat_map}
use Rattle.std.specs.List.Sorted.{IsPermutation}
use Rattle.sqlite_trees.proofs.ListLemmas.{IsPermutation-flat_map, all-permutation, flat_map_none}
use Rattle.jpa_model.specs.Kept.{IsDescribed}
use Rattle.jpa_behaviour.specs.Behaviour.{World}
use Rattle.jpa_description.specs.declared.history.history.History.{History}
use Rattle.jpa_rows.specs.rows.Cells.{tables_of}
use Rattle.jpa_rows.proofs.laws.Lists.{all_each}
use Rattle.jpa_cells.specs.declared.meaning.CellRow.{CellRow}
use Rattle.jpa_cells.specs.declared.meaning.CellChange.{CellChange}
use Rattle.jpa_cells.specs.meaning.Tables.{Tables, AreRows, tables_after}
use Rattle.jpa_opening.specs.migration.Migration.{is_due, rows_migrated, changes_made}
use Rattle.jpa_opening.proofs.migration.Laws.{rows_migrated_rows}
use Rattle.jpa_opening.proofs.migration.Written.{migrated_tables}
use Rattle.jpa_opening.specs.reader.Opened.{rows_opened, changes_opened, MakesOpened}

module _ (world : World) (described : IsDescribed world.model) (h : History) where
  -- rows stay such
  pub opened_rows_are : (due : Bool) (n : ℕ) (rows : List CellRow) → AreRows rows → AreRows (rows_opened world h due n rows)
  opened_rows_are true n rows are = rows_migrated_rows world described h (pos n) rows are
  opened_rows_are false n rows are = are

  module _ (tables : Tables) (numbers : List ℕ) (order : IsPermutation (tables_of world.model) numbers) (are : AllByRecursion (λ n. AreRows (tables (pos n))) numbers) where
    abbrev made : ℕ → List CellChange
    made n = changes_made world h (pos n) (tables (pos n))

    -- what is gathered table by table are the changes that are due, in the order of the tables
    pub makes_opened : (changes : List CellChange) → changes ≡ flat_map (λ n. changes_opened world h (is_due world.model (tables (pos 0))) n (tables (pos n))) numbers → MakesOpened world h tables changes
    makes_opened changes is = by_test (is_due world.model (tables (pos 0))) refl is
      where
        by_test : (b : Bool) → is_due world.model (tables (pos 0)) ≡ b → changes ≡ flat_map (λ n. changes_opened world h b n (tables (pos n))) numbers → MakesOpened world h tables changes
        by_test true e is = record {
          due = subst (λ b. IsPermutation (cond b (flat_map made (tables_of world.model)) []) changes) (sym e)
              (subst (IsPermutation (flat_map made (tables_of world.model))) (sym is) (IsPermutation-flat_map made (tables_of world.model) numbers order));
          makes = ap (λ cs. tables_after cs tables) is ∙ migrated_tables world described h tables (all_each (λ n. AreRows (tables (pos n))) (tables_of world.model) (all-permutation (λ n. AreRows (tables (pos n))) numbers (tables_of world.model) (IsPermutation-sym (tables_of world.model) numbers order) are)) numbers order ∙ sym (λ i t. cond (e i) (rows_migrated world h t (tables t)) (tables t));
        }
        by_test false e is =
            let none : changes ≡ [] = is ∙ flat_map_none (λ n. []) (λ n. refl) numbers in
            record {
              due = subst (λ b. IsPermutation (cond b (flat_map made (tables_of world.model)) []) changes) (sym e) (subst (IsPermutation []) (sym none) (IsPermutation-refl []));
              makes = ap (λ cs. tables_after cs tables) none ∙ sym (λ i t. cond (e i) (rows_migrated world h t (tables t)) (tables t));
            }
