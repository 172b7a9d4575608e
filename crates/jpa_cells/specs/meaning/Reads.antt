-- The SELECT of a table whose rows are read one at a time.
use Rattle.std.specs.Prelude.{◌≡◌, ℤ, List, [], ◌∷◌, ◌++◌, map, Option, Some, None, Result, Ok, Err}
use Rattle.sqlite.specs.Order.{Row}
use Rattle.sqlite.specs.declared.types.Value.TheVariants.{Int}
use Rattle.sqlite.specs.Held.{Held, state}
use Rattle.sqlite.specs.Given.{HasGiven}
use Rattle.sqlite.specs.State.{HasCleanDisk, IsUnchanged}
use Rattle.sqlite_trees.specs.declared.store.Store.{Ghosts}
use Rattle.jpa_value.specs.declared.refusal.Cause.{Cause}
use Rattle.jpa_value.specs.declared.refusal.Cause.TheVariants as cause
use Rattle.jpa_cells.specs.meaning.Schema.{table_text}
use Rattle.jpa_cells.specs.meaning.Content.{Entry, HoldsCells, KeepsContent, IsFault, shown_entry, grouped, tables_of}

module _ {S : Type 0} (g : Ghosts S) where
  -- the SELECT is under way, and these are the entries that it has shown
  abbrev pub Shows : ℤ → Held S → List Entry → Type 0
  Shows table conn seen =
      (rows : List Row) × HasGiven g table_text (Int table ∷ []) conn rows × (map shown_entry rows ≡ seen)

  -- it has shown these entries of a table of cells, in no transaction, and the content is as it was first
  pub record HasShown (table : ℤ) (first now : Held S) (seen : List Entry) : Type 0 where
    pub holds : HoldsCells (state g first).now
    pub settled : (state g first).now ≡ (state g first).committed
    pub same : IsUnchanged (state g first) (state g now)
    pub shows : Shows table now seen

  -- one more entry is shown, or those so far are the table; refused, the content is as it was, and a StoreFault has a
  -- cause
  abbrev pub ShowsNext : ℤ → Held S → Held S → Held S → List Entry → Result (Option Entry) Cause → Type 0
  ShowsNext table first old new seen (Ok (Some e)) = HasShown table first new (seen ++ e ∷ [])
  ShowsNext table first old new seen (Ok None) =
      IsUnchanged (state g first) (state g new) × (grouped seen ≡ tables_of (state g first).now table)
  ShowsNext table first old new seen (Err e) =
      KeepsContent (state g first) (state g new) × (e ≡ cause.StoreFault → IsFault (state g old) (state g new))

  -- over a clean disk this holds of each table of which entries were shown
  abbrev pub ShowsOn : Held S → Held S → Result (Option Entry) Cause → Type 0
  ShowsOn old new result = HasCleanDisk (state g new) → (table : ℤ) (first : Held S) (seen : List Entry) →
      HasShown table first old seen → ShowsNext table first old new seen result
