-- One table is read as the unit opens it.
use Rattle.std.specs.Prelude.{◌≡◌, ℕ, pos, true, false, cond, ◌==◌, ◌&&◌, not, List, ◌++◌, Option, IfSome}
use Rattle.std.proofs.Common.{sym, ap, subst, ◌∙◌}
use Rattle.sqlite_trees.specs.declared.store.Store.{Ghosts}
use Rattle.jpa_model.specs.Kept.{IsDescribed}
use Rattle.jpa_behaviour.specs.Behaviour.{World}
use Rattle.jpa_description.specs.declared.history.history.History.{History}
use Rattle.jpa_rows.specs.rows.Rows.{Rows, AreRising, table_of}
use Rattle.jpa_cells.specs.declared.meaning.CellRow.{CellRow}
use Rattle.jpa_cells.specs.meaning.Tables.{AreRows}
use Rattle.jpa_cells.specs.meaning.Store.{IsClean, IsOpen, tables_in}
use Rattle.jpa_cells.specs.rowspace.Reading.{AreRead}
use Rattle.jpa_cells.specs.rowspace.Space.{Space}
use Rattle.jpa_opening.specs.migration.Migration.{has_revision_row}
use Rattle.jpa_opening.specs.declared.reader.migration.Migration.{Migration}
use Rattle.jpa_opening.specs.reader.Opened.{due_after, rows_opened, changes_opened, IsIdle, ReadsOpened}
use Rattle.jpa_opening.proofs.reader.Migrated.{opened_rows_are}

module _ {S : Type 0} (g : Ghosts S) (world : World) (described : IsDescribed world.model) (h : History) (old new : Space S) (table : ℕ) (before noted after : Migration) (stored rows : List CellRow) (part : Rows) (stopped : Option (List ℕ))
    (found : IsClean g new.store.conn → stored ≡ tables_in g old.store.conn (pos table)) (rise : IsClean g new.store.conn → AreRows stored) (notes : noted ≡ record before { is_due = due_after world.model table stored before.is_due })
    (opens : AreRows stored → rows ≡ rows_opened world h noted.is_due table stored) (adds : AreRows stored → after.changes ≡ noted.changes ++ changes_opened world h noted.is_due table stored)
    (stays : after.is_due ≡ noted.is_due) (idle : noted.is_due ≡ false → after ≡ noted) (reads : IfSome (table_of old.schema table) (λ rule. AreRead rule rows part stopped)) (rises : AreRows rows → AreRising part)
    (live : IsClean g new.store.conn → IsOpen g old.store.conn × IsOpen g new.store.conn) where
  due_is : after.is_due ≡ due_after world.model table stored before.is_due
  due_is = stays ∙ ap (λ (n : Migration). n.is_due) notes

  rows_are : AreRows stored → rows ≡ rows_opened world h after.is_due table stored
  rows_are are = opens are ∙ ap (λ d. rows_opened world h d table stored) (sym stays)

  changes_are : AreRows stored → after.changes ≡ before.changes ++ changes_opened world h after.is_due table stored
  changes_are are =
      adds are ∙ ap (λ (n : Migration). n.changes ++ changes_opened world h noted.is_due table stored) notes
      ∙ ap (λ d. before.changes ++ changes_opened world h d table stored) (sym stays)

  -- with revision 1 table 0 tells that nothing is due
  none_due : world.model.revision ≡ 1 → before.is_due ≡ false → due_after world.model table stored before.is_due ≡ false
  none_due one none =
      elim (table == 0) as (λ b. cond b ((world.model.revision == 2) && not (has_revision_row stored)) before.is_due ≡ false) [
        | true ↦ ap (λ n. (n == 2) && not (has_revision_row stored)) one
        | false ↦ none
      ]

  still_idle : world.model.revision ≡ 1 → IsIdle before → IsIdle after
  still_idle one none =
      let same = idle (ap (λ (n : Migration). n.is_due) notes ∙ none_due one none.0) ∙ notes in
      (ap (λ (n : Migration). n.is_due) same ∙ none_due one none.0, ap (λ (n : Migration). n.changes) same ∙ none.1)

  pub reads_opened : ReadsOpened g world h old new table before after part stopped
  reads_opened = record {
    due = λ clean. due_is ∙ ap (λ rs. due_after world.model table rs before.is_due) (found clean);
    changes = λ clean. changes_are (rise clean) ∙ ap (λ rs. before.changes ++ changes_opened world h after.is_due table rs) (found clean);
    found = λ clean. subst AreRows (found clean) (rise clean);
    read = λ clean.
        subst (λ rs. IfSome (table_of old.schema table) (λ rule. AreRead rule (rows_opened world h after.is_due table rs) part stopped)) (found clean)
        (subst (λ rs. IfSome (table_of old.schema table) (λ rule. AreRead rule rs part stopped)) (rows_are (rise clean)) reads);
    rising = λ clean. rises (subst AreRows (sym (rows_are (rise clean))) (opened_rows_are world described h after.is_due table stored (rise clean)));
    live = live;
    first = still_idle;
  }
