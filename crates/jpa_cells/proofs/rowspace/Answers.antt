-- What is answered of a table is answered of the schema's table.
use Rattle.std.proofs.Common.{◌≡◌, ◌∙◌, ◌⊎◌, inl, inr, sym, ap, subst, ℕ, pos, true, cond, List}
use Rattle.std.specs.Prelude.{Result, Ok, Err, IfOk, IfErr, OnOk, Option, Some, None, IsSome, IfSome}
use Rattle.jpa_value.specs.declared.refusal.Cause.{Cause}
use Rattle.jpa_rows.specs.keys.Keys.{key_bytes}
use Rattle.jpa_rows.specs.declared.rows.schema.TableRule.{TableRule}
use Rattle.jpa_rows.specs.declared.rows.schema.Schema.{Schema}
use Rattle.jpa_rows.specs.rows.Rows.{RowId, Row, Rows, AreRising, is_key, table_of}
use Rattle.jpa_cells.specs.declared.meaning.Cell.{Cell}
use Rattle.jpa_cells.specs.declared.meaning.CellRow.{CellRow}
use Rattle.jpa_cells.specs.meaning.Tables.{Tables, AreRows, cells_at}
use Rattle.jpa_cells.specs.rowspace.Stored.{table_if, table_for}
use Rattle.jpa_cells.specs.rowspace.Reading.{IsFound, IsIllFormed, AreRead}
use Rattle.jpa_cells.specs.rowspace.Space.{IsStoreCause}
use Rattle.jpa_cells.proofs.rowspace.Ids.{numbered}
use Rattle.jpa_cells.proofs.rowspace.Readings.{read_rises}

module _ (schema : Schema) (id : RowId) (rule : TableRule) (is : table_of schema id.table ≡ Some rule) (named : is_key rule.key id.key ≡ true) where
  pub its_table : table_for schema id ≡ Some rule
  its_table = ap (λ o. table_if o id.key) is ∙ ap (λ b. cond b (Some rule) None) named

  abbrev Cells : Tables → ℕ → List Cell
  Cells tables n = cells_at (key_bytes id.key) (tables (pos n))

  pub got_found : (tables : Tables) (r : Result (Option Row) Cause) → IfOk r (IsFound rule (Cells tables rule.table))
      → IfOk r (λ found. IfSome (table_for schema id) (λ table. IsFound table (Cells tables id.table) found))
  got_found tables (Err e) h = tt
  got_found tables (Ok found) h =
      subst (λ o. IfSome o (λ table. IsFound table (Cells tables id.table) found)) (sym its_table)
      (subst (λ n. IsFound rule (Cells tables n) found) (numbered schema id.table rule is) h)

  pub got_refused : (Clean Before After : Type 0) (tables : Tables) (r : Result (Option Row) Cause)
      → IfErr r (λ cause. IsStoreCause cause ⊎ ((cause ≡ Cause.Damaged rule.table (key_bytes id.key)) × (Clean → Before × After × IsIllFormed rule (Cells tables rule.table))))
      → IfErr r (λ cause. IsStoreCause cause ⊎ ((cause ≡ Cause.Damaged id.table (key_bytes id.key)) × (Clean → IfSome (table_for schema id) (λ table. Before × After × IsIllFormed table (Cells tables id.table)))))
  got_refused Clean Before After tables (Ok found) h = tt
  got_refused Clean Before After tables (Err cause) (inl told) = inl told
  got_refused Clean Before After tables (Err cause) (inr damaged) =
      let own = numbered schema id.table rule is in
      inr (
        damaged.0 ∙ ap (λ n. Cause.Damaged n (key_bytes id.key)) own,
        λ clean. subst (λ o. IfSome o (λ table. Before × After × IsIllFormed table (Cells tables id.table))) (sym its_table)
            (subst (λ n. Before × After × IsIllFormed rule (Cells tables n)) own (damaged.1 clean)),
      )

module _ (schema : Schema) (n : ℕ) (rule : TableRule) (is : table_of schema n ≡ Some rule) where
  pub read_all : (tables : Tables) (r : Result (Rows × Option (List ℕ)) Cause) → IfOk r (λ read. AreRead rule (tables (pos rule.table)) read.0 read.1)
      → IfOk r (λ read. IfSome (table_of schema n) (λ table. AreRead table (tables (pos n)) read.0 read.1))
  read_all tables (Err e) h = tt
  read_all tables (Ok read) h =
      subst (λ o. IfSome o (λ table. AreRead table (tables (pos n)) read.0 read.1)) (sym is)
      (subst (λ m. AreRead rule (tables (pos m)) read.0 read.1) (numbered schema n rule is) h)

  pub rows_rise : {A : Type 0} (tables : Tables) (r : Result A Cause) → OnOk r (AreRows (tables (pos rule.table))) → OnOk r (IsSome (table_of schema n) → AreRows (tables (pos n)))
  rows_rise tables (Err e) h = tt
  rows_rise tables (Ok x) h = λ some. subst (λ m. AreRows (tables (pos m))) (numbered schema n rule is) h

pub all_rise : (rule : TableRule) (stored : List CellRow) (r : Result (Rows × Option (List ℕ)) Cause) → IfOk r (λ read. AreRead rule stored read.0 read.1) → OnOk r (AreRows stored) → IfOk r (λ read. AreRising read.0)
all_rise rule stored (Err e) h up = tt
all_rise rule stored (Ok read) h up = read_rises rule stored read.0 read.1 up h
