-- One table more is read.
use Rattle.std.specs.Prelude.{◌≡◌, ◌⊎◌, ℕ, zero, suc, pos, ◌+◌, ◌<◌, Bool, true, false, cond, ◌==◌, List, [], ◌∷◌, ◌++◌, length, take, drop, slice_index_or, Option, Some, None, IsSome, IfSome}
use Rattle.std.proofs.Common.{refl, sym, ap, subst, ◌∙◌, arith, add-one, inr}
use Rattle.std.proofs.lemmas.Grind.{flat_map-append}
use Rattle.std.specs.List.{AllByRecursion, flat_map}
use Rattle.sqlite_trees.specs.declared.store.Store.{Ghosts}
use Rattle.jpa_model.specs.Kept.{IsDescribed}
use Rattle.jpa_behaviour.specs.Behaviour.{World}
use Rattle.jpa_description.specs.declared.history.history.History.{History}
use Rattle.jpa_rows.specs.declared.rows.schema.Schema.{Schema}
use Rattle.jpa_rows.specs.declared.rows.schema.TableRule.{TableRule}
use Rattle.jpa_rows.specs.rows.Rows.{RowId, Row, Rows, table_of}
use Rattle.jpa_rows.proofs.laws.Facts.{true_false}
use Rattle.jpa_object_rows.proofs.meaning.Bytes.Orders.{are_same_numbers}
use Rattle.jpa_cells.specs.declared.meaning.CellChange.{CellChange}
use Rattle.jpa_cells.specs.meaning.Tables.{Tables, AreRows}
use Rattle.jpa_cells.specs.meaning.Store.{up_to_greatest, IsClean, IsOpen, tables_in}
use Rattle.jpa_cells.specs.rowspace.Reading.{AreRead, IsReadBy}
use Rattle.jpa_cells.specs.rowspace.Space.{Space}
use Rattle.jpa_cells.proofs.rowspace.Holding.{clean_before}
use Rattle.jpa_cells.proofs.rowspace.Ids.{numbered}
use Rattle.jpa_opening.specs.migration.Migration.{is_due, opened_tables}
use Rattle.jpa_opening.specs.declared.reader.migration.Migration.{Migration}
use Rattle.jpa_opening.specs.reader.Opened.{due_after, rows_opened, changes_opened, IsIdle, ReadsOpened}
use Rattle.jpa_opening.specs.reader.Reads.{IsRising, AreReadWhole, AreReadInto, KeepsTables}
use Rattle.jpa_opening.proofs.reader.Keeping.{keeps_then, counted_more}
use Rattle.jpa_opening.proofs.reader.Migrated.{opened_rows_are}
use Rattle.jpa_opening.proofs.reader.Parts.{one_of, all_append, append_nil}
use Rattle.jpa_opening.proofs.reader.Reading.{own_table, read_more}

-- ---- the first numbers of a list

taken_more : (xs : List ℕ) (i : ℕ) → i < length xs → take (suc i) xs ≡ take i xs ++ slice_index_or xs i 0 ∷ []
taken_more [] i less = absurd (omega arith)
taken_more (x ∷ xs) zero less = refl
taken_more (x ∷ xs) (suc i) less = ap (λ l. x ∷ l) (taken_more xs i (omega arith))

cut : (xs : List ℕ) (i : ℕ) → i < length xs → xs ≡ take i xs ++ slice_index_or xs i 0 ∷ drop (suc i) xs
cut [] i less = absurd (omega arith)
cut (x ∷ xs) zero less = refl
cut (x ∷ xs) (suc i) less = ap (λ l. x ∷ l) (cut xs i (omega arith))

all_lower : (xs : List ℕ) (i : ℕ) → i < length xs → IsRising xs → AllByRecursion (λ m. m < slice_index_or xs i 0) (take i xs)
all_lower [] i less up = absurd (omega arith)
all_lower (x ∷ xs) zero less up = tt
all_lower (x ∷ xs) (suc i) less up = (one_of (λ m. x < m) xs i (omega arith) up.0, all_lower xs i (omega arith) up.1)

-- ---- what is gathered

-- the rows and the changes of the tables so far, as the unit opens them
pub record Gathered (world : World) (h : History) (schema : Schema) (tables : Tables) (taken : List ℕ) (migration : Migration) (rows : Rows) : Type 0 where
  pub due : 0 < length taken → migration.is_due ≡ is_due world.model (tables (pos 0))
  pub changes : migration.changes ≡ flat_map (λ n. changes_opened world h (is_due world.model (tables (pos 0))) n (tables (pos n))) taken
  pub found : AllByRecursion (λ n. AreRows (tables (pos n))) taken
  pub read : AreReadWhole schema (opened_tables world h tables) taken rows

-- ---- the next table

module _ {S : Type 0} (g : Ghosts S) (world : World) (h : History) where
  -- what `read_table` says where it has read
  pub record HasRead (old new : Space S) (n : ℕ) (before after : Migration) (part : Rows) (stopped : Option (List ℕ)) : Type 0 where
    pub opened : ReadsOpened g world h old new n before after part stopped
    pub counted : new.store.table_selects ≡ up_to_greatest (old.store.table_selects + 1)
    pub told : new.store.faults ≡ old.store.faults
    pub keeps : KeepsTables g old new

  -- what holds while tables are read
  pub record SoFar (first now : Space S) (numbers : List ℕ) (i : ℕ) (migration : Migration) (rows : Rows) : Type 0 where
    pub keeps : KeepsTables g first now
    pub told : now.store.faults ≡ first.store.faults
    pub counted : ((i ≡ 0) × (now.store.table_selects ≡ first.store.table_selects)) ⊎ (now.store.table_selects ≡ up_to_greatest (first.store.table_selects + i))
    pub live : IsClean g now.store.conn → 0 < i → IsOpen g first.store.conn × IsOpen g now.store.conn
    pub gathered : IsClean g now.store.conn → Gathered world h first.schema (tables_in g first.store.conn) (take i numbers) migration rows
    pub idle : world.model.revision ≡ 1 → IsIdle migration

  module _ (described : IsDescribed world.model) (first now new : Space S) (numbers : List ℕ) (i : ℕ) (less : i < length numbers) (rising : IsRising numbers) (begins : slice_index_or numbers 0 0 ≡ 0)
      (known : AllByRecursion (λ n. IsSome (table_of first.schema n)) numbers) (rows part : Rows) (stopped : Option (List ℕ)) (before after : Migration)
      (so_far : SoFar first now numbers i before rows) (step : HasRead now new (slice_index_or numbers i 0) before after part stopped) where
    abbrev n : ℕ
    n = slice_index_or numbers i 0

    abbrev found : Tables
    found = tables_in g first.store.conn

    abbrev due : Bool
    due = is_due world.model (found (pos 0))

    same_schema : now.schema ≡ first.schema
    same_schema = ap (λ (s : Space S). s.schema) so_far.keeps.others

    some_here : IsSome (table_of first.schema n)
    some_here = one_of (λ m. IsSome (table_of first.schema m)) numbers i less known

    pub keeps : KeepsTables g first new
    keeps = keeps_then g first now new so_far.keeps step.keeps

    clean_now : IsClean g new.store.conn → IsClean g now.store.conn
    clean_now = clean_before g now.store.conn new.store.conn (λ _. ⊥) step.keeps.crash

    -- the tables now are those at the beginning
    same_tables : IsClean g new.store.conn → tables_in g now.store.conn ≡ found
    same_tables clean = (so_far.keeps.kept (clean_now clean) (step.opened.live clean).0).1

    rule_of : (o : Option TableRule) → table_of first.schema n ≡ o → IsSome o → (rule : TableRule) × (table_of first.schema n ≡ Some rule)
    rule_of None e some = absurd (true_false (sym some))
    rule_of (Some rule) e some = (rule, e)

    abbrev rule : TableRule
    rule = (rule_of (table_of first.schema n) refl some_here).0

    own : table_of first.schema n ≡ Some rule
    own = (rule_of (table_of first.schema n) refl some_here).1

    gathered_before : IsClean g new.store.conn → Gathered world h first.schema found (take i numbers) before rows
    gathered_before clean = so_far.gathered (clean_now clean)

    some_taken : (xs : List ℕ) (k : ℕ) → slice_index_or xs 0 0 ≡ 0 → k < length xs → slice_index_or xs k 0 == 0 ≡ false → 0 < length (take k xs)
    some_taken [] k b l e = absurd (omega arith)
    some_taken (x ∷ xs) zero b l e = absurd (true_false (sym (ap (λ m. m == 0) b) ∙ e))
    some_taken (x ∷ xs) (suc k) b l e = omega arith

    -- table 0, the first, has told whether the migration is due
    due_known : IsClean g new.store.conn → after.is_due ≡ due
    due_known clean =
        step.opened.due clean
        ∙ ap (λ (t : Tables). due_after world.model n (t (pos n)) before.is_due) (same_tables clean)
        ∙ elim (n == 0) as (λ b. n == 0 ≡ b → cond b (is_due world.model (found (pos n))) before.is_due ≡ due) [
          | true ↦ λ e. ap (λ m. is_due world.model (found (pos m))) (are_same_numbers n 0 e)
          | false ↦ λ e. (gathered_before clean).due (some_taken numbers i begins less e)
        ] refl

    are_read : IsClean g new.store.conn → AreRead rule (opened_tables world h found (pos n)) part stopped
    are_read clean =
        subst (λ d. AreRead rule (rows_opened world h d n (found (pos n))) part stopped) (due_known clean)
        (subst (λ (t : Tables). AreRead rule (rows_opened world h after.is_due n (t (pos n))) part stopped) (same_tables clean)
        (subst (λ o. IfSome o (λ rule. AreRead rule (rows_opened world h after.is_due n (tables_in g now.store.conn (pos n))) part stopped)) (ap (λ (s : Schema). table_of s n) same_schema ∙ own) (step.opened.read clean)))

    found_rows : IsClean g new.store.conn → AreRows (found (pos n))
    found_rows clean = subst (λ (t : Tables). AreRows (t (pos n))) (same_tables clean) (step.opened.found clean)

    are_rows : IsClean g new.store.conn → AreRows (opened_tables world h found (pos n))
    are_rows clean = opened_rows_are world described h due n (found (pos n)) (found_rows clean)

    pub live_now : IsClean g new.store.conn → IsOpen g first.store.conn × IsOpen g new.store.conn
    live_now clean = let l = step.opened.live clean in ((so_far.keeps.kept (clean_now clean) l.0).0, l.1)

    pub ended : (bytes : List ℕ) → stopped ≡ Some bytes → IsClean g new.store.conn → AreReadInto first.schema (opened_tables world h found) numbers (rows ++ part) n bytes
    ended bytes is clean = record {
      front = take i numbers;
      back = drop (suc i) numbers;
      order = cut numbers i less;
      whole = rows;
      part = part;
      both = refl;
      read = (gathered_before clean).read;
      rule = rule;
      own = own;
      rise = are_rows clean;
      rising = step.opened.rising clean;
      stopped = subst (AreRead rule (opened_tables world h found (pos n)) part) is (are_read clean);
    }

    abbrev changes_at : ℕ → List CellChange
    changes_at m = changes_opened world h due m (found (pos m))

    -- those of this table are added
    changes_more : IsClean g new.store.conn → after.changes ≡ flat_map changes_at (take i numbers ++ n ∷ [])
    changes_more clean =
        step.opened.changes clean
        ∙ ap (λ (t : Tables). before.changes ++ changes_opened world h after.is_due n (t (pos n))) (same_tables clean)
        ∙ ap (λ d. before.changes ++ changes_opened world h d n (found (pos n))) (due_known clean)
        ∙ ap (λ cs. cs ++ changes_at n) (gathered_before clean).changes
        ∙ ap (λ cs. flat_map changes_at (take i numbers) ++ cs) (sym (append_nil (changes_at n)))
        ∙ sym (flat_map-append changes_at (take i numbers) (n ∷ []))

    gathered_next : stopped ≡ None → IsClean g new.store.conn → Gathered world h first.schema found (take i numbers ++ n ∷ []) after (rows ++ part)
    gathered_next is clean =
        let entries = subst (AreRead rule (opened_tables world h found (pos n)) part) is (are_read clean) in
        let of_table = subst (λ m. AllByRecursion (λ (e : RowId × Row). (e.0).table ≡ m) part) (numbered first.schema n rule own) (own_table rule (opened_tables world h found (pos n)) part entries) in
        record {
          due = λ some. due_known clean;
          changes = changes_more clean;
          found = all_append (λ m. AreRows (found (pos m))) (take i numbers) (n ∷ []) (gathered_before clean).found (found_rows clean, tt);
          read = read_more first.schema (opened_tables world h found) (take i numbers) rows (gathered_before clean).read n (all_lower numbers i less rising) part of_table (step.opened.rising clean)
              (subst (λ o. IsReadBy o (opened_tables world h found (pos n)) part) (sym own) (are_rows clean, entries));
        }

    pub counted : new.store.table_selects ≡ up_to_greatest (first.store.table_selects + (i + 1))
    counted = counted_more first.store.table_selects i now.store.table_selects new.store.table_selects so_far.counted step.counted

    pub next : stopped ≡ None → SoFar first new numbers (i + 1) after (rows ++ part)
    next is = record {
      keeps = keeps;
      told = step.told ∙ so_far.told;
      counted = inr counted;
      live = λ clean more. live_now clean;
      gathered = λ clean.
          subst (λ ns. Gathered world h first.schema found ns after (rows ++ part)) (sym (ap (λ k. take k numbers) (add-one i) ∙ taken_more numbers i less)) (gathered_next is clean);
      idle = λ one. step.opened.first one (so_far.idle one);
    }
