-- An object's rows as changes: the rows after them are those with the object's rows over what stood there.
use Rattle.std.specs.Prelude.{◌≡◌, zero, suc, true, T, All, List, [], ◌∷◌, map, Option, Some, None}
use Rattle.std.proofs.Common.{refl, sym, ap, subst, ◌∙◌, arith}
use Rattle.std.specs.List.{AllByRecursion}
use Rattle.std.specs.FinMap.{is_sorted, find}
use Rattle.jpa_value.specs.Value.{identity_cmp}
use Rattle.jpa_rows.specs.declared.rows.schema.Schema.{Schema}
use Rattle.jpa_rows.specs.declared.rows.schema.TableRule.{TableRule}
use Rattle.jpa_rows.specs.declared.rows.row.RowChange.{RowChange}
use Rattle.jpa_rows.specs.rows.Rows.{RowId, Row, Rows, rows_after, entry_of, IsChangeBy, AreChanges, table_of, AreRising}
use Rattle.jpa_rows.specs.laws.Changes.{changed, over}
use Rattle.jpa_rows.proofs.laws.Maps.{same_answers}
use Rattle.jpa_rows.proofs.laws.Overlay.{found_seen, seen_rises}
use Rattle.jpa_object_rows.proofs.meaning.Bytes.Orders.{identities}
use Rattle.jpa_object_rows.specs.meaning.Raw.{is_key_by, AreFilled, AreNamed, AreRowsOf, AreWhole, IsRowBy}
use Rattle.jpa_object_rows.specs.meaning.Objects.{with_rows, change_to, changes_to}
use Rattle.jpa_object_rows.proofs.meaning.Renamed.{renamed, KeepsOrder, AreKeys, sorted_renamed}

pub after_changes : (es rows : Rows) → rows_after (changes_to es) rows ≡ with_rows es rows
after_changes [] rows = refl
after_changes (e ∷ es) rows = ap (changed identity_cmp e.0 (Some e.1)) (after_changes es rows)

abbrev pub Any : RowId → Type 0
Any id = Unit {0}

pub any_keys : {X : Type 0} (es : List (RowId × X)) → AreKeys Any es
any_keys [] = tt
any_keys (e ∷ es) = (tt, any_keys es)

pub same_order : KeepsOrder identity_cmp identity_cmp (λ id. id) Any
same_order = record { same = λ a b p q. refl }

entries_renamed : (es : Rows) → map entry_of (changes_to es) ≡ renamed (λ id. id) Some es
entries_renamed [] = refl
entries_renamed (e ∷ es) = ap (λ r. (e.0, Some e.1) ∷ r) (entries_renamed es)

one_change : (o : Option TableRule) (e : RowId × Row) → is_key_by o (e.0).key ≡ true → IsRowBy o e.1 → (e.1 ≡ [] → ⊥) → IsChangeBy o (change_to e)
one_change None e h g filled = absurd g
one_change (Some table) e h g filled = record { named = h; whole = g; filled = filled }

each_at : {X : Type 0} (P : X → Type 0) (xs : List X) → AllByRecursion P xs → All P xs
each_at P [] h k d less = absurd (omega arith)
each_at P (x ∷ xs) h zero d less = h.0
each_at P (x ∷ xs) h (suc k) d less = each_at P xs h.1 k d (omega arith)

changes_each : (schema : Schema) (es : Rows) → AreNamed schema es → AreWhole schema es → AreFilled es → AllByRecursion (λ change. IsChangeBy (table_of schema (change.id).table) change) (changes_to es)
changes_each schema [] h g filled = tt
changes_each schema (e ∷ es) h g filled = (one_change (table_of schema (e.0).table) e h.0 g.0 filled.0, changes_each schema es h.1 g.1 filled.1)

-- rows of the schema's tables are such changes that a store makes
pub are_changes : (schema : Schema) (es : Rows) → AreRowsOf schema es → AreWhole schema es → AreFilled es → AreChanges schema (changes_to es)
are_changes schema es h g filled = record {
  rising = subst T (sym (ap (is_sorted identity_cmp) (entries_renamed es) ∙ sorted_renamed same_order Some es (any_keys es))) h.rising;
  each = each_at (λ change. IsChangeBy (table_of schema (change.id).table) change) (changes_to es) (changes_each schema es h.named g filled);
}

-- what is found after changes: a change where there is one, and else what stood there
pub found_after : (q : RowId) (changes : List RowChange) (rows : Rows) → find identity_cmp q (rows_after changes rows) ≡ over (find identity_cmp q (map entry_of changes)) (find identity_cmp q rows)
found_after q changes rows = found_seen identities q rows (map entry_of changes)

-- so any changes that answer so make these rows
pub after_is : (changes : List RowChange) (rows news : Rows) → AreRising rows → AreRising news
    → ((q : RowId) → over (find identity_cmp q (map entry_of changes)) (find identity_cmp q rows) ≡ find identity_cmp q news) → rows_after changes rows ≡ news
after_is changes rows news rise rise_new answers =
    same_answers identities (rows_after changes rows) news (seen_rises identities rows (map entry_of changes) rise) rise_new (λ q. found_after q changes rows ∙ answers q)
