-- Why an INSERT and a DELETE stop, where nothing stands against them.
use Rattle.std.proofs.Common.{◌≡◌, ◌&&◌, ◌||◌, inl, inr, ◌≤◌, ◌+◌, ◌^◌, length, length-append, ℕ, zero, suc, ℤ, pos, negsuc, List, [], ◌∷◌, Bool, true, false, not, Option, None, Some, Ok, Err, Result, IsSome, IsTrue, refl, sym, ap, subst, ◌∙◌, arith, true≢false, nat_lt}
use lib.Ieee.{is_nan}
use Rattle.std.specs.Float.{NotNan}
use Rattle.std.specs.List.{list_all}
use Rattle.std.proofs.lemmas.List.Elements.{All-from_recursion}
use Rattle.std.proofs.lemmas.Nat.Bits.{bit_at-zero}
use Rattle.sqlite.specs.declared.types.Value.{Value}
use Rattle.sqlite.specs.declared.types.Value.TheVariants.{Int, Blob}
use Rattle.sqlite.specs.Order.{Row, number}
use Rattle.sqlite.specs.Program.{overlay}
use Rattle.sqlite.specs.Source.TheVariants.{Values}
use Rattle.sqlite.specs.Command.TheVariants.{Insert, Delete}
use Rattle.sqlite.specs.Edit.{Edit, edit_of, next_rowid, is_taken, without_all, id_in, IsRefused, IsOversized}
use Rattle.sqlite.specs.Ops.{fits_i64}
use Rattle.sqlite.specs.Rowids.TheVariants.{Chosen, Given}
use Rattle.sqlite.specs.Does.{Does, Concludes}
use Rattle.sqlite.specs.Rows.{Written, Task}
use Rattle.sqlite.specs.Tree.{Trees, put_row, rowid, with_tree}
use Rattle.sqlite.specs.View.{is_int, IsStorable, IsStorableRow}
use Rattle.sqlite.specs.State.{State, mode_of}
use Rattle.sqlite.specs.Values.{IsInt}
use Rattle.sqlite.specs.declared.error.Error.{Error}
use Rattle.sqlite_sql.proofs.QueryLemmas.{no_fold_overflows}
use Rattle.sqlite_rules.specs.Action.{Leads, Writes}
use Rattle.sqlite_rules.specs.Calls.{ids_of}
use Rattle.sqlite_rules.specs.Lists.{Has}
use Rattle.sqlite_rules.specs.declared.error.Refusal.{Refusal}
use Rattle.sqlite_rules.specs.declared.error.Refusal.TheVariants.{Violates, Mismatch, NoRowid, BadReference, TooDeep}
use Rattle.sqlite_rules.proofs.PlaceLemmas.{next_is_free}
use Rattle.sqlite_schema.specs.Rules.{Refers, Keeps, passes, table_reals, index_reals}
use Rattle.sqlite_schema.specs.declared.schema.Index.{Index}
use Rattle.sqlite_schema.specs.declared.schema.Among.{Among}
use Rattle.sqlite_schema.specs.declared.schema.Among.TheVariants as among
use Rattle.sqlite_schema.specs.declared.schema.Constraint.TheVariants.{Datatype, NotNull, Check, PrimaryKey, Unique, ForeignKey}
use Rattle.sqlite_schema.specs.declared.schema.Keys.TheVariants.{Enforced}
use Rattle.sqlite_schema.specs.declared.program.Program.{Program}
use Rattle.sqlite_sql.specs.Catalog.{entry_of}
use Rattle.sqlite_keyed.proofs.ListLemmas.{all_of, all_weaker}
use Rattle.jpa_cells.specs.meaning.Schema.{cell_table, cell_schema}
use Rattle.jpa_cells.specs.meaning.Content.{AreInOrder}
use Rattle.jpa_cells.proofs.meaning.Contents.{new_row}
use Rattle.jpa_cells.proofs.meaning.Texts.{insert_terms, row_query, delete_query}
use Rattle.jpa_cells.proofs.meaning.RowMeaning.{params}
use Rattle.jpa_cells.proofs.meaning.Writes.{cast_null, cast_int}

given_not : {A E : Type 0} {a : A} {e : E} → ◌≡◌ {A = Result A E} (Err e) (Ok a) → ⊥
given_not h = cc

-- no foreign key is tested
refers : (among : Among) (trees : Trees) → Refers among cell_schema trees
refers among trees = (all_of _ (λ row. refl) (trees 0), tt)

-- nor acted on
settled : (n : ℕ) (trees : Trees) (why : Option Refusal) → Leads cell_schema Enforced n trees [] (Err why) → ⊥
settled zero trees why h = given_not h.1
settled (suc n) trees why h = absurd (omega (arith, ap length h.2, length-append h.0 (h.1 ∷ [])))

module _ (limit : Option ℕ) (given : Row) where
  abbrev task : Task
  task = record { limit = limit; keys = Enforced; schema = cell_schema; table = cell_table; params = given }

  -- what was written stays
  concludes : (s : State) (w : Written) (stop : Option Error) → Concludes task (mode_of s) None w (Err stop) → ⊥
  concludes s w stop (inl untested) = untested.1.0 (refers among.All w.trees)
  concludes s w stop (inr (doubt, _, inl unreturned)) = given_not unreturned.1
  concludes s w stop (inr (doubt, _, inr returned)) = given_not returned.2

-- ---- the size of a row

whole : (n : ℤ) → NotNan (number (Int n))
unfolding is_nan
whole (pos n) = tt
whole (negsuc n) = tt

module _ (id table : ℤ) (key : List ℕ) (col : ℤ) (value : List ℕ) (short : 90 + length key + length value ≤ 10 ^ 9) where
  abbrev P : Value → Type 0
  P v = NotNan (number v)

  row_storable : IsStorableRow 0 (new_row id table key col value)
  unfolding is_nan
  row_storable = (
    record {
      typed = λ c h. absurd (grind (arith, bit_at-zero c));
      columns = (omega arith, omega arith);
      numbers = All-from_recursion P (new_row id table key col value) (whole id, (whole table, (tt, (whole col, (tt, tt)))));
      short = omega (arith, short);
    },
    omega arith,
  )

  entry_storable : IsStorable 0 (Int table ∷ Blob key ∷ Int col ∷ Int id ∷ [])
  unfolding is_nan
  entry_storable = record {
    typed = λ c h. absurd (grind (arith, bit_at-zero c));
    columns = (omega arith, omega arith);
    numbers = All-from_recursion P (Int table ∷ Blob key ∷ Int col ∷ Int id ∷ []) (whole table, (tt, (whole col, (whole id, tt))));
    short = omega (arith, short);
  }

  fits_in : IsOversized cell_schema cell_table (new_row id table key col value) → ⊥
  fits_in (inl big) = big row_storable
  fits_in (inr (i, inl is, _, big)) = subst Oversizes (sym is) (λ b. b entry_storable) big
    where
      -- no index has so long an entry
      Oversizes : Index → Type 0
      Oversizes x = (IsStorable (index_reals (table_reals cell_table) x.columns) (entry_of x.columns (new_row id table key col value)) → ⊥) → ⊥
  fits_in (inr (i, inr other, _, big)) = other

-- ---- an INSERT

module _ (old : State) (table : ℤ) (key : List ℕ) (col : ℤ) (value : List ℕ) (ordered : AreInOrder (old.now.trees 0)) (short : 90 + length key + length value ≤ 10 ^ 9)
    (fits : fits_i64 (next_rowid (old.now.trees 0)) ≡ true) (unique : Keeps Unique cell_schema (with_tree old.now.trees 0 (put_row (new_row (next_rowid (old.now.trees 0)) table key col value) (old.now.trees 0)))) where
  abbrev db : Trees
  db = old.now.trees

  abbrev given_row : Row
  given_row = Int table ∷ Blob key ∷ Int col ∷ Blob value ∷ []

  abbrev fresh_row : Row
  fresh_row = new_row (next_rowid (db 0)) table key col value

  free : is_taken (db 0) fresh_row ≡ false
  free = next_is_free Chosen (db 0) given_row ordered.rise (all_weaker (λ r. IsInt (rowid r)) (λ r. IsTrue (is_int (rowid r))) (λ r h. subst (λ v. IsTrue (is_int v)) (sym h.1) refl) (db 0) ordered.numbered)

  module _ (edit : Edit) (into : edit.table ≡ cell_table) (gone : edit.gone ≡ []) (news : edit.news ≡ fresh_row ∷ []) where
    passing : (rule : Row → Bool) → rule fresh_row ≡ true → list_all rule edit.news ≡ false → ⊥
    passing rule h e = true≢false (sym (ap (λ l. list_all rule l) news ∙ ap (λ b. b && true) h) ∙ e)

    not_refused : (why : Refusal) → IsRefused cell_schema Enforced db edit why → ⊥
    not_refused (Violates Datatype) h = passing (passes Datatype cell_schema db cell_table) refl (subst (λ t. list_all (passes Datatype cell_schema db t) edit.news ≡ false) into h)
    not_refused (Violates NotNull) h = passing (passes NotNull cell_schema db cell_table) refl (subst (λ t. list_all (passes NotNull cell_schema db t) edit.news ≡ false) into h)
    not_refused (Violates Check) h = passing (passes Check cell_schema db cell_table) refl (subst (λ t. list_all (passes Check cell_schema db t) edit.news ≡ false) into h)
    not_refused (Violates PrimaryKey) h = let h' = rw (into, gone, news, free) at h in true≢false h'
    not_refused (Violates Unique) h = let h' = rw (into, gone, news) at h in h' unique
    not_refused (Violates ForeignKey) h = h
    not_refused Mismatch h = passing (λ r. is_int (rowid r)) refl h
    not_refused NoRowid h = passing (λ r. fits_i64 (id_in (rowid r))) fits h
    not_refused BadReference h = let h' = rw (into, gone, news) at h in true≢false h'
    not_refused TooDeep h = h

    not_stopped : (why : Option Refusal) → Writes cell_schema Enforced db edit (Err why) → ⊥
    not_stopped why (inl refused) = not_refused refused.0 refused.1
    not_stopped why (inr (inl big)) = let oversized = rw into at big.2 in elim (subst (λ l. Has l big.0) news big.1) [
      | inl is ↦ fits_in (next_rowid (db 0)) table key col value short (subst (IsOversized cell_schema cell_table) is oversized)
      | inr other ↦ other
    ]
    not_stopped why (inr (inr went)) = settled went.2.0 went.0 why went.2.1

  pub insert_stops : (text : List ℕ) (stop : Option Error) → Does old.step_limit (mode_of old) given_row (record old.now { schema = cell_schema }) text None (Insert 0 (Values insert_terms 5)) (Err stop) → IsSome old.step_limit
  insert_stops text stop (inr (w, _, concluded)) = absurd (concludes old.step_limit given_row old w stop concluded)
  insert_stops text stop (inl (first, inl (None, sourced, _), _)) = absurd sourced
  insert_stops text stop (inl (first, inl (Some e, inl mistyped, _), _)) = absurd (true≢false mistyped.1)
  insert_stops text stop (inl (first, inl (Some e, inr cut, _), _)) = cut.1
  insert_stops text stop (inl (first, inr (rows, _, inl uncounted), _)) = absurd (given_not uncounted.1)
  insert_stops text stop (inl (first, inr (rows, sourced, inr (counter, _, inl (s, (why, wrote, _), _))), _)) =
      let edit = edit_of db cell_table [] Chosen 0 rows in
      absurd (not_stopped edit refl refl (ap (λ all. (edit_of db cell_table [] Chosen 0 all).news) sourced.1 ∙ rw (cast_null, cast_int table, cast_int col) refl) why wrote)
  insert_stops text stop (inl (first, inr (rows, _, inr (counter, _, inr (mid, _, inl uncounted))), _)) = absurd (given_not uncounted.1)
  insert_stops text stop (inl (first, inr (rows, _, inr (counter, _, inr (mid, _, inr (next, _, gave)))), _)) = absurd (given_not gave)

-- ---- a DELETE

module _ (old : State) (table : ℤ) (key : List ℕ) (unique : (ids : List ℤ) → Keeps Unique cell_schema (with_tree old.now.trees 0 (without_all (old.now.trees 0) ids))) where
  module _ (edit : Edit) (into : edit.table ≡ cell_table) (news : edit.news ≡ []) where
    left_alone : (why : Refusal) → IsRefused cell_schema Enforced old.now.trees edit why → ⊥
    left_alone (Violates Datatype) h = let h' = rw news at h in true≢false h'
    left_alone (Violates NotNull) h = let h' = rw news at h in true≢false h'
    left_alone (Violates Check) h = let h' = rw news at h in true≢false h'
    left_alone (Violates PrimaryKey) h = let h' = rw news at h in true≢false h'
    left_alone (Violates Unique) h = let h' = rw (into, news) at h in h' (unique edit.gone)
    left_alone (Violates ForeignKey) h = h
    left_alone Mismatch h = let h' = rw news at h in true≢false h'
    left_alone NoRowid h = let h' = rw news at h in true≢false h'
    left_alone BadReference h = let h' = rw (into, news) at h in elim (nat_lt 0 (length edit.gone)) as (λ b. (not b || true) ≡ false → ⊥) [ true ↦ λ e. true≢false e | false ↦ λ e. true≢false e ] h'
    left_alone TooDeep h = h

    goes_through : (why : Option Refusal) → Writes cell_schema Enforced old.now.trees edit (Err why) → ⊥
    goes_through why (inl refused) = left_alone refused.0 refused.1
    goes_through why (inr (inl big)) = subst (λ l. Has l big.0) news big.1
    goes_through why (inr (inr went)) = settled went.2.0 went.0 why went.2.1

  abbrev program : Program
  program = record { lets = []; body = delete_query }

  pub delete_stops : (text : List ℕ) (stop : Option Error) → Does old.step_limit (mode_of old) (params table key) (record old.now { schema = cell_schema }) text None (Delete 0 program) (Err stop) → IsSome old.step_limit
  delete_stops text stop (inr (w, _, concluded)) = absurd (concludes old.step_limit (params table key) old w stop concluded)
  delete_stops text stop (inl (first, inl (None, queried, _), _)) = absurd queried
  delete_stops text stop (inl (first, inl (Some e, inl mistyped, _), _)) = absurd (true≢false mistyped.1)
  delete_stops text stop (inl (first, inl (Some e, inr (inl wide), _), _)) =
      absurd (elim wide.1 [ inl group ↦ group | inr fold ↦ no_fold_overflows (overlay old.now.trees []) row_query.from (params table key ∷ []) refl fold ])
  delete_stops text stop (inl (first, inl (Some e, inr (inr cut), _), _)) = cut.1
  delete_stops text stop (inl (first, inr (rows, _, inl (s, (why, wrote, _), _)), _)) = absurd (goes_through (edit_of old.now.trees cell_table (ids_of rows) Given 0 []) refl refl why wrote)
  delete_stops text stop (inl (first, inr (rows, _, inr (next, _, gave)), _)) = absurd (given_not gave)
