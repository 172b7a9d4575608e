-- An INSERT and a DELETE, from what a connection says of them.
use Rattle.std.proofs.Common.{◌≡◌, ℕ, ℤ, List, [], ◌∷◌, filter, not, Bool, true, false, cond, None, Ok, refl, sym, ap, subst, ◌∙◌}
use Rattle.sqlite.specs.declared.types.Value.{Value}
use Rattle.sqlite.specs.declared.types.Value.TheVariants.{Null, Int, Blob}
use Rattle.sqlite.specs.Order.{Row, column}
use Rattle.sqlite.specs.Ops.{unary}
use Rattle.sqlite.specs.Query.{IsAnswer}
use Rattle.sqlite.specs.Program.{overlay}
use Rattle.sqlite.specs.Kind.TheVariants.{Integer}
use Rattle.sqlite.specs.Source.TheVariants.{Values}
use Rattle.sqlite.specs.Command.TheVariants.{Insert, Delete}
use Rattle.sqlite.specs.Edit.{Edit, edit_of, next_rowid, is_taken, without_all}
use Rattle.sqlite.specs.Values.{IsInt}
use Rattle.sqlite.specs.Cast.{cast}
use Rattle.sqlite.specs.Rowids.TheVariants.{Chosen, Given}
use Rattle.sqlite.specs.Does.{Tally, Does}
use Rattle.sqlite.specs.Rows.{Written}
use Rattle.sqlite.specs.Tree.{Trees, put_row, rowid}
use Rattle.sqlite.specs.Listing.{understood}
use Rattle.sqlite.specs.Effect.{Database}
use Rattle.sqlite.specs.State.{State, mode_of, Executes}
use Rattle.sqlite.proofs.Callers.{statement_of, runs_as, one_step}
use Rattle.sqlite_rules.specs.Calls.{ids_of}
use Rattle.sqlite_rules.proofs.ProbeLemmas.{found_rowids, rowid_query}
use Rattle.sqlite_schema.specs.declared.program.Program.{Program}
use Rattle.sqlite_schema.specs.declared.schema.Constraint.TheVariants.{Unique}
use Rattle.std.proofs.lemmas.Bool.{and_parts, not-true}
use Rattle.sqlite_keyed.proofs.ListLemmas.{ascending-filter, all-filter}
use Rattle.jpa_cells.specs.meaning.Schema.{cell_table, cell_schema, insert_text, delete_text}
use Rattle.jpa_cells.specs.meaning.Content.{is_of, cells_of, AreInOrder, HoldsCells, content, with_cell, without_cells}
use Rattle.jpa_cells.proofs.meaning.Texts.{insert_terms, insert_is, insert_plain, delete_query, delete_is, delete_plain}
use Rattle.jpa_cells.proofs.meaning.RowMeaning.{params, tests}
use Rattle.jpa_cells.proofs.meaning.Edits.{order_put, left_rows}
use Rattle.jpa_cells.proofs.meaning.Laws.{cells_in, obeys}
use Rattle.jpa_cells.proofs.meaning.Contents.{new_row, cell_added, row_dropped}
use Rattle.jpa_cells.proofs.meaning.Making.{went, same_value}

either : (b : Bool) (x : Value) → cond b x x ≡ x
either true x = refl
either false x = refl

pub cast_null : cast Integer Null ≡ Null
unfolding unary
cast_null = either _ Null

pub cast_int : (n : ℤ) → cast Integer (Int n) ≡ Int n
unfolding unary
cast_int n = either _ (Int n)

module _ (old new : State) (holds : HoldsCells old.now) (table : ℤ) (key : List ℕ) where
  module _ (col : ℤ) (value : List ℕ) where
    abbrev given_row : Row
    given_row = Int table ∷ Blob key ∷ Int col ∷ Blob value ∷ []

    abbrev fresh_row : Row
    fresh_row = new_row (next_rowid (old.now.trees 0)) table key col value

    pub inserts : (count : ℕ) → Executes insert_text given_row old new (Ok count)
        → HoldsCells new.now × ((t : ℤ) (k : List ℕ) → content new.now t k ≡ with_cell table key (record { column = col; value = value }) (content old.now) t k) × (new.now.trees 0 ≡ put_row fresh_row (old.now.trees 0))
    inserts count h =
        let db = old.now.trees in
        let command = Insert 0 (Values insert_terms 5) in
        let w = runs_as insert_text given_row old new cell_schema holds.schema command insert_is insert_plain count h in
        let text = statement_of insert_text (understood cell_schema insert_text) in
        let done = went (subst (λ s. Does old.step_limit (mode_of old) given_row (record old.now { schema = s }) text None command (Ok (w.tally, new.now))) holds.schema w.changed) in
        let now = ap (λ (p : Tally × Database). p.1) (same_value (went (went done.2).2).2) in
        let given = went done.1 in
        let written = went (went given.2).2 in
        let counted = went written.2 in
        let trees : done.0.trees ≡ written.0 = ap (λ (it : Written). it.trees) (same_value counted.2) ∙ same_value counted.1 in
        let edit = edit_of db cell_table [] Chosen 0 given.0 in
        let step = one_step cell_schema _ db written.0 edit refl written.1 in
        let news : edit.news ≡ fresh_row ∷ [] = ap (λ all. (edit_of db cell_table [] Chosen 0 all).news) given.1.1 ∙ rw (cast_null, cast_int table, cast_int col) refl in
        let after : new.now.trees 0 ≡ put_row fresh_row (db 0) = ap (λ (d : Database). d.trees 0) now ∙ ap (λ (t : Trees). t 0) trees ∙ step.rows ∙ ap (λ l. Rattle.sqlite.specs.Edit.put_all (db 0) l) news in
        let free : is_taken (db 0) fresh_row ≡ false = not-true _ (and_parts _ _ (subst (λ l. Rattle.sqlite.specs.Edit.are_fresh (db 0) l ≡ true) news step.fresh)).0 in
        let ordered : AreInOrder (new.now.trees 0) = subst AreInOrder (sym after) (order_put fresh_row (db 0) (next_rowid (db 0), refl) holds.ordered) in
        let it : HoldsCells new.now = record { schema = ap (λ (d : Database). d.schema) now; sound = w.sound; ordered = ordered } in
        (it, cell_added (next_rowid (db 0)) table key col value db new.now.trees after free (cells_in new.now it) (obeys new.now it Unique), after)

  pub deletes : (count : ℕ) → Executes delete_text (params table key) old new (Ok count)
      → HoldsCells new.now × ((t : ℤ) (k : List ℕ) → content new.now t k ≡ without_cells table key (content old.now) t k) × (new.now.trees 0 ≡ filter (λ r. not (is_of table key r)) (old.now.trees 0))
  deletes count h =
      let db = old.now.trees in
      let kept = cells_in old.now holds in
      let given = params table key in
      let program : Program = record { lets = []; body = delete_query } in
      let command = Delete 0 program in
      let w = runs_as delete_text given old new cell_schema holds.schema command delete_is delete_plain count h in
      let text = statement_of delete_text (understood cell_schema delete_text) in
      let done = went (subst (λ s. Does old.step_limit (mode_of old) given (record old.now { schema = s }) text None command (Ok (w.tally, new.now))) holds.schema w.changed) in
      let now = ap (λ (p : Tally × Database). p.1) (same_value (went (went done.2).2).2) in
      let found = went done.1 in
      let written = went found.2 in
      let trees : done.0.trees ≡ written.0 = ap (λ (it : Written). it.trees) (same_value written.2) in
      let edit = edit_of db cell_table (ids_of found.0) Given 0 [] in
      let step = one_step cell_schema _ db written.0 edit refl written.1 in
      let after : new.now.trees 0 ≡ without_all (db 0) (ids_of found.0) = ap (λ (d : Database). d.trees 0) now ∙ ap (λ (t : Trees). t 0) trees ∙ step.rows in
      let answer : IsAnswer delete_query (overlay db []) given found.0 = found.1.answer Null in
      let unlimited : IsAnswer (rowid_query 0 delete_query.filter) (overlay db []) given found.0 =
      record { staged = answer.staged; grouped = answer.grouped; kept = answer.kept; distinct = answer.distinct; ordered = answer.ordered; same = answer.same; sorted = answer.sorted; shown = answer.shown } in
      let those = found_rowids 0 delete_query.filter (overlay db []) given found.0 unlimited in
      let left = left_rows (is_of table key) (db 0) found.0 kept
      (λ x h. let r = those.sound x h in (r.0, r.1, sym (tests table key r.0) ∙ r.2, r.3)) (λ r h passes. those.complete r h (tests table key r ∙ passes)) in
      let rows = after ∙ left in
      let ordered : AreInOrder (new.now.trees 0) = subst AreInOrder (sym rows) (record { rise = ascending-filter _ (λ r. not (is_of table key r)) (db 0) holds.ordered.rise; numbered = all-filter (λ r. IsInt (rowid r)) (λ r. not (is_of table key r)) (db 0) holds.ordered.numbered }) in
      (record { schema = ap (λ (d : Database). d.schema) now; sound = w.sound; ordered = ordered }, λ t k. ap (cells_of t k) rows ∙ row_dropped table key (db 0) kept t k, rows)
