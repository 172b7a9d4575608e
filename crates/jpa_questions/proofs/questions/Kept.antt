-- What a question leaves of a connection, and which rows it sees there.
use Rattle.std.specs.Prelude.{◌≡◌, ◌⊎◌, ℕ, List, [], Result, Err}
use Rattle.std.proofs.Common.{refl, sym, subst, ◌∙◌, inl, inr}
use Rattle.sqlite_trees.specs.declared.store.Store.{Ghosts}
use Rattle.sqlite.specs.Held.{Held, state}
use Rattle.jpa_value.specs.declared.refusal.Cause.{Cause}
use Rattle.jpa_cells.specs.cells.Calls.{EnduresMaking}
use Rattle.jpa_cells.specs.meaning.Schema.{no_schema}
use Rattle.jpa_cells.specs.meaning.Tables.{Tables}
use Rattle.jpa_cells.specs.meaning.Store.{Endures, Keeps, Opens, Stored, new_store}
use Rattle.jpa_rows.specs.declared.rows.schema.Schema.{Schema}
use Rattle.jpa_rows.specs.rows.Faults.{IsStoreCause}
use Rattle.jpa_rows.specs.rows.Rows.{Rows}
use Rattle.jpa_cells.specs.rowspace.Enduring.{EnduresRows, endures_self, endures_weaker}
use Rattle.jpa_cells.specs.rowspace.Space.{HoldsRows, Space}
use Rattle.jpa_cells.specs.rowspace.Stored.{AreStored}
use Rattle.jpa_cells.proofs.rowspace.Holding.{keeps_rows}
use Rattle.jpql_meaning.specs.eval.Answers.{Answer}
use Rattle.jpa_questions.specs.row_queries.Answered.{Answers, Refuses}
use Rattle.jpa_questions.specs.questions.Asking.{LeavesRows}

-- a refusal that says nothing of the answer
pub unread_answer : {B : Type 0} (wanted : Answer B) (cause : Cause) → IsStoreCause cause → Answers {A = B} (Err cause) wanted
unread_answer wanted cause (inl memory) = subst (λ c. Refuses c wanted) (sym memory) tt
unread_answer wanted cause (inr fault) = subst (λ c. Refuses c wanted) (sym fault) tt

module _ {S : Type 0} (g : Ghosts S) where
  -- a store that was opened over what is no empty database is the one that was found
  pub found_store : (conn : Held S) (store : Stored S) → Opens g conn store → ((state g conn).now.schema ≡ no_schema → ⊥) → store ≡ new_store conn 0
  found_store conn store (inl found) some = found.0
  found_store conn store (inr made) some = absurd (some made.1)

  -- nothing was done
  pub leaves_self : (schema : Schema) (conn : Held S) → LeavesRows g schema conn conn
  leaves_self schema conn = record { kept = λ rows holds. holds; crash = endures_self g conn (λ (tables : Tables). ⊥) }

  -- a refused opening of what is no empty database: no table was made
  pub leaves_kept : (schema : Schema) (old new : Held S) → ((state g old).now.schema ≡ no_schema → ⊥) → Keeps g old new → EnduresMaking g old new → LeavesRows g schema old new
  leaves_kept schema old new some keeps endures =
      let none : Endures g old new (λ (tables : Tables). ⊥) = endures_weaker g old new (λ (tables : Tables). ((state g old).now.schema ≡ no_schema) × (tables ≡ (λ t. []))) (λ (tables : Tables). ⊥) (λ clean tables made. some made.0) endures in
      record { kept = keeps_rows g schema old new (λ (tables : Tables). ⊥) keeps none; crash = none }

  -- what looks at a space leave of its connection
  pub leaves_looked : (schema : Schema) (conn : Held S) (s t : Space S) → s.schema ≡ schema → (s.store).conn ≡ conn → t.schema ≡ s.schema
      → ((rows : Rows) → HoldsRows g s.schema (s.store).conn rows → HoldsRows g t.schema (t.store).conn rows)
      → EnduresRows g s.schema (s.store).conn (t.store).conn (λ _. ⊥) → LeavesRows g schema conn (t.store).conn
  leaves_looked schema conn s t is_schema is_conn same kept crash = record {
    kept = λ rows holds.
        let there : HoldsRows g schema (s.store).conn rows = subst (λ (k : Held S). HoldsRows g schema k rows) (sym is_conn) holds in
        let here : HoldsRows g s.schema (s.store).conn rows = subst (λ (k : Schema). HoldsRows g k (s.store).conn rows) (sym is_schema) there in
        subst (λ (k : Schema). HoldsRows g k (t.store).conn rows) (same ∙ is_schema) (kept rows here);
    crash = subst (λ (k : Held S). Endures g k (t.store).conn (λ (tables : Tables). ⊥)) is_conn
        (endures_weaker g (s.store).conn (t.store).conn (λ (tables : Tables). (rows : Rows) × AreStored s.schema tables rows × ⊥) (λ (tables : Tables). ⊥) (λ clean tables held. held.2) crash);
  }

  -- rows of a connection are rows of the space over it
  pub holds_over : (schema : Schema) (conn : Held S) (s : Space S) (rows : Rows) → s.schema ≡ schema → (s.store).conn ≡ conn → HoldsRows g schema conn rows → HoldsRows g s.schema (s.store).conn rows
  holds_over schema conn s rows is_schema is_conn holds =
      subst (λ (k : Schema). HoldsRows g k (s.store).conn rows) (sym is_schema) (subst (λ (k : Held S). HoldsRows g schema k rows) (sym is_conn) holds)
