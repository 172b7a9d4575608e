-- A SELECT shows no row that it writes, whatever the schema is.
use Rattle.std.proofs.Common.{◌≡◌, ℕ, List, true, false, Bool, Option, None, Some, Ok, Err, Result, refl, sym, ap, subst, ◌∙◌, cond}
use Rattle.sqlite.specs.Order.{Row}
use Rattle.sqlite.specs.Tree.{Trees}
use Rattle.sqlite.specs.Listing.{understood, reads_listing, if_select, is_select, listing_schema}
use Rattle.sqlite.specs.State.{State, CommitsShowing}
use Rattle.sqlite.specs.Given.{Returns}
use Rattle.sqlite_tied.specs.Compute.{everything}
use Rattle.sqlite_resolve.specs.declared.compiled.Compiled.{Compiled}
use Rattle.sqlite_resolve.specs.declared.error.CompileError.{CompileError}
use Rattle.sqlite_resolve.specs.Compile.{first, compiled, planned, meaning, returning}
use Rattle.sqlite_schema.specs.declared.schema.Schema.{Schema}
use Rattle.jpa_cells.specs.meaning.Schema.{row_text, table_text}
use Rattle.sqlite_resolve.specs.Lowering.{Checked, and_then}
use Rattle.sqlite_resolve.specs.Compile.{with_command}
use Rattle.sqlite_schema.specs.declared.command.Command.{Command}
use Rattle.sqlite_schema.specs.declared.command.Returning.{Returning}
use Rattle.sqlite_ast.specs.declared.Statement.{Statement}
use Rattle.sqlite_ast.specs.declared.Statement.TheVariants as written
use Rattle.sqlite_syntax.specs.declared.statement.Parsed.{Parsed}
use Rattle.std.proofs.Common.{inl, inr, true≢false}

abbrev pub is_select_of : Statement → Bool
is_select_of (written.Select s) = true
is_select_of _ = false

abbrev pub selects : Checked Parsed → Bool
selects (Ok p) = is_select_of p.statement
selects (Err e) = true

returns_none : (schema : Schema) (base : ℕ) (s : Statement) → is_select_of s ≡ true → returning schema base s ≡ Ok None
unfolding returning
returns_none schema base (written.Select s) h = refl
returns_none schema base written.Empty h = absurd (true≢false (sym h))
returns_none schema base (written.Insert a b c d e f) h = absurd (true≢false (sym h))
returns_none schema base (written.Update a b c d) h = absurd (true≢false (sym h))
returns_none schema base (written.Delete a b c) h = absurd (true≢false (sym h))
returns_none schema base (written.Pragma a b) h = refl
returns_none schema base (written.CreateTable a) h = refl
returns_none schema base (written.CreateIndex a) h = refl
returns_none schema base (written.CreateView a b c d) h = refl
returns_none schema base (written.DropTable a b) h = refl
returns_none schema base (written.DropIndex a b) h = refl
returns_none schema base (written.DropView a b) h = refl
returns_none schema base written.Begin h = refl
returns_none schema base written.Commit h = refl
returns_none schema base written.Rollback h = refl
returns_none schema base (written.Savepoint a) h = refl
returns_none schema base (written.Release a) h = refl
returns_none schema base (written.RollbackTo a) h = refl

abbrev Quiet : Result Compiled CompileError → Type 0
Quiet (Ok c) = c.returning ≡ None
Quiet (Err e) = Unit {0}

last : (p : Parsed) (formats : List (List ℕ)) (r : Checked Command) → Quiet (and_then (and_then (and_then r (λ (c : Command). let o : Option Returning = None in Ok (c, o))) (λ (found : Command × Option Returning). Ok (formats, found))) (λ plan. Ok (with_command p plan)))
last p formats (Ok c) = refl
last p formats (Err e) = tt

compiled_quiet : (schema : Schema) (sql : List ℕ) → selects (first sql) ≡ true → Quiet (compiled schema sql)
unfolding compiled planned meaning
compiled_quiet schema sql h = go (first sql) h
  where
    go : (r : Checked Parsed) → selects r ≡ true → Quiet (and_then r (λ p. and_then (planned schema p) (λ plan. Ok (with_command p plan))))
    go (Err e) h = tt
    go (Ok p) h = rw returns_none (last p _ _)

listed_quiet : (r : Result Compiled CompileError) → Quiet r → Quiet (if_select r)
listed_quiet (Err e) h = tt
listed_quiet (Ok c) h = elim (is_select c.command) as (λ b. Quiet (cond b (Ok c) (Err Rattle.sqlite_resolve.specs.declared.error.CompileError.TheVariants.NoSuchTable))) [ true ↦ h | false ↦ tt ]

pub understood_quiet : (schema : Schema) (sql : List ℕ) → selects (first sql) ≡ true → Quiet (understood schema sql)
unfolding understood
understood_quiet schema sql h =
    elim (reads_listing schema sql) as (λ b. Quiet (cond b (if_select (compiled listing_schema sql)) (compiled schema sql)))
    [ true ↦ listed_quiet _ (compiled_quiet listing_schema sql h) | false ↦ compiled_quiet schema sql h ]

row_selects : selects (first row_text) ≡ true
unfolding everything
row_selects = refl

pub row_never_commits : (params : Row) (s : State) (db : Trees) → CommitsShowing row_text params s db → ⊥
unfolding CommitsShowing
row_never_commits params s db h =
    let none = subst Quiet h.1.is (understood_quiet s.now.schema row_text row_selects) in
    subst (λ o. Rattle.std.proofs.Common.IsSome o → ⊥) (sym none) (λ x. true≢false (sym x)) h.2

table_selects : selects (first table_text) ≡ true
unfolding everything
table_selects = refl

pub table_never_commits : (params : Row) (s : State) (db : Trees) → CommitsShowing table_text params s db → ⊥
unfolding CommitsShowing
table_never_commits params s db h =
    let none = subst Quiet h.1.is (understood_quiet s.now.schema table_text table_selects) in
    subst (λ o. Rattle.std.proofs.Common.IsSome o → ⊥) (sym none) (λ x. true≢false (sym x)) h.2

never_both : (r : Result Compiled CompileError) → Quiet r → Returns r → ⊥
never_both (Ok c) none some = true≢false (sym (subst Rattle.std.proofs.Common.IsSome none some))
never_both (Err e) none some = some

pub table_returns_none : (schema : Schema) → Returns (understood schema table_text) → ⊥
table_returns_none schema = never_both _ (understood_quiet schema table_text table_selects)
