-- Why a read fails.
use Rattle.std.proofs.Common.{◌≡◌, inl, inr, ℕ, ◌≤◌, ℤ, List, [], ◌∷◌, length, codes, Ok, Err, Result, IsSome, true, false, refl, sym, ap, subst, ◌∙◌, lit≤, append-nil, true≢false}
use Rattle.sqlite.specs.declared.types.Value.TheVariants.{Int, Blob}
use Rattle.sqlite.specs.Order.{Row}
use Rattle.sqlite.specs.Term.{Term}
use Rattle.sqlite.specs.Query.{Query}
use Rattle.sqlite_value.specs.declared.keys.Key.{Key}
use Rattle.sqlite_tied.specs.Compute.{everything}
use Rattle.sqlite_typing.specs.Types.{accepts_program}
use Rattle.sqlite_resolve.specs.declared.compiled.Compiled.{Compiled}
use Rattle.sqlite_resolve.specs.declared.error.CompileError.{CompileError}
use Rattle.sqlite.specs.declared.error.Error.{Error}
use Rattle.sqlite_trees.specs.declared.error.StoreError.{StoreError}
use Rattle.sqlite_trees.specs.declared.error.StoreError.TheVariants as store
use Rattle.sqlite.specs.Listing.{understood, reads_listing, IsSourceOf}
use Rattle.sqlite.specs.Effect.{Database, RefusesToRead}
use Rattle.sqlite.specs.Clock.{timed}
use Rattle.sqlite.specs.Command.TheVariants.{Select}
use Rattle.sqlite.specs.State.{State, FailsToQuery, FailsToShow, IsNotRun, IsNoStatement, HasCleanDisk, Fails, HasCause, store_error}
use Rattle.sqlite.proofs.Callers.{IsPlain, command_of}
use Rattle.std.proofs.lemmas.Bool.{cases_Bool}
use Rattle.sqlite.specs.Program.{overlay}
use Rattle.sqlite_sql.proofs.QueryLemmas.{no_fold_overflows}
use Rattle.jpa_cells.specs.meaning.Schema.{cell_schema, row_text, table_text}
use Rattle.jpa_cells.specs.meaning.Content.{HoldsCells, IsCellStore, IsExcused}
use Rattle.jpa_cells.proofs.meaning.Texts.{row_query, row_is, row_plain, table_query, table_is, table_plain}

-- the text is one statement with so many parameters, and does not read the time
abbrev pub Takes : List ℕ → ℕ → Result Compiled CompileError → Type 0
Takes sql n (Ok c) = (length sql ≤ c.tail) × (n ≡ length c.names) × (c.formats ≡ [])
Takes sql n (Err e) = ⊥

row_takes : Takes row_text 2 (understood cell_schema row_text)
unfolding understood everything
row_takes = (lit≤ tt, refl, refl)

table_takes : Takes table_text 1 (understood cell_schema table_text)
unfolding understood everything
table_takes = (lit≤ tt, refl, refl)

row_typed : (table : ℤ) (key : List ℕ) → accepts_program cell_schema [] row_query (Int table ∷ Blob key ∷ []) ≡ true
row_typed table key = refl

table_typed : (table : ℤ) → accepts_program cell_schema [] table_query (Int table ∷ []) ≡ true
table_typed table = refl

pub fails_excused : (old new : State) (e : Error) → Fails old new ⊥ e → IsExcused old new e
fails_excused old new e h = go h.0 h.1 h.2
  where
    go : (cause : StoreError) → e ≡ store_error cause → HasCause old new ⊥ cause → IsExcused old new e
    go store.OutOfMemory is why = inl is
    go store.Io is why = inr (inl why)
    go store.Corrupt is why = inr (inl why)
    go store.Full is why = inr (inl why)
    go store.Broken is why = inr (inr (inl why))
    go store.Unstorable is why = absurd why

-- a SELECT from the one table, with no group
abbrev selected : List Term → List Term → List (Term × Key) → Query
selected filter project order = record row_query { filter = filter; project = project; order = order }

module _ (filter project : List Term) (order : List (Term × Key)) (names : List (List ℕ)) (text : List ℕ) (given : Row)
    (is : command_of (understood cell_schema text) ≡ Select (record { lets = []; body = selected filter project order }) names) (no_listing : reads_listing cell_schema text ≡ false)
    (plain : IsPlain (understood cell_schema text)) (takes : Takes text (length given) (understood cell_schema text)) (typed : accepts_program cell_schema [] (selected filter project order) given ≡ true) where
  module _ (old new : State) (holds : HoldsCells old.now) where
    taken : (c : Compiled) → understood old.now.schema text ≡ Ok c → Takes text (length given) (Ok c)
    taken c known = subst (Takes text (length given)) (sym (ap (λ s. understood s text) holds.schema) ∙ known) takes

    no_statement : (e : Error) → IsNoStatement old text given e → ⊥
    no_statement e (inl h) = subst (Takes text (length given)) (sym (ap (λ s. understood s text) holds.schema) ∙ h.1) takes
    no_statement e (inr (c, known, inl h)) = h.0 (taken c known).0
    no_statement e (inr (c, known, inr (inl h))) = h.0 (taken c known).1
    no_statement e (inr (c, known, inr (inr h))) = h.0 (taken c known).2

    refuses : (db : Database) (e : Error) → db ≡ old.now → RefusesToRead old.step_limit (command_of (understood cell_schema text)) db given e → IsSome old.step_limit
    refuses db e same h = go (subst (λ k. RefusesToRead old.step_limit k db given e) is h)
      where
        go : RefusesToRead old.step_limit (Select (record { lets = []; body = selected filter project order }) names) db given e → IsSome old.step_limit
        go (inl wrong) = absurd (true≢false (sym typed ∙ ap (λ s. accepts_program s [] (selected filter project order) given) (sym (ap (λ (d : Database). d.schema) same ∙ holds.schema)) ∙ wrong.1))
        go (inr (inl wide)) = absurd (elim wide.1 [ inl group ↦ group | inr fold ↦ no_fold_overflows (overlay db.trees []) row_query.from (given ∷ []) refl fold ])
        go (inr (inr cut)) = cut.1

    excused : (e : Error) → FailsToQuery text given old new e → IsExcused old new e
    unfolding FailsToQuery IsNotRun
    excused e (inl (inl h)) = absurd (no_statement e h.0)
    excused e (inl (inr h)) = fails_excused old new e h
    excused e (inr h) =
        let known : Ok h.0 ≡ understood cell_schema text = sym h.1.is ∙ ap (λ s. understood s text) holds.schema in
        let bare = subst IsPlain (sym known) plain in
        let it = rw (bare.1, append-nil given) at (subst (FailsToShow old new text h.0 (timed given h.0.formats h.1.now) e) bare.0 h.2) in
        let db : it.0 ≡ old.now = subst (λ b. IsSourceOf b old.now it.0) (ap (λ s. reads_listing s text) holds.schema ∙ no_listing) it.1 in
        inr (inr (inr (refuses it.0 e db (subst (λ k. RefusesToRead old.step_limit k it.0 given e) (ap command_of known) it.2))))

  fault : (old new : State) → IsCellStore old → HasCleanDisk old → (e : Error) → FailsToQuery text given old new e → IsExcused old new e
  fault old new store clean e h = elim (cases_Bool old.is_open) [
    | inl live ↦ excused old new (store clean live) e h
    | inr shut ↦ inr (inr (inl shut))
  ]

pub row_fault : (old new : State) → IsCellStore old → HasCleanDisk old → (table : ℤ) (key : List ℕ) (e : Error) → FailsToQuery row_text (Int table ∷ Blob key ∷ []) old new e → IsExcused old new e
row_fault old new store clean table key e h =
    fault row_query.filter row_query.project row_query.order (codes "c" ∷ codes "v" ∷ []) row_text (Int table ∷ Blob key ∷ []) row_is.0 row_is.1 row_plain row_takes (row_typed table key) old new store clean e h

pub table_fault : (old new : State) → IsCellStore old → HasCleanDisk old → (table : ℤ) (e : Error) → FailsToQuery table_text (Int table ∷ []) old new e → IsExcused old new e
table_fault old new store clean table e h =
    fault table_query.filter table_query.project table_query.order (codes "r" ∷ codes "c" ∷ codes "v" ∷ []) table_text (Int table ∷ []) table_is.0 table_is.1 table_plain table_takes (table_typed table) old new store clean e h
