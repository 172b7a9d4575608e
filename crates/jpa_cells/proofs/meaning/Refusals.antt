-- Why a write within a transaction is refused.
use Rattle.std.proofs.Common.{◌≡◌, ◌⊎◌, ◌||◌, inl, inr, ℕ, List, length, Ok, Err, Option, Some, None, Bool, true, false, refl, sym, ap, subst, subst₂, ◌∙◌, append-nil, true≢false}
use Rattle.sqlite.specs.Order.{Row}
use Rattle.sqlite.specs.Command.{Command}
use Rattle.sqlite.specs.Command.TheVariants.{Insert, Delete, Begin, Commit, Rollback, Release, RollbackTo}
use Rattle.sqlite_resolve.specs.declared.compiled.Compiled.{Compiled}
use Rattle.sqlite.specs.declared.error.Error.{Error}
use Rattle.sqlite_trees.specs.declared.error.StoreError.{StoreError}
use Rattle.sqlite_trees.specs.declared.error.StoreError.TheVariants as store
use Rattle.sqlite.specs.Listing.{understood}
use Rattle.sqlite.specs.Effect.{is_query}
use Rattle.sqlite.specs.Does.{Does}
use Rattle.sqlite.specs.Clock.{timed}
use Rattle.sqlite.specs.State.{State, mode_of, text_of, is_pragma, shows_rows, RunsAlone, RunsCommand, IsStatement, IsMisplaced, IsNotRun, IsNoStatement, Escapes, EndsScope, ExecutesIn, ExecutesInside, Fails, HasCause, store_error}
use Rattle.sqlite.proofs.Callers.{IsPlain, command_of, statement_of}
use Rattle.jpa_cells.specs.meaning.Schema.{cell_schema}
use Rattle.jpa_cells.specs.meaning.Content.{HoldsCells, IsExcused}
use Rattle.jpa_cells.proofs.meaning.Causes.{Takes, fails_excused}

-- an INSERT or a DELETE
abbrev pub writes : Command → Bool
writes (Insert at from) = true
writes (Delete at q) = true
writes _ = false

quiet : (command : Command) → writes command ≡ true → (is_query command || (is_pragma command || false)) ≡ false
quiet (Insert at from) h = refl
quiet (Delete at q) h = refl
quiet _ h = absurd (true≢false (sym h))

another : (command other : Command) → writes command ≡ true → writes other ≡ false → command ≡ other → ⊥
another command other h not is = true≢false (sym h ∙ ap writes is ∙ not)

misplaced : (s : State) (command : Command) (e : Error) → writes command ≡ true → IsMisplaced s command e → ⊥
misplaced s command e h (inl (_, inl (is, _))) = another command Begin h refl is
misplaced s command e h (inl (_, inr (inl is, _))) = another command Commit h refl is
misplaced s command e h (inl (_, inr (inr is, _))) = another command Rollback h refl is
misplaced s command e h (inr (_, name, inl is, _)) = another command (Release name) h refl is
misplaced s command e h (inr (_, name, inr is, _)) = another command (RollbackTo name) h refl is

stays : (s : State) (command : Command) → writes command ≡ true → Escapes 0 s command → ⊥
stays s command h (inl (inl is)) = another command Commit h refl is
stays s command h (inl (inr is)) = another command Rollback h refl is
stays s command h (inr (name, inl is, _)) = another command (Release name) h refl is
stays s command h (inr (name, inr is, _)) = another command (RollbackTo name) h refl is

module _ (text : List ℕ) (given : Row) (command : Command) (is : command_of (understood cell_schema text) ≡ command) (plain : IsPlain (understood cell_schema text)) (takes : Takes text (length given) (understood cell_schema text))
    (write : writes command ≡ true) (old new : State) (holds : HoldsCells old.now) where
  taken : (c : Compiled) → understood old.now.schema text ≡ Ok c → Takes text (length given) (Ok c)
  taken c known = subst (Takes text (length given)) (sym (ap (λ s. understood s text) holds.schema) ∙ known) takes

  no_statement : (e : Error) → IsNoStatement old text given e → ⊥
  no_statement e (inl h) = subst (Takes text (length given)) (sym (ap (λ s. understood s text) holds.schema) ∙ h.1) takes
  no_statement e (inr (c, known, inl h)) = h.0 (taken c known).0
  no_statement e (inr (c, known, inr (inl h))) = h.0 (taken c known).1
  no_statement e (inr (c, known, inr (inr h))) = h.0 (taken c known).2

  -- what the command itself refuses, or a row that cannot be stored
  abbrev pub Stops : Type 0
  Stops = (stop : Option Error) × Does old.step_limit (mode_of old) given old.now (statement_of text (understood cell_schema text)) None command (Err stop)

  module _ (c : Compiled) (known : Ok c ≡ understood cell_schema text) where
    the_command : c.command ≡ command
    the_command = ap command_of known ∙ is

    stops : (stop : Option Error) → Does old.step_limit (mode_of old) given old.now (text_of text c) None c.command (Err stop) → Stops
    stops stop h = (stop, subst₂ (λ k t. Does old.step_limit (mode_of old) given old.now t None k (Err stop)) the_command (ap (statement_of text) known) h)

    failed : (e : Error) → Fails old new (Does old.step_limit (mode_of old) given old.now (text_of text c) None c.command (Err None)) e → IsExcused old new e ⊎ Stops
    failed e h = go h.0 h.1 h.2
      where
        go : (cause : StoreError) → e ≡ store_error cause → HasCause old new (Does old.step_limit (mode_of old) given old.now (text_of text c) None c.command (Err None)) cause → IsExcused old new e ⊎ Stops
        go store.OutOfMemory same why = inl (inl same)
        go store.Io same why = inl (inr (inl why))
        go store.Corrupt same why = inl (inr (inl why))
        go store.Full same why = inl (inr (inl why))
        go store.Broken same why = inl (inr (inr (inl why)))
        go store.Unstorable same why = inr (stops None why)

    ran : (e : Error) → c.returning ≡ None → RunsCommand old new text (record c { returning = None }) given (Err e) → IsExcused old new e ⊎ Stops
    ran e bare (inl (inl wrong, _)) = absurd (misplaced old command e write (subst (λ k. IsMisplaced old k e) the_command wrong))
    ran e bare (inl (inr (_, does), _)) = inr (stops (Some e) does)
    ran e bare (inr fails) = failed e fails

  refused : (c : Compiled) (it : IsStatement old text given c) (e : Error) → RunsAlone false old new text c (timed given c.formats it.now) (Err e) → IsExcused old new e ⊎ Stops
  refused c it e h =
      let known : Ok c ≡ understood cell_schema text = sym it.is ∙ ap (λ s. understood s text) holds.schema in
      let bare = subst IsPlain (sym known) plain in
      let silent : shows_rows false c ≡ false = rw (bare.0, ap command_of known ∙ is) (quiet command write) in
      ran c known e bare.0 (rw (silent, bare.0, bare.1, append-nil given) at h)

  pub failing : (e : Error) → ExecutesInside 0 text given old new (Err e) → IsExcused old new e ⊎ Stops
  unfolding ExecutesIn IsNotRun EndsScope
  failing e (inl (inl (inl h), _)) = absurd (no_statement e h.0)
  failing e (inl (inl (inr h), _)) = inl (fails_excused old new e h)
  failing e (inl (inr (c, it, h), _)) = refused c it e h
  failing e (inr ((c, it, escapes), _, _)) =
      let known : Ok c ≡ understood cell_schema text = sym it.is ∙ ap (λ s. understood s text) holds.schema in absurd (stays old command write (subst (Escapes 0 old) (ap command_of known ∙ is) escapes))
