use Rattle.std.proofs.Common.{rules, ◌≡◌, ◌∙◌, ◌+◌, ◌<◌, ◌^◌, refl, sym, ap, subst, Err}
use Rattle.std.specs.Prelude.{Result, sum_by}
use Rattle.std.proofs.lemmas.Result.{err_from_is_err_and}
use Rattle.jpa_value.specs.declared.refusal.Cause.{Cause}
use Rattle.jpa_behaviour.specs.Registered.{world_of}
use Rattle.jpa_cells.specs.meaning.Store.{Stored, up_to_greatest, IsOpen, Allows, Becomes, Endures, HasFault, tables_in}
use Rattle.jpa_cells.specs.meaning.Tables.{tables_after, statements_of}
use Rattle.jpa_cells.specs.rowspace.Space.{Space}
use Rattle.jpa_opening.specs.reader.Opened.{MakesOpened}
use Rattle.jpa_opening.proofs.reader.Writing.{IsWritten, migrates, becomes, holds_rows, stands, counts_due, fault_first}
use Rattle.jpa_opening.proofs.reader.store.open_store.Goals as goal

one_error : {A E : Type 0} (r : Result A E) (x y : E) → r ≡ Err x → r ≡ Err y → x ≡ y
one_error r x y e f = cc

pub returns-in_err-apply-clause-leaves : goal.returns-in_err-apply-clause-leaves
returns-in_err-apply-clause-leaves g c =
    let world = world_of g.B.Behaviour.meaning c.args.metamodel.now c.args.registry.now in
    let h = c.args.history.now in
    let first = c.args.space.now in
    let mid = c.read_store.new.space in
    let new = c.apply.new.self in
    let changes = c.as_slice.result.now in
    let keeps = c.in_ok-committed.ensures.keeps in
    let read = c.in_ok-committed.ensures.read in
    let store_is : c.space.inside.store ≡ mid.store = ap (λ (s : Space g.row.S.Denot). s.store) c.space.view_is in
    let w : IsWritten g.S.Store world h first mid new keeps read.live changes =
    record {
      makes = λ clean. subst (MakesOpened world h (tables_in g.S.Store first.store.conn)) (sym c.as_slice.ensures) (read.changes clean);
      nothing = λ none. (c.apply.ensures.nothing none).1 ∙ store_is;
      survives = subst (λ (s : Stored g.row.S.Denot). Endures g.S.Store s.conn new.conn (λ tables. IsOpen g.S.Store s.conn × (tables ≡ tables_after changes (tables_in g.S.Store s.conn)))) store_is c.apply.ensures.applies.crash;
    } in
    let told = err_from_is_err_and c.from_residual-in_err-apply.result c.from_residual-in_err-apply.ensures.1 in
    record {
      kept = search rules;
      told = search rules;
      cause = λ clean allows is.
          let fault = c.in_err-apply.was ∙ ap Err (sym told.2 ∙ one_error c.from_residual-in_err-apply.result told.0 Cause.StoreFault told.1 is) in
          fault_first g.S.Store world h first mid new keeps read.live changes w c.in_err-apply.field-0.0 (λ none. sym c.in_err-apply.was ∙ (c.apply.ensures.nothing none).0)
          (λ clean allows. subst (λ (s : Stored g.row.S.Denot). HasFault g.S.Store s.conn new.conn) store_is
          (c.apply.ensures.applies.cause clean (subst (λ (s : Stored g.row.S.Denot). Allows g.S.Store s.conn changes) (sym store_is) allows) fault)) clean allows;
      others = search rules;
      crash = migrates g.S.Store world h first mid new keeps read.live changes w;
    }

pub returns-clause-opened : goal.returns-clause-opened
returns-clause-opened g c =
    let world = world_of g.B.Behaviour.meaning c.args.metamodel.now c.args.registry.now in
    let h = c.args.history.now in
    let first = c.args.space.now in
    let mid = c.read_store.new.space in
    let new = c.apply.new.self in
    let changes = c.as_slice.result.now in
    let keeps = c.in_ok-committed.ensures.keeps in
    let read = c.in_ok-committed.ensures.read in
    let store_is : c.space.inside.store ≡ mid.store = ap (λ (s : Space g.row.S.Denot). s.store) c.space.view_is in
    let w : IsWritten g.S.Store world h first mid new keeps read.live changes =
    record {
      makes = λ clean. subst (MakesOpened world h (tables_in g.S.Store first.store.conn)) (sym c.as_slice.ensures) (read.changes clean);
      nothing = λ none. (c.apply.ensures.nothing none).1 ∙ store_is;
      survives = subst (λ (s : Stored g.row.S.Denot). Endures g.S.Store s.conn new.conn (λ tables. IsOpen g.S.Store s.conn × (tables ≡ tables_after changes (tables_in g.S.Store s.conn)))) store_is c.apply.ensures.applies.crash;
    } in
    let became = becomes g.S.Store world h first mid new keeps read.live changes w (λ some. subst (λ (s : Stored g.row.S.Denot). Becomes g.S.Store s.conn new.conn (tables_after changes)) store_is (c.in_ok-apply.ensures.applies.applied some)) in
    let inside : c.space.inside.store.writes < 2 ^ 64 = search rules in
    let small : mid.store.writes < 2 ^ 64 = subst (λ (s : Stored g.row.S.Denot). s.writes < 2 ^ 64) store_is inside in
    record {
      can_be_held = read.can_be_held;
      holds = λ clean. (read.can_be_held, holds_rows g.S.Store world h first mid new keeps read.live changes w became c.in_ok-committed.committed read.committed clean);
      stand = λ clean _. stands g.S.Store world h first mid new keeps read.live changes w became c.in_ok-committed.committed read.committed clean;
      opens = became;
      counted = search rules;
      written = counts_due g.S.Store world h first mid new keeps read.live changes w small
          (λ some. subst (λ (s : Stored g.row.S.Denot). new.writes ≡ up_to_greatest (s.writes + sum_by statements_of changes)) store_is (c.in_ok-apply.ensures.counted some).0) (λ one. c.as_slice.ensures ∙ read.first one) _ refl;
    }

pub returns-clause-leaves : goal.returns-clause-leaves
returns-clause-leaves g c =
    let world = world_of g.B.Behaviour.meaning c.args.metamodel.now c.args.registry.now in
    let h = c.args.history.now in
    let first = c.args.space.now in
    let mid = c.read_store.new.space in
    let new = c.apply.new.self in
    let changes = c.as_slice.result.now in
    let keeps = c.in_ok-committed.ensures.keeps in
    let read = c.in_ok-committed.ensures.read in
    let store_is : c.space.inside.store ≡ mid.store = ap (λ (s : Space g.row.S.Denot). s.store) c.space.view_is in
    let w : IsWritten g.S.Store world h first mid new keeps read.live changes =
    record {
      makes = λ clean. subst (MakesOpened world h (tables_in g.S.Store first.store.conn)) (sym c.as_slice.ensures) (read.changes clean);
      nothing = λ none. (c.apply.ensures.nothing none).1 ∙ store_is;
      survives = subst (λ (s : Stored g.row.S.Denot). Endures g.S.Store s.conn new.conn (λ tables. IsOpen g.S.Store s.conn × (tables ≡ tables_after changes (tables_in g.S.Store s.conn)))) store_is c.apply.ensures.applies.crash;
    } in
    record {
      kept = search rules;
      told = search rules;
      cause = search rules;
      others = search rules;
      crash = migrates g.S.Store world h first mid new keeps read.live changes w;
    }
