use Rattle.std.specs.Prelude.{Ok, Err}
use Rattle.std.proofs.Common.{rules, ◌≡◌, ◌⊎◌, ◌∙◌, ap, subst, sym, inl, inr}
use Rattle.sqlite.specs.Held.{Held}
use Rattle.jpa_behaviour.specs.Served.{world_of_unit}
use Rattle.jpa_cells.specs.rowspace.Space.{Space}
use Rattle.jpa_program.specs.Opening.{OpensDatabase, KeepsOrOpens, RefusesOpening}
use Rattle.jpa_program.proofs.Standing.{made_holds}
use Rattle.jpa_program.proofs.opening.open.Goals as goal

-- what is answered Ok is no refusal
accepted : {A E : Type 0} (a : A) (e f : E) → (Ok a ≡ Err e) ⊎ (Ok a ≡ Err f) → ⊥
accepted a e f (inl is) = cc
accepted a e f (inr is) = cc

pub returns-in-Err-clause-refused : goal.returns-in-Err-clause-refused
returns-in-Err-clause-refused g c =
    let r = c.in-Err.ensures.refused in
    record { refused = r.refused; cause = r.cause; kept = inl r.kept; crash_err = r.crash_err; again = r.again }

pub returns-in-Ok-new-clause-provider : goal.returns-in-Ok-new-clause-provider
returns-in-Ok-new-clause-provider g c =
    let new = c.in-Ok-new.ensures.ok in
    record {
      model = search rules;
      registry = search rules;
      machine = search rules;
      held = search rules;
      cells = made_holds g.S.Store g.B.Behaviour.meaning c.args.unit.metamodel c.args.unit.registry c.in-Ok.opened.0 c.in-Ok.opened.1.set c.in-Ok.opened.1.numbers c.in-Ok-new.provider new.model new.registry new.machine new.rows
          c.in-Ok.ensures.committed.stand;
    }

pub returns-in-Ok-new-clause-opened : goal.returns-in-Ok-new-clause-opened
returns-in-Ok-new-clause-opened g c =
    subst (λ (space : Space g.row.S.Denot). OpensDatabase g.S.Store (world_of_unit g.B.Behaviour.meaning c.args.unit) c.args.history.now c.args.conn space.store) (sym c.in-Ok-new.ensures.ok.rows) c.in-Ok.ensures.opened

pub returns-in-Ok-new-clause-thrown : goal.returns-in-Ok-new-clause-thrown
returns-in-Ok-new-clause-thrown g c known thrown = absurd (accepted c.in-Ok.opened _ _ (c.in-Ok.ensures.thrown known thrown))

pub returns-in-Err-new-clause-thrown : goal.returns-in-Err-new-clause-thrown
returns-in-Err-new-clause-thrown g c known thrown = absurd (accepted c.in-Ok.opened _ _ (c.in-Ok.ensures.thrown known thrown))

pub returns-in-Err-new-clause-refused : goal.returns-in-Err-new-clause-refused
returns-in-Err-new-clause-refused g c =
    let world = world_of_unit g.B.Behaviour.meaning c.args.unit in
    let h = c.args.history.now in
    let opened = c.in-Ok.ensures.opened in
    let same : c.into_connection.result ≡ c.in-Ok.opened.0.store.conn =
    c.into_connection.ensures.same ∙ ap (λ (s : Space g.row.S.Denot). s.store.conn) (c.space.view_is ∙ c.in-Err-new.ensures.refused.1) in
    subst (λ (conn : Held g.row.S.Denot). RefusesOpening g.S.Store g.B.Behaviour.meaning c.args.unit h (KeepsOrOpens g.S.Store world h c.args.conn) c.args.conn (c.in-Err-new.cause, conn)) (sym same)
    (record {
      refused = search rules;
      cause = search rules;
      kept = inr (c.in-Err-new.ensures.refused.0, opened.opens);
      crash_err = opened.crash;
      again = search rules;
    })
