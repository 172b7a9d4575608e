use Rattle.std.proofs.Common.{rules, ◌≡◌, ◌∙◌, ap, subst, sym, Err}
use Rattle.sqlite.specs.Held.{Held}
use Rattle.jpa_behaviour.specs.Served.{world_of_unit}
use Rattle.jpa_cells.specs.meaning.Store.{IsOpen, tables_in}
use Rattle.jpa_cells.specs.meaning.Tables.{Tables}
use Rattle.jpa_cells.specs.rowspace.Space.{Space}
use Rattle.jpa_cells.proofs.rowspace.Holding.{clean_before}
use Rattle.jpa_opening.specs.reader.Opened.{IsMigrated}
use Rattle.jpa_program.specs.Opening.{KeepsOrMakes, RefusesOpening}
use Rattle.jpa_program.proofs.Opened.{opened, opened_keeps, kept_then, endures_then, opens_counting, fault_found, damage_open}
use Rattle.jpa_program.proofs.opening.open_rows.Goals as goal

pub returns-in-Ok-open_store-clause-opened : goal.returns-in-Ok-open_store-clause-opened
returns-in-Ok-open_store-clause-opened g c =
    let world = world_of_unit g.B.Behaviour.meaning c.args.unit.now in
    let h = c.args.history.now in
    let made = c.in-Ok.ensures.made in
    let opens = c.in-Ok-open_store.ensures.opened in
    let left = c.in-Ok-open_store.ensures.leaves in
    let space = c.in-Ok.space in
    let new = c.open_store.new.space in
    let Migrates : Tables → Type 0 = λ tables. IsOpen g.S.Store space.store.conn × IsMigrated world h (tables_in g.S.Store space.store.conn) tables in
    record {
      live = λ clean. (opens.opens clean).1;
      opens = opened g.S.Store world h c.args.conn space.store new.store.conn made.opens left.crash opens.opens;
      crash = endures_then g.S.Store world h c.args.conn space.store new.store.conn made.opens left.crash made.crash;
      counted = opens_counting g.S.Store world h c.args.conn space new _ made.opens (λ clean. (clean_before g.S.Store space.store.conn new.store.conn Migrates left.crash clean, (opens.opens clean).0)) opens.written
          (ap (λ (s : Space g.row.S.Denot). s.store) left.others) opens.counted left.told;
    }

pub returns-in-Err-open_store-clause-refused : goal.returns-in-Err-open_store-clause-refused
returns-in-Err-open_store-clause-refused g c =
    let world = world_of_unit g.B.Behaviour.meaning c.args.unit.now in
    let h = c.args.history.now in
    let made = c.in-Ok.ensures.made in
    let refused = c.in-Err-open_store.ensures.refused in
    let left = c.in-Err-open_store.ensures.leaves in
    let store = c.in-Ok.space.store in
    let new = c.open_store.new.space.store.conn in
    let Migrates : Tables → Type 0 = λ tables. IsOpen g.S.Store store.conn × IsMigrated world h (tables_in g.S.Store store.conn) tables in
    let same : c.into_connection.result ≡ new = c.into_connection.ensures.same ∙ ap (λ (s : Space g.row.S.Denot). s.store.conn) c.space.view_is in
    subst (λ (conn : Held g.row.S.Denot). RefusesOpening g.S.Store g.B.Behaviour.meaning c.args.unit.now h (λ _. KeepsOrMakes g.S.Store c.args.conn) c.args.conn (c.in-Err-open_store.cause, conn)) (sym same)
    (record {
      refused = λ _ _. damage_open g.S.Store world h new c.in-Err-open_store.cause (λ clean t bytes is. (refused.live clean t bytes is).1) refused.refused;
      cause = λ fault clean idle held allows. fault_found g.S.Store world h c.args.conn store new made.opens left.crash held allows (λ allows. left.cause clean allows (ap (λ e. Err e) fault));
      kept = kept_then g.S.Store c.args.conn store.conn new Migrates (opened_keeps g.S.Store c.args.conn store made.opens) left.kept left.crash;
      crash_err = endures_then g.S.Store world h c.args.conn store new made.opens left.crash made.crash;
      again = search rules;
    })
