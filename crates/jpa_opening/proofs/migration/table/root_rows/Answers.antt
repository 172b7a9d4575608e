use Rattle.std.specs.Prelude.{◌≡◌, ◌++◌, map, IfOk, OnOk}
use Rattle.std.proofs.Common.{sym, ap, subst, ◌∙◌, append-nil, rules, SFits, w64}
use Rattle.std.proofs.lemmas.Int.{to_z-of_z}
use Rattle.std.specs.List.{AllByRecursion, flat_map}
use Rattle.jpa_behaviour.specs.Registered.{world_of}
use Rattle.jpa_object_rows.proofs.meaning.Bytes.Classes.{is_below}
use Rattle.jpa_opening.specs.declared.migration.plan.Plan.{Plan}
use Rattle.jpa_opening.specs.migration.Plans.{is_idle, row_by, change_by}
use Rattle.jpa_opening.specs.migration.Orderly.{IsOrderly}
use Rattle.jpa_opening.proofs.migration.RootRows.{rows_planned, all_orderly, changes_planned, idle_rows, idle_changes}
use Rattle.jpa_opening.proofs.migration.table.root_rows.Goals as goal

pub returns-then-is_idle-clause-rows : goal.returns-then-is_idle-clause-rows
returns-then-is_idle-clause-rows g c rise =
    let m = c.args.metamodel.now in
    let world = world_of g.B.Behaviour.meaning m c.args.registry.now in
    let idle = ap is_idle (sym c.in_ok-plan.ensures.ok) ∙ sym c.is_idle.ensures ∙ c.if-is_idle.true in
    idle_rows world c.unit-unit.ensures.described c.args.history.now c.args.root (is_below c.args.root _ c.requires) idle c.args.rows.items rise.full rise.columns

pub returns-then-is_idle-clause-changes : goal.returns-then-is_idle-clause-changes
returns-then-is_idle-clause-changes g c rise =
    let m = c.args.metamodel.now in
    let world = world_of g.B.Behaviour.meaning m c.args.registry.now in
    let idle = ap is_idle (sym c.in_ok-plan.ensures.ok) ∙ sym c.is_idle.ensures ∙ c.if-is_idle.true in
    let none = idle_changes world c.unit-unit.ensures.described c.args.history.now c.args.root (is_below c.args.root _ c.requires) idle c.args.table c.args.rows.items rise.full rise.columns in
    sym (append-nil c.args.changes.now) ∙ ap (λ more. c.args.changes.now ++ more) (sym none)

pub returns-clause-rows : goal.returns-clause-rows
returns-clause-rows g c rise =
    let m = c.args.metamodel.now in
    let world = world_of g.B.Behaviour.meaning m c.args.registry.now in
    let h = c.args.history.now in
    let rows = c.args.rows.items in
    let plan = c.in_ok-plan.ensures.ok in
    let orderly = subst (λ (p : Plan). AllByRecursion (λ r. IsOrderly p r.cells) rows) (sym plan) (all_orderly world c.unit-unit.ensures.described h c.args.root (is_below c.args.root _ c.requires) rows rise.columns) in
    let same = ap (λ (p : Plan). map (row_by p) rows) plan ∙ rows_planned world c.unit-unit.ensures.described h c.args.root (is_below c.args.root _ c.requires) rows in
    subst (λ l. IfOk c.rows_by.result (λ after. after.items ≡ l)) same (c.rows_by.ensures.rows orderly)

pub returns-clause-changes : goal.returns-clause-changes
returns-clause-changes g c rise =
    let m = c.args.metamodel.now in
    let world = world_of g.B.Behaviour.meaning m c.args.registry.now in
    let h = c.args.history.now in
    let rows = c.args.rows.items in
    let plan = c.in_ok-plan.ensures.ok in
    let fits : SFits w64 c.args.table = search rules in
    let orderly = subst (λ (p : Plan). AllByRecursion (λ r. IsOrderly p r.cells) rows) (sym plan) (all_orderly world c.unit-unit.ensures.described h c.args.root (is_below c.args.root _ c.requires) rows rise.columns) in
    let same = ap (λ table. flat_map (change_by c.in_ok-plan.plan table) rows) (to_z-of_z w64 c.args.table fits) ∙ ap (λ (p : Plan). flat_map (change_by p c.args.table) rows) plan
    ∙ changes_planned world c.unit-unit.ensures.described h c.args.root (is_below c.args.root _ c.requires) c.args.table rows rise.full rise.columns in
    subst (λ l. OnOk c.rows_by.result (c.rows_by.new.changes ≡ c.args.changes.now ++ l)) same (c.rows_by.ensures.changes orderly)
