use Rattle.std.specs.Prelude.{Some, IsSome}
use Rattle.std.proofs.Common.{rules, sym, ap, subst, ◌∙◌, get_or, T}
use Rattle.std.proofs.lemmas.Bool.{false≢true}
use Rattle.std.specs.FinMap.Entries.{is_sorted}
use Rattle.jpa_value.specs.Value.{identity_cmp}
use Rattle.jpa_value.proofs.Orders.{identity_total}
use Rattle.jpa_rows.proofs.rows.Looks.{looks_none, none_at_one}
use Rattle.jpa_stored.proofs.objects.Entries.{find_at, find_gap}
use Rattle.jpa_rows.proofs.overlay.Changes.{got_changed, got_change, got_below}
use Rattle.jpa_rows.proofs.overlay.overlay.Overlay.get.Goals as goal

pub returns-in-Ok-clause-ok : goal.returns-in-Ok-clause-ok
returns-in-Ok-clause-ok g c = λ clean.
    let cs = c.args.self.now in
    let id = c.args.id.now in
    let sorted = subst (λ es. T (is_sorted identity_cmp es)) c.self.view_is c.self.invariant in
    let at = c.in-Ok.at in
    let entry = c.index.result.now in
    let there = ap (λ e. Some e.1) (c.get.ensures ∙ c.index.ensures ∙ ap (λ es. get_or es at entry) c.self.view_is) in
    got_changed c.copy_row.result cs id c.get.result.now.1 (g.R.RowReader.holds c.args.source.now) (find_at identity_total cs id at entry sorted c.in-Ok.ensures.found ∙ sym there) c.copy_row.ensures.equal

pub returns-in-Err-clause-ok : goal.returns-in-Err-clause-ok
returns-in-Err-clause-ok g c = λ clean.
    let cs = c.args.self.now in
    let id = c.args.id.now in
    got_below c.get-in-Err.result cs id (g.R.RowReader.holds c.args.source.now) (find_gap identity_total cs id c.in-Err.field-0 c.in-Err.ensures.absent) (c.get-in-Err.ensures.ok clean)

pub returns-in-Err-clause-own : goal.returns-in-Err-clause-own
returns-in-Err-clause-own g c = λ some. absurd (false≢true (subst IsSome (find_gap identity_total c.args.self.now c.args.id.now c.in-Err.field-0 c.in-Err.ensures.absent) some))

pub returns-in-Ok-clause-changed : goal.returns-in-Ok-clause-changed
returns-in-Ok-clause-changed g c = λ some.
    let cs = c.args.self.now in
    let id = c.args.id.now in
    let sorted = subst (λ es. T (is_sorted identity_cmp es)) c.self.view_is c.self.invariant in
    let at = c.in-Ok.at in
    let entry = c.index.result.now in
    let there = ap (λ e. Some e.1) (c.get.ensures ∙ c.index.ensures ∙ ap (λ es. get_or es at entry) c.self.view_is) in
    got_change c.copy_row.result cs id c.get.result.now.1 (find_at identity_total cs id at entry sorted c.in-Ok.ensures.found ∙ sym there) c.copy_row.ensures.equal

pub returns-in-Err-clause-changed : goal.returns-in-Err-clause-changed
returns-in-Err-clause-changed g c = λ some. absurd (false≢true (subst IsSome (find_gap identity_total c.args.self.now c.args.id.now c.in-Err.field-0 c.in-Err.ensures.absent) some))

pub returns-in-Ok-clause-looks : goal.returns-in-Ok-clause-looks
returns-in-Ok-clause-looks g c = looks_none g.R.RowReader c.copy_row.result c.args.source.now (search rules) (g.met.R.RowReader.still c.args.source.now)

pub returns-in-Err-clause-looks : goal.returns-in-Err-clause-looks
returns-in-Err-clause-looks g c = c.get-in-Err.ensures.looks

pub returns-in-Ok-clause-economy : goal.returns-in-Ok-clause-economy
returns-in-Ok-clause-economy g c = none_at_one g.R.RowReader c.args.source.now

pub returns-in-Err-clause-economy : goal.returns-in-Err-clause-economy
returns-in-Err-clause-economy g c = c.get-in-Err.ensures.economy
