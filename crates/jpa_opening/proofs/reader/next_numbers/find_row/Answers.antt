use Rattle.std.proofs.Common.{rules, sym, Ok, Err}
use Rattle.jpa_value.specs.Value.{identity_cmp}
use Rattle.jpa_value.proofs.Orders.{identity_total}
use Rattle.jpa_stored.proofs.objects.Entries.{find_at, find_gap}
use Rattle.jpa_stored.proofs.objects.Found.{searched, computes}
use Rattle.jpa_opening.proofs.reader.next_numbers.find_row.Goals as goal

pub returns-in-Ok : goal.returns-in-Ok
returns-in-Ok c =
    let facts = c.in-Ok.ensures in
    let by_key = facts.position (λ e. identity_cmp e.0 c.args.id.now) (computes (λ e. identity_cmp e.0 c.args.id.now) (λ a r g called. (search rules, search rules))) in
    sym (find_at identity_total c.args.rows.now c.args.id.now c.in-Ok.at c.index-rows-at.result c.requires (searched identity_total c.args.rows.now c.requires c.args.id.now (Ok c.in-Ok.at) facts.bound by_key).found)

pub returns-in-Err : goal.returns-in-Err
returns-in-Err c =
    let facts = c.in-Err.ensures in
    let by_key = facts.position (λ e. identity_cmp e.0 c.args.id.now) (computes (λ e. identity_cmp e.0 c.args.id.now) (λ a r g called. (search rules, search rules))) in
    sym (find_gap identity_total c.args.rows.now c.args.id.now c.in-Err.field-0 (searched identity_total c.args.rows.now c.requires c.args.id.now (Err c.in-Err.field-0) facts.bound by_key).absent)
