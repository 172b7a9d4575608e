use Rattle.std.specs.Prelude.{◌==◌}
use Rattle.std.proofs.Common.{sym, ap, subst, ◌∙◌}
use Rattle.std.specs.FinMap.Entries.{where_key, is_sorted-where_key}
use Rattle.jpa_value.specs.Value.{identity_cmp}
use Rattle.jpa_rows.specs.laws.Handing.{Hands}
use Rattle.jpa_rows.specs.rows.Faults.{IsStoreCause}
use Rattle.jpa_rows.specs.rows.Rows.{Rows, table_rows}
use Rattle.jpa_rows.specs.overlay.Overlay.{Changes, rows_under}
use Rattle.jpa_rows.proofs.overlay.Merged.{of_one_table}
use Rattle.jpa_rows.proofs.overlay.overlay.Overlay.each.Goals as goal

pub returns-clause-handed : goal.returns-clause-handed
returns-clause-handed g c = λ clean rows rise holds.
    let table = c.args.table in
    let own : Changes = where_key identity_cmp (λ id. id.table == table) c.args.self.now in
    let parts = ap (λ (cs : Changes). rows_under cs (table_rows table rows)) c.of_table.ensures.table ∙ sym (of_one_table table rows c.args.self.now rise) in
    subst (λ (rs : Rows). Hands g.K.RowSink.takes IsStoreCause c.args.sink.now rs c.each_under.result c.each_under.new.sink) parts
    (c.each_under.ensures.handed clean rows holds c.of_table.ensures.rising (is_sorted-where_key identity_cmp (λ id. id.table == table) rows rise))

pub returns-clause-looks : goal.returns-clause-looks
returns-clause-looks g c = c.each_under.ensures.looks

pub returns-clause-economy : goal.returns-clause-economy
returns-clause-economy g c = c.each_under.ensures.economy
