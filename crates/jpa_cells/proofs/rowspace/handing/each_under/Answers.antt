use Rattle.std.proofs.Common.{refl, sym, subst, rules, to_z-of_z, SFits, w64}
use Rattle.jpa_rows.specs.laws.Handing.{Hands}
use Rattle.jpa_rows.specs.rows.Faults.{IsStoreCause}
use Rattle.jpa_cells.specs.rowspace.Reading.{ReadsRow}
use Rattle.jpa_cells.proofs.rowspace.HandedRows.{read_as}
use Rattle.jpa_cells.proofs.rowspace.handing.each_under.Goals as goal

pub returns-clause-handed : goal.returns-clause-handed
returns-clause-handed g c =
    let takes = g.K.RowSink.takes in
    let rule = c.args.table.now in
    let h = c.each-answer.ensures.handed in
    let last = c.each-answer.new.sink in
    let fits : SFits w64 c.number_of.result = search rules in
    let all = read_as last (λ s. s.sink.ghost_name) (λ s. s.table.now) (λ s. s.sink.now) takes _ (λ s r out m one. one) IsStoreCause rule h.0 _ c.each-answer.result h.2 refl in
    (h.0, λ clean. rw (to_z-of_z fits, c.number_of.ensures) at (h.1 clean), subst (λ k. Hands (ReadsRow takes rule) IsStoreCause c.args.sink.now h.0 c.each-answer.result k) (sym (c.sink-1.given.1 (sym all.0))) all.1)
