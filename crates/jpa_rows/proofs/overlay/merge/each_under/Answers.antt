use Rattle.std.specs.Prelude.{⊤}
use Rattle.std.proofs.Common.{rules, sym, subst, inl}
use Rattle.jpa_rows.specs.laws.Handing.{Hands}
use Rattle.jpa_rows.proofs.laws.Handing.{hands_keep}
use Rattle.jpa_rows.specs.rows.Faults.{IsStoreCause}
use Rattle.jpa_rows.specs.rows.Rows.{table_rows}
use Rattle.jpa_rows.proofs.rows.Looks.{looks_told}
use Rattle.jpa_rows.specs.overlay.Overlay.{rows_under}
use Rattle.jpa_rows.proofs.overlay.Merging.{walked, goes}
use Rattle.jpa_rows.proofs.overlay.merge.each_under.Goals as goal

pub returns-clause-handed : goal.returns-clause-handed
returns-clause-handed g c = λ clean rows holds sorted rise.
    let takes = g.K.RowSink.takes in
    let walk = c.each-answer.ensures.handed clean rows holds in
    let last = c.each-answer.new.sink in
    let same = hands_keep (λ s. s.sink.ghost_name) _ IsStoreCause (λ s e out t h. h.0) _ (table_rows c.args.table rows) c.each-answer.result last walk in
    let all = walked last (λ s. s.left.now) (λ s. s.sink.now) takes _ (λ s e out t h. h.1) IsStoreCause (λ x e. inl e) (table_rows c.args.table rows) _ c.each-answer.result walk c.hand_rest.result c.hand_rest.new.sink
    (goes takes IsStoreCause (λ x e. inl e) _ _ _ _ _ c.hand_rest.ensures.handed) in
    subst (λ k. Hands takes IsStoreCause c.args.sink.now (rows_under c.args.changes.now (table_rows c.args.table rows)) c.hand_rest.result k) (sym (c.sink-1.given.1 (sym same)))
    (subst (λ rs. Hands takes IsStoreCause c.args.sink.now rs c.hand_rest.result c.hand_rest.new.sink) (all.2 sorted rise) all.1)

pub returns-clause-any : goal.returns-clause-any
returns-clause-any g c =
    let takes = g.K.RowSink.takes in
    let walk = c.each-answer.ensures.any in
    let last = c.each-answer.new.sink in
    let same = hands_keep (λ s. s.sink.ghost_name) _ (λ _. ⊤) (λ s e out t h. h.0) _ walk.0 c.each-answer.result last walk.1 in
    let all = walked last (λ s. s.left.now) (λ s. s.sink.now) takes _ (λ s e out t h. h.1) (λ _. ⊤) (λ x e. tt) walk.0 _ c.each-answer.result walk.1 c.hand_rest.result c.hand_rest.new.sink
    (goes takes (λ _. ⊤) (λ x e. tt) _ _ _ _ _ c.hand_rest.ensures.handed) in
    (all.0, subst (λ k. Hands takes (λ _. ⊤) c.args.sink.now all.0 c.hand_rest.result k) (sym (c.sink-1.given.1 (sym same))) all.1)

pub returns-clause-looks : goal.returns-clause-looks
returns-clause-looks g c =
    looks_told g.R.RowReader c.each-answer.result c.hand_rest.result c.args.source.now c.each-answer.new.self c.each-answer.ensures.looks (search rules)

pub returns-clause-economy : goal.returns-clause-economy
returns-clause-economy g c = c.each-answer.ensures.economy
