use Rattle.std.specs.Prelude.{◌≡◌, Bool, true, false, ◌++◌, Result, Ok, Err}
use Rattle.std.proofs.Common.{subst, rules}
use Rattle.jpa_value.specs.declared.refusal.Cause.{Cause}
use Rattle.jpa_rows.specs.laws.Handing.{Hands}
use Rattle.jpa_rows.proofs.laws.Handing.{hands_one, hands_both, hands_longer}
use Rattle.jpa_rows.specs.overlay.Overlay.{rows_put, row_unless, stands_first}
use Rattle.jpa_rows.specs.overlay.Merging.{IsMemory}
use Rattle.jpa_rows.proofs.overlay.merge.hand_next.Goals as goal

pub returns-in_err-hand_made-clause-handed : goal.returns-in_err-hand_made-clause-handed
returns-in_err-hand_made-clause-handed g c =
    let same : Err (c.in_err-hand_made.field-0.0) ≡ c.from_residual.result = search rules in
    let row = row_unless (stands_first c.args.id c.args.rest.now) c.args.id c.args.row in
    subst (λ (r : Result Bool Cause). Hands g.K.RowSink.takes IsMemory c.args.sink.now (rows_put c.args.made.now ++ row) r c.hand_made.new.sink) same
    (hands_longer g.K.RowSink.takes IsMemory c.args.sink.now c.hand_made.new.sink (rows_put c.args.made.now) row (Err (c.in_err-hand_made.field-0.0)) (λ e. cc) c.in_err-hand_made.ensures.handed)

pub returns-then-not-branch-clause-handed : goal.returns-then-not-branch-clause-handed
returns-then-not-branch-clause-handed g c =
    let no : c.in_ok-hand_made.field-0 ≡ false = search rules in
    let made : Hands g.K.RowSink.takes IsMemory c.args.sink.now (rows_put c.args.made.now) (Ok false) c.hand_made.new.sink =
    subst (λ (b : Bool). Hands g.K.RowSink.takes IsMemory c.args.sink.now (rows_put c.args.made.now) (Ok b) c.hand_made.new.sink) no c.in_ok-hand_made.ensures.handed in
    hands_longer g.K.RowSink.takes IsMemory c.args.sink.now c.hand_made.new.sink (rows_put c.args.made.now) (row_unless (stands_first c.args.id c.args.rest.now) c.args.id c.args.row) (Ok false) (λ e. cc) made

pub returns-clause-handed : goal.returns-clause-handed
returns-clause-handed g c =
    let yes : c.in_ok-hand_made.field-0 ≡ true = search rules in
    let made : Hands g.K.RowSink.takes IsMemory c.args.sink.now (rows_put c.args.made.now) (Ok true) c.hand_made.new.sink =
    subst (λ (b : Bool). Hands g.K.RowSink.takes IsMemory c.args.sink.now (rows_put c.args.made.now) (Ok b) c.hand_made.new.sink) yes c.in_ok-hand_made.ensures.handed in
    let one = hands_one g.K.RowSink.takes IsMemory c.hand_made.new.sink (c.args.id, c.args.row) c.row-2.result c.row-2.new.self c.row-2.ensures.takes in
    let first : false ≡ stands_first c.args.id c.args.rest.now = search rules in
    hands_both g.K.RowSink.takes IsMemory c.args.sink.now c.hand_made.new.sink c.row-2.new.self (rows_put c.args.made.now) (row_unless (stands_first c.args.id c.args.rest.now) c.args.id c.args.row) c.row-2.result made
    (subst (λ (b : Bool). Hands g.K.RowSink.takes IsMemory c.hand_made.new.sink (row_unless b c.args.id c.args.row) c.row-2.result c.row-2.new.self) first one)
