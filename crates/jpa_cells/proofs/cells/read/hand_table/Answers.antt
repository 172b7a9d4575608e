use Rattle.std.proofs.Common.{◌≡◌, ◌∙◌, [], ap, not, sym, subst, refl, inl, rules, true, false, true≢false, Some, None, Ok, Err, option_to_list, Result, Bool, to_z-of_z}
use Rattle.std.specs.Prelude.{IsErr, IsErrAnd}
use Rattle.jpa_value.specs.declared.refusal.Cause.{Cause}
use Rattle.jpa_value.specs.declared.refusal.Cause.TheVariants as cause
use Rattle.jpa_rows.specs.laws.Handing.{Hands}
use Rattle.jpa_cells.specs.meaning.Store.{IsStoreCause, HandsTable}
use Rattle.jpa_cells.specs.meaning.Reads.{ShowsOn}
use Rattle.jpa_cells.proofs.meaning.Handing.{IsHanding, begins, not_begun, goes_on, takes, early, cut_off, stops, ends, refused_reads, shown_reads, handing_reads}
use Rattle.jpa_cells.proofs.cells.read.hand_table.Goals as goal

pub returns-in-Err-clause-reads : goal.returns-in-Err-clause-reads
returns-in-Err-clause-reads g c =
    let settled = c.is_autocommit-idle.ensures.settled (c.is_autocommit-idle.ensures.value ∙ ap not c.requires.idle) in
    not_begun g.S.Store g.K.CellSink.takes c.args.table c.args.conn.now c.args.sink.now c.query.follows.lender-at-none _ c.in-Err.error c.cause_of.result refl c.requires.idle c.requires.cells settled
    (rw (c.in-Err.is, c.params-to_sql.ensures, to_z-of_z c.ranges.table) at c.query.follows.holds-at-none) c.cause_of.ensures.fault

pub entries-init : goal.entries-init
entries-init g c =
    let settled = c.is_autocommit-idle.ensures.settled (c.is_autocommit-idle.ensures.value ∙ ap not c.requires.idle) in
    let made = c.in-Ok.ensures in
    let begun = begins g.S.Store g.K.CellSink.takes c.args.table c.args.conn.now c.args.sink.now c.in-Ok.rows.conn.now c.requires.idle c.requires.cells settled (λ clean. rw (c.params-to_sql.ensures, to_z-of_z c.ranges.table) at (made.begun clean)) made.mode (rw (c.params-to_sql.ensures, to_z-of_z c.ranges.table) at made.survives) in
    (refl, rw (to_z-of_z c.ranges.table) begun)

pub returns-in_err-row-clause-handed : goal.returns-in_err-row-clause-handed
returns-in_err-row-clause-handed g c =
    let first = c.args.conn.now in
    let start = c.args.sink.now in
    let old = c.entries.rows.conn.now in
    let now : IsHanding g.S.Store g.K.CellSink.takes c.args.table first start old [] c.entries.begun c.entries.sink = rw (to_z-of_z c.ranges.table) at c.entries.invariant.1 in
    let new = c.next_entry.new.rows.conn.now in
    let r = c.from_residual.result in
    let failed : IsErrAnd r IsStoreCause = search rules in
    let fact = cut_off g.S.Store g.K.CellSink.takes c.args.table first start old new c.entries.begun c.entries.sink r now (early g.S.Store g.K.CellSink.takes c.args.table first start old new c.next_entry.ensures.survives) failed in
    let same_conn : c.conn-in_err-row-1.given.0 ≡ new = search rules in
    subst (λ k. HandsTable g.S.Store g.K.CellSink.takes IsStoreCause c.args.table first k start r c.entries.sink) (sym same_conn) fact

pub returns-in_err-row-clause-reads : goal.returns-in_err-row-clause-reads
returns-in_err-row-clause-reads g c =
    let first = c.args.conn.now in
    let start = c.args.sink.now in
    let old = c.entries.rows.conn.now in
    let now : IsHanding g.S.Store g.K.CellSink.takes c.args.table first start old [] c.entries.begun c.entries.sink = rw (to_z-of_z c.ranges.table) at c.entries.invariant.1 in
    let new = c.next_entry.new.rows.conn.now in
    let r = c.from_residual.result in
    let fact = refused_reads g.S.Store g.K.CellSink.takes c.args.table first start old new c.entries.begun c.entries.sink _ c.next_entry.result r now c.next_entry.ensures.survives c.next_entry.ensures.idle c.next_entry.ensures.shows c.in_err-row.was (search rules) in
    search (rules, fact)

pub returns-in_default-clause-handed : goal.returns-in_default-clause-handed
returns-in_default-clause-handed g c =
    let first = c.args.conn.now in
    let start = c.args.sink.now in
    let old = c.entries.rows.conn.now in
    let now : IsHanding g.S.Store g.K.CellSink.takes c.args.table first start old [] c.entries.begun c.entries.sink = rw (to_z-of_z c.ranges.table) at c.entries.invariant.1 in
    let new = c.next_entry.new.rows.conn.now in
    let is : c.next_entry.result ≡ Ok None = search rules in
    let shows : ShowsOn g.S.Store old new (Ok None) = subst (ShowsOn g.S.Store old new) is c.next_entry.ensures.shows in
    let fact = ends g.S.Store g.K.CellSink.takes c.args.table first start old new c.entries.begun c.entries.sink c.hand_on.new.sink c.hand_on.result now (early g.S.Store g.K.CellSink.takes c.args.table first start old new c.next_entry.ensures.survives) shows c.hand_on.ensures.handed in
    let same_conn : c.conn-in_default-1.given.0 ≡ new = search rules in
    subst (λ k. HandsTable g.S.Store g.K.CellSink.takes IsStoreCause c.args.table first k start c.hand_on.result c.hand_on.new.sink) (sym same_conn) fact

pub returns-in_default-clause-reads : goal.returns-in_default-clause-reads
returns-in_default-clause-reads g c =
    let first = c.args.conn.now in
    let start = c.args.sink.now in
    let old = c.entries.rows.conn.now in
    let now : IsHanding g.S.Store g.K.CellSink.takes c.args.table first start old [] c.entries.begun c.entries.sink = rw (to_z-of_z c.ranges.table) at c.entries.invariant.1 in
    let new = c.next_entry.new.rows.conn.now in
    let fact = shown_reads g.S.Store g.K.CellSink.takes c.args.table first start old new c.entries.begun c.entries.sink c.next_entry.result _ c.hand_on.result now c.next_entry.ensures.survives c.next_entry.ensures.idle c.next_entry.ensures.shows c.in_ok-row.was c.hand_on.ensures.own in
    search (rules, fact)

pub returns-in_err-whole-clause-handed : goal.returns-in_err-whole-clause-handed
returns-in_err-whole-clause-handed g c =
    let first = c.args.conn.now in
    let start = c.args.sink.now in
    let old = c.entries.rows.conn.now in
    let now : IsHanding g.S.Store g.K.CellSink.takes c.args.table first start old [] c.entries.begun c.entries.sink = rw (to_z-of_z c.ranges.table) at c.entries.invariant.1 in
    let new = c.next_entry.new.rows.conn.now in
    let r = c.from_residual-in_err-whole.result in
    let failed : IsErrAnd r IsStoreCause = search rules in
    let fact = cut_off g.S.Store g.K.CellSink.takes c.args.table first start old new c.entries.begun c.entries.sink r now (early g.S.Store g.K.CellSink.takes c.args.table first start old new c.next_entry.ensures.survives) failed in
    let same_conn : c.conn-in_err-whole-1.given.0 ≡ new = search rules in
    subst (λ k. HandsTable g.S.Store g.K.CellSink.takes IsStoreCause c.args.table first k start r c.entries.sink) (sym same_conn) fact

pub returns-in_err-whole-clause-reads : goal.returns-in_err-whole-clause-reads
returns-in_err-whole-clause-reads g c =
    let first = c.args.conn.now in
    let start = c.args.sink.now in
    let old = c.entries.rows.conn.now in
    let now : IsHanding g.S.Store g.K.CellSink.takes c.args.table first start old [] c.entries.begun c.entries.sink = rw (to_z-of_z c.ranges.table) at c.entries.invariant.1 in
    let new = c.next_entry.new.rows.conn.now in
    let r = c.from_residual-in_err-whole.result in
    let memory : r ≡ Err cause.OutOfMemory = search rules in
    let fact = shown_reads g.S.Store g.K.CellSink.takes c.args.table first start old new c.entries.begun c.entries.sink c.next_entry.result _ r now c.next_entry.ensures.survives c.next_entry.ensures.idle c.next_entry.ensures.shows c.in_ok-row.was (λ fault. (let both = sym memory ∙ fault in cc)) in
    search (rules, fact)

pub returns-in_err-hand_on-clause-handed : goal.returns-in_err-hand_on-clause-handed
returns-in_err-hand_on-clause-handed g c =
    let first = c.args.conn.now in
    let start = c.args.sink.now in
    let old = c.entries.rows.conn.now in
    let now : IsHanding g.S.Store g.K.CellSink.takes c.args.table first start old [] c.entries.begun c.entries.sink = rw (to_z-of_z c.ranges.table) at c.entries.invariant.1 in
    let new = c.next_entry.new.rows.conn.now in
    let whole = option_to_list c.in_ok-whole.whole in
    let is : c.next_entry.result ≡ Ok (Some (c.in-Some.row, c.in-Some.cell)) = search rules in
    let next = goes_on g.S.Store g.K.CellSink.takes c.args.table first start old new c.entries.begun (c.in-Some.row, c.in-Some.cell) whole c.in_ok-whole.last c.entries.sink now c.next_entry.ensures.survives c.next_entry.ensures.idle (subst (ShowsOn g.S.Store old new) is c.next_entry.ensures.shows) c.in_ok-whole.ensures in
    let r = c.from_residual-in_err-hand_on.result in
    let same : c.hand_on-in-entries.result ≡ r = search rules in
    let failed : IsErr r = search rules in
    let handed = subst (λ x. Hands g.K.CellSink.takes (λ _. ⊥) c.entries.sink whole x c.hand_on-in-entries.new.sink) same c.hand_on-in-entries.ensures.handed in
    let fact = stops g.S.Store g.K.CellSink.takes c.args.table first start new whole (Some c.in_ok-whole.last) c.entries.sink c.hand_on-in-entries.new.sink r next handed (λ all. true≢false (sym (subst IsErr all failed))) in
    let same_conn : c.conn-in_err-hand_on-1.given.0 ≡ new = search rules in
    subst (λ k. HandsTable g.S.Store g.K.CellSink.takes IsStoreCause c.args.table first k start r c.hand_on-in-entries.new.sink) (sym same_conn) fact

pub returns-in_err-hand_on-clause-reads : goal.returns-in_err-hand_on-clause-reads
returns-in_err-hand_on-clause-reads g c =
    let first = c.args.conn.now in
    let start = c.args.sink.now in
    let old = c.entries.rows.conn.now in
    let now : IsHanding g.S.Store g.K.CellSink.takes c.args.table first start old [] c.entries.begun c.entries.sink = rw (to_z-of_z c.ranges.table) at c.entries.invariant.1 in
    let new = c.next_entry.new.rows.conn.now in
    let whole = option_to_list c.in_ok-whole.whole in
    let is : c.next_entry.result ≡ Ok (Some (c.in-Some.row, c.in-Some.cell)) = search rules in
    let next = goes_on g.S.Store g.K.CellSink.takes c.args.table first start old new c.entries.begun (c.in-Some.row, c.in-Some.cell) whole c.in_ok-whole.last c.entries.sink now c.next_entry.ensures.survives c.next_entry.ensures.idle (subst (ShowsOn g.S.Store old new) is c.next_entry.ensures.shows) c.in_ok-whole.ensures in
    let r = c.from_residual-in_err-hand_on.result in
    let same : c.hand_on-in-entries.result ≡ r = search rules in
    let fact = handing_reads g.S.Store g.K.CellSink.takes c.args.table first start new whole (Some c.in_ok-whole.last) c.entries.sink r next (λ fault. c.hand_on-in-entries.ensures.own (same ∙ fault)) in
    search (rules, fact)

pub returns-then-not-branch-clause-handed : goal.returns-then-not-branch-clause-handed
returns-then-not-branch-clause-handed g c =
    let first = c.args.conn.now in
    let start = c.args.sink.now in
    let old = c.entries.rows.conn.now in
    let now : IsHanding g.S.Store g.K.CellSink.takes c.args.table first start old [] c.entries.begun c.entries.sink = rw (to_z-of_z c.ranges.table) at c.entries.invariant.1 in
    let new = c.next_entry.new.rows.conn.now in
    let whole = option_to_list c.in_ok-whole.whole in
    let is : c.next_entry.result ≡ Ok (Some (c.in-Some.row, c.in-Some.cell)) = search rules in
    let next = goes_on g.S.Store g.K.CellSink.takes c.args.table first start old new c.entries.begun (c.in-Some.row, c.in-Some.cell) whole c.in_ok-whole.last c.entries.sink now c.next_entry.ensures.survives c.next_entry.ensures.idle (subst (ShowsOn g.S.Store old new) is c.next_entry.ensures.shows) c.in_ok-whole.ensures in
    let r : Result Bool Cause = Ok false in
    let same : c.hand_on-in-entries.result ≡ r = search rules in
    let handed = subst (λ x. Hands g.K.CellSink.takes (λ _. ⊥) c.entries.sink whole x c.hand_on-in-entries.new.sink) same c.hand_on-in-entries.ensures.handed in
    let fact = stops g.S.Store g.K.CellSink.takes c.args.table first start new whole (Some c.in_ok-whole.last) c.entries.sink c.hand_on-in-entries.new.sink r next handed (λ all. (let x = all in cc)) in
    let same_conn : c.conn-then-not-branch-1.given.0 ≡ new = search rules in
    subst (λ k. HandsTable g.S.Store g.K.CellSink.takes IsStoreCause c.args.table first k start r c.hand_on-in-entries.new.sink) (sym same_conn) fact

pub returns-then-not-branch-clause-reads : goal.returns-then-not-branch-clause-reads
returns-then-not-branch-clause-reads g c =
    let first = c.args.conn.now in
    let start = c.args.sink.now in
    let old = c.entries.rows.conn.now in
    let now : IsHanding g.S.Store g.K.CellSink.takes c.args.table first start old [] c.entries.begun c.entries.sink = rw (to_z-of_z c.ranges.table) at c.entries.invariant.1 in
    let new = c.next_entry.new.rows.conn.now in
    let whole = option_to_list c.in_ok-whole.whole in
    let is : c.next_entry.result ≡ Ok (Some (c.in-Some.row, c.in-Some.cell)) = search rules in
    let next = goes_on g.S.Store g.K.CellSink.takes c.args.table first start old new c.entries.begun (c.in-Some.row, c.in-Some.cell) whole c.in_ok-whole.last c.entries.sink now c.next_entry.ensures.survives c.next_entry.ensures.idle (subst (ShowsOn g.S.Store old new) is c.next_entry.ensures.shows) c.in_ok-whole.ensures in
    let r : Result Bool Cause = Ok false in
    let fact = handing_reads g.S.Store g.K.CellSink.takes c.args.table first start new whole (Some c.in_ok-whole.last) c.entries.sink r next (λ fault. (let x = fault in cc)) in
    search (rules, fact)

pub entries-preserved : goal.entries-preserved
entries-preserved g c =
    let first = c.args.conn.now in
    let start = c.args.sink.now in
    let old = c.entries.rows.conn.now in
    let now : IsHanding g.S.Store g.K.CellSink.takes c.args.table first start old [] c.entries.begun c.entries.sink = rw (to_z-of_z c.ranges.table) at c.entries.invariant.1 in
    let new = c.next_entry.new.rows.conn.now in
    let whole = option_to_list c.in_ok-whole.whole in
    let is : c.next_entry.result ≡ Ok (Some (c.in-Some.row, c.in-Some.cell)) = search rules in
    let next = goes_on g.S.Store g.K.CellSink.takes c.args.table first start old new c.entries.begun (c.in-Some.row, c.in-Some.cell) whole c.in_ok-whole.last c.entries.sink now c.next_entry.ensures.survives c.next_entry.ensures.idle (subst (ShowsOn g.S.Store old new) is c.next_entry.ensures.shows) c.in_ok-whole.ensures in
    let same : c.hand_on-in-entries.result ≡ Ok true = search rules in
    let handed = subst (λ x. Hands g.K.CellSink.takes (λ _. ⊥) c.entries.sink whole x c.hand_on-in-entries.new.sink) same c.hand_on-in-entries.ensures.handed in
    let more = takes g.S.Store g.K.CellSink.takes c.args.table first start new whole (Some c.in_ok-whole.last) c.entries.sink c.hand_on-in-entries.new.sink next handed in
    (c.next_entry.ensures.same_reference ∙ c.entries.invariant.0, rw (to_z-of_z c.ranges.table) more)

pub returns-clause-handed : goal.returns-clause-handed
returns-clause-handed g c =
    let first = c.args.conn.now in
    let start = c.args.sink.now in
    let old = c.entries.rows.conn.now in
    let now : IsHanding g.S.Store g.K.CellSink.takes c.args.table first start old [] c.entries.begun c.entries.sink = rw (to_z-of_z c.ranges.table) at c.entries.invariant.1 in
    let fact = cut_off g.S.Store g.K.CellSink.takes c.args.table first start old old c.entries.begun c.entries.sink (Err cause.OutOfMemory) now (λ clean. clean) (inl refl) in
    let same_conn : c.conn-2-1.given.0 ≡ old = search rules in
    subst (λ k. HandsTable g.S.Store g.K.CellSink.takes IsStoreCause c.args.table first k start (Err cause.OutOfMemory) c.entries.sink) (sym same_conn) fact
