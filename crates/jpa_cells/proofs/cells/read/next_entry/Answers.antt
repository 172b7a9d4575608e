use Rattle.std.proofs.Common.{◌≡◌, subst, rules, Some, None}
use Rattle.sqlite.specs.Given.{Advances, row_if}
use Rattle.jpa_cells.proofs.meaning.Shown.{next_more, next_unread, next_none, next_fails}
use Rattle.jpa_cells.proofs.cells.read.next_entry.Goals as goal

pub returns-in-Err-clause-shows : goal.returns-in-Err-clause-shows
returns-in-Err-clause-shows g c =
    let old = c.args.rows.now.conn.now in
    let new = c.advance.new.self.conn.now in
    next_fails g.S.Store old new c.advance.ensures.survives c.in-Err.error c.cause_of.result c.in-Err.ensures.err c.cause_of.ensures.fault

pub returns-in-Ok-clause-shows : goal.returns-in-Ok-clause-shows
returns-in-Ok-clause-shows g c =
    let old = c.args.rows.now.conn.now in
    let new = c.advance.new.self.conn.now in
    let is : row_if c.advance.new.self.has_row new ≡ Some c.in-Some.row.now = search rules in
    next_more g.S.Store old new c.in-Some.row.now c.in-Ok.entry (λ clean. subst (Advances g.S.Store old new) is (c.in_default.ensures.ok clean)) (λ clean. c.in_default.ensures.same clean) c.in-Ok.ensures.entry

pub returns-in-Err-entry_of-clause-shows : goal.returns-in-Err-entry_of-clause-shows
returns-in-Err-entry_of-clause-shows g c =
    let old = c.args.rows.now.conn.now in
    let new = c.advance.new.self.conn.now in
    let is : row_if c.advance.new.self.has_row new ≡ Some c.in-Some.row.now = search rules in
    next_unread g.S.Store old new c.in-Some.row.now c.in-Err-entry_of.error c.cause_of-in-Err-entry_of.result (λ clean. subst (Advances g.S.Store old new) is (c.in_default.ensures.ok clean)) (λ clean. c.in_default.ensures.same clean) c.in-Err-entry_of.ensures.whole c.cause_of-in-Err-entry_of.ensures.fault

pub returns-in-None-clause-shows : goal.returns-in-None-clause-shows
returns-in-None-clause-shows g c =
    let old = c.args.rows.now.conn.now in
    let new = c.advance.new.self.conn.now in
    let is : row_if c.advance.new.self.has_row new ≡ None = search rules in
    next_none g.S.Store old new c.advance.ensures.survives (λ clean. subst (Advances g.S.Store old new) is (c.in_default.ensures.ok clean)) (λ clean. c.in_default.ensures.same clean)
