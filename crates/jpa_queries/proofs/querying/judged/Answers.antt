use Rattle.std.proofs.Common.{◌≡◌, true, Err, rules, subst}
use Rattle.std.specs.Prelude.{◌&&◌}
use Rattle.jpa_work.specs.context.Steps.{Done, IsRefusedAs}
use Rattle.jpa_work.specs.context.Undo.{now}
use Rattle.jpa_asked.specs.Asking.{read_of, statement_of}
use Rattle.jpa_queries.specs.Queries.{is_count}
use Rattle.jpa_queries.proofs.Judging.{judged_refused, judged_so}
use Rattle.jpa_queries.proofs.querying.judged.Goals as goal

pub returns-in_err-statement : goal.returns-in_err-statement
returns-in_err-statement c =
    let m = c.args.metamodel.now in
    let call = c.args.asked.now in
    let w = now c.args.work.now in
    let said = c.in_ok-said.said in
    let same_lists : c.as_slice-lists.result.now ≡ call.lists = search rules in
    let same_text : c.as_str.result.now ≡ call.text = search rules in
    let same_bindings : c.as_slice-bindings.result.now ≡ call.bindings = search rules in
    let counts : (is_count call.first && is_count call.max) ≡ true = search rules in
    let is_read = subst (λ ls. read_of call.language ls call.text w ≡ Done said w) same_lists
    (subst (λ t. read_of call.language c.as_slice-lists.result.now t w ≡ Done said w) same_text (c.in_ok-said.ensures.meets w)) in
    let refused = subst (λ ls. IsRefusedAs c.in_err-statement.field-0.0 w.events (statement_of call.language m said ls call.bindings w)) same_lists
    (subst (λ bs. IsRefusedAs c.in_err-statement.field-0.0 w.events (statement_of call.language m said c.as_slice-lists.result.now bs w)) same_bindings c.in_err-statement.ensures.meets) in
    let same_error : c.from_residual-in_err-statement.result ≡ Err c.in_err-statement.field-0.0 = search rules in
    record { meets = rw same_error (judged_refused m call w said is_read counts c.in_err-statement.field-0.0 refused) }

pub returns : goal.returns
returns c =
    let m = c.args.metamodel.now in
    let call = c.args.asked.now in
    let w = now c.args.work.now in
    let said = c.in_ok-said.said in
    let statement = c.in_ok-statement.statement in
    let same_lists : c.as_slice-lists.result.now ≡ call.lists = search rules in
    let same_text : c.as_str.result.now ≡ call.text = search rules in
    let same_bindings : c.as_slice-bindings.result.now ≡ call.bindings = search rules in
    let counts : (is_count call.first && is_count call.max) ≡ true = search rules in
    let is_read = subst (λ ls. read_of call.language ls call.text w ≡ Done said w) same_lists
    (subst (λ t. read_of call.language c.as_slice-lists.result.now t w ≡ Done said w) same_text (c.in_ok-said.ensures.meets w)) in
    let is = subst (λ ls. statement_of call.language m said ls call.bindings w ≡ Done statement w) same_lists
    (subst (λ bs. statement_of call.language m said c.as_slice-lists.result.now bs w ≡ Done statement w) same_bindings c.in_ok-statement.ensures.meets) in
    record { meets = judged_so m call w said is_read counts statement c.select_asked.result is (c.select_asked.ensures.meets w) }
