use Rattle.std.proofs.Common.{subst}
use Rattle.jpa_lines.specs.lines.Outcome.{Adds, data_tokens}
use Rattle.jpa_lines.specs.lines.ReplyText.{shown_data}
use Rattle.jpa_lines.proofs.lines.Told.{added, adds_both}
use Rattle.jpa_lines.proofs.lines.writing.tell_shown.Goals as goal

-- one token or one list behind the other, from the last one on
pub returns : goal.returns
returns c =
    let closed = added _ c.tell_values.new.out c.end_object.new.self _ c.in_ok-end_object.ensures in
    let values = adds_both c.key-3.new.self c.tell_values.new.out c.end_object.new.self _ _ c.in_ok-tell_values.ensures closed in
    let third = adds_both c.tell_relations.new.out c.key-3.new.self c.end_object.new.self _ _ (added _ c.tell_relations.new.out c.key-3.new.self _ c.in_ok-key-3.ensures) values in
    let relations = adds_both c.key-2.new.self c.tell_relations.new.out c.end_object.new.self _ _ c.in_ok-tell_relations.ensures third in
    let second = adds_both c.string.new.self c.key-2.new.self c.end_object.new.self _ _ (added _ c.string.new.self c.key-2.new.self _ c.in_ok-key-2.ensures) relations in
    let entity = adds_both c.key.new.self c.string.new.self c.end_object.new.self _ _ (added _ c.key.new.self c.string.new.self _ c.in_ok-string.ensures) second in
    let first = adds_both c.begin_object.new.self c.key.new.self c.end_object.new.self _ _ (added _ c.begin_object.new.self c.key.new.self _ c.in_ok-key.ensures) entity in
    let whole = adds_both c.args.out.now c.begin_object.new.self c.end_object.new.self _ _ (added _ c.args.out.now c.begin_object.new.self _ c.in_ok-begin_object.ensures) first in
    let x = c.args.shown.now in
    subst (λ e. Adds c.args.out.now c.end_object.new.self (data_tokens (shown_data (record x { entity = e })))) c.as_str.ensures
    (subst (λ rs. Adds c.args.out.now c.end_object.new.self (data_tokens (shown_data (record x { entity = c.as_str.result.now; relations = rs })))) c.as_slice.ensures
    (subst (λ vs. Adds c.args.out.now c.end_object.new.self (data_tokens (shown_data (record { entity = c.as_str.result.now; relations = c.as_slice.result.now; values = vs })))) c.as_slice-2.ensures whole))
