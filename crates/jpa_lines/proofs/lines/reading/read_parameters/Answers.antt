use Rattle.std.proofs.Common.{rules, sym, ap, ◌∙◌}
use Rattle.serde_json.specs.View.{members_view}
use Rattle.jpa_json.proofs.readers.Items.{with_front}
use Rattle.jpa_lines.specs.lines.CallOf.{parameters}
use Rattle.jpa_lines.proofs.lines.Parameters.{member_read}
use Rattle.jpa_lines.proofs.lines.reading.read_parameters.Goals as goal

pub loop-key-preserved : goal.loop-key-preserved
loop-key-preserved c =
    ap (λ xs. with_front xs (parameters (members_view c.next.new.self))) c.in_ok-push.ensures.items
    ∙ sym (member_read c.loop-key.list.items c.loop-key.key-iterator c.next.new.self c.in-Some.key.now c.in-Some.member.now c.in_ok-name.name c.in_ok-value.value c.in-Some.ensures.steps (search rules) (search rules))
    ∙ c.loop-key.invariant
