use Rattle.std.proofs.Common.{◌≡◌}
use Rattle.serde_json.specs.View.{members_view}
use Rattle.jpa_lines.specs.lines.CallOf.{parameters}
use Rattle.jpa_json.proofs.readers.Items.{with_front}
use Rattle.jpa_lines.proofs.lines.reading.read_parameters.Given as goal

abbrev pub invariant-loop-key : goal.invariant-loop-key
invariant-loop-key l = with_front l.list.items (parameters (members_view l.key-iterator)) ≡ parameters (members_view l.members.entries)
