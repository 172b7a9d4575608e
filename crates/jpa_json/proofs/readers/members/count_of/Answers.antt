use Rattle.std.proofs.Common.{sym, ap, ◌∙◌}
use Rattle.serde_json.specs.View.{view}
use Rattle.serde_json.proofs.Views.{members_len-members_view}
use Rattle.jpa_json.proofs.readers.Counts.{counted, members_or_none}
use Rattle.jpa_json.proofs.readers.members.count_of.Goals as goal

pub returns-in-Some : goal.returns-in-Some
returns-in-Some c =
    c.len.ensures.len ∙ sym (members_len-members_view c.in-Some.members.now.entries)
    ∙ sym (counted (view c.args.json.now) ∙ ap members_or_none (sym c.in-Some.ensures))
