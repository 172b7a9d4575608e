use Rattle.std.proofs.Common.{◌≡◌, map}
use Rattle.serde_json.specs.View.{members_view}
use Rattle.jpa_json.specs.mapping.DraftOf as drafts
use Rattle.jpa_json.proofs.mapping.members.all_listed.Given as goal

abbrev pub invariant-loop-name : goal.invariant-loop-name
invariant-loop-name l =
    drafts.are_listed (map (λ name. name.now) l.names) (members_view l.name-iterator)
    ≡ drafts.are_listed (map (λ name. name.now) l.names) (members_view l.members.entries)
