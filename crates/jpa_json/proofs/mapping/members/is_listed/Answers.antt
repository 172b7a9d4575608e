use Rattle.std.proofs.Common.{bytes_eq, ◌∙◌}
use Rattle.jpa_json.proofs.mapping.Listed.{list_any-seen}
use Rattle.jpa_json.proofs.mapping.members.is_listed.Goals as goal

pub returns : goal.returns
returns c = c.contains.ensures.value ∙ list_any-seen (λ name. name.now) (λ listed. bytes_eq listed c.args.name.now) c.args.names.now
