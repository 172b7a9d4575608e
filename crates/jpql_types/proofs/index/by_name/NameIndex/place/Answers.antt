use Rattle.std.proofs.Common.{ap, ◌∙◌}
use Rattle.std.specs.BTreeMap.{get_by_text}
use Rattle.std.specs.List.{position_from}
use Rattle.jpql_types.specs.Indexes.{has_name}
use Rattle.jpql_types.proofs.index.by_name.NameIndex.place.Goals as goal

pub returns : goal.returns
returns g c =
    c.copied.ensures ∙ c.get.ensures.value ∙ ap (get_by_text c.self.inside.places) c.as_str.ensures ∙ c.self.invariant c.args.name.now
    ∙ ap (position_from (λ x. has_name c.args.name.now (g.T.Named.name_of x)) 0) c.self.view_is
