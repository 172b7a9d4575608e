use Rattle.std.proofs.Common.{ap, ◌∙◌, is_some}
use Rattle.jpql_types.specs.Indexes.{has_name}
use Rattle.jpql_types.proofs.ByName.{any_by_place}
use Rattle.jpql_types.proofs.index.by_name.NameIndex.has.Goals as goal

pub returns : goal.returns
returns g c =
    c.is_some.ensures ∙ ap is_some c.place.ensures ∙ any_by_place (λ x. has_name c.args.name.now (g.T.Named.name_of x)) 0 c.args.self.now
