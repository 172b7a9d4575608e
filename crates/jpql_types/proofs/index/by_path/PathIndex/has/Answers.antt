use Rattle.std.proofs.Common.{ap, ◌∙◌}
use Rattle.std.specs.BTreeSet.{contains}
use Rattle.std.specs.List.{list_any}
use Rattle.jpql_trees.specs.declared.tree.Path.{Path}
use Rattle.jpql_types.specs.Indexes.{is_path, words_of, words_cmp}
use Rattle.jpql_types.proofs.ByPath.{any_by_words}
use Rattle.jpql_types.proofs.index.by_path.PathIndex.has.Goals as goal

pub returns : goal.returns
returns g c =
    let q : Path = record { variable = c.args.variable.now; names = c.args.names.now } in
    c.contains.ensures ∙ ap (contains words_cmp c.self.inside.paths) c.in_ok-key.ensures ∙ c.self.invariant (words_of q)
    ∙ any_by_words q g.T.Pathed.path_of c.self.inside.items.now
    ∙ ap (list_any (λ x. is_path q (g.T.Pathed.path_of x))) c.self.view_is
