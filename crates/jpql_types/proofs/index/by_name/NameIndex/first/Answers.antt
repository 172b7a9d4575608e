use Rattle.std.proofs.Common.{rules, ◌≡◌, ap, sym, ◌∙◌, slice_get, arith}
use Rattle.std.specs.Option.{option_copied}
use Rattle.std.proofs.lemmas.Grind.{common_steps}
use Rattle.std.proofs.lemmas.Option.{gets}
use Rattle.jpql_trees.specs.tree.Steps.{◌>>=◌}
use Rattle.jpql_types.specs.Indexes.{has_name}
use Rattle.jpql_types.proofs.ByName.{first_by_place}
use Rattle.jpql_types.proofs.index.by_name.NameIndex.first.Goals as goal

pub returns-in_err-place : goal.returns-in_err-place
returns-in_err-place g c =
    let xs = c.args.self.now in
    ap option_copied c.from_residual.ensures ∙ ap (λ o. o >>= slice_get xs) c.in_err-place.ensures
    ∙ sym (first_by_place (λ x. has_name c.args.name.now (g.T.Named.name_of x)) xs)

pub returns : goal.returns
returns g c =
    let xs = c.args.self.now in
    let got : option_copied c.get.result ≡ slice_get c.self.inside.items.now c.in_ok-place.place = first_of (search rules, grind (arith, common_steps, gets)) in
    got ∙ ap (λ ys. slice_get ys c.in_ok-place.place) c.self.view_is ∙ ap (λ o. o >>= slice_get xs) c.in_ok-place.ensures
    ∙ sym (first_by_place (λ x. has_name c.args.name.now (g.T.Named.name_of x)) xs)
