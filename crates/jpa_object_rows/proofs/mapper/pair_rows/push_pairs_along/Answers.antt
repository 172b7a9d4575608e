use Rattle.std.proofs.Common.{◌≡◌, ◌∙◌, sym, ap, ◌++◌, [], zip, ⊎_elim}
use Rattle.std.proofs.lemmas.List.{append-nil}
use Rattle.jpa_object_rows.specs.meaning.Objects.{as_pairs, pairs_along}
use Rattle.jpa_object_rows.proofs.mapper.Zips.{ended_left, ended_right}
use Rattle.jpa_object_rows.proofs.mapper.pair_rows.push_pairs_along.Goals as goal

-- nothing is left
pub returns-clause-ok : goal.returns-clause-ok
returns-clause-ok c =
    let left = c.loop-relation.relation-iterator in
    let none : zip left.a.rest.now left.b.rest.now ≡ [] =
    ⊎_elim (λ h. ended_left left.a.rest.now left.b.rest.now (h.1).0) (λ h. ended_right left.a.rest.now left.b.rest.now (h.1).0) c.in-None.ensures.steps in
    sym (append-nil c.loop-relation.rows) ∙ ap (λ ps. c.loop-relation.rows ++ as_pairs (pairs_along c.args.owner.now ps)) (sym none) ∙ c.loop-relation.invariant
