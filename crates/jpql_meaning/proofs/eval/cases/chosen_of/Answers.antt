use Rattle.std.proofs.Common.{◌≡◌, IfOk, ◌-◌, ◌≤◌, ◌∷◌, length, drop, take, map, sym, ap, ◌∙◌, subst, arith}
use Rattle.std.proofs.lemmas.List.{drop_more, take_all, length-drop}
use Rattle.jpql_meaning.specs.eval.Cases as cases
use Rattle.jpql_meaning.specs.eval.Seen.{seen}
use Rattle.jpql_meaning.proofs.eval.cases.chosen_of.Goals as goal

pub returns-in-len1-up : goal.returns-in-len1-up
returns-in-len1-up c =
    let all = c.args.all.now in
    let value = c.value-item.result in
    let short : length (drop 1 all) ≤ length all - 1 = omega (arith, length-drop 1 all) in
    let parts : all ≡ value ∷ take (length all - 1) (drop 1 all) =
    drop_more all 0 value (omega (arith, c.in-len1-up.len_at_least)) ∙ ap (λ y. y ∷ drop 1 all) (sym c.value-item.is)
    ∙ ap (λ more. value ∷ more) (sym (take_all (length all - 1) (drop 1 all) short)) in
    subst (λ l. IfOk c.matched.result (λ found. seen found ≡ cases.chosen_of (map seen l))) (sym parts) c.matched.ensures
