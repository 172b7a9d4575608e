use Rattle.std.proofs.Common.{rules, ◌≡◌, ℕ, List, slice_get, Option, Some, None, sym, arith}
use Rattle.std.proofs.lemmas.Grind.{common_steps}
use Rattle.std.proofs.lemmas.Option.{gets}
use Rattle.std.specs.List.{position_from}
use Rattle.jpql_trees.specs.tree.Steps.{◌>>=◌}
use Rattle.jpql_types.specs.Trees.{is_named}
use Rattle.jpql_types.proofs.Items.{sort_of_first}
use Rattle.jpql_types.proofs.order.item_named.Goals as goal

at_place : {S : Type 0} (o : Option ℕ) (sorts : List S) (k : ℕ) (s : Option S) → o ≡ Some k → slice_get sorts k ≡ s → (o >>= slice_get sorts) ≡ s
at_place o sorts k s e f = rw e f

pub returns-in_err-place-clause-sort : goal.returns-in_err-place-clause-sort
returns-in_err-place-clause-sort c sort h = rw (sort_of_first sort _ _ _ h) (search rules)

pub returns-in_err-sort-clause-sort : goal.returns-in_err-sort-clause-sort
returns-in_err-sort-clause-sort c sort h =
    let e : position_from (is_named c.args.name.now) 0 c.args.items.now ≡ Some c.in_ok-place.place = search rules in
    let f : slice_get c.args.sorts.now c.in_ok-place.place ≡ None = first_of (search rules, grind (arith, common_steps, gets)) in
    rw (sort_of_first sort _ _ _ h) (rw (at_place _ _ _ _ e f) (search rules))

pub returns-clause-sort : goal.returns-clause-sort
returns-clause-sort c sort h =
    let e : position_from (is_named c.args.name.now) 0 c.args.items.now ≡ Some c.in_ok-place.place = search rules in
    let f : slice_get c.args.sorts.now c.in_ok-place.place ≡ Some c.in_ok-sort.sort.now = first_of (search rules, grind (arith, common_steps, gets)) in
    rw (sort_of_first sort _ _ _ h) (sym (at_place _ _ _ _ e f))
