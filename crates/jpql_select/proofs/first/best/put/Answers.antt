use Rattle.std.proofs.Common.{rules, arith, ◌≡◌, ◌∙◌, ◌≤◌, ap, sym, refl, subst, List, [], map, length, take}
use Rattle.std.proofs.lemmas.Grind.{common_steps}
use Rattle.jpql_trees.specs.declared.typed.typed.TypedKey.{TypedKey}
use Rattle.jpql_trees.specs.declared.typed.typed.TypedValue.{TypedValue}
use Rattle.jpql_meaning.specs.declared.eval.datum.Datum.{Datum}
use Rattle.jpql_meaning.specs.eval.Answers.{Answer, ◌>>=◌, every, gives, under}
use Rattle.jpql_meaning.specs.eval.Finds.{Fails}
use Rattle.jpql_meaning.specs.eval.Seen.{seen}
use Rattle.jpql_meaning.specs.plan.Meaning.{alone}
use Rattle.jpql_meaning.specs.plan.Selection.{Row, put_row}
use Rattle.jpql_run.specs.Runs as runs
use Rattle.jpql_run.proofs.Turns.{fails_on}
use Rattle.jpql_select.specs.select.Selects.{key_datum, key_given, row_of}
use Rattle.jpql_select.specs.select.Sortings.{sorting_data}
use Rattle.jpql_select.specs.first.First.{AreInFront}
use Rattle.jpql_select.proofs.first.Firsts.{keys_are, keys_fail, row_given, row_made}
use Rattle.jpql_select.proofs.first.Rows.{row_behind, front_again, placed}
use Rattle.jpql_select.proofs.first.best.put.Goals as goal

pub returns-then-place-count-clause-ok : goal.returns-then-place-count-clause-ok
returns-then-place-count-clause-ok c =
    let run = c.args.run.now in
    let q = c.args.select.now in
    let t = c.args.tuple.now in
    let n = c.args.count in
    let rows = c.args.best.now.items in
    let k = c.place_of-place.result in
    let ks = sorting_data c.in_ok-keys.keys in
    let keyed : ks ≡ map (key_given run [] (alone t)) q.order = keys_are run q c.requires.fit t c.as_slice-order.result.now ks c.as_slice-order.ensures c.in_ok-keys.ensures in
    let one = row_given run q c.requires.fit t ks keyed in
    let row = one.0 in
    ap (under (λ (r : Row). take n (put_row q.order r rows))) one.1.0
    ∙ ap gives (row_behind q.order n k rows row c.requires.front c.if-place-count.true (subst (λ (xs : List Row). k ≤ length xs) c.deref.ensures.value c.place_of-place.ensures.within)
    (placed q.order c.as_slice-order.result.now rows c.deref.result.now k row c.as_slice-order.ensures c.deref.ensures.value (c.place_of-place.ensures.place row one.1.1)))

-- keys can't overflow
pub returns-in_err-keys-clause-err : goal.returns-in_err-keys-clause-err
returns-in_err-keys-clause-err c =
    let run = c.args.run.now in
    let q = c.args.select.now in
    let t = c.args.tuple.now in
    let keys = c.as_slice-order.result.now in
    let e = c.in_err-keys.field-0.0 in
    let failed : Fails e (every (map (key_datum run [] (alone t)) keys)) = c.in_err-keys.ensures in
    let fails : Fails e (row_of run q (alone t)) =
    fails_on e (every (map (key_datum run [] (alone t)) keys)) (row_of run q (alone t)) (keys_fail run q (row_of run q (alone t)) c.requires.fit t keys c.as_slice-order.ensures) failed in
    first_of (search (rules, fails), grind (arith, common_steps, fails))

pub returns-in_err-items-clause-err : goal.returns-in_err-items-clause-err
returns-in_err-items-clause-err c =
    let run = c.args.run.now in
    let q = c.args.select.now in
    let at = alone c.args.tuple.now in
    let e = c.in_err-items.field-0.0 in
    let failed : Fails e (every (map (λ v. runs.value run v at) q.items)) =
    subst (λ (vs : List TypedValue). Fails e (every (map (λ v. runs.value run v at) vs))) c.as_slice.ensures c.in_err-items.ensures in
    let fails : Fails e (row_of run q at) =
    fails_on e (every (map (λ v. runs.value run v at) q.items)) (row_of run q at)
    (ap (λ (a : Answer (List Datum)). a >>= λ items. under (λ keys. record { items = items; keys = keys }) (every (map (key_datum run items at) q.order)))) failed in
    first_of (search (rules, fails), grind (arith, common_steps, fails))

-- the row, and what stands once it was put in
pub returns-clause-ok : goal.returns-clause-ok
returns-clause-ok c =
    let run = c.args.run.now in
    let q = c.args.select.now in
    let t = c.args.tuple.now in
    let n = c.args.count in
    let rows = c.args.best.now.items in
    let k = c.place_of-place.result in
    let ks = sorting_data c.in_ok-keys.keys in
    let ds = map seen c.in_ok-items.items.items in
    let row : Row = record { items = ds; keys = ks } in
    let keyed : ks ≡ map (key_given run [] (alone t)) q.order = keys_are run q c.requires.fit t c.as_slice-order.result.now ks c.as_slice-order.ensures c.in_ok-keys.ensures in
    let made : every (map (λ v. runs.value run v (alone t)) q.items) ≡ gives ds =
    ap (λ (vs : List TypedValue). every (map (λ v. runs.value run v (alone t)) vs)) (sym c.as_slice.ensures) ∙ c.in_ok-items.ensures in
    let put = placed q.order c.as_slice-order.result.now rows c.deref.result.now k row c.as_slice-order.ensures c.deref.ensures.value (c.place_of-place.ensures.place row refl) in
    ap (under (λ (r : Row). take n (put_row q.order r rows))) (row_made run q c.requires.fit t ds ks made keyed)
    ∙ ap gives (ap (take n) (put ∙ sym c.in_ok-insert.ensures.items) ∙ sym c.truncate.ensures.items)

pub returns-clause-front : goal.returns-clause-front
returns-clause-front c =
    let q = c.args.select.now in
    let n = c.args.count in
    let rows = c.args.best.now.items in
    let k = c.place_of-place.result in
    let row : Row = record { items = map seen c.in_ok-items.items.items; keys = sorting_data c.in_ok-keys.keys } in
    let put = placed q.order c.as_slice-order.result.now rows c.deref.result.now k row c.as_slice-order.ensures c.deref.ensures.value (c.place_of-place.ensures.place row refl) in
    subst (AreInFront q.order n) (ap (take n) (put ∙ sym c.in_ok-insert.ensures.items) ∙ sym c.truncate.ensures.items) (front_again q.order n rows row c.requires.front)
