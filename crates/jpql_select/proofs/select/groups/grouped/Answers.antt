use Rattle.std.proofs.Common.{arith, ◌≡◌, true, slice_index_or, unwrap_or, ◌<◌, ◌≤◌, ◌++◌, [], ◌∷◌, cond, List, length, drop, Some, None, sym, ap, subst, ◌∙◌}
use Rattle.std.specs.BTreeMap.{get}
use Rattle.std.proofs.lemmas.Iterator.Adapters.{YieldsList-from_vec}
use Rattle.std.proofs.lemmas.Iterator.Consumers.{YieldsList-turn}
use Rattle.std.proofs.lemmas.List.{length-map}
use Rattle.jpql_meaning.specs.declared.eval.datum.Datum.{Datum}
use Rattle.jpql_meaning.specs.eval.Data.{same_data}
use Rattle.jpql_select.specs.select.Keys.{data_cmp}
use Rattle.jpql_select.proofs.select.Keys.{same_by_cmp}
use Rattle.jpql_run.proofs.Yielded.{next_of}
use Rattle.jpql_select.specs.select.Groups.{groups_in, add_at, begins_with, place_of, all_some, AreApart}
use Rattle.jpql_select.specs.select.Selects.{group_key}
use Rattle.jpql_select.proofs.select.Placed.{place_within, joined_there, joined_new, some_stay, some_more, place_stays, place_new, place_here, place_again, was_found, was_free, apart_stay, apart_more}
use Rattle.jpql_select.proofs.select.groups.grouped.Goals as goal

pub add-requires : goal.add-requires
add-requires c =
    let key = group_key c.args.run.now c.args.paths.now in
    let gs = groups_in c.loop-tuple.groups.items in
    let i = c.loop-tuple.last in
    let x = c.in-Some.tuple in
    place_within key (key x) c.loop-tuple.groups.items i
    (place_here key (key x) gs i c.loop-tuple.invariant.apart
    (ap (λ items. begins_with key (key x) (slice_index_or (groups_in items) i [])) (sym c.deref.ensures.value) ∙ sym c.is_at.ensures ∙ c.if-is_at.true))

-- the group of the tuple before is the one
pub loop-tuple-preserved-then-is_at : goal.loop-tuple-preserved-then-is_at
loop-tuple-preserved-then-is_at c =
    let key = group_key c.args.run.now c.args.paths.now in
    let all = c.args.tuples.items in
    let xs = c.loop-tuple.yielded in
    let x = c.in-Some.tuple in
    let gs = groups_in c.loop-tuple.groups.items in
    let i = c.loop-tuple.last in
    let some = c.loop-tuple.invariant.some in
    let begins : begins_with key (key x) (slice_index_or gs i []) ≡ true =
    ap (λ items. begins_with key (key x) (slice_index_or (groups_in items) i [])) (sym c.deref.ensures.value) ∙ sym c.is_at.ensures ∙ c.if-is_at.true in
    let place : place_of key (key x) gs ≡ Some i = place_here key (key x) gs i c.loop-tuple.invariant.apart begins in
    let road = YieldsList-from_vec {s = c.into_iter-tuple-iterator.result} all (cc) (cc) in
    let turn = YieldsList-turn road xs c.loop-tuple.tuple-iterator c.loop-tuple.yielded_by c.next.result c.next.new.self x c.in-Some.is c.next.ensures.steps in
    let at : drop (length xs) all ≡ x ∷ drop (length (xs ++ x ∷ [])) all = next_of all xs x turn.0 turn.1 in
    let added : groups_in c.add.new.groups.items ≡ add_at gs i x = c.in_ok-add.ensures in
    record {
      groups = joined_there key _ gs _ (drop (length xs) all) _ x i at some place added c.loop-tuple.invariant.groups;
      some = ap all_some added ∙ some_stay key gs i x some;
      apart = subst (AreApart key) (sym added) (apart_stay key gs i x some c.loop-tuple.invariant.apart);
      places = λ q. c.loop-tuple.invariant.places q ∙ sym (ap (place_of key q) added ∙ place_stays key q gs i x some);
    }

-- a group of the key is there
pub loop-tuple-preserved-in-Continue-branch-4 : goal.loop-tuple-preserved-in-Continue-branch-4
loop-tuple-preserved-in-Continue-branch-4 c =
    let key = group_key c.args.run.now c.args.paths.now in
    let all = c.args.tuples.items in
    let xs = c.loop-tuple.yielded in
    let x = c.in-Some.tuple in
    let gs = groups_in c.loop-tuple.groups.items in
    let k = c.in_ok-key.key in
    let i = c.in_ok-last.last in
    let some = c.loop-tuple.invariant.some in
    let keyed : k ≡ key x = c.in_ok-key.ensures in
    let below : i < c.len.result = omega (arith, c.if-last-len.true, c.len.ensures, c.len-in-loop-tuple.ensures) in
    let place : place_of key (key x) gs ≡ Some i =
    ap (λ (q : List Datum). place_of key q gs) (sym keyed) ∙ sym (c.loop-tuple.invariant.places k)
    ∙ was_found (get data_cmp c.loop-tuple.places k) c.len.result i c.in_ok-last.ensures.place below in
    let road = YieldsList-from_vec {s = c.into_iter-tuple-iterator.result} all (cc) (cc) in
    let turn = YieldsList-turn road xs c.loop-tuple.tuple-iterator c.loop-tuple.yielded_by c.next.result c.next.new.self x c.in-Some.is c.next.ensures.steps in
    let at : drop (length xs) all ≡ x ∷ drop (length (xs ++ x ∷ [])) all = next_of all xs x turn.0 turn.1 in
    let added : groups_in c.add-then-last-len.new.groups.items ≡ add_at gs i x = c.in_ok-add-2.ensures in
    record {
      groups = joined_there key _ gs _ (drop (length xs) all) _ x i at some place added c.loop-tuple.invariant.groups;
      some = ap all_some added ∙ some_stay key gs i x some;
      apart = subst (AreApart key) (sym added) (apart_stay key gs i x some c.loop-tuple.invariant.apart);
      places = λ q.
          c.in_ok-last.ensures.kept.0 q
          ∙ ap (λ b. cond b (Some i) (get data_cmp c.loop-tuple.places q)) (same_by_cmp k q)
          ∙ ap (λ o. cond (same_data k q) (Some i) o) (c.loop-tuple.invariant.places q)
          ∙ ap (λ (v : List Datum). cond (same_data v q) (Some i) (place_of key q gs)) keyed
          ∙ place_again key (key x) q gs i place
          ∙ sym (ap (place_of key q) added ∙ place_stays key q gs i x some);
    }

-- none is there
pub loop-tuple-preserved : goal.loop-tuple-preserved
loop-tuple-preserved c =
    let key = group_key c.args.run.now c.args.paths.now in
    let all = c.args.tuples.items in
    let xs = c.loop-tuple.yielded in
    let x = c.in-Some.tuple in
    let gs = groups_in c.loop-tuple.groups.items in
    let k = c.in_ok-key.key in
    let n = c.len.result in
    let i = c.in_ok-last.last in
    let some = c.loop-tuple.invariant.some in
    let keyed : k ≡ key x = c.in_ok-key.ensures in
    let count : n ≡ length c.loop-tuple.groups.items = c.len.ensures ∙ c.loop-tuple.groups.ok.0 in
    let over : n ≤ i = omega (arith, c.if-last-len.false, c.len.ensures, c.len-in-loop-tuple.ensures) in
    let free : get data_cmp c.loop-tuple.places k ≡ None =
    was_free (get data_cmp c.loop-tuple.places k) n i c.in_ok-last.ensures.place over
    (λ m h. subst (λ l. m < l) (sym count) (place_within key k c.loop-tuple.groups.items m (sym (c.loop-tuple.invariant.places k) ∙ h))) in
    let last : i ≡ length gs = c.in_ok-last.ensures.place ∙ ap (λ o. unwrap_or o n) free ∙ count ∙ sym (length-map c.loop-tuple.groups.items _) in
    let none : place_of key (key x) gs ≡ None = ap (λ (q : List Datum). place_of key q gs) (sym keyed) ∙ sym (c.loop-tuple.invariant.places k) ∙ free in
    let road = YieldsList-from_vec {s = c.into_iter-tuple-iterator.result} all (cc) (cc) in
    let turn = YieldsList-turn road xs c.loop-tuple.tuple-iterator c.loop-tuple.yielded_by c.next.result c.next.new.self x c.in-Some.is c.next.ensures.steps in
    let at : drop (length xs) all ≡ x ∷ drop (length (xs ++ x ∷ [])) all = next_of all xs x turn.0 turn.1 in
    let begun : groups_in c.begin.new.groups.items ≡ gs ++ (x ∷ []) ∷ [] = c.in_ok-begin.ensures in
    record {
      groups = joined_new key _ gs _ (drop (length xs) all) _ x at some none begun c.loop-tuple.invariant.groups;
      some = ap all_some begun ∙ some_more key gs x some;
      apart = subst (AreApart key) (sym begun) (apart_more key gs x some none c.loop-tuple.invariant.apart);
      places = λ q.
          c.in_ok-last.ensures.kept.0 q
          ∙ ap (λ b. cond b (Some i) (get data_cmp c.loop-tuple.places q)) (same_by_cmp k q)
          ∙ ap (λ o. cond (same_data k q) (Some i) o) (c.loop-tuple.invariant.places q)
          ∙ ap (λ (v : List Datum). cond (same_data v q) (Some i) (place_of key q gs)) keyed
          ∙ ap (λ m. cond (same_data (key x) q) (Some m) (place_of key q gs)) last
          ∙ sym (place_new key x gs q some none)
          ∙ ap (place_of key q) (sym begun);
    }
