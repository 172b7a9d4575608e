use Rattle.std.proofs.Common.{rules, arith, sym, ap, subst, refl, ℕ, ◌∙◌, ◌≡◌, cond, length, drop, List, [], ◌∷◌, ◌++◌, Some}
use Rattle.std.specs.Prelude.{slice_get, option_copied}
use Rattle.std.proofs.lemmas.Grind.{common_steps}
use Rattle.std.proofs.lemmas.Iterator.Adapters.{YieldsList-from_vec}
use Rattle.std.proofs.lemmas.Iterator.Consumers.{YieldsList-turn, YieldsList-end}
use Rattle.jpql_meaning.specs.eval.Answers.{Answer, gives, overflows, both, under}
use Rattle.jpql_meaning.specs.declared.eval.datum.Truth.{Truth}
use Rattle.jpql_meaning.specs.eval.Finds.{Fails}
use Rattle.jpql_meaning.specs.eval.Truths.{is_yes}
use Rattle.jpql_meaning.specs.plan.Meaning as meaning
use Rattle.jpql_meaning.specs.plan.Meaning.{alone}
use Rattle.jpql_meaning.specs.plan.Paths.{Tuple}
use Rattle.jpql_run.specs.Ready.{Tells}
use Rattle.jpql_run.specs.Runs as runs
use Rattle.jpql_run.proofs.Turns.{fails_on}
use Rattle.jpql_run.proofs.Yielded.{next_of, none_after, one_true, one_untrue, all_there, not_yes}
use Rattle.jpql_run.proofs.ready.kept_at_once.Goals as goal

-- Overflow of the next is that of all
one_over : (test : Tuple → Answer Truth) (whole : Answer (List Tuple)) (left : List Tuple) (x : Tuple) (rest later : List Tuple) → rest ≡ x ∷ later
    → whole ≡ under (λ more. left ++ more) (meaning.kept test rest) → test x ≡ overflows → whole ≡ overflows
one_over test whole left x rest later at h over =
    h ∙ ap (λ (ts : List Tuple). under (λ more. left ++ more) (meaning.kept test ts)) at
    ∙ ap (λ (a : Answer Truth). under (λ more. left ++ more) (both (λ y more. cond (is_yes y) (x ∷ more) more) a (meaning.kept test later))) over

-- Overflow of the first is that of all
first_over : (test : Tuple → Answer Truth) (all : List Tuple) (x : Tuple) → slice_get all 0 ≡ Some x → test x ≡ overflows → meaning.kept test all ≡ overflows
first_over test [] x at over = absurd cc
first_over test (y ∷ ys) x at over =
    let same : y ≡ x = cc in
    ap (λ (a : Answer Truth). both (λ u more. cond (is_yes u) (y ∷ more) more) a (meaning.kept test ys)) (ap test same ∙ over)

pub returns-in_err-ready : goal.returns-in_err-ready
returns-in_err-ready c =
    let test = λ (u : Tuple). runs.test_of c.args.run.now (Some c.args.condition.now) u in
    let all = c.args.tuples.items in
    let x = c.in-Some.first.now in
    let e = c.in_err-ready.field-0.0 in
    let at : slice_get all 0 ≡ Some x = sym (ap (λ (ts : List Tuple). slice_get ts 0) c.deref.ensures.value) ∙ sym c.first.ensures.value ∙ ap option_copied c.in-Some.is in
    let failed : Fails e (test x) = search rules in
    let fails : Fails e (meaning.kept test all) = fails_on e (test x) (meaning.kept test all) (first_over test all x at) failed in
    first_of (search (rules, fails), grind (arith, common_steps, fails))

pub holds_for-requires-clause-ready : goal.holds_for-requires-clause-ready
holds_for-requires-clause-ready c = c.loop-tuple.invariant.ready

pub loop-tuple-preserved-in-Continue-branch-5 : goal.loop-tuple-preserved-in-Continue-branch-5
loop-tuple-preserved-in-Continue-branch-5 c =
    let test = λ (u : Tuple). runs.test_of c.args.run.now (Some c.args.condition.now) u in
    let all = c.args.tuples.items in
    let xs = c.loop-tuple.yielded in
    let x = c.in-Some-tuple.tuple in
    let road = YieldsList-from_vec {s = c.into_iter-tuple-iterator.result} all (cc) (cc) in
    let turn = YieldsList-turn road xs c.loop-tuple.tuple-iterator c.loop-tuple.yielded_by c.next.result c.next.new.self x c.in-Some-tuple.is c.next.ensures.steps in
    record {
      ready = c.loop-tuple.invariant.ready;
      kept = one_true test (λ (ts : List Tuple). ts) (meaning.kept test all) c.loop-tuple.left.items x x _ _ (next_of all xs x turn.0 turn.1) refl (c.in_ok-holds_for.ensures ∙ ap gives c.in-Yes.is) c.loop-tuple.invariant.kept
          ∙ ap (λ left. under (λ more. left ++ more) (meaning.kept test (drop (length (xs ++ x ∷ [])) all))) (sym c.in_ok-push.ensures.items);
    }

pub loop-tuple-preserved : goal.loop-tuple-preserved
loop-tuple-preserved c =
    let test = λ (u : Tuple). runs.test_of c.args.run.now (Some c.args.condition.now) u in
    let all = c.args.tuples.items in
    let xs = c.loop-tuple.yielded in
    let x = c.in-Some-tuple.tuple in
    let road = YieldsList-from_vec {s = c.into_iter-tuple-iterator.result} all (cc) (cc) in
    let turn = YieldsList-turn road xs c.loop-tuple.tuple-iterator c.loop-tuple.yielded_by c.next.result c.next.new.self x c.in-Some-tuple.is c.next.ensures.steps in
    record { ready = c.loop-tuple.invariant.ready; kept = one_untrue test (λ (ts : List Tuple). ts) (meaning.kept test all) c.loop-tuple.left.items x x _ _ c.in_ok-holds_for.field-0 (next_of all xs x turn.0 turn.1) refl c.in_ok-holds_for.ensures (not_yes c.in_ok-holds_for.field-0 c.in_default-2.not-Yes) c.loop-tuple.invariant.kept }

pub returns-in_err-holds_for : goal.returns-in_err-holds_for
returns-in_err-holds_for c =
    let test = λ (u : Tuple). runs.test_of c.args.run.now (Some c.args.condition.now) u in
    let all = c.args.tuples.items in
    let xs = c.loop-tuple.yielded in
    let x = c.in-Some-tuple.tuple in
    let road = YieldsList-from_vec {s = c.into_iter-tuple-iterator.result} all (cc) (cc) in
    let turn = YieldsList-turn road xs c.loop-tuple.tuple-iterator c.loop-tuple.yielded_by c.next.result c.next.new.self x c.in-Some-tuple.is c.next.ensures.steps in
    let e = c.in_err-holds_for.field-0.0 in
    let failed : Fails e (test x) = c.in_err-holds_for.ensures in
    let fails : Fails e (meaning.kept test all) =
    fails_on e (test x) (meaning.kept test all) (one_over test (meaning.kept test all) c.loop-tuple.left.items x (drop (length xs) all) _ (next_of all xs x turn.0 turn.1) c.loop-tuple.invariant.kept) failed in
    first_of (search (rules, fails), grind (arith, common_steps, fails))

pub returns : goal.returns
returns c =
    let test = λ (u : Tuple). runs.test_of c.args.run.now (Some c.args.condition.now) u in
    let all = c.args.tuples.items in
    let xs = c.loop-tuple.yielded in
    let road = YieldsList-from_vec {s = c.into_iter-tuple-iterator.result} all (cc) (cc) in
    let ends = YieldsList-end road xs c.loop-tuple.tuple-iterator c.loop-tuple.yielded_by c.next.result c.next.new.self c.in-None.is c.next.ensures.steps in
    all_there (meaning.kept test) (meaning.kept test all) c.loop-tuple.left.items (drop (length xs) all) (none_after all xs ends.1) refl c.loop-tuple.invariant.kept
