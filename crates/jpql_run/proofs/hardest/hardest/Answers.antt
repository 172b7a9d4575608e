use Rattle.std.proofs.Common.{◌≡◌, ◌∙◌, ◌++◌, ◌∷◌, [], ap, sym, subst, true, false, List, map, drop, length, Some, option_map}
use Rattle.std.proofs.lemmas.Iterator.Adapters.{YieldsList-from_vec}
use Rattle.std.proofs.lemmas.Iterator.Consumers.{YieldsList-turn, YieldsList-end}
use Rattle.std.specs.Global.{Vec}
use Rattle.std.specs.Prelude.{Result, Ok, Err, IfOk}
use Rattle.jpql_meaning.specs.declared.eval.datum.Datum.{Datum}
use Rattle.jpql_meaning.specs.declared.eval.seen.Seen.{Seen}
use Rattle.jpql_meaning.specs.eval.Data.{is_nothing, compared}
use Rattle.jpql_meaning.specs.eval.Seen.{seen}
use Rattle.jpql_meaning.specs.eval.Truths.{all3}
use Rattle.jpql_run.specs.Ready.{few}
use Rattle.jpql_run.proofs.Decided.{SayAll, harder_there, no_more, one_null, one_row}
use Rattle.jpql_run.proofs.Yielded.{next_of, none_after}
use Rattle.jpql_run.proofs.hardest.hardest.Goals as goal

if_ok : {A E : Type 0} (r : Result A E) (P Q : A → Type 0) → ((a : A) → P a → Q a) → IfOk r P → IfOk r Q
if_ok (Ok a) P Q f h = f a h
if_ok (Err e) P Q f h = tt

pub loop-row-preserved-then-is_nothing-2 : goal.loop-row-preserved-then-is_nothing-2
loop-row-preserved-then-is_nothing-2 c =
    let op = c.args.comparison in
    let all = c.args.rows.items in
    let xs = c.loop-row.yielded in
    let row = c.in-Some.row in
    let road = YieldsList-from_vec {s = c.into_iter-row-iterator.result} all (cc) (cc) in
    let turn = YieldsList-turn road xs c.loop-row.row-iterator c.loop-row.yielded_by c.next.result c.next.new.self row c.in-Some.is c.next.ensures.steps in
    let is_null : is_nothing (seen row) ≡ true = sym c.is_nothing.ensures ∙ c.if-is_nothing.true in
    record {
      says = λ x. one_null op x (map seen all) (option_map seen c.loop-row.hard) c.loop-row.has_null (seen row) (map seen (drop (length xs) all)) (map seen (drop (length (xs ++ row ∷ [])) all))
          (ap (map seen) (next_of all xs row turn.0 turn.1)) is_null (c.loop-row.invariant.says x);
      there = c.loop-row.invariant.there;
    }

pub loop-row-preserved : goal.loop-row-preserved
loop-row-preserved c =
    let op = c.args.comparison in
    let all = c.args.rows.items in
    let xs = c.loop-row.yielded in
    let row = c.in-Some.row in
    let was = option_map seen c.loop-row.hard in
    let road = YieldsList-from_vec {s = c.into_iter-row-iterator.result} all (cc) (cc) in
    let turn = YieldsList-turn road xs c.loop-row.row-iterator c.loop-row.yielded_by c.next.result c.next.new.self row c.in-Some.is c.next.ensures.steps in
    let later = map seen (drop (length (xs ++ row ∷ [])) all) in
    let is_there : is_nothing (seen row) ≡ false = sym c.is_nothing.ensures ∙ c.if-is_nothing.false in
    record {
      says = λ x. subst (λ (h : Datum). SayAll op x (map seen all) (Some h) c.loop-row.has_null later) (sym c.harder.ensures)
          (one_row op x (map seen all) was c.loop-row.has_null (seen row) (map seen (drop (length xs) all)) later (ap (map seen) (next_of all xs row turn.0 turn.1)) c.requires
          c.loop-row.invariant.there is_there (c.loop-row.invariant.says x));
      there = ap is_nothing c.harder.ensures ∙ harder_there op was (seen row) c.loop-row.invariant.there is_there;
    }

pub returns : goal.returns
returns c =
    let op = c.args.comparison in
    let all = c.args.rows.items in
    let xs = c.loop-row.yielded in
    let was = option_map seen c.loop-row.hard in
    let road = YieldsList-from_vec {s = c.into_iter-row-iterator.result} all (cc) (cc) in
    let ends = YieldsList-end road xs c.loop-row.row-iterator c.loop-row.yielded_by c.next.result c.next.new.self c.in-None.is c.next.ensures.steps in
    if_ok c.listed.result (λ (found : Vec Seen). map seen found.items ≡ few was c.loop-row.has_null)
    (λ (found : Vec Seen). (x : Datum) → all3 (map (compared op x) (map seen found.items)) ≡ all3 (map (compared op x) (map seen all)))
    (λ found is x. no_more op x (map seen all) was c.loop-row.has_null (map seen (drop (length xs) all)) (map seen found.items) (ap (map seen) (none_after all xs ends.1)) is
    (c.loop-row.invariant.says x))
    c.listed.ensures
