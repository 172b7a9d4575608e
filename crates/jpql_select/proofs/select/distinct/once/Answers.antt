use Rattle.std.proofs.Common.{rules, ◌≡◌, ◌+◌, ◌++◌, [], ◌∷◌, ◌||◌, Bool, true, false, cond, List, length, reverse, drop, sym, ap, ◌∙◌, subst}
use Rattle.std.specs.Bool.{MatchBool}
use Rattle.std.specs.BTreeSet.{contains}
use Rattle.std.specs.List.{list_any}
use Rattle.std.proofs.lemmas.Iterator.Adapters.{YieldsList-from_vec}
use Rattle.std.proofs.lemmas.Iterator.Consumers.{YieldsList-turn}
use Rattle.std.proofs.lemmas.List.{drop_more, length_push}
use Rattle.jpql_meaning.specs.eval.Aggregates as aggregates
use Rattle.jpql_meaning.specs.eval.Data.{same_data}
use Rattle.jpql_meaning.specs.declared.eval.datum.Datum.{Datum}
use Rattle.jpql_meaning.proofs.eval.Distinct.{cond_or, was_there, was_new}
use Rattle.jpql_meaning.specs.plan.Laws.{is_same_row}
use Rattle.jpql_meaning.specs.plan.Selection.{Row}
use Rattle.jpql_select.specs.select.Keys.{data_cmp}
use Rattle.jpql_select.proofs.select.Keys.{same_by_cmp}
use Rattle.jpql_select.proofs.select.Once.{again_met, first_met, kept_then}
use Rattle.jpql_select.proofs.select.distinct.once.Goals as goal

-- a row that was not met
pub loop-row-preserved-in_ok-push : goal.loop-row-preserved-in_ok-push
loop-row-preserved-in_ok-push c =
    let all = c.args.rows.items in
    let xs = c.loop-row.yielded in
    let x = c.in-Some.row in
    let kept = c.loop-row.kept.items in
    let old = reverse kept in
    let key = c.in_ok-key_of.field-0 in
    let is_old = λ (v : List Datum). list_any (λ (b : Row). same_data b.items v) old in
    let keyed : key ≡ x.items =
    let a = c.in_ok-key_of.ensures in
    let b = c.deref.ensures.value in
    let d = ap (λ (r : Row). r.items) c.row.view_is in first_of (search (rules, a, b, d), cc) in
    let met : contains data_cmp c.loop-row.met key ≡ is_old x.items = c.loop-row.invariant.met key ∙ ap is_old keyed in
    let road = YieldsList-from_vec {s = c.into_iter-row-iterator.result} all (cc) (cc) in
    let turn = YieldsList-turn road xs c.loop-row.row-iterator c.loop-row.yielded_by c.next.result c.next.new.self x c.in-Some.is c.next.ensures.steps in
    let at : drop (length xs) all ≡ x ∷ drop (length (xs ++ x ∷ [])) all =
    drop_more all (length xs) x turn.0 ∙ ap (λ y. y ∷ drop (length xs + 1) all) (sym turn.1) ∙ ap (λ n. x ∷ drop n all) (sym (length_push xs x)) in
    let items : c.push.new.self.items ≡ kept ++ x ∷ [] = c.in_ok-push.ensures.items in
    let fresh : is_old x.items ≡ false = sym met ∙ was_new _ (sym c.in_ok-insert.ensures.added ∙ c.if-branch.true) in
    record {
      kept =
          subst (λ (ks : List Row). aggregates.once is_same_row all ≡ ks ++ aggregates.first_ones is_same_row (reverse ks) (drop (length (xs ++ x ∷ [])) all)) (sym items)
          (first_met is_same_row _ kept (drop (length xs) all) (drop (length (xs ++ x ∷ [])) all) x at fresh c.loop-row.invariant.kept);
      met = λ q.
          c.in_ok-insert.ensures.updates.0 q
          ∙ ap (λ (b : Bool). cond b true (contains data_cmp c.loop-row.met q)) (same_by_cmp key q)
          ∙ cond_or (same_data key q) (contains data_cmp c.loop-row.met q)
          ∙ ap (λ (b : Bool). same_data key q || b) (c.loop-row.invariant.met q)
          ∙ ap (λ (v : List Datum). same_data v q || list_any (λ (b : Row). same_data b.items q) old) keyed
          ∙ ap (list_any (λ (b : Row). same_data b.items q)) (sym (kept_then is_same_row kept x))
          ∙ ap (λ (ks : List Row). list_any (λ (b : Row). same_data b.items q) (reverse ks)) (sym items);
    }

-- a row that was met
pub loop-row-preserved : goal.loop-row-preserved
loop-row-preserved c =
    let all = c.args.rows.items in
    let xs = c.loop-row.yielded in
    let x = c.in-Some.row in
    let kept = c.loop-row.kept.items in
    let old = reverse kept in
    let key = c.in_ok-key_of.field-0 in
    let is_old = λ (v : List Datum). list_any (λ (b : Row). same_data b.items v) old in
    let keyed : key ≡ x.items =
    let a = c.in_ok-key_of.ensures in
    let b = c.deref.ensures.value in
    let d = ap (λ (r : Row). r.items) c.row.view_is in first_of (search (rules, a, b, d), cc) in
    let met : contains data_cmp c.loop-row.met key ≡ is_old x.items = c.loop-row.invariant.met key ∙ ap is_old keyed in
    let road = YieldsList-from_vec {s = c.into_iter-row-iterator.result} all (cc) (cc) in
    let turn = YieldsList-turn road xs c.loop-row.row-iterator c.loop-row.yielded_by c.next.result c.next.new.self x c.in-Some.is c.next.ensures.steps in
    let at : drop (length xs) all ≡ x ∷ drop (length (xs ++ x ∷ [])) all =
    drop_more all (length xs) x turn.0 ∙ ap (λ y. y ∷ drop (length xs + 1) all) (sym turn.1) ∙ ap (λ n. x ∷ drop n all) (sym (length_push xs x)) in
    let again : is_old x.items ≡ true = sym met ∙ was_there _ (sym c.in_ok-insert.ensures.added ∙ c.if-branch.false) in
    let keys : c.insert.new.self.keys ≡ c.loop-row.met.keys =
    subst (λ (b : Bool). MatchBool b (Unit {0}) (c.insert.new.self.keys ≡ c.loop-row.met.keys)) c.if-branch.false c.in_ok-insert.ensures.unchanged in
    record {
      kept = again_met is_same_row _ kept (drop (length xs) all) (drop (length (xs ++ x ∷ [])) all) x at again c.loop-row.invariant.kept;
      met = λ q. ap (λ (ks : List (List Datum)). contains data_cmp (record { keys = ks }) q) keys ∙ c.loop-row.invariant.met q;
    }
