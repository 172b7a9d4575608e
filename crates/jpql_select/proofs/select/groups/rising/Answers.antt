use Rattle.std.proofs.Common.{arith, ◌≡◌, ◌∙◌, ◌-◌, ◌≤◌, [], ◌∷◌, List, ap, sym, subst, refl, true, drop, take, length}
use Rattle.std.proofs.lemmas.List.{drop_more, take_all, length-drop}
use Rattle.std.specs.Prelude.{All}
use Rattle.jpql_meaning.specs.declared.eval.datum.Datum.{Datum}
use Rattle.jpql_meaning.specs.eval.Data.{same_data}
use Rattle.jpql_meaning.specs.plan.Paths.{Tuple}
use Rattle.jpql_meaning.specs.plan.Selection.{put_tuples}
use Rattle.jpql_select.specs.select.Selects.{group_key}
use Rattle.jpql_select.proofs.select.Rising.{case_risen, case_shown}
use Rattle.jpql_select.proofs.select.groups.rising.Goals as goal

pub loop-place-preserved : goal.loop-place-preserved
loop-place-preserved c =
    let key = group_key c.args.run.now c.args.paths.now in
    let all = c.args.tuples.now in
    let rest = c.split_at.result.1.now in
    let first = c.first-item.result in
    let n = c.alike-count.result in
    let others : List Tuple = take (length rest - 1) (drop 1 rest) in
    let short : length (drop 1 rest) ≤ length rest - 1 = omega (arith, length-drop 1 rest) in
    let at : rest ≡ first ∷ others =
    drop_more rest 0 first (omega (arith, c.in-len1-up.len_at_least)) ∙ ap (λ y. y ∷ drop 1 rest) (sym c.first-item.is)
    ∙ ap (λ us. first ∷ us) (sym (take_all (length rest - 1) (drop 1 rest) short)) in
    let alike : All (λ (t : Tuple). same_data (key first) (key t) ≡ true) (take n others) =
    subst (λ (k : List Datum). All (λ (t : Tuple). same_data k (key t) ≡ true) (take n others)) c.in_ok-key.ensures c.alike-count.ensures.alike in
    let h = c.loop-place.invariant in
    record {
      within = omega (arith, c.split_at.ensures.back_len, c.split_at-in-loop-place.ensures.back_len);
      risen = case_risen key (put_tuples key [] all) c.loop-place.cases.items _ c.loop-place.before all rest others first n c.loop-place.place _ c.in_ok-key.key _ c.split_at.ensures.back at
          c.in_ok-key.ensures alike (sym c.is_above.ensures ∙ c.if-not-is_above.false) c.split_at-in-loop-place.ensures.front refl c.in_ok-push.ensures.items h.risen;
      cases = case_shown key c.loop-place.cases.items _ rest others first n _ at refl c.split_at-in-loop-place.ensures.front c.in_ok-push.ensures.items h.cases;
    }
