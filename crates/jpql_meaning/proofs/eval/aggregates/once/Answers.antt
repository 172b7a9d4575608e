use Rattle.std.proofs.Common.{◌≡◌, ◌+◌, ◌++◌, [], ◌∷◌, ◌||◌, Bool, true, false, cond, List, map, reverse, drop, sym, ap, ◌∙◌, subst}
use Rattle.std.specs.Bool.{MatchBool}
use Rattle.std.specs.BTreeSet.{contains}
use Rattle.std.specs.List.{list_any}
use Rattle.jpql_meaning.specs.eval.Aggregates as aggregates
use Rattle.jpql_meaning.specs.eval.Data.{same_datum}
use Rattle.jpql_meaning.specs.eval.Seen.{seen}
use Rattle.jpql_meaning.specs.eval.SeenOrder.{seen_cmp}
use Rattle.jpql_meaning.specs.declared.eval.datum.Datum.{Datum}
use Rattle.jpql_meaning.specs.declared.eval.seen.Seen.{Seen}
use Rattle.jpql_meaning.proofs.eval.Distinct.{cond_or, again_met, first_met, kept_then, was_there, was_new}
use Rattle.jpql_meaning.proofs.eval.Orders.{same_by_order}
use Rattle.jpql_meaning.proofs.eval.aggregates.once.Goals as goal
use Rattle.jpql_meaning.proofs.eval.aggregates.once.Goals.{then-branch+in_ok-again-2+in_ok-push, else-branch}

pub loop-one-preserved : goal.loop-one-preserved
loop-one-preserved c =
    let xs = c.args.all.now in
    let i = c.loop-one.one-index in
    let x = c.one-item.result in
    let kept = c.loop-one.kept.items in
    let old = reverse (map seen kept) in
    let copy = c.in_ok-again.field-0 in
    let copied : seen copy ≡ seen x = c.in_ok-again.ensures in
    let met : contains seen_cmp c.loop-one.met copy ≡ list_any (λ (b : Datum). same_datum b (seen x)) old =
    c.loop-one.invariant.met copy ∙ ap (λ (v : Datum). list_any (λ (b : Datum). same_datum b v) old) copied in
    elim c.if-branch.branch [
      | then-branch+in_ok-again-2+in_ok-push w ↦
          (let y = w.in_ok-again-2.field-0 in
          let shown : seen y ≡ seen x = w.in_ok-again-2.ensures in
          let items : c.if-branch.kept.items ≡ kept ++ y ∷ [] = ap (λ v. v.items) w.kept-is ∙ w.in_ok-push.ensures.items in
          let fresh : list_any (λ (b : Datum). same_datum b (seen x)) old ≡ false = sym met ∙ was_new _ (sym c.in_ok-insert.ensures.added ∙ w.if-branch.true) in
          record {
            kept =
                subst (λ (ks : List Seen). aggregates.once same_datum (map seen xs) ≡ map seen ks ++ aggregates.first_ones same_datum (reverse (map seen ks)) (map seen (drop (i + 1) xs)))
                (sym items) (first_met same_datum seen _ kept xs i x y c.loop-one-test.true c.one-item.is fresh shown c.loop-one.invariant.kept);
            met = λ q.
                c.in_ok-insert.ensures.updates.0 q
                ∙ ap (λ (b : Bool). cond b true (contains seen_cmp c.loop-one.met q)) (same_by_order (seen copy) (seen q))
                ∙ cond_or (same_datum (seen copy) (seen q)) (contains seen_cmp c.loop-one.met q)
                ∙ ap (λ (b : Bool). same_datum (seen copy) (seen q) || b) (c.loop-one.invariant.met q)
                ∙ ap (λ (v : Datum). same_datum v (seen q) || list_any (λ (b : Datum). same_datum b (seen q)) old) (copied ∙ sym shown)
                ∙ ap (list_any (λ (b : Datum). same_datum b (seen q))) (sym (kept_then same_datum seen kept y))
                ∙ ap (λ (ks : List Seen). list_any (λ (b : Datum). same_datum b (seen q)) (reverse (map seen ks))) (sym items);
          })
      | else-branch w ↦
          (let items : c.if-branch.kept.items ≡ kept = ap (λ v. v.items) w.kept-is in
          let again : list_any (λ (b : Datum). same_datum b (seen x)) old ≡ true = sym met ∙ was_there _ (sym c.in_ok-insert.ensures.added ∙ w.if-branch.false) in
          let keys : c.insert.new.self.keys ≡ c.loop-one.met.keys =
          subst (λ (b : Bool). MatchBool b (Unit {0}) (c.insert.new.self.keys ≡ c.loop-one.met.keys)) w.if-branch.false c.in_ok-insert.ensures.unchanged in
          record {
            kept =
                subst (λ (ks : List Seen). aggregates.once same_datum (map seen xs) ≡ map seen ks ++ aggregates.first_ones same_datum (reverse (map seen ks)) (map seen (drop (i + 1) xs)))
                (sym items) (again_met same_datum seen _ kept xs i x c.loop-one-test.true c.one-item.is again c.loop-one.invariant.kept);
            met = λ q.
                ap (λ (ks : List Seen). contains seen_cmp (record { keys = ks }) q) keys ∙ c.loop-one.invariant.met q
                ∙ ap (λ (ks : List Seen). list_any (λ (b : Datum). same_datum b (seen q)) (reverse (map seen ks))) (sym items);
          })
    ]
