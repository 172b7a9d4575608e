use Rattle.std.proofs.Common.{get_or, sym, ap, ◌∙◌, take}
use Rattle.std.proofs.lemmas.List.{take_more}
use Rattle.jpa_description.proofs.history.Distinct.{is_among, held_more, held_of, new_of, stands_twice, apart_more}
use Rattle.jpa_description.proofs.history.apart.are_distinct.Goals as goal

pub returns-then-not-branch-clause-judged : goal.returns-then-not-branch-clause-judged
returns-then-not-branch-clause-judged c =
    let n = get_or c.args.numbers.now c.loop-number.number-index 0 in
    let held = held_of _ _ c.in_ok-insert.ensures.added c.if-not-branch.true in
    sym (stands_twice c.args.numbers.now c.loop-number.number-index c.loop-number-test.true (sym (c.loop-number.invariant.seen n) ∙ held))

pub loop-number-preserved : goal.loop-number-preserved
loop-number-preserved c =
    let xs = c.args.numbers.now in
    let i = c.loop-number.number-index in
    let n = get_or xs i 0 in
    let new = new_of _ _ c.in_ok-insert.ensures.added c.if-not-branch.false in
    record {
      distinct = apart_more xs i c.loop-number-test.true c.loop-number.invariant.distinct (sym (c.loop-number.invariant.seen n) ∙ new);
      seen = λ q. c.in_ok-insert.ensures.updates.0 q ∙ held_more q n (take i xs) _ (c.loop-number.invariant.seen q)
          ∙ ap (is_among q) (sym (take_more xs i 0 c.loop-number-test.true));
    }
