use Rattle.std.proofs.Common.{◌≡◌, ◌∙◌, true, ap, sym}
use Rattle.jpa_work.specs.context.Marks.{Marks, is_marked}
use Rattle.jpa_flush.proofs.marking.Renewed.{renewed, taken_away}
use Rattle.jpa_flush.proofs.marking.anew.renew.Goals as goal

pub returns-clause-marked : goal.returns-clause-marked
returns-clause-marked c = λ t.
    let u = c.args.work.now in
    let mid = c.link.new.self in
    let new = c.look_at_touched.new.marks in
    let over = c.in_ok-look_at_touched.ensures in
    let linked : new.linked ≡ true → c.are_linked_still-linked.result ≡ true = λ h. sym (ap (λ (k : Marks). k.linked) c.link.ensures) ∙ sym over.linked ∙ h in
    renewed c.args.metamodel.now u c.args.marks.now mid new (λ n. ap (λ k. is_marked k n) c.link.ensures) c.requires.marked over (c.keep_names.ensures c.if-not-keep_names.false)
    (λ h. c.are_linked_still-linked.ensures.linked (linked h)) (λ h. c.are_linked_still-linked.ensures.leads (linked h))

pub returns-clause-taken : goal.returns-clause-taken
returns-clause-taken c = λ t. taken_away c.args.metamodel.now c.args.work.now c.link.new.self c.look_at_touched.new.marks c.in_ok-look_at_touched.ensures
