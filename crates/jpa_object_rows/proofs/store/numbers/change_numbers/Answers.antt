use Rattle.std.specs.Prelude.{◌<◌, nat_le}
use Rattle.std.proofs.Common.{◌≡◌, ◌∙◌, sym, subst, get_or, true}
use Rattle.jpa_rows.specs.rows.Cells.{is_next}
use Rattle.jpa_object_rows.specs.meaning.Sets.{rows_of}
use Rattle.jpa_object_rows.specs.store.Shown.{Recall}
use Rattle.jpa_object_rows.proofs.store.Stepped.{fits_length, is_number, turned_more, turned_same, turned_over}
use Rattle.jpa_object_rows.proofs.store.StoodNumbers.{noted_more}
use Rattle.jpa_object_rows.proofs.store.numbers.change_numbers.Goals as goal
use Rattle.jpa_object_rows.proofs.store.numbers.change_numbers.Goals.{then-before-class+in_ok-change_number, else-before-class}

pub change_number-requires-clause-next : goal.change_number-requires-clause-next
change_number-requires-clause-next c =
    subst (λ o. is_next o (get_or c.args.next.now c.loop-class.class 0) ≡ true) (sym c.origin_of.ensures.origin) (is_number c.args.metamodel.now c.args.next.now c.loop-class.class c.requires.numbers c.loop-class-test.true)

pub change_number-requires-clause-before : goal.change_number-requires-clause-before
change_number-requires-clause-before c =
    subst (λ o. is_next o (get_or c.args.before.now c.loop-class.class 0) ≡ true) (sym c.origin_of.ensures.origin)
    (is_number c.args.metamodel.now c.args.before.now c.loop-class.class c.requires.before
    (subst (λ n. c.loop-class.class < n) (sym (fits_length nat_le c.args.before.now c.args.next.now c.requires.rising)) c.loop-class-test.true))

pub loop-class-preserved : goal.loop-class-preserved
loop-class-preserved c =
    let m = c.args.metamodel.now in
    let before = c.args.before.now in
    let next = c.args.next.now in
    let i = c.loop-class.class in
    let stood = c.loop-class.stood in
    let changes = c.loop-class.overlay in
    record {
      shown = λ world base set model regular s.
          let shown = c.loop-class.invariant.shown world base set model regular s in
          elim c.if-before-class.branch [
            | then-before-class+in_ok-change_number w ↦
                turned_more m c.unit.ensures.described c.discriminator_law.ensures before next c.requires.before c.requires.numbers c.requires.rising world model base set regular changes _ i
                c.loop-class-test.true w.origin_of.result.now w.origin_of.ensures.origin w.origin_of.ensures.narrow w.if-before-class.true (w.overlay-is ∙ w.in_ok-change_number.ensures.ok) shown
            | else-before-class w ↦
                turned_same m c.unit.ensures.described c.discriminator_law.ensures before next c.requires.before c.requires.numbers c.requires.rising world model base set changes _ i
                c.loop-class-test.true w.if-before-class.false w.overlay-is shown
          ];
      noted = λ world set model regular storable r.
          let noted = c.loop-class.invariant.noted world set model regular storable r in
          elim c.if-before-class.branch [
            | then-before-class+in_ok-change_number w ↦
                noted_more m c.unit.ensures.described c.discriminator_law.ensures before next c.requires.before c.requires.numbers c.requires.rising world model regular set storable stood changes i
                c.loop-class-test.true w.if-before-class.true _ _ w.origin_of.result.now w.origin_of.ensures.origin (w.overlay-is ∙ w.in_ok-change_number.ensures.ok) (w.stood-is ∙ w.in_ok-change_number.ensures.noted) noted
            | else-before-class w ↦
                subst (λ cs. Recall (rows_of world set before) c.if-before-class.stood cs) (sym w.overlay-is) (subst (λ cs. Recall (rows_of world set before) cs changes) (sym w.stood-is) noted)
          ];
    }

pub returns-clause-ok : goal.returns-clause-ok
returns-clause-ok c = λ world base set model regular s.
    turned_over c.args.metamodel.now c.unit.ensures.described c.discriminator_law.ensures c.args.before.now c.args.next.now c.requires.before c.requires.numbers c.requires.rising world model base set
    c.loop-class.overlay c.loop-class.class c.loop-class-test.false (c.loop-class.invariant.shown world base set model regular s)
