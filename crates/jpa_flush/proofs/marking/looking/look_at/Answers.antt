use Rattle.std.proofs.Common.{◌≡◌, ◌∙◌, ◌<◌, List, length, get_or, ap, sym, subst}
use Rattle.std.proofs.lemmas.Bool.{false≢true}
use Rattle.jpa_work.specs.declared.context.Entry.{Entry}
use Rattle.jpa_work.specs.context.Undo.{now}
use Rattle.jpa_flush.specs.flush.Marked.{IsUntouched}
use Rattle.jpa_flush.proofs.marking.Over.{over_marked, over_untouched}
use Rattle.jpa_flush.proofs.marking.looking.look_at.Goals as goal

pub returns-then-branch : goal.returns-then-branch
returns-then-branch c =
    let m = c.args.metamodel.now in
    let w = now c.args.work.now in
    let p = c.args.place in
    let e = c.in-Some.entry.now in
    let within : p < length w.context = subst (λ (es : List Entry). p < length es) c.as_slice.ensures (c.in-Some.ensures.lookup.3).0 in
    let read : e ≡ get_or w.context p e = (c.in-Some.ensures.lookup.3).1 e ∙ ap (λ (es : List Entry). get_or es p e) c.as_slice.ensures in
    over_untouched m w p e c.args.marks.now c.remove.new.self c.requires.ready.distinct within read
    (subst (λ l. IsUntouched m w l e) c.are_linked.ensures (c.in_ok-is_untouched.ensures.0 c.if-branch.true)) c.remove.ensures

pub returns : goal.returns
returns c =
    let m = c.args.metamodel.now in
    let w = now c.args.work.now in
    let p = c.args.place in
    let e = c.in-Some.entry.now in
    let within : p < length w.context = subst (λ (es : List Entry). p < length es) c.as_slice.ensures (c.in-Some.ensures.lookup.3).0 in
    let read : e ≡ get_or w.context p e = (c.in-Some.ensures.lookup.3).1 e ∙ ap (λ (es : List Entry). get_or es p e) c.as_slice.ensures in
    over_marked m w p e c.args.marks.now c.add.new.self c.requires.ready.distinct within read
    (λ untouched. false≢true (sym c.if-branch.false ∙ c.in_ok-is_untouched.ensures.1 (subst (λ l. IsUntouched m w l e) (sym c.are_linked.ensures) untouched))) c.in_ok-add.ensures.added
