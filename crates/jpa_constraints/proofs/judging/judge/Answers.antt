use Rattle.std.proofs.Common.{◌∙◌, ap, sym}
use Rattle.std.specs.List.{list_all}
use Rattle.std.specs.Option.{option_map}
use Rattle.jpa_value.specs.declared.refusal.Cause.{Cause}
use Rattle.jpa_stored.specs.objects.Sets.{first_fault}
use Rattle.jpa_open.specs.Opened.{now}
use Rattle.jpa_constraints.specs.Judged.{leads, is_alone}
use Rattle.jpa_constraints.proofs.Sound.{fault_same}
use Rattle.jpa_constraints.proofs.judging.judge.Goals as goal

pub returns-then-not-all_fill-clause-fault : goal.returns-then-not-all_fill-clause-fault
returns-then-not-all_fill-clause-fault c =
    let m = c.args.metamodel.now in
    let s = now c.args.view.now in
    let cs = c.args.changes.now in
    ap (option_map Cause.Persistence)
    (fault_same m cs s c.requires.rising c.requires.changed ∙ ap (λ b. first_fault b (list_all (leads m s) cs) (list_all (is_alone m s) cs)) (sym c.all_fill.ensures ∙ c.if-not-all_fill.true))

pub returns-then-not-all_lead-clause-fault : goal.returns-then-not-all_lead-clause-fault
returns-then-not-all_lead-clause-fault c =
    let m = c.args.metamodel.now in
    let s = now c.args.view.now in
    let cs = c.args.changes.now in
    ap (option_map Cause.Persistence)
    (fault_same m cs s c.requires.rising c.requires.changed
    ∙ (λ i. first_fault ((sym c.all_fill.ensures ∙ c.if-not-all_fill.false) i) ((sym c.all_lead.ensures ∙ c.if-not-all_lead.true) i) (list_all (is_alone m s) cs)))

pub returns-then-not-all_alone-clause-fault : goal.returns-then-not-all_alone-clause-fault
returns-then-not-all_alone-clause-fault c =
    let m = c.args.metamodel.now in
    let s = now c.args.view.now in
    let cs = c.args.changes.now in
    ap (option_map Cause.Persistence)
    (fault_same m cs s c.requires.rising c.requires.changed
    ∙ (λ i. first_fault ((sym c.all_fill.ensures ∙ c.if-not-all_fill.false) i) ((sym c.all_lead.ensures ∙ c.if-not-all_lead.false) i) ((sym c.all_alone.ensures ∙ c.if-not-all_alone.true) i)))

pub returns-clause-sound : goal.returns-clause-sound
returns-clause-sound c =
    fault_same c.args.metamodel.now c.args.changes.now (now c.args.view.now) c.requires.rising c.requires.changed
    ∙ (λ i. first_fault ((sym c.all_fill.ensures ∙ c.if-not-all_fill.false) i) ((sym c.all_lead.ensures ∙ c.if-not-all_lead.false) i) ((sym c.all_alone.ensures ∙ c.if-not-all_alone.false) i))
