use Rattle.std.proofs.Common.{◌∙◌, ap, sym, not}
use Rattle.jpa_open.specs.Opened.{now}
use Rattle.jpa_constraints.proofs.Leading.{none_leads}
use Rattle.jpa_constraints.proofs.reference.leads_well.Goals as goal

pub returns-then-not-is_led_to : goal.returns-then-not-is_led_to
returns-then-not-is_led_to c =
    ap not c.if-not-is_led_to.true ∙ sym (none_leads c.args.metamodel.now (now c.args.view.now) c.args.id.now (sym c.is_led_to.ensures ∙ c.if-not-is_led_to.true))
