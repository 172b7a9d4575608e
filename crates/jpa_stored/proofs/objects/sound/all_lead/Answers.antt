use Rattle.std.proofs.Common.{sym, ap, ◌∙◌, ◌&&◌}
use Rattle.std.specs.Prelude.{Bool}
use Rattle.std.specs.List.{list_all, zip}
use Rattle.std.proofs.lemmas.List.Folds.{list_all_more}
use Rattle.jpa_value.specs.declared.value.Identity.{Identity}
use Rattle.jpa_model.specs.Chains.{relations_of}
use Rattle.jpa_stored.specs.declared.objects.stored.Stored.{Stored}
use Rattle.jpa_stored.specs.objects.Sets.{is_of, stored_at}
use Rattle.jpa_stored.proofs.objects.sound.all_lead.Goals as goal

pub loop-entry-preserved : goal.loop-entry-preserved
loop-entry-preserved c =
    let m = c.args.metamodel.now in
    let s = c.args.set.now in
    let lead : Identity × Stored → Bool = λ e. list_all (λ p. list_all (λ id. is_of m (stored_at s id) (p.0).target) p.1) (zip (relations_of m (e.1).class) (e.1).owned) in
    let entries = c.entries-entry-items.result.now in
    let i = c.loop-entry.entry-index in
    let leads = ap lead (sym (c.get.ensures ∙ c.entry-item.is)) ∙ sym c.object_leads.ensures ∙ c.if-not-object_leads.false in
    list_all_more lead entries i c.entry-item.result c.loop-entry-test.true ∙ (λ j. c.loop-entry.invariant j && leads j)
