use Rattle.std.proofs.Common.{◌≡◌, ◌∙◌, ap, sym, subst, List}
use Rattle.jpa_value.specs.declared.value.Identity.{Identity}
use Rattle.jpa_stored.specs.declared.objects.stored.Stored.{Stored}
use Rattle.jpa_stored.specs.objects.Sets.{StoredSet}
use Rattle.jpa_open.specs.Layers.{over}
use Rattle.jpa_open.specs.Opened.{Opened, layer}
use Rattle.jpa_open.proofs.open.OpenSet.unlayered.Goals as goal

pub returns-then-has_no_changes-3 : goal.returns-then-has_no_changes-3
returns-then-has_no_changes-3 c =
    let s = c.self.inside in
    let begun = over (layer s.back.items s.absent.items) s.committed.items in
    let kept = over (layer s.written.items s.dropped.items) begun in
    let none_back : (t : StoredSet) → over (layer s.back.items s.absent.items) t ≡ t = λ t.
    subst (λ (puts : List (Identity × Stored)). over (layer puts s.absent.items) t ≡ t) c.as_slice.ensures.value (c.has_no_changes.ensures c.if-has_no_changes.true t) in
    let none_written : (t : StoredSet) → over (layer s.written.items s.dropped.items) t ≡ t = λ t.
    subst (λ (puts : List (Identity × Stored)). over (layer puts s.dropped.items) t ≡ t) c.as_slice-then-has_no_changes.ensures.value
    (c.has_no_changes-then-has_no_changes.ensures c.if-has_no_changes-2.true t) in
    let none_fresh : (t : StoredSet) → over (layer s.fresh.items s.gone.items) t ≡ t = λ t.
    subst (λ (puts : List (Identity × Stored)). over (layer puts s.gone.items) t ≡ t) c.as_slice-then-has_no_changes-2.ensures.value
    (c.has_no_changes-then-has_no_changes-2.ensures c.if-has_no_changes-3.true t) in
    c.as_slice-then-has_no_changes-3.ensures.value ∙ sym (none_fresh kept ∙ none_written begun ∙ none_back s.committed.items)
    ∙ ap (λ (v : Opened). v.seen) c.self.view_is
