use Rattle.std.proofs.Common.{◌≡◌, ◌∙◌, ◌++◌, ◌<◌, ap, subst, true, arith, length, List}
use Rattle.std.specs.Prelude.{IfSome}
use Rattle.std.specs.List.{list_any}
use Rattle.std.proofs.lemmas.Bool.{and_parts}
use Rattle.jpa_value.specs.declared.value.Identity.{Identity}
use Rattle.jpa_value.specs.Value.{same_identity}
use Rattle.jpa_model.specs.declared.unit.Entity.{Entity}
use Rattle.jpa_model.specs.declared.unit.Member.{Member}
use Rattle.jpa_stored.specs.declared.objects.stored.Stored.{Stored}
use Rattle.jpa_stored.specs.objects.Sets.{StoredSet}
use Rattle.jpa_stored.specs.ordered.Values.{HasEntries, has_column, lies_in_any}
use Rattle.jpa_open.specs.Opened.{Opened, now, lent_ids}
use Rattle.jpa_open.specs.Valued.{is_valued, AreAllThat, ids_passing}
use Rattle.jpa_open.proofs.Holding.{have_committed}
use Rattle.jpa_open.proofs.Valued.{kind_inside, lying_there, kept_left, kept_right}
use Rattle.jpa_open.proofs.open.OpenSet.candidates.Goals as goal

pub returns : goal.returns
returns c =
    let s = c.self.inside in
    let m = c.args.metamodel.now in
    let member = c.args.member in
    let spans = c.args.spans.now in
    let l = lies_in_any member spans in
    let p = is_valued m c.args.class member spans in
    let none = lent_ids c.in-Some-owners.owners.items in
    let back = lent_ids c.in_ok-owners.owners.items in
    let written = lent_ids c.in_ok-owners-2.owners.items in
    let fresh = lent_ids c.in_ok-owners-3.owners.items in
    let back_is : back ≡ none ++ ids_passing l s.back.items = c.in_ok-owners.ensures ∙ ap (λ (es : StoredSet). none ++ ids_passing l es) c.as_slice.ensures.value in
    let written_is : written ≡ back ++ ids_passing l s.written.items = c.in_ok-owners-2.ensures ∙ ap (λ (es : StoredSet). back ++ ids_passing l es) c.as_slice-2.ensures.value in
    let fresh_is : fresh ≡ written ++ ids_passing l s.fresh.items = c.in_ok-owners-3.ensures ∙ ap (λ (es : StoredSet). written ++ ids_passing l es) c.as_slice-3.ensures.value in
    let classes = ap (λ (es : List Entity). length es) c.entities.ensures in
    let class : c.args.class < length m.entities = omega (arith, classes, c.if-class-entities.false) in
    let told = subst (λ o. IfSome o (λ found. (id : Identity) (x : Stored) (member : Member) → HasEntries s.values id x → has_column s.values.columns x.class member c.in-Some.number ≡ true → lies_in_any member spans (id, x) ≡ true → list_any (same_identity id) (lent_ids found.items) ≡ true)) c.in-Some-owners.is c.in-Ok.ensures.objects in
    let knows = λ (id : Identity) (x : Stored). p (id, x) ≡ true → list_any (same_identity id) fresh ≡ true in
    subst (λ (v : Opened). AreAllThat p (now v) fresh) c.self.view_is
    (have_committed knows s.fresh.items s.gone.items s.written.items s.dropped.items s.back.items s.absent.items s.committed.items c.self.invariant.fresh c.self.invariant.written c.self.invariant.back
    (λ id x e t. kept_right id written _ fresh fresh_is (lying_there l s.fresh.items id x e (and_parts _ _ t).1))
    (λ id x e t. kept_left id written _ fresh fresh_is (kept_right id back _ written written_is (lying_there l s.written.items id x e (and_parts _ _ t).1)))
    (λ id x e t. kept_left id written _ fresh fresh_is (kept_left id back _ written written_is (kept_right id none _ back back_is (lying_there l s.back.items id x e (and_parts _ _ t).1))))
    (λ id x e t.
    let parts = and_parts _ _ t in
    kept_left id written _ fresh fresh_is (kept_left id back _ written written_is (kept_left id none _ back back_is
    (told id x member (c.self.invariant.have_values id x e) (c.in-Some.ensures.found x.class (kind_inside m c.args.class x.class class parts.0) parts.0) parts.1)))))
