use Rattle.std.proofs.Common.{◌∙◌, ap, length, arith, Result, Ok, Err}
use Rattle.std.specs.Prelude.{IfOk}
use Rattle.jpa_model.specs.declared.unit.PersistenceUnit.{PersistenceUnit}
use Rattle.jpa_stored.specs.objects.Sets.{stored_at}
use Rattle.jpa_open.specs.Opened.{now, lent_ids}
use Rattle.jpa_open.specs.References.{leads_as_kind}
use Rattle.jpa_open.proofs.Led.{all_that, or_true}
use Rattle.jpa_open.proofs.Subclasses.{kind_outside}
use Rattle.jpa_open.proofs.open.OpenSet.candidates_leading.Goals as goal

if_ok : {A E : Type 0} (r : Result A E) (P Q : A → Type 0) → ((a : A) → P a → Q a) → IfOk r P → IfOk r Q
if_ok (Ok a) P Q f p = f a p
if_ok (Err e) P Q f p = p

pub returns : goal.returns
returns c =
    let m = c.args.metamodel.now in
    let seen = now c.args.self.now in
    let classes = ap (λ (u : PersistenceUnit). length u.entities) c.unit.ensures.unit in
    if_ok c.with_owners.result _ _ (λ all k. all_that (leads_as_kind m c.args.class c.args.place c.args.id.now) seen (lent_ids all.items) (λ q t. k q (or_true _ _
    (kind_outside m c.args.class c.args.place c.args.id.now (omega (arith, classes, c.len.ensures, c.if-class-len.false)) c.unit.ensures.described q (stored_at seen q) ∙ t))))
    c.with_owners.ensures
