use Rattle.std.proofs.Common.{◌∙◌, ◌||◌, ◌++◌, ◌+◌, ap, sym, subst, refl, Result, Ok, Err}
use Rattle.std.specs.Prelude.{IfOk}
use Rattle.std.specs.List.{list_any}
use Rattle.jpa_value.specs.Value.{same_identity}
use Rattle.jpa_stored.specs.objects.Sets.{stored_at}
use Rattle.jpa_open.specs.Opened.{Opened, now, lent_ids}
use Rattle.jpa_open.specs.Prints.{print_of, holder_of}
use Rattle.jpa_open.specs.References.{HaveAll, owns_as_class, test_at, first_under, knows_owner}
use Rattle.jpa_open.proofs.Held.{have_seen, class_owner_known, owner_in_either}
use Rattle.jpa_open.proofs.Led.{known_there}
use Rattle.jpa_open.proofs.open.OpenSet.with_owners.Goals as goal

if_ok : {A E : Type 0} (r : Result A E) (P Q : A → Type 0) → ((a : A) → P a → Q a) → IfOk r P → IfOk r Q
if_ok (Ok a) P Q f p = f a p
if_ok (Err e) P Q f p = p

pub returns : goal.returns
returns c =
    let s = c.self.inside in
    let seen = now c.args.self.now in
    let class = c.args.class in
    let place = c.args.place in
    let id = c.args.id.now in
    let have = subst (λ (v : Opened). HaveAll (now v) (s.own.keys ++ s.index.keys)) c.self.view_is
    (have_seen s.fresh.items s.gone.items s.written.items s.dropped.items s.back.items s.absent.items s.committed.items s.own.keys s.index.keys c.self.invariant.fresh c.self.invariant.written c.self.invariant.back
    c.self.invariant.have_fresh c.self.invariant.have_written c.self.invariant.have_back c.self.invariant.have_committed) in
    if_ok c.with_known-2.result _ _ (λ all k q t.
    k q ∙ ap (λ b. knows_owner s.own.keys class place id q || b) (c.in_ok-found.ensures q)
    ∙ known_there (test_at (owns_as_class class place id) q (stored_at seen q)) (knows_owner s.own.keys class place id q) (knows_owner s.index.keys class place id q) (list_any (same_identity q) (lent_ids c.args.found.items))
    (λ e. sym (owner_in_either (first_under (print_of id) (holder_of class place)) (first_under (print_of id) (holder_of class place + 1)) s.own.keys s.index.keys q)
    ∙ class_owner_known seen (s.own.keys ++ s.index.keys) class place id q (print_of id) (holder_of class place) refl refl have e) t)
    c.with_known-2.ensures
