use Rattle.std.proofs.Common.{◌≡◌, ℕ, List, Result, Ok, Err, ap, sym, subst, rules}
use Rattle.std.specs.Prelude.{OnOk, OnErr}
use Rattle.jpa_open.specs.Opened.{Opened, IsUndone, with_room}
use Rattle.jpa_stored.specs.objects.Sets.{StoredSet}
use Rattle.jpa_provider.specs.declared.session.EntityManager.{EntityManager}
use Rattle.jpa_provider.specs.Beside.{AreHeld, HasRoom}
use Rattle.jpa_provider.proofs.Held.{held_beside}
use Rattle.jpa_provider.proofs.beside.make_room.Goals as goal

-- finding room changes nothing else
module _ {A B : Type 0} (v w : Opened) where
  same_seen : (r : Result A B) → OnOk r (w ≡ with_room v) → OnErr r (w ≡ v) → w.seen ≡ v.seen
  same_seen (Ok a) e f = ap (λ (x : Opened). x.seen) e
  same_seen (Err b) e f = ap (λ (x : Opened). x.seen) f

  undone_itself : (r : Result A B) → OnOk r (w ≡ with_room v) → OnErr r (w ≡ v) → IsUndone v w
  undone_itself (Ok a) e f = record { committed = ap (λ (x : Opened). x.committed) e; begun = ap (λ (x : Opened). x.begun) e; kept = ap (λ (x : Opened). x.kept) e }
  undone_itself (Err b) e f = record { committed = ap (λ (x : Opened). x.committed) f; begun = ap (λ (x : Opened). x.begun) f; kept = ap (λ (x : Opened). x.kept) f }

  has_room : {m : ℕ} {managers : List EntityManager} (r : Result A B) → OnOk r (w ≡ with_room v) → AreHeld w.committed managers m w.seen managers → OnOk r (HasRoom m managers w)
  has_room (Ok a) e beside = record { ready = ap (λ (x : Opened). x.is_ready) e; beside = beside }
  has_room (Err b) e beside = tt

pub returns-clause-still : goal.returns-clause-still
returns-clause-still c =
    let v = c.args.view.now in
    let w = c.prepare.new.self in
    record {
      seen = same_seen v w c.prepare.result c.prepare.ensures.ok c.prepare.ensures.unchanged;
      undone = undone_itself v w c.prepare.result c.prepare.ensures.ok c.prepare.ensures.unchanged;
      held = search rules;
    }

pub returns-clause-ok : goal.returns-clause-ok
returns-clause-ok c =
    let v = c.args.view.now in
    let w = c.prepare.new.self in
    let m = c.args.manager in
    let ys = c.keep_back_others.new.managers.items in
    let changed = c.requires.changed in
    let seen = same_seen v w c.prepare.result c.prepare.ensures.ok c.prepare.ensures.unchanged in
    let undone = undone_itself v w c.prepare.result c.prepare.ensures.ok c.prepare.ensures.unchanged in
    has_room v w c.prepare.result c.prepare.ensures.ok
    (subst (λ (p : StoredSet × StoredSet). AreHeld p.0 ys m p.1 ys) (λ i. (sym undone.committed i, sym seen i))
    (held_beside v.committed v.seen ys m c.args.ids.now changed.committed changed.seen changed.elsewhere c.in_ok-keep_back_others.ensures.told))
