use Rattle.std.proofs.Common.{◌≡◌, ◌∙◌, sym, ap, subst, inr, length, Result, Ok, Err, IfOk}
use Rattle.jpa_value.specs.declared.refusal.Cause.{Cause}
use Rattle.jpa_model.specs.Chains.{relations_of}
use Rattle.jpa_behaviour.specs.Behaviour.{World}
use Rattle.jpa_behaviour.specs.Registered.{world_of}
use Rattle.jpa_stored.specs.declared.objects.stored.Stored.{Stored}
use Rattle.jpa_stored.specs.objects.Sets.{owns_well}
use Rattle.jpa_rows.specs.rows.Rows.{Row}
use Rattle.jpa_rows.proofs.laws.Facts.{some_none}
use Rattle.jpa_object_rows.proofs.meaning.Bytes.Classes.{below}
use Rattle.jpa_object_rows.proofs.meaning.Bytes.Described.{unambiguous}
use Rattle.jpa_object_rows.proofs.meaning.Bytes.Reading.{storable}
use Rattle.jpa_object_rows.specs.meaning.Sets.{targets_in}
use Rattle.jpa_object_rows.specs.mapper.Mapped.{IsReadAs, IsMainRow, no_pairs}
use Rattle.jpa_object_rows.specs.mapper.Pairs.{with_pairs}
use Rattle.jpa_object_rows.proofs.mapper.Refilled.{fits_length, read_with, none_owned}
use Rattle.jpa_object_rows.proofs.mapper.Owners.{may_own}
use Rattle.jpa_object_rows.proofs.mapper.reading.from_rows_by_id.Goals as goal

is_at_ok : (P : Stored → Type 0) (y : Stored) (r : Result Stored Cause) → P y → IfOk r (λ x. x ≡ y) → IfOk r P
is_at_ok P y (Ok x) p e = subst P (sym e) p
is_at_ok P y (Err cause) p e = tt

pub with_pairs-requires-clause-class : goal.with_pairs-requires-clause-class
with_pairs-requires-clause-class g c =
    let m = c.args.metamodel.now in
    let W : World = world_of g.B.Behaviour.meaning m c.args.registry.now in
    let x : Stored = c.in-Some.object in
    let read : IsReadAs W c.args.id.now c.args.row.now no_pairs x = (c.in_ok-object.ensures.read x).0 c.in-Some.is in
    below x.class (length m.entities) (storable W c.args.id.now x read.storable).class

pub with_pairs-requires-clause-owned : goal.with_pairs-requires-clause-owned
with_pairs-requires-clause-owned g c =
    let m = c.args.metamodel.now in
    let W : World = world_of g.B.Behaviour.meaning m c.args.registry.now in
    let x : Stored = c.in-Some.object in
    let read : IsReadAs W c.args.id.now c.args.row.now no_pairs x = (c.in_ok-object.ensures.read x).0 c.in-Some.is in
    fits_length (owns_well m) (relations_of m x.class) x.owned (storable W c.args.id.now x read.storable).owned

pub returns-in-Some-clause-ok : goal.returns-in-Some-clause-ok
returns-in-Some-clause-ok g c =
    let m = c.args.metamodel.now in
    let W : World = world_of g.B.Behaviour.meaning m c.args.registry.now in
    let id = c.args.id.now in
    let x : Stored = c.in-Some.object in
    let read : IsReadAs W id c.args.row.now no_pairs x = (c.in_ok-object.ensures.read x).0 c.in-Some.is in
    let s = storable W id x read.storable in
    let targets = targets_in m c.args.pairs.now id in
    let own = may_own m (unambiguous m c.unit-unit.ensures.described) x.class s.class id s.of_root s.named c.args.pairs.now c.requires.pairs in
    is_at_ok (IsReadAs W id c.args.row.now targets) (with_pairs m targets x) c.with_pairs.result
    (subst (λ (row : Row). IsReadAs W id row targets (with_pairs m targets x)) read.main (read_with W id x read.storable targets own)) c.with_pairs.ensures.ok

pub returns-in_ok-key-in-None-clause-err : goal.returns-in_ok-key-in-None-clause-err
returns-in_ok-key-in-None-clause-err g c =
    let m = c.args.metamodel.now in
    let W : World = world_of g.B.Behaviour.meaning m c.args.registry.now in
    let id = c.args.id.now in
    let none = λ (p : IsMainRow W id c.args.row.now).
    let x : Stored = with_pairs m no_pairs p.0 in
    let read = subst (λ (row : Row). IsReadAs W id row no_pairs x) p.2 (read_with W id p.0 p.1 no_pairs (none_owned m (relations_of m (p.0).class))) in
    some_none x (sym ((c.in_ok-object.ensures.read x).1 read) ∙ c.in-None.is) in
    inr (ap (Cause.Damaged id.table) c.in_ok-key-in-None.ensures.bytes, none)
