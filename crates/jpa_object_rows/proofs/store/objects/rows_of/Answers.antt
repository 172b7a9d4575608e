use Rattle.std.proofs.Common.{◌≡◌, ◌⊎◌, sym, ◌∙◌, inl, inr, Bool, true, false, Result, Ok, Err, IfErr}
use Rattle.jpa_value.specs.declared.refusal.Cause.{Cause}
use Rattle.jpa_behaviour.specs.Registered.{world_of}
use Rattle.jpa_rows.proofs.laws.Facts.{true_false}
use Rattle.jpa_object_rows.proofs.meaning.Bytes.Reading.{storable}
use Rattle.jpa_object_rows.specs.mapper.Mapped.{all_pass}
use Rattle.jpa_object_rows.proofs.store.objects.rows_of.Goals as goal

-- no converter throws
refuses : {A : Type 0} (r : Result A Cause) (thrown : Cause) (passing : Bool) → passing ≡ true → IfErr r (λ cause. (cause ≡ Cause.OutOfMemory) ⊎ ((cause ≡ thrown) × (passing ≡ false))) → IfErr r (λ cause. cause ≡ Cause.OutOfMemory)
refuses (Ok a) thrown passing p h = tt
refuses (Err cause) thrown passing p (inl e) = e
refuses (Err cause) thrown passing p (inr h) = absurd (true_false (sym p ∙ h.1))

pub returns-clause-err : goal.returns-clause-err
returns-clause-err g c =
    let world = world_of g.B.Behaviour.meaning c.args.metamodel.now c.args.registry.now in
    refuses c.to_rows.result _ (all_pass world c.args.object.now) (storable world c.args.id.now c.args.object.now c.requires).passing c.to_rows.ensures.err
