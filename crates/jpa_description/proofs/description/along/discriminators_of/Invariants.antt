use Rattle.std.proofs.Common.{◌≡◌, ◌++◌, map, drop}
use Rattle.jpa_model.specs.Drafted.{discriminator, entity_at}
use Rattle.jpa_description.proofs.description.along.discriminators_of.Given as goal

abbrev pub invariant-loop-class : goal.invariant-loop-class
invariant-loop-class l =
    map (λ n. n.now) l.texts.items ++ map (λ class. discriminator (entity_at l.draft class)) (drop l.class-index l.places)
    ≡ map (λ class. discriminator (entity_at l.draft class)) l.places
