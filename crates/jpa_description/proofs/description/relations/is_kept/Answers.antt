use Rattle.jpa_description.proofs.description.relations.is_kept.Goals as goal

pub returns-in-Some : goal.returns-in-Some
returns-in-Some c = rw (c.in-MappedBy.is, ← c.in-Some.ensures.place, ← c.chain_at.ensures) c.is_kept_by.ensures
