use Rattle.std.proofs.Common.{◌≡◌, ◌++◌, drop}
use Rattle.jpa_open.specs.Opened.{now, lent, lent_ids}
use Rattle.jpa_open.specs.References.{leads_as_kind}
use Rattle.jpa_open.specs.Valued.{passing_under}
use Rattle.jpa_open.proofs.open.OpenSet.leading_under.Given as goal

-- with what stands under the identities that are left they are all
abbrev pub invariant-loop-one : goal.invariant-loop-one
invariant-loop-one l =
    lent l.found.items ++ passing_under (leads_as_kind l.metamodel l.class l.place l.id) (now l.self) (lent_ids (drop l.one-index l.ids))
    ≡ passing_under (leads_as_kind l.metamodel l.class l.place l.id) (now l.self) (lent_ids l.ids)
