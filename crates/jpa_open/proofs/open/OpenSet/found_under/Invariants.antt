use Rattle.std.proofs.Common.{◌≡◌, ◌++◌, drop}
use Rattle.jpa_open.specs.Opened.{now, lent, lent_ids}
use Rattle.jpa_open.specs.Valued.{is_valued, passing_under}
use Rattle.jpa_open.proofs.open.OpenSet.found_under.Given as goal

-- with what stands under the identities that are left they are all
abbrev pub invariant-loop-id : goal.invariant-loop-id
invariant-loop-id l =
    lent l.found.items ++ passing_under (is_valued l.metamodel l.class l.member l.spans) (now l.self) (lent_ids (drop l.id-index l.ids))
    ≡ passing_under (is_valued l.metamodel l.class l.member l.spans) (now l.self) (lent_ids l.ids)
