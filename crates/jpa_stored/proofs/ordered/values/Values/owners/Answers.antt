use Rattle.std.proofs.Common.{◌≡◌, ◌∙◌, ◌++◌, ap, sym, append-nil}
use Rattle.std.specs.List.{list_any}
use Rattle.std.proofs.lemmas.List.{at_drop_all}
use Rattle.jpa_value.specs.Value.{same_identity}
use Rattle.jpa_stored.specs.ordered.Values.{owners_in, lent_ids}
use Rattle.jpa_stored.proofs.ordered.Known.{found_among}
use Rattle.jpa_stored.proofs.ordered.Ordered.{among_owners}
use Rattle.jpa_stored.proofs.ordered.values.Values.owners.Goals as goal

pub returns-clause-whole : goal.returns-clause-whole
returns-clause-whole c at there covered =
    let entries = c.args.self.now.entries in
    let found = lent_ids c.loop-span.found.items in
    let all : found ≡ owners_in entries c.args.number c.args.spans.now =
    sym (append-nil found) ∙ sym (ap (λ ids. found ++ ids) (at_drop_all (owners_in entries c.args.number) c.args.spans.now c.loop-span.span-index c.loop-span-test.false)) ∙ c.loop-span.invariant
    in
    ap (list_any (same_identity at.owner)) all ∙ among_owners entries c.args.number at there c.args.spans.now covered

pub returns-clause-objects : goal.returns-clause-objects
returns-clause-objects c id x member has column lies =
    let entries = c.args.self.now.entries in
    let found = lent_ids c.loop-span.found.items in
    let all : found ≡ owners_in entries c.args.number c.args.spans.now =
    sym (append-nil found) ∙ sym (ap (λ ids. found ++ ids) (at_drop_all (owners_in entries c.args.number) c.args.spans.now c.loop-span.span-index c.loop-span-test.false)) ∙ c.loop-span.invariant
    in
    ap (list_any (same_identity id)) all ∙ found_among entries id x member c.args.number c.args.self.now.columns has column c.args.spans.now lies
