use Rattle.std.proofs.Common.{◌∙◌, ◌++◌, ap, sym, arith, map, Bor}
use Rattle.jpa_stored.specs.declared.ordered.valued.Valued.{Valued}
use Rattle.jpa_stored.specs.ordered.Values.{within}
use Rattle.jpa_stored.proofs.ordered.Ordered.{one_left}
use Rattle.jpa_stored.proofs.ordered.values.Values.with_owners.Goals as goal

pub returns-then-len-most-clause-none : goal.returns-then-len-most-clause-none
returns-then-len-most-clause-none c =
    let so_far = map (λ (v : Bor Valued). v.now) c.loop-entry.yielded in
    let split = ap (λ vs. so_far ++ vs) (sym c.in-Some.ensures.steps) ∙ c.loop-entry.invariant.rest ∙ c.into_iter-entry-iterator.ensures.into_iter_gives ∙ c.in_ok-entries.ensures.walk in
    let fewer = one_left c.loop-entry.found.items c.args.found.items so_far c.next.new.self (within c.args.self.now.entries c.args.number c.args.span.now) c.in-Some.entry.now c.loop-entry.invariant.found split in
    let whole = c.loop-entry.found.ok.0 in
    omega (arith, fewer, whole, c.if-len-most.true, c.len.ensures)
