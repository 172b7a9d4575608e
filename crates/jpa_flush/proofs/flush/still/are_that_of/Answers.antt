use Rattle.std.proofs.Common.{◌≡◌, ◌∙◌, ap, sym, true}
use Rattle.jpa_model.specs.Chains.{root_of}
use Rattle.jpa_work.specs.heap.Objects.{identity_of, is_whole}
use Rattle.jpa_flush.specs.flush.Flush.{listed}
use Rattle.jpa_flush.proofs.flush.Same.{identities_of_lengths, one_listed}
use Rattle.jpa_flush.proofs.flush.still.are_that_of.Goals as goal

pub returns-then-ids-ne1 : goal.returns-then-ids-ne1
returns-then-ids-ne1 c =
    let m = c.args.metamodel.now in
    let x = c.args.object.now in
    let whole : is_whole x.key ≡ true = ap is_whole (sym c.as_slice.ensures) ∙ sym c.is_whole.ensures ∙ c.if-not-is_whole.false in
    let one = one_listed (is_whole x.key) (record { table = (root_of m x.class).table; key = x.key }) whole in
    identities_of_lengths c.args.ids.now (listed (identity_of m x)) (λ e. c.if-ids-ne1.true (e ∙ one))
