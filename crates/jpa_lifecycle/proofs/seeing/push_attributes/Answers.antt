use Rattle.std.proofs.Common.{◌∙◌, ◌<◌, ◌∷◌, ◌++◌, [], ap, sym, length, arith}
use Rattle.jpa_model.specs.declared.unit.Attribute.{Attribute}
use Rattle.jpa_lifecycle.proofs.Seen.{none, one_more}
use Rattle.jpa_lifecycle.proofs.seeing.push_attributes.Goals as goal

pub loop-i-init : goal.loop-i-init
loop-i-init c = none (λ (a : Attribute). a.name) c.args.attributes.now c.args.values.now

pub loop-i-preserved : goal.loop-i-preserved
loop-i-preserved c =
    let attributes = c.args.attributes.now in
    let held = c.args.held.now in
    let i = c.loop-i.i in
    let attribute = c.index-attributes-i.result in
    let value = c.index-held-i.result in
    let within : i < length attributes = omega (arith, c.requires, c.loop-i-test.true) in
    c.in_ok-push_value.ensures.ok
    ∙ (λ j. c.loop-i.invariant j ++ record { name = (c.in_ok-try_copy.ensures.equal ∙ ap (λ (a : Attribute). a.name) (sym c.index-attributes-i.is)) j; value = value } ∷ [])
    ∙ one_more (λ (a : Attribute). a.name) attributes held c.args.values.now i attribute value within c.loop-i-test.true c.index-attributes-i.is c.index-held-i.is
