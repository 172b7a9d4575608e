use Rattle.std.proofs.Common.{◌≡◌, ◌∙◌, ◌<◌, ◌∷◌, ◌++◌, [], ap, length, get_or, arith}
use Rattle.jpa_model.specs.Chains.{part_name}
use Rattle.jpa_lifecycle.proofs.Seen.{none, one_more}
use Rattle.jpa_lifecycle.proofs.seeing.push_key.Goals as goal

pub loop-i-init : goal.loop-i-init
loop-i-init c = none (part_name c.args.root.now) c.args.root.now.key c.args.values.now

pub loop-i-preserved : goal.loop-i-preserved
loop-i-preserved c =
    let root = c.args.root.now in
    let key = c.args.key.now in
    let i = c.loop-i.i in
    let part = c.index-parts-i.result in
    let value = c.index-key-i.result in
    let read : part ≡ get_or root.key i part = c.index-parts-i.is ∙ ap (λ (ps : _). get_or ps i part) c.as_slice-parts.ensures in
    let within : i < length root.key = omega (arith, c.requires, c.loop-i-test.true) in
    c.in_ok-push_value.ensures.ok
    ∙ (λ j. c.loop-i.invariant j ++ record { name = c.in_ok-part_name.ensures.ok j; value = value } ∷ [])
    ∙ one_more (part_name root) root.key key c.args.values.now i part value within c.loop-i-test.true read c.index-key-i.is
