use Rattle.std.proofs.Common.{◌∙◌, [], ◌++◌, ap, sym}
use Rattle.std.specs.List.{flat_map}
use Rattle.jpa_model.specs.Chains.{chain, entity_at}
use Rattle.jpa_lifecycle.specs.Callbacks.{default_listeners, heard_from, hearing}
use Rattle.jpa_lifecycle.proofs.Names.{three}
use Rattle.jpa_lifecycle.proofs.hearing.order.Goals as goal

pub returns-clause-ok : goal.returns-clause-ok
returns-clause-ok c =
    let m = c.args.metamodel.now in
    let event = c.args.event in
    let cs = chain m c.args.class in
    let f = λ (k : _). (entity_at m k).listeners in
    let g = λ (k : _). (entity_at m k).callbacks in
    let classes = c.chain-chain.ensures.chain in
    let heard = c.heard_from.ensures.heard ∙ ap (heard_from [] m) classes in
    c.in_ok-push_callbacks.ensures.ok
    ∙ (λ i. (c.in_ok-push_listeners.ensures.ok
    ∙ (λ j. (c.in_ok-push_default.ensures.ok ∙ (λ k. c.new-names.ensures k ++ hearing event (default_listeners m (classes k)))) j ++ hearing event (flat_map f (heard j)))) i
    ++ hearing event (flat_map g (classes i)))
    ∙ sym (three event (default_listeners m cs) (flat_map f (heard_from [] m cs)) (flat_map g cs))
