use Rattle.std.proofs.Common.{refl, rules, ◌∙◌}
use Rattle.jpa_provider.specs.declared.session.Session.{Session}
use Rattle.jpa_provider.proofs.Marked.{made_marked}
use Rattle.jpa_provider.proofs.opening.new_call.Goals as goal

pub returns-in-Ok-push-clause-rest : goal.returns-in-Ok-push-clause-rest
returns-in-Ok-push-clause-rest g c =
    let s = c.args.session.now in
    let t : Session = record s { work = record (s.work) { objects = c.keep.new.self } } in
    record {
      settled = search rules;
      marked = made_marked c.args.unit.now.metamodel s t c.in-Ok.object c.other_laws.ensures.stay (c.keep.ensures.now ∙ c.in-Ok-push.ensures.pushed) (λ k. refl) c.requires.marked;
    }
