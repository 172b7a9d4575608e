use Rattle.std.proofs.Common.{rules, not, map, ap, ◌∙◌}
use Rattle.std.proofs.lemmas.Fn.{filter_same}
use Rattle.jpql_meaning.specs.eval.Data.{is_nothing}
use Rattle.jpql_meaning.specs.eval.Seen.{seen}
use Rattle.jpql_meaning.specs.declared.eval.datum.Datum.{Datum}
use Rattle.jpql_meaning.specs.declared.eval.seen.Seen.{Seen}
use Rattle.jpql_meaning.proofs.eval.There.{shown}
use Rattle.jpql_meaning.proofs.eval.aggregates.there.Goals as goal

pub returns : goal.returns
returns c =
    ap (map seen) (filter_same _ (λ (s : Seen). not (is_nothing (seen s))) _ (λ x b f' k. search rules) _ _ c.retain.ensures.filtered)
    ∙ shown (λ (a : Datum). not (is_nothing a)) seen c.args.all.items
