use Rattle.std.proofs.Common.{◌≡◌, ◌∙◌, ap, sym, subst, true, [], ◌∷◌, ◌++◌, string_bytes}
use Rattle.std.specs.Prelude.{string_eq}
use Rattle.indexmap.proofs.CallerLemmas.{insert_entry-new}
use Rattle.jpa_model.specs.WellFormed.{are_distinct_by}
use Rattle.jpa_behaviour.specs.Registered.{known_as}
use Rattle.jpa_behaviour.specs.Entries.{known_in}
use Rattle.jpa_behaviour.proofs.Names.{found, distinct_added, known_put}
use Rattle.jpa_behaviour.proofs.by_name.ByName.put.Goals as goal

pub invariant_of-self-2 : goal.invariant_of-self-2
invariant_of-self-2 g c =
    let before = c.self.inside.known.entries in
    let name = string_bytes c.args.name in
    let none = ap (known_as name) c.self.view_is ∙ c.requires in
    let last = c.in_ok-insert.ensures.entries ∙ insert_entry-new string_eq c.self.inside.known c.args.name c.args.what (found name before ∙ none) in
    subst (λ ks. are_distinct_by (λ k. k.name) ks ≡ true) (sym (ap known_in last ∙ known_put before c.args.name c.args.what))
    (distinct_added (known_in before) (record { name = name; what = c.args.what }) c.self.invariant none)

pub returns-clause-put : goal.returns-clause-put
returns-clause-put g c =
    let before = c.self.inside.known.entries in
    let name = string_bytes c.args.name in
    let none = ap (known_as name) c.self.view_is ∙ c.requires in
    let last = c.in_ok-insert.ensures.entries ∙ insert_entry-new string_eq c.self.inside.known c.args.name c.args.what (found name before ∙ none) in
    ap known_in last ∙ known_put before c.args.name c.args.what ∙ ap (λ ks. ks ++ (record { name = name; what = c.args.what }) ∷ []) c.self.view_is
