use Rattle.std.proofs.Common.{◌≡◌, ◌∙◌, sym, ap, length, is_some, rules, true, drop}
use Rattle.std.proofs.lemmas.List.{take_rest}
use Rattle.jpa_object_rows.specs.meaning.Sets.{key_after}
use Rattle.jpa_object_rows.proofs.mapper.Walk.{found_pair}
use Rattle.jpa_object_rows.proofs.mapper.targets.pair_target.Goals as goal

pub returns-clause-ok : goal.returns-clause-ok
returns-clause-ok c =
    let parts = c.as_slice-parts.result.now in
    let owner = c.args.owner.now in
    let same = c.as_slice-parts.ensures in
    let begins : is_some (key_after owner parts) ≡ true = search rules in
    found_pair c.args.join c.args.table owner c.args.id.now c.in_ok-key.key (search rules) (ap (λ k. is_some (key_after owner k)) (sym same) ∙ begins)
    (c.in_ok-key.ensures.ok ∙ take_rest parts (length owner) ∙ ap (drop (length owner)) same)
