use Rattle.std.proofs.Common.{◌∙◌, ap, sym, cond, [], ◌∷◌, ◌++◌, length, take, map, Some, None}
use Rattle.std.specs.Prelude.{◌==◌, ◌&&◌}
use Rattle.std.specs.Option.{option_or}
use Rattle.jpa_work.specs.context.Near.{fingerprint}
use Rattle.jpa_work.specs.context.Indexed.{under, places_with, is_place, placed}
use Rattle.jpa_work.specs.context.Places.{entry_place}
use Rattle.jpa_work.proofs.context.Placed.{more_places, dropped_again, more_kept}
use Rattle.jpa_work.proofs.context.First.{last_noted, last_goes}
use Rattle.jpa_work.proofs.context.entries.PersistenceContext.push.Goals as goal

pub invariant_of-self-in_default-push : goal.invariant_of-self-in_default-push
invariant_of-self-in_default-push c =
    let list = c.self.inside.list in
    let entry = c.args.entry in
    let print-is = c.fingerprint-print.ensures ∙ ap fingerprint c.as_slice.ensures in
    record {
      under_each = λ print.
          c.in_ok-add.ensures.added print
          ∙ (λ i. cond (print-is i == print) (c.self.invariant.under_each print i ++ entry.object ∷ []) (c.self.invariant.under_each print i))
          ∙ sym (more_places print list.now entry) ∙ ap (places_with print) (sym c.in_default-push.ensures.pushed);
      at_each = λ n.
          c.in_default.ensures.noted n ∙ ap (λ o. option_or o (cond (entry.object == n) (Some c.len-place.result) None)) (c.self.invariant.at_each n)
          ∙ last_noted n list.now entry c.len-place.result (sym c.len-place.ensures) ∙ ap (entry_place n) (sym c.in_default-push.ensures.pushed);
      kept_length = c.self.invariant.kept_length ∙ ap length (sym c.in_default-push.ensures.since);
      kept_front =
          ap (λ es. take c.self.inside.kept (map placed es)) c.in_default-push.ensures.pushed
          ∙ more_kept c.self.inside.kept list.now list.since entry c.self.invariant.kept_length c.self.invariant.kept_front ∙ ap (map placed) (sym c.in_default-push.ensures.since);
    }

-- what was added goes again
pub invariant_of-self-in-Err-push : goal.invariant_of-self-in-Err-push
invariant_of-self-in-Err-push c =
    let list = c.self.inside.list in
    let entry = c.args.entry in
    let print = c.fingerprint-print.result in
    let place = c.len-place.result in
    record {
      under_each = λ other.
          dropped_again (print == other) (under c.self.inside.index other) (under c.add.new.self other) (under c.drop_last-in-Err-push.new.self other) entry.object
          (c.in_ok-add.ensures.added other) (c.drop_last-in-Err-push.ensures other)
          ∙ c.self.invariant.under_each other ∙ ap (places_with other) (sym c.in-Err-push.ensures.refused);
      at_each = λ n.
          let noted = c.in_default.ensures.noted n ∙ ap (λ o. option_or o (cond (entry.object == n) (Some place) None)) (c.self.invariant.at_each n) ∙ last_noted n list.now entry place (sym c.len-place.ensures) in
          c.drop_place.ensures n ∙ ap (λ o. cond ((entry.object == n) && is_place place o) None o) noted
          ∙ last_goes n list.now entry place (sym c.len-place.ensures) ∙ ap (entry_place n) (sym c.in-Err-push.ensures.refused);
      kept_length = c.self.invariant.kept_length ∙ ap length (sym c.in-Err-push.ensures.since);
      kept_front = ap (λ es. take c.self.inside.kept (map placed es)) c.in-Err-push.ensures.refused ∙ c.self.invariant.kept_front ∙ ap (map placed) (sym c.in-Err-push.ensures.since);
    }
