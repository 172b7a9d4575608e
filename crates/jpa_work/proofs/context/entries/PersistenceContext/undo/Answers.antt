use Rattle.std.proofs.Common.{◌≡◌, ◌∙◌, sym, subst, ap, ◌≤◌, List, length, map, take}
use Rattle.std.proofs.lemmas.List.{take-map}
use Rattle.std.proofs.Math.Seq.{take-length}
use Rattle.jpa_work.specs.declared.context.Entry.{Entry}
use Rattle.jpa_work.specs.context.Indexed.{placed, places_with}
use Rattle.jpa_work.specs.context.Places.{entry_place}
use Rattle.jpa_work.proofs.context.First.{same_first}
use Rattle.jpa_work.proofs.context.Placed.{same_places, kept_within}
use Rattle.jpa_work.proofs.context.entries.PersistenceContext.undo.Goals as goal

-- the index has the entries, and those that are kept are some of them
pub forget-requires : goal.forget-requires
forget-requires c =
    let list = c.self.inside.list in
    let kept = c.self.inside.kept in
    let read = c.as_slice-entries.ensures in
    let within : kept ≤ length list.now = kept_within kept list.now list.since c.self.invariant.kept_length c.self.invariant.kept_front in
    record {
      within = subst (λ (es : List Entry). kept ≤ length es) (sym read) within;
      all = λ print. c.self.invariant.under_each print ∙ ap (places_with print) (sym read);
      placed = λ n. c.self.invariant.at_each n ∙ ap (entry_place n) (sym read);
    }

-- the kept entries have the objects and keys of those to which undoing leads back
pub invariant_of-self : goal.invariant_of-self
invariant_of-self c =
    let list = c.self.inside.list in
    let kept = c.self.inside.kept in
    let read = c.as_slice-entries.ensures in
    let front : map placed (take kept list.now) ≡ map placed list.since = sym (take-map placed kept list.now) ∙ c.self.invariant.kept_front in
    let back : map placed (take kept c.as_slice-entries.result.now) ≡ map placed c.undo.new.self.now =
    ap (λ (es : List Entry). map placed (take kept es)) read ∙ front ∙ ap (map placed) (sym c.undo.ensures.now) in
    record {
      under_each = λ print. c.forget.ensures.all print ∙ same_places print (take kept c.as_slice-entries.result.now) c.undo.new.self.now back;
      at_each = λ n. c.forget.ensures.placed n ∙ same_first n 0 (take kept c.as_slice-entries.result.now) c.undo.new.self.now back;
      kept_length = c.self.invariant.kept_length ∙ ap length (sym c.undo.ensures.since);
      kept_front =
          take-map placed kept c.undo.new.self.now
          ∙ ap (λ (es : List Entry). map placed (take kept es)) c.undo.ensures.now
          ∙ ap (λ n. map placed (take n list.since)) c.self.invariant.kept_length
          ∙ ap (map placed) (take-length list.since)
          ∙ ap (map placed) (sym c.undo.ensures.since);
    }
