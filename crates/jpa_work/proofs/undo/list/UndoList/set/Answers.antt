use Rattle.std.proofs.Common.{◌≡◌, ◌∙◌, ap, [], ◌∷◌, ◌++◌, take, set}
use Rattle.std.proofs.lemmas.List.{set-get_or}
use Rattle.jpa_work.specs.undo.Undo.{put_back}
use Rattle.jpa_work.proofs.undo.Undo.{overwritten}
use Rattle.jpa_work.proofs.undo.list.UndoList.set.Goals as goal

-- what is noted is what stood there
pub returns-clause-since : goal.returns-clause-since
returns-clause-since g c =
    let items = c.self.inside.items.items in
    let old = c.replace-old.result in
    let read = c.replace-old.ensures.value in
    let noted : c.push.new.self.items ≡ c.self.inside.overwritten.items ++ (c.args.at, old) ∷ [] =
    (rw c.unwrap.ensures at c.push.ensures.items) ∙ ap (λ os. os ++ (c.args.at, old) ∷ []) c.in_ok-try_reserve.ensures.items in
    let same : set items c.args.at old ≡ items = ap (set items c.args.at) (read ∙ c.index_mut.ensures.value) ∙ set-get_or items c.args.at c.index_mut.result.now in
    ap (λ os. take c.self.inside.kept (put_back (set items c.args.at c.replace-old.new.dest) os)) noted
    ∙ ap (take c.self.inside.kept) (overwritten items c.args.at c.replace-old.new.dest old c.self.inside.overwritten.items same)
    ∙ ap (λ v. v.since) c.self.view_is
