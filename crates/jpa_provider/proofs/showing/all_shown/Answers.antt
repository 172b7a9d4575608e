use Rattle.std.proofs.Common.{rules, ◌≡◌, ap, ◌∙◌, ◌++◌, ◌∷◌, [], ◌+◌, drop, get_or, pos, arith}
use Rattle.std.proofs.lemmas.List.{get_or_default}
use Rattle.jpa_work.specs.heap.Objects.{no_object, object_at}
use Rattle.jpa_machine.specs.machine.Showing.{all_shown, shown}
use Rattle.jpa_provider.proofs.Own.{fronted, shown_next}
use Rattle.jpa_provider.proofs.showing.all_shown.Goals as goal

pub loop-number-preserved : goal.loop-number-preserved
loop-number-preserved c =
    let m = c.args.metamodel.now in
    let objects = c.args.objects.now in
    let numbers = c.args.numbers.now in
    let i = c.loop-number.number-index in
    let x = c.index-objects-place.result in
    let k = c.in-Some.place in
    let told : c.in_ok-shown.field-0 ≡ shown m (object_at objects k) =
    c.in_ok-shown.ensures.ok ∙ ap (shown m) (c.index-objects-place.is ∙ get_or_default objects k x no_object c.in-Some.ensures.within) in
    ap (λ xs. fronted xs (all_shown m objects (drop (i + 1) numbers))) c.in_ok-push.ensures.ok
    ∙ shown_next m objects c.loop-number.list c.in_ok-shown.field-0 numbers i (get_or numbers i (pos 0)) k (omega arith) (search rules) (search rules) told
    ∙ c.loop-number.invariant
