use Rattle.std.proofs.Common.{◌≡◌, ◌∙◌, ap, sym, cond, refl, ◌+◌, ◌-◌, ◌<◌, [], ◌∷◌, ◌++◌, length, take, length-take, arith}
use Rattle.std.proofs.lemmas.List.{take_more}
use Rattle.std.specs.Prelude.{◌==◌}
use Rattle.jpa_work.specs.declared.context.Entry.{Entry}
use Rattle.jpa_work.specs.context.Near.{fingerprint}
use Rattle.jpa_work.specs.context.Indexed.{under, places_with, place_in}
use Rattle.jpa_work.specs.context.Places.{entry_place}
use Rattle.jpa_work.proofs.context.First.{last_dropped}
use Rattle.jpa_work.proofs.context.Placed.{more_places, dropped_again}
use Rattle.jpa_work.proofs.context.entries.forget.Goals as goal

-- the last of the entries that are left
pub loop-i-preserved : goal.loop-i-preserved
loop-i-preserved c =
    let entries = c.args.entries.now in
    let i = c.loop-i.i in
    let k = i - 1 in
    let e = c.index-entries-i.result in
    let is = c.index-entries-i.is in
    let kept = take k entries in
    let more : i ≡ k + 1 = omega (arith, c.loop-i-test.true) in
    let l : k < length entries = omega (arith, c.loop-i-test.true, c.loop-i.auto.i) in
    let one : take i entries ≡ kept ++ e ∷ [] = ap (λ j. take j entries) more ∙ take_more entries k e l ∙ ap (λ (x : Entry). kept ++ x ∷ []) (sym is) in
    let print-is = c.fingerprint.ensures ∙ ap fingerprint c.as_slice.ensures in
    record {
      within = omega (arith, c.loop-i-test.true);
      left = λ print.
          dropped_again (c.fingerprint.result == print) (places_with print kept) (under c.loop-i.index print) (under c.drop_last.new.self print) e.object
          (c.loop-i.invariant.left print ∙ ap (places_with print) one ∙ more_places print kept e ∙ ap (λ p. cond (p == print) (places_with print kept ++ e.object ∷ []) (places_with print kept)) (sym print-is))
          (c.drop_last.ensures print);
      placed = λ n.
          last_dropped n e.object k kept e (place_in c.loop-i.at n) (place_in c.drop_place.new.self n) refl (omega (arith, length-take k entries, l))
          (c.loop-i.invariant.placed n ∙ ap (entry_place n) one) (c.drop_place.ensures n);
    }

pub returns-clause-all : goal.returns-clause-all
returns-clause-all c = λ print.
    let last : c.loop-i.i ≡ c.args.kept = omega (arith, c.loop-i.invariant.within, c.loop-i-test.false) in
    c.loop-i.invariant.left print ∙ ap (λ i. places_with print (take i c.args.entries.now)) last

pub returns-clause-placed : goal.returns-clause-placed
returns-clause-placed c = λ n.
    let last : c.loop-i.i ≡ c.args.kept = omega (arith, c.loop-i.invariant.within, c.loop-i-test.false) in
    c.loop-i.invariant.placed n ∙ ap (λ i. entry_place n (take i c.args.entries.now)) last
