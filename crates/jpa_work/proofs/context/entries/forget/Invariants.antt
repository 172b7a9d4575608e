use Rattle.std.proofs.Common.{◌≡◌, ℕ, ◌≤◌, take}
use Rattle.jpa_work.specs.context.Indexed.{under, places_with, place_in}
use Rattle.jpa_work.specs.context.Places.{entry_place}
use Rattle.jpa_work.proofs.context.entries.forget.Given as goal

-- what stands under each fingerprint is of the entries that are left, and so is each object's place
abbrev pub invariant-loop-i : goal.invariant-loop-i
invariant-loop-i l = record {
  within : l.kept ≤ l.i;
  left : (print : ℕ) → under l.index print ≡ places_with print (take l.i l.entries);
  placed : (n : ℕ) → place_in l.at n ≡ entry_place n (take l.i l.entries);
}
