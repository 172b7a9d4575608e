-- What is read is the only key that the bytes spell.
use Rattle.std.specs.Prelude.{◌≡◌, ◌↔◌, ℕ, ◌+◌, ◌<◌, ◌≤◌, true, false, cond, ◌==◌, List, [], ◌∷◌, ◌++◌, length, take, drop, Option, Some, None, T}
use Rattle.std.proofs.Common.{refl, sym, ap, subst, ◌∙◌, arith, append_assoc, length-append, get_or, drop-drop, Fits, w8}
use Rattle.std.proofs.Math.Seq.{drop-append_seam, take-append_seam, drop-length}
use Rattle.std.proofs.lemmas.List.{take-append-drop, length-take-le, length-drop, append-nil}
use Rattle.std.proofs.lemmas.Bool.Decides.{nat_tests}
use Rattle.std.specs.Cmp.Derive.{both_true}
use Rattle.std.specs.Cmp.{first_so, second_so}
use Rattle.std.proofs.lemmas.Option.{none-some, same_Some}
use Rattle.jpa_value.specs.declared.value.Value.{Value}
use Rattle.jpa_value.specs.declared.value.Kind.{Kind}
use Rattle.jpa_rows.specs.keys.Keys.{part_bytes, key_bytes, is_part_of, is_key_of, Spells, SpellsFront, SpellsPair}
use Rattle.jpa_rows.specs.keys.Reading.{joined, part_at, then_key, key_at, if_all, key_in, beside, pair_after, pair_in}
use Rattle.jpa_rows.proofs.keys.Joins.{some_parts, Joined, joined_some}
use Rattle.jpa_rows.proofs.keys.Escapes.{tied_numbers}
use Rattle.jpa_rows.proofs.keys.Parts.{part_read, PartRead, part_only, are_bytes, are_bytes_each, bytes_dropped}

byte_below : (n : ℕ) → Fits w8 n → n < 256
byte_below n h = omega arith

pub are_bytes_fit : (bytes : List ℕ) → ((i : ℕ) → Fits w8 (get_or bytes i 0)) → are_bytes bytes ≡ true
are_bytes_fit bytes small = are_bytes_each bytes (λ i. byte_below (get_or bytes i 0) (small i))

-- ---- written, then read

pub key_read : (kinds : List Kind) (key : List Value) (rest : List ℕ) → is_key_of kinds key ≡ true → key_at kinds (key_bytes key ++ rest) ≡ Some (key, length (key_bytes key))
key_read [] [] rest h = refl
key_read [] (v ∷ key) rest h = absurd (subst T (sym h) tt)
key_read (kind ∷ kinds) [] rest h = absurd (subst T (sym h) tt)
key_read (kind ∷ kinds) (v ∷ key) rest h =
    let later = key_bytes key ++ rest in
    ap (key_at (kind ∷ kinds)) (append_assoc (part_bytes v) (key_bytes key) rest)
    ∙ ap (λ read. then_key read (λ count. key_at kinds (drop count (part_bytes v ++ later)))) (part_read kind v later (first_so (is_part_of kind v) _ h))
    ∙ ap (λ bytes. joined (v ∷ []) (length (part_bytes v)) (key_at kinds bytes)) (drop-append_seam (part_bytes v) later)
    ∙ ap (joined (v ∷ []) (length (part_bytes v))) (key_read kinds key rest (second_so (is_part_of kind v) _ h))
    ∙ (λ i. Some (v ∷ key, sym (length-append (part_bytes v) (key_bytes key)) i))

-- ---- read, so written

pub record KeyRead (kinds : List Kind) (bytes : List ℕ) (key : List Value) (count : ℕ) : Type 0 where
  pub whole : is_key_of kinds key ≡ true
  pub within : count ≤ length bytes
  pub same : key_bytes key ++ drop count bytes ≡ bytes

record ThenKey (read : Option (Value × ℕ)) (later : ℕ → Option (List Value × ℕ)) (key : List Value) (count : ℕ) : Type 0 where
  part : Value
  taken : ℕ
  was : read ≡ Some (part, taken)
  others : Joined (part ∷ []) taken (later taken) key count

then_key_some : (read : Option (Value × ℕ)) (later : ℕ → Option (List Value × ℕ)) (key : List Value) (count : ℕ) → then_key read later ≡ Some (key, count) → ThenKey read later key count
then_key_some None later key count e = absurd (none-some _ e)
then_key_some (Some read) later key count e = record { part = read.0; taken = read.1; was = refl; others = joined_some (read.0 ∷ []) read.1 (later read.1) key count e }

no_part : (bytes : List ℕ) → 0 ≤ length bytes
no_part bytes = omega arith

both_within : (bytes : List ℕ) (n m count : ℕ) → n ≤ length bytes → m ≤ length (drop n bytes) → n + m ≡ count → count ≤ length bytes
both_within bytes n m count h g e = omega (arith, length-drop n bytes)

drop_twice : (bytes : List ℕ) (n m count : ℕ) → n + m ≡ count → drop count bytes ≡ drop m (drop n bytes)
drop_twice bytes n m count e = ap (λ k. drop k bytes) (sym e) ∙ sym (drop-drop m n bytes)

one_more : (kind : Kind) (kinds : List Kind) (bytes : List ℕ) (key : List Value) (count : ℕ) (later : ℕ → Option (List Value × ℕ)) (w : ThenKey (part_at kind bytes) later key count)
    → PartRead kind bytes w.part w.taken → KeyRead kinds (drop w.taken bytes) (w.others).rest (w.others).more → KeyRead (kind ∷ kinds) bytes key count
one_more kind kinds bytes key count later w p k =
    let n = w.taken in
    let rest = (w.others).rest in
    let m = (w.others).more in
    record {
      whole = subst (λ x. is_key_of (kind ∷ kinds) x ≡ true) (w.others).items (both_true p.whole k.whole);
      within = both_within bytes n m count p.within k.within (w.others).sum;
      same = ap (λ x. key_bytes x ++ drop count bytes) (sym (w.others).items)
          ∙ append_assoc (part_bytes w.part) (key_bytes rest) (drop count bytes)
          ∙ ap (λ x. part_bytes w.part ++ (key_bytes rest ++ x)) (drop_twice bytes n m count (w.others).sum)
          ∙ ap (λ x. part_bytes w.part ++ x) k.same
          ∙ p.same;
    }

key_only : (kinds : List Kind) (bytes : List ℕ) (key : List Value) (count : ℕ) → are_bytes bytes ≡ true → key_at kinds bytes ≡ Some (key, count) → KeyRead kinds bytes key count
key_only [] bytes key count h e =
    let nothing : List Value × ℕ = ([], 0) in
    subst (λ (p : List Value × ℕ). KeyRead [] bytes p.0 p.1) (same_Some nothing (key, count) e) (record { whole = refl; within = no_part bytes; same = refl })
key_only (kind ∷ kinds) bytes key count h e =
    let w = then_key_some (part_at kind bytes) (λ n. key_at kinds (drop n bytes)) key count e in
    one_more kind kinds bytes key count (λ n. key_at kinds (drop n bytes)) w
    (part_only kind bytes w.part w.taken h w.was)
    (key_only kinds (drop w.taken bytes) (w.others).rest (w.others).more (bytes_dropped w.taken bytes h) (w.others).was)

-- ---- the front of bytes

as_long : (bytes : List ℕ) (count : ℕ) (front : List ℕ) → count ≤ length bytes → front ++ drop count bytes ≡ bytes → length front ≡ count
as_long bytes count front h e = omega (arith, length-append front (drop count bytes), ap (λ (xs : List ℕ). length xs) e, length-drop count bytes)

front_taken : (bytes : List ℕ) (count : ℕ) (front : List ℕ) → count ≤ length bytes → front ++ drop count bytes ≡ bytes → front ≡ take count bytes
front_taken bytes count front h e =
    sym (take-append_seam front (drop count bytes)) ∙ ap (take (length front)) e ∙ ap (λ n. take n bytes) (as_long bytes count front h e)

pub front_exact : (kinds : List Kind) (bytes : List ℕ) (key : List Value) (count : ℕ) → ((i : ℕ) → Fits w8 (get_or bytes i 0))
    → (key_at kinds bytes ≡ Some (key, count)) ↔ SpellsFront kinds bytes key count
front_exact kinds bytes key count small = (
  λ e. let w = key_only kinds bytes key count (are_bytes_fit bytes small) e in
      record { within = w.within; front = record { whole = w.whole; same = front_taken bytes count (key_bytes key) w.within w.same } },
  λ s. ap (key_at kinds) (sym (take-append-drop count bytes) ∙ ap (λ x. x ++ drop count bytes) (sym (s.front).same))
      ∙ key_read kinds key (drop count bytes) (s.front).whole
      ∙ (λ i. Some (key, (ap (λ (xs : List ℕ). length xs) (s.front).same ∙ length-take-le count bytes s.within) i)),
)

-- ---- all of the bytes

record IfAll (total : ℕ) (read : Option (List Value × ℕ)) (key : List Value) : Type 0 where
  was : read ≡ Some (key, total)

if_all_some : (total : ℕ) (read : Option (List Value × ℕ)) (key : List Value) → if_all total read ≡ Some key → IfAll total read key
if_all_some total None key e = absurd (none-some _ e)
if_all_some total (Some read) key e =
    elim (read.1 == total) as (λ x. read.1 == total ≡ x → cond x (Some read.0) None ≡ Some key → IfAll total (Some read) key) [
      | true ↦ λ h g. record { was = λ i. Some (same_Some read.0 key g i, tied_numbers read.1 total h i) }
      | false ↦ λ h g. absurd (none-some _ g)
    ] refl e

itself : (n : ℕ) → n == n ≡ true
itself n = grind (arith, nat_tests)

whole_read : (kinds : List Kind) (bytes : List ℕ) (key : List Value) → Spells kinds bytes key → key_in kinds bytes ≡ Some key
whole_read kinds bytes key s =
    let all : key_at kinds bytes ≡ Some (key, length bytes) =
    ap (key_at kinds) (sym s.same ∙ sym (append-nil (key_bytes key))) ∙ key_read kinds key [] s.whole ∙ (λ i. Some (key, length (s.same i))) in
    ap (if_all (length bytes)) all ∙ ap (λ b. cond b (Some key) None) (itself (length bytes))

none_left : (bytes : List ℕ) → drop (length bytes) bytes ≡ []
none_left bytes = drop-length bytes

whole_only : (kinds : List Kind) (bytes : List ℕ) (key : List Value) → are_bytes bytes ≡ true → key_in kinds bytes ≡ Some key → Spells kinds bytes key
whole_only kinds bytes key h e =
    let w = key_only kinds bytes key (length bytes) h (if_all_some (length bytes) (key_at kinds bytes) key e).was in
    record { whole = w.whole; same = sym (append-nil (key_bytes key)) ∙ ap (λ x. key_bytes key ++ x) (sym (none_left bytes)) ∙ w.same }

pub whole_exact : (kinds : List Kind) (bytes : List ℕ) (key : List Value) → ((i : ℕ) → Fits w8 (get_or bytes i 0)) → (key_in kinds bytes ≡ Some key) ↔ Spells kinds bytes key
whole_exact kinds bytes key small = (whole_only kinds bytes key (are_bytes_fit bytes small), whole_read kinds bytes key)

-- ---- two keys, one after the other

record PairRead (target_kinds : List Kind) (bytes : List ℕ) (read : Option (List Value × ℕ)) (owner target : List Value) : Type 0 where
  taken : ℕ
  was : read ≡ Some (owner, taken)
  later : key_in target_kinds (drop taken bytes) ≡ Some target

beside_some : (first : List Value) (second : Option (List Value)) (owner target : List Value) → beside first second ≡ Some (owner, target) → (first ≡ owner) × (second ≡ Some target)
beside_some first None owner target e = absurd (none-some _ e)
beside_some first (Some second) owner target e =
    let same = some_parts {A = List Value} {B = List Value} (first, second) (owner, target) e in (same.0, ap Some same.1)

pair_after_some : (target_kinds : List Kind) (bytes : List ℕ) (read : Option (List Value × ℕ)) (owner target : List Value) → pair_after target_kinds bytes read ≡ Some (owner, target) → PairRead target_kinds bytes read owner target
pair_after_some target_kinds bytes None owner target e = absurd (none-some _ e)
pair_after_some target_kinds bytes (Some read) owner target e =
    let same = beside_some read.0 (key_in target_kinds (drop read.1 bytes)) owner target e in
    record { taken = read.1; was = λ i. Some (same.0 i, read.1); later = same.1 }

pair_only : (owner_kinds target_kinds : List Kind) (bytes : List ℕ) (owner target : List Value) → are_bytes bytes ≡ true → pair_in owner_kinds target_kinds bytes ≡ Some (owner, target) → SpellsPair owner_kinds target_kinds bytes owner target
pair_only owner_kinds target_kinds bytes owner target h e =
    let w = pair_after_some target_kinds bytes (key_at owner_kinds bytes) owner target e in
    let first = key_only owner_kinds bytes owner w.taken h w.was in
    let second = whole_only target_kinds (drop w.taken bytes) target (bytes_dropped w.taken bytes h) w.later in
    record { owner_whole = first.whole; target_whole = second.whole; same = ap (λ x. key_bytes owner ++ x) second.same ∙ first.same }

pair_read : (owner_kinds target_kinds : List Kind) (bytes : List ℕ) (owner target : List Value) → SpellsPair owner_kinds target_kinds bytes owner target → pair_in owner_kinds target_kinds bytes ≡ Some (owner, target)
pair_read owner_kinds target_kinds bytes owner target s =
    let rest : drop (length (key_bytes owner)) bytes ≡ key_bytes target = ap (drop (length (key_bytes owner))) (sym s.same) ∙ drop-append_seam (key_bytes owner) (key_bytes target) in
    ap (pair_after target_kinds bytes) (ap (key_at owner_kinds) (sym s.same) ∙ key_read owner_kinds owner (key_bytes target) s.owner_whole)
    ∙ ap (beside owner) (ap (key_in target_kinds) rest ∙ whole_read target_kinds (key_bytes target) target (record { whole = s.target_whole; same = refl }))

pub pair_exact : (owner_kinds target_kinds : List Kind) (bytes : List ℕ) (owner target : List Value) → ((i : ℕ) → Fits w8 (get_or bytes i 0))
    → (pair_in owner_kinds target_kinds bytes ≡ Some (owner, target)) ↔ SpellsPair owner_kinds target_kinds bytes owner target
pair_exact owner_kinds target_kinds bytes owner target small =
    (pair_only owner_kinds target_kinds bytes owner target (are_bytes_fit bytes small), pair_read owner_kinds target_kinds bytes owner target)
