-- A part is read as what it was written for, and what is read was written so.
use Rattle.std.specs.Prelude.{◌≡◌, ℕ, zero, suc, ℤ, ◌+◌, ◌<◌, ◌≤◌, Bool, true, false, cond, ◌==◌, ◌&&◌, nat_le, nat_lt, List, [], ◌∷◌, ◌++◌, length, take, drop, Option, Some, None, T}
use Rattle.std.proofs.Common.{refl, sym, ap, subst, ◌∙◌, arith, append_assoc, length-append, get_or}
use Rattle.std.specs.List.{list_all}
use Rattle.std.specs.Int.{from_be_bytes, to_be_bytes, w64}
use Rattle.std.specs.Str.{is_utf8}
use Rattle.std.proofs.lemmas.Nat.{be_bytes_8, from_be_bytes-to_be_bytes_8}
use Rattle.std.proofs.lemmas.List.{take-append-drop, length-take-le}
use Rattle.std.proofs.lemmas.List.Folds.{list_all-append}
use Rattle.std.proofs.lemmas.Bool.Decides.{nat_tests}
use Rattle.std.specs.Cmp.Derive.{both_true}
use Rattle.std.specs.Cmp.{first_so, second_so}
use Rattle.std.proofs.lemmas.Option.{none-some, same_Some}
use Rattle.jpa_value.specs.declared.value.Value.{Value}
use Rattle.jpa_value.specs.declared.value.Kind.{Kind}
use Rattle.jpa_value.specs.Value.{is_i64}
use Rattle.jpa_rows.specs.keys.Keys.{shifted, int_bytes, escaped, part_bytes, is_part_of}
use Rattle.jpa_rows.specs.keys.Reading.{joined, unescaped, unshifted, tagged, int_at, with_count, text_in, bytes_in, part_at}
use Rattle.jpa_rows.proofs.keys.Joins.{Joined, joined_some}
use Rattle.jpa_rows.proofs.keys.Escapes.{tied_numbers, escape_read, Escaped, escape_only}
use Rattle.jpa_rows.proofs.keys.Integers.{shifted_back, shifted_fits, unshifted_back, unshifted_fits, eight_fit}

-- ---- written, then read

nine_there : (n : ℕ) → nat_le 9 (suc (suc (suc (suc (suc (suc (suc (suc (suc n))))))))) ≡ true
nine_there n = grind (arith, nat_tests)

int_read : (n : ℤ) → is_i64 n ≡ true → unshifted (from_be_bytes w64 (int_bytes n)) ≡ n
int_read n h = ap unshifted (from_be_bytes-to_be_bytes_8 (shifted n) (shifted_fits n h)) ∙ shifted_back n h

escape_end : (bytes rest : List ℕ) → (escaped bytes ++ 0 ∷ 0 ∷ []) ++ rest ≡ escaped bytes ++ 0 ∷ 0 ∷ rest
escape_end bytes rest = append_assoc (escaped bytes) (0 ∷ 0 ∷ []) rest

tagged_length : (tag : ℕ) (bytes : List ℕ) → 1 + (length (escaped bytes) + 2) ≡ length (tag ∷ escaped bytes ++ 0 ∷ 0 ∷ [])
tagged_length tag bytes = omega (arith, length-append (escaped bytes) (0 ∷ 0 ∷ []))

tagged_read : (tag : ℕ) (bytes rest : List ℕ) → joined [] 1 (unescaped false ((escaped bytes ++ 0 ∷ 0 ∷ []) ++ rest)) ≡ Some (bytes, length (tag ∷ escaped bytes ++ 0 ∷ 0 ∷ []))
tagged_read tag bytes rest =
    ap (λ x. joined [] 1 (unescaped false x)) (escape_end bytes rest) ∙ ap (joined [] 1) (escape_read bytes rest)
    ∙ (λ i. Some (bytes, tagged_length tag bytes i))

pub part_read : (kind : Kind) (v : Value) (rest : List ℕ) → is_part_of kind v ≡ true → part_at kind (part_bytes v ++ rest) ≡ Some (v, length (part_bytes v))
part_read Kind.Int Value.Null rest h = absurd (subst T (sym h) tt)
part_read Kind.Text Value.Null rest h = absurd (subst T (sym h) tt)
part_read Kind.Bytes Value.Null rest h = absurd (subst T (sym h) tt)
part_read Kind.Int (Value.Int n) rest h = λ i. cond (nine_there (length rest) i) (Some (Value.Int (int_read n h i), 9)) None
part_read Kind.Int (Value.Text bytes) rest h = absurd (subst T (sym h) tt)
part_read Kind.Int (Value.Bytes bytes) rest h = absurd (subst T (sym h) tt)
part_read Kind.Text (Value.Int n) rest h = absurd (subst T (sym h) tt)
part_read Kind.Text (Value.Text bytes) rest h =
    ap text_in (tagged_read 2 bytes rest) ∙ ap (λ b. with_count (cond b (Some bytes) None) (length (2 ∷ escaped bytes ++ 0 ∷ 0 ∷ []))) h
part_read Kind.Text (Value.Bytes bytes) rest h = absurd (subst T (sym h) tt)
part_read Kind.Bytes (Value.Int n) rest h = absurd (subst T (sym h) tt)
part_read Kind.Bytes (Value.Text bytes) rest h = absurd (subst T (sym h) tt)
part_read Kind.Bytes (Value.Bytes bytes) rest h = ap bytes_in (tagged_read 3 bytes rest)

-- ---- read, so written

abbrev pub are_bytes : List ℕ → Bool
are_bytes bytes = list_all (λ b. nat_lt b 256) bytes

pub record PartRead (kind : Kind) (bytes : List ℕ) (v : Value) (count : ℕ) : Type 0 where
  pub whole : is_part_of kind v ≡ true
  pub within : count ≤ length bytes
  pub same : part_bytes v ++ drop count bytes ≡ bytes

number_below : (n : ℕ) → nat_lt n 256 ≡ true → n < 256
number_below n h = grind (arith, nat_tests)

nothing_below : (i : ℕ) → get_or [] i 0 < 256
nothing_below i = omega arith

pub each_below : (bytes : List ℕ) → are_bytes bytes ≡ true → (i : ℕ) → get_or bytes i 0 < 256
each_below [] h i = nothing_below i
each_below (b ∷ bytes) h zero = number_below b (first_so (nat_lt b 256) _ h)
each_below (b ∷ bytes) h (suc i) = each_below bytes (second_so (nat_lt b 256) _ h) i

below_number : (n : ℕ) → n < 256 → nat_lt n 256 ≡ true
below_number n h = grind (arith, nat_tests)

pub are_bytes_each : (bytes : List ℕ) → ((i : ℕ) → get_or bytes i 0 < 256) → are_bytes bytes ≡ true
are_bytes_each [] h = refl
are_bytes_each (b ∷ bytes) h = both_true (below_number b (h 0)) (are_bytes_each bytes (λ i. h (suc i)))

pub bytes_front : (xs ys : List ℕ) → are_bytes (xs ++ ys) ≡ true → are_bytes xs ≡ true
bytes_front xs ys h = first_so (are_bytes xs) (are_bytes ys) (sym (list_all-append (λ b. nat_lt b 256) xs ys) ∙ h)

pub bytes_back : (xs ys : List ℕ) → are_bytes (xs ++ ys) ≡ true → are_bytes ys ≡ true
bytes_back xs ys h = second_so (are_bytes xs) (are_bytes ys) (sym (list_all-append (λ b. nat_lt b 256) xs ys) ∙ h)

pub bytes_taken : (n : ℕ) (bytes : List ℕ) → are_bytes bytes ≡ true → are_bytes (take n bytes) ≡ true
bytes_taken n bytes h = bytes_front (take n bytes) (drop n bytes) (ap are_bytes (take-append-drop n bytes) ∙ h)

pub bytes_dropped : (n : ℕ) (bytes : List ℕ) → are_bytes bytes ≡ true → are_bytes (drop n bytes) ≡ true
bytes_dropped n bytes h = bytes_back (take n bytes) (drop n bytes) (ap are_bytes (take-append-drop n bytes) ∙ h)

-- what an escape stands for is a byte
bytes_unescaped : (bytes : List ℕ) → are_bytes (escaped bytes) ≡ true → are_bytes bytes ≡ true
bytes_unescaped [] h = refl
bytes_unescaped (b ∷ bytes) h =
    elim (b == 0) as (λ x. b == 0 ≡ x → are_bytes (cond x (0 ∷ 255 ∷ []) (b ∷ []) ++ escaped bytes) ≡ true → nat_lt b 256 && are_bytes bytes ≡ true) [
      | true ↦ λ e g. both_true (ap (λ z. nat_lt z 256) (tied_numbers b 0 e)) (bytes_unescaped bytes g)
      | false ↦ λ e g. both_true (first_so (nat_lt b 256) _ g) (bytes_unescaped bytes (second_so (nat_lt b 256) _ g))
    ] refl h

record Tagged (tag : ℕ) (bytes contents : List ℕ) (count : ℕ) : Type 0 where
  within : count ≤ length bytes
  same : (tag ∷ escaped contents ++ 0 ∷ 0 ∷ []) ++ drop count bytes ≡ bytes

drop_more : (b : ℕ) (bytes : List ℕ) (n count : ℕ) → 1 + n ≡ count → drop count (b ∷ bytes) ≡ drop n bytes
drop_more b bytes n count h = let e : count ≡ suc n = omega arith in ap (λ k. drop k (b ∷ bytes)) e

after_tag : (tag b : ℕ) (bytes contents : List ℕ) (count : ℕ) (later : Option (List ℕ × ℕ)) (w : Joined [] 1 later contents count) → b == tag ≡ true → Escaped false bytes w.rest w.more → Tagged tag (b ∷ bytes) contents count
after_tag tag b bytes contents count later w e more = record {
  within = let h = more.within in let s = w.sum in omega arith;
  same = ap (λ x. tag ∷ x) (escape_end contents (drop count (b ∷ bytes)))
      ∙ (λ i. tag ∷ escaped (sym w.items i) ++ 0 ∷ 0 ∷ drop_more b bytes w.more count w.sum i)
      ∙ ap (λ x. tag ∷ x) (sym more.same)
      ∙ ap (λ z. z ∷ bytes) (sym (tied_numbers b tag e));
}

tagged_only : (tag : ℕ) (bytes contents : List ℕ) (count : ℕ) → tagged tag bytes ≡ Some (contents, count) → Tagged tag bytes contents count
tagged_only tag [] contents count e = absurd (none-some _ e)
tagged_only tag (b ∷ bytes) contents count e =
    elim (b == tag) as (λ x. b == tag ≡ x → cond x (joined [] 1 (unescaped false bytes)) None ≡ Some (contents, count) → Tagged tag (b ∷ bytes) contents count) [
      | true ↦ λ h g. let w = joined_some [] 1 (unescaped false bytes) contents count g in after_tag tag b bytes contents count _ w h (escape_only false bytes w.rest w.more w.was)
      | false ↦ λ h g. absurd (none-some _ g)
    ] refl e

bytes_in_tagged : (tag : ℕ) (bytes contents : List ℕ) (count : ℕ) → Tagged tag bytes contents count → are_bytes bytes ≡ true → are_bytes contents ≡ true
bytes_in_tagged tag bytes contents count w h =
    let all = bytes_front (tag ∷ escaped contents ++ 0 ∷ 0 ∷ []) (drop count bytes) (ap are_bytes w.same ∙ h) in
    bytes_unescaped contents (bytes_front (escaped contents) (0 ∷ 0 ∷ []) (second_so (nat_lt tag 256) _ all))

eight_long : (bytes : List ℕ) (b : ℕ) → nat_le 9 (length (b ∷ bytes)) ≡ true → 8 ≤ length bytes
eight_long bytes b h = grind (arith, nat_tests)

nine_within : (bytes : List ℕ) (b : ℕ) → nat_le 9 (length (b ∷ bytes)) ≡ true → 9 ≤ length (b ∷ bytes)
nine_within bytes b h = grind (arith, nat_tests)

int_only : (b : ℕ) (bytes : List ℕ) → b == 1 ≡ true → nat_le 9 (length (b ∷ bytes)) ≡ true → are_bytes bytes ≡ true
    → PartRead Kind.Int (b ∷ bytes) (Value.Int (unshifted (from_be_bytes w64 (take 8 bytes)))) 9
int_only b bytes e l h =
    let eight = take 8 bytes in
    let k = from_be_bytes w64 eight in
    let small : (i : ℕ) → get_or eight i 0 < 256 = each_below eight (bytes_taken 8 bytes h) in
    let long : length eight ≡ 8 = length-take-le 8 bytes (eight_long bytes b l) in
    record {
      whole = unshifted_fits k (eight_fit eight small);
      within = nine_within bytes b l;
      same = ap (λ n. 1 ∷ to_be_bytes w64 n ++ drop 8 bytes) (unshifted_back k)
          ∙ ap (λ x. 1 ∷ x ++ drop 8 bytes) (be_bytes_8 eight k long small refl)
          ∙ ap (λ x. 1 ∷ x) (take-append-drop 8 bytes)
          ∙ ap (λ z. z ∷ bytes) (sym (tied_numbers b 1 e));
    }

read_as : (kind : Kind) (bytes : List ℕ) (v : Value) (count : ℕ) (found : Value × ℕ) → Some found ≡ Some (v, count) → PartRead kind bytes found.0 found.1 → PartRead kind bytes v count
read_as kind bytes v count found e w = subst (λ (p : Value × ℕ). PartRead kind bytes p.0 p.1) (same_Some found (v, count) e) w

-- an integer's part, where its tag stands before these bytes
abbrev int_after : List ℕ → Value × ℕ
int_after bytes = (Value.Int (unshifted (from_be_bytes w64 (take 8 bytes))), 9)

int_part : (bytes : List ℕ) (v : Value) (count : ℕ) → are_bytes bytes ≡ true → int_at bytes ≡ Some (v, count) → PartRead Kind.Int bytes v count
int_part [] v count h e = absurd (none-some _ e)
int_part (b ∷ bytes) v count h e =
    elim (b == 1) as (λ x. b == 1 ≡ x → cond (x && nat_le 9 (length (b ∷ bytes))) (Some (int_after bytes)) None ≡ Some (v, count) → PartRead Kind.Int (b ∷ bytes) v count) [
      | true ↦ λ f g. elim (nat_le 9 (length (b ∷ bytes))) as (λ x. nat_le 9 (length (b ∷ bytes)) ≡ x → cond x (Some (int_after bytes)) None ≡ Some (v, count) → PartRead Kind.Int (b ∷ bytes) v count) [
        | true ↦ λ l k. read_as Kind.Int (b ∷ bytes) v count (int_after bytes) k (int_only b bytes f l (second_so (nat_lt b 256) _ h))
        | false ↦ λ l k. absurd (none-some _ k)
      ] refl g
      | false ↦ λ f g. absurd (none-some _ g)
    ] refl e

text_part : (bytes : List ℕ) (read : Option (List ℕ × ℕ)) (v : Value) (count : ℕ) → tagged 2 bytes ≡ read → text_in read ≡ Some (v, count) → PartRead Kind.Text bytes v count
text_part bytes None v count f e = absurd (none-some _ e)
text_part bytes (Some read) v count f e =
    elim (is_utf8 read.0) as (λ x. is_utf8 read.0 ≡ x → with_count (cond x (Some read.0) None) read.1 ≡ Some (v, count) → PartRead Kind.Text bytes v count) [
      | true ↦ λ u g. let w = tagged_only 2 bytes read.0 read.1 f in read_as Kind.Text bytes v count (Value.Text read.0, read.1) g (record { whole = u; within = w.within; same = w.same })
      | false ↦ λ u g. absurd (none-some _ g)
    ] refl e

bytes_part : (bytes : List ℕ) (read : Option (List ℕ × ℕ)) (v : Value) (count : ℕ) → are_bytes bytes ≡ true → tagged 3 bytes ≡ read → bytes_in read ≡ Some (v, count) → PartRead Kind.Bytes bytes v count
bytes_part bytes None v count h f e = absurd (none-some _ e)
bytes_part bytes (Some read) v count h f e =
    let w = tagged_only 3 bytes read.0 read.1 f in
    read_as Kind.Bytes bytes v count (Value.Bytes read.0, read.1) e (record { whole = bytes_in_tagged 3 bytes read.0 read.1 w h; within = w.within; same = w.same })

pub part_only : (kind : Kind) (bytes : List ℕ) (v : Value) (count : ℕ) → are_bytes bytes ≡ true → part_at kind bytes ≡ Some (v, count) → PartRead kind bytes v count
part_only Kind.Int bytes v count h e = int_part bytes v count h e
part_only Kind.Text bytes v count h e = text_part bytes (tagged 2 bytes) v count refl e
part_only Kind.Bytes bytes v count h e = bytes_part bytes (tagged 3 bytes) v count h refl e
