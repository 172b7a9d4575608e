-- What is written as a key is read again, whatever follows it.
use Rattle.std.specs.Prelude.{◌≡◌, ℕ, true, cond, ◌==◌, ◌&&◌, not, List, [], ◌∷◌, ◌++◌, length, map, Some, None, T}
use Rattle.std.proofs.Common.{refl, sym, ap, subst, ◌∙◌, append-nil}
use Rattle.std.specs.List.{list_all}
use Rattle.jpa_value.specs.declared.value.Value.{Value}
use Rattle.jpa_value.specs.declared.value.Kind.{Kind}
use Rattle.jpa_value.specs.declared.value.Identity.{Identity}
use Rattle.jpa_value.specs.Value.{fits, is_null, is_representable}
use Rattle.jpa_model.specs.declared.unit.Part.{Part}
use Rattle.jpa_model.specs.declared.unit.Root.{Root}
use Rattle.jpa_rows.specs.keys.Keys as keys
use Rattle.jpa_rows.specs.keys.Reading.{key_at, key_in, if_all}
use Rattle.jpa_rows.proofs.keys.Spelling.{key_read as front_read}
use Rattle.jpa_stored.specs.objects.Sets.{is_key_of, is_identity_of, each_fits}
use Rattle.jpa_rows.specs.rows.Cells.{names_representable}
use Rattle.jpa_rows.proofs.laws.Facts.{and_first, and_second, and_both, value_in}
use Rattle.jpa_rows.specs.rows.Tables.{kinds_of}
use Rattle.jpa_object_rows.proofs.meaning.Bytes.Orders.{same_number, are_same_numbers}

-- a part that fits, is not null and is a value of the program
part_of_kind : (kind : Kind) (v : Value) → fits kind v && not (is_null v) ≡ true → is_representable v ≡ true → keys.is_part_of kind v ≡ true
part_of_kind Kind.Int Value.Null h g = absurd (subst T (sym h) tt)
part_of_kind Kind.Text Value.Null h g = absurd (subst T (sym h) tt)
part_of_kind Kind.Bytes Value.Null h g = absurd (subst T (sym h) tt)
part_of_kind Kind.Int (Value.Int n) h g = g
part_of_kind Kind.Int (Value.Text bytes) h g = absurd (subst T (sym h) tt)
part_of_kind Kind.Int (Value.Bytes bytes) h g = absurd (subst T (sym h) tt)
part_of_kind Kind.Text (Value.Int n) h g = absurd (subst T (sym h) tt)
part_of_kind Kind.Text (Value.Text bytes) h g = g
part_of_kind Kind.Text (Value.Bytes bytes) h g = absurd (subst T (sym h) tt)
part_of_kind Kind.Bytes (Value.Int n) h g = absurd (subst T (sym h) tt)
part_of_kind Kind.Bytes (Value.Text bytes) h g = absurd (subst T (sym h) tt)
part_of_kind Kind.Bytes (Value.Bytes bytes) h g = g

key_of_kinds : (parts : List Part) (key : List Value) → each_fits (λ part v. fits part.kind v && not (is_null v)) parts key ≡ true → list_all is_representable key ≡ true
    → keys.is_key_of (map (λ part. part.kind) parts) key ≡ true
key_of_kinds [] [] h g = refl
key_of_kinds [] (v ∷ key) h g = absurd (subst T (sym h) tt)
key_of_kinds (part ∷ parts) [] h g = absurd (subst T (sym h) tt)
key_of_kinds (part ∷ parts) (v ∷ key) h g =
    and_both (keys.is_part_of part.kind v) _
    (part_of_kind part.kind v (and_first (fits part.kind v && not (is_null v)) _ h) (and_first (is_representable v) _ g))
    (key_of_kinds parts key (and_second (fits part.kind v && not (is_null v)) _ h) (and_second (is_representable v) _ g))

-- an identity of a hierarchy has a key of its kinds
pub is_whole : (root : Root) (id : Identity) → is_identity_of root id ≡ true → names_representable id ≡ true → keys.is_key_of (kinds_of root) id.key ≡ true
is_whole root id h g = key_of_kinds root.key id.key (and_second (id.table == root.table) _ h) g

pub table_is : (root : Root) (id : Identity) → is_identity_of root id ≡ true → id.table ≡ root.table
table_is root id h = are_same_numbers id.table root.table (and_first _ (is_key_of root id.key) h)

-- ---- read again

pub key_read : (root : Root) (id : Identity) → is_identity_of root id ≡ true → names_representable id ≡ true → key_in (kinds_of root) (keys.key_bytes id.key) ≡ Some id.key
key_read root id h g =
    let bytes = keys.key_bytes id.key in
    let all : key_at (kinds_of root) bytes ≡ Some (id.key, length bytes) = ap (key_at (kinds_of root)) (sym (append-nil bytes)) ∙ front_read (kinds_of root) id.key [] (is_whole root id h g) in
    ap (if_all (length bytes)) all ∙ ap (λ b. cond b (Some id.key) None) (same_number (length bytes))

-- no key of a hierarchy begins another one
pub same_front : (root : Root) (p q : Identity) (after_p after_q : List ℕ) → is_identity_of root p ≡ true → names_representable p ≡ true → is_identity_of root q ≡ true → names_representable q ≡ true
    → keys.key_bytes p.key ++ after_p ≡ keys.key_bytes q.key ++ after_q → p ≡ q
same_front root p q after_p after_q hp gp hq gq e =
    let tables : p.table ≡ q.table = table_is root p hp ∙ sym (table_is root q hq) in
    let read = sym (front_read (kinds_of root) p.key after_p (is_whole root p hp gp)) ∙ ap (key_at (kinds_of root)) e ∙ front_read (kinds_of root) q.key after_q (is_whole root q hq gq) in
    let keys_same : p.key ≡ q.key = ap (λ (r : List Value × ℕ). r.0) (value_in _ _ read) in
    λ i. record { table = tables i; key = keys_same i }
