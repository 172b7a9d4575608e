-- The database's own law makes each row of the table a cell.
use Rattle.std.proofs.Common.{◌≡◌, ℕ, ℤ, true, not, List, [], ◌∷◌, drop, None, refl, sym, subst, true≢false}
use Rattle.std.proofs.lemmas.Bool.{and_parts}
use Rattle.sqlite.specs.declared.types.Value.{Value}
use Rattle.sqlite.specs.declared.types.Value.TheVariants.{Null, Int, Real, Text, Blob}
use Rattle.sqlite.specs.Order.{Row}
use Rattle.sqlite.specs.Tree.{rowid}
use Rattle.sqlite.specs.Values.{IsInt}
use Rattle.sqlite.specs.Effect.{Database}
use Rattle.sqlite.specs.Kind.TheVariants as kind
use Rattle.sqlite_sql.specs.Ops.{is_null}
use Rattle.sqlite_schema.specs.Rules.{Keeps, is_of, are_typed, are_present}
use Rattle.sqlite_schema.specs.declared.schema.Constraint.{Constraint}
use Rattle.sqlite_schema.specs.declared.schema.Constraint.TheVariants.{Datatype, NotNull}
use Rattle.sqlite_catalog.specs.Listing.{IsSound}
use Rattle.sqlite_keyed.proofs.ListLemmas.{all_both}
use Rattle.jpa_cells.specs.meaning.Schema.{cell_table, cell_schema}
use Rattle.jpa_cells.specs.meaning.Content.{IsCellRow, AreCells, HoldsCells}

int_typed : (v : Value) → is_of kind.Integer v ≡ true → not (is_null v) ≡ true → (n : ℤ) × (v ≡ Int n)
int_typed Null typed some = absurd (true≢false (sym some))
int_typed (Int n) typed some = (n, refl)
int_typed (Real x) typed some = absurd (true≢false (sym typed))
int_typed (Text t) typed some = absurd (true≢false (sym typed))
int_typed (Blob b) typed some = absurd (true≢false (sym typed))

blob_typed : (v : Value) → is_of kind.Blob v ≡ true → not (is_null v) ≡ true → (b : List ℕ) × (v ≡ Blob b)
blob_typed Null typed some = absurd (true≢false (sym some))
blob_typed (Int n) typed some = absurd (true≢false (sym typed))
blob_typed (Real x) typed some = absurd (true≢false (sym typed))
blob_typed (Text t) typed some = absurd (true≢false (sym typed))
blob_typed (Blob b) typed some = (b, refl)

not_int : (n : ℤ) → Null ≡ Int n → ⊥
not_int n e = cc

abbrev Typed : Row → Type 0
Typed row = are_typed None 0 cell_table.columns (drop 1 row) ≡ true

abbrev Present : Row → Type 0
Present row = are_present None 0 cell_table.columns row ≡ true

-- a number, a number, bytes, a number and bytes
is_cell : (row : Row) → IsInt (rowid row) → Typed row → Present row → IsCellRow row
is_cell [] id typed present = absurd (not_int id.0 id.1)
is_cell (i ∷ []) id typed present = absurd (true≢false (sym present))
is_cell (i ∷ t ∷ []) id typed present = absurd (true≢false (sym (and_parts (not (is_null t)) _ present).1))
is_cell (i ∷ t ∷ r ∷ []) id typed present = absurd (true≢false (sym (and_parts (not (is_null r)) _ (and_parts (not (is_null t)) _ present).1).1))
is_cell (i ∷ t ∷ r ∷ c ∷ []) id typed present =
    absurd (true≢false (sym (and_parts (not (is_null c)) _ (and_parts (not (is_null r)) _ (and_parts (not (is_null t)) _ present).1).1).1))
is_cell (i ∷ t ∷ r ∷ c ∷ v ∷ w ∷ more) id typed present =
    absurd (true≢false (sym (and_parts (is_of kind.Blob v) _ (and_parts (is_of kind.Integer c) _ (and_parts (is_of kind.Blob r) _ (and_parts (is_of kind.Integer t) _ typed).1).1).1).1))
is_cell (i ∷ t ∷ r ∷ c ∷ v ∷ []) id typed present =
    let typed_t = and_parts (is_of kind.Integer t) _ typed in
    let typed_r = and_parts (is_of kind.Blob r) _ typed_t.1 in
    let typed_c = and_parts (is_of kind.Integer c) _ typed_r.1 in
    let typed_v = and_parts (is_of kind.Blob v) _ typed_c.1 in
    let some_t = and_parts (not (is_null t)) _ present in
    let some_r = and_parts (not (is_null r)) _ some_t.1 in
    let some_c = and_parts (not (is_null c)) _ some_r.1 in
    let some_v = and_parts (not (is_null v)) _ some_c.1 in
    let table = int_typed t typed_t.0 some_t.0 in
    let key = blob_typed r typed_r.0 some_r.0 in
    let place = int_typed c typed_c.0 some_c.0 in
    let value = blob_typed v typed_v.0 some_v.0 in
    record { id = id.0; table = table.0; key = key.0; column = place.0; value = value.0; is = λ n. id.1 n ∷ table.1 n ∷ key.1 n ∷ place.1 n ∷ value.1 n ∷ [] }

pub obeys : (db : Database) → HoldsCells db → (rule : Constraint) → Keeps rule cell_schema db.trees
obeys db h rule = (subst (λ s. IsSound s db.trees) h.schema h.sound).obeys.rules rule

pub cells_in : (db : Database) → HoldsCells db → AreCells (db.trees 0)
cells_in db h =
    let typed = (obeys db h Datatype).0 in
    let present = (obeys db h NotNull).0 in
    record {
      rise = h.ordered.rise;
      each = all_both (λ r. IsInt (rowid r) × Present r) (λ r. _) IsCellRow (λ r p q. is_cell r p.0 (and_parts _ _ q).0 p.1) (db.trees 0)
          (all_both (λ r. IsInt (rowid r)) (λ r. Present r) (λ r. IsInt (rowid r) × Present r) (λ r p q. (p, q)) (db.trees 0) h.ordered.numbered present) typed;
    }
