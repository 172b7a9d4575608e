-- What the texts compile to.
use Rattle.std.proofs.Common.{◌≡◌, ℕ, pos, negsuc, List, [], ◌∷◌, codes, false, None, Ok, refl}
use Rattle.sqlite.specs.declared.types.Value.TheVariants.{Null, Int}
use Rattle.sqlite.specs.Term.{Term, lit, col, op2}
use Rattle.sqlite_sql.specs.declared.ops.BinaryOp.TheVariants.{Compare}
use Rattle.sqlite_sql.specs.declared.ops.CompareOp.TheVariants.{Eq}
use Rattle.sqlite.specs.Collation.TheVariants.{Binary}
use Rattle.sqlite_value.specs.Keys.{ascending}
use Rattle.sqlite.specs.Query.{Query, inner, end}
use Rattle.sqlite.specs.Source.TheVariants.{Values}
use Rattle.sqlite.specs.Command.TheVariants.{Insert, Select, CreateTable, Delete}
use Rattle.sqlite.specs.Compile.{table_defined_by}
use Rattle.sqlite.specs.Change.{created}
use Rattle.sqlite_tied.specs.Compute.{everything}
use Rattle.sqlite.specs.Listing.{understood, reads_listing}
use Rattle.sqlite.proofs.Callers.{IsPlain, command_of, statement_of}
use Rattle.jpa_cells.specs.meaning.Schema.{cell_table, cell_schema, no_schema, create_text, insert_text, delete_text, row_text, table_text}

pub create_is : (command_of (understood no_schema create_text) ≡ CreateTable) × (statement_of create_text (understood no_schema create_text) ≡ create_text) × (table_defined_by create_text ≡ Ok cell_table) × (created no_schema cell_table ≡ cell_schema)
unfolding understood everything
create_is = (refl, refl, refl, refl)

abbrev pub insert_terms : List Term
insert_terms = lit Null ∷ col 0 0 ∷ col 0 1 ∷ col 0 2 ∷ col 0 3 ∷ []

pub insert_is : command_of (understood cell_schema insert_text) ≡ Insert 0 (Values insert_terms 5)
unfolding understood everything
insert_is = refl

abbrev pub is_at : ℕ → ℕ → Term
is_at at param = op2 (Compare Eq Binary) (col 1 at) (col 0 param)

abbrev pub row_query : Query
row_query = record {
  from = inner 0 end;
  filter = is_at 1 0 ∷ is_at 2 1 ∷ [];
  group = None;
  project = col 1 3 ∷ col 1 4 ∷ [];
  distinct = false;
  collations = [];
  order = (col 1 3, ascending Binary) ∷ [];
  limit = lit (Int (negsuc 0));
  offset = lit (Int (pos 0));
}

abbrev pub delete_query : Query
delete_query = record row_query { project = col 1 0 ∷ []; order = [] }

abbrev pub table_query : Query
table_query = record row_query { filter = is_at 1 0 ∷ []; project = col 1 2 ∷ col 1 3 ∷ col 1 4 ∷ []; order = (col 1 2, ascending Binary) ∷ (col 1 3, ascending Binary) ∷ [] }

pub row_is : (command_of (understood cell_schema row_text) ≡ Select (record { lets = []; body = row_query }) (codes "c" ∷ codes "v" ∷ [])) × (reads_listing cell_schema row_text ≡ false)
unfolding understood everything
row_is = (refl, refl)

pub table_is : (command_of (understood cell_schema table_text) ≡ Select (record { lets = []; body = table_query }) (codes "r" ∷ codes "c" ∷ codes "v" ∷ [])) × (reads_listing cell_schema table_text ≡ false)
unfolding understood everything
table_is = (refl, refl)

pub delete_is : (command_of (understood cell_schema delete_text) ≡ Delete 0 (record { lets = []; body = delete_query }))
unfolding understood everything
delete_is = refl

pub create_plain : IsPlain (understood no_schema create_text)
unfolding understood everything
create_plain = (refl, refl)

pub insert_plain : IsPlain (understood cell_schema insert_text)
unfolding understood everything
insert_plain = (refl, refl)

pub delete_plain : IsPlain (understood cell_schema delete_text)
unfolding understood everything
delete_plain = (refl, refl)

pub row_plain : IsPlain (understood cell_schema row_text)
unfolding understood everything
row_plain = (refl, refl)

pub table_plain : IsPlain (understood cell_schema table_text)
unfolding understood everything
table_plain = (refl, refl)
