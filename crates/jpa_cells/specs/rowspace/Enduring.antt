-- What a crash may leave of a store, said of its rows, and what follows for any store.
use Rattle.std.specs.Prelude.{◌⊎◌, refl}
use Rattle.std.proofs.Common.{inl, inr, le_refl}
use Rattle.sqlite_trees.specs.declared.store.Store.{Ghosts}
use Rattle.sqlite_trees.specs.Tree.{Trees}
use Rattle.sqlite.specs.Held.{Held, state}
use Rattle.sqlite.specs.State.{State, Survives}
use Rattle.sqlite.proofs.StateLemmas.{survives_then}
use Rattle.jpa_rows.specs.declared.rows.schema.Schema.{Schema}
use Rattle.jpa_rows.specs.rows.Rows.{Rows}
use Rattle.jpa_cells.specs.meaning.Tables.{Tables}
use Rattle.jpa_cells.specs.meaning.Content.{Leaves}
use Rattle.jpa_cells.specs.meaning.Store.{IsClean, Endures}
use Rattle.jpa_cells.specs.rowspace.Stored.{AreStored}

-- nothing was done
pub survives_self : (s : State) (Commits : Trees → Type 0) → Survives s s Commits
survives_self s Commits =
    record {
      clean = le_refl _;
      shield = λ is. is;
      counts = le_refl _;
      limit = refl;
      closes = λ _ is. inl is;
      crash = λ _ db left. inl left;
    }

module _ {S : Type 0} (g : Ghosts S) where
  -- No fault is forgotten, and a crash leaves what it left before or tables of rows of which this
  -- holds.
  abbrev pub EnduresRows : Schema → Held S → Held S → (Rows → Type 0) → Type 0
  EnduresRows schema old new Holds =
      Endures g old new (λ tables. (rows : Rows) × AreStored schema tables rows × Holds rows)

  -- a call that does nothing endures
  pub endures_self : (conn : Held S) (Commits : Tables → Type 0) → Endures g conn conn Commits
  endures_self conn Commits = survives_self (state g conn) (Leaves Commits)

  -- what endures with tables of one sort does so with those of a wider one
  pub endures_weaker : (old new : Held S) (P Q : Tables → Type 0) →
      (IsClean g new → (tables : Tables) → P tables → Q tables) → Endures g old new P → Endures g old new Q
  endures_weaker old new P Q weaker e = record {
    clean = e.clean;
    shield = e.shield;
    counts = e.counts;
    limit = e.limit;
    closes = e.closes;
    crash = λ clean db l. elim (e.crash clean db l) [
      | inl before ↦ inl before
      | inr made ↦ inr (made.0, made.1, weaker clean _ made.2, made.3)
    ];
  }

  -- what endures with rows of one sort does so with those of a wider one
  pub rows_wider : (schema : Schema) (old new : Held S) (P Q : Rows → Type 0) → ((rows : Rows) → P rows → Q rows) →
      EnduresRows schema old new P → EnduresRows schema old new Q
  rows_wider schema old new P Q weaker =
      endures_weaker old new (λ tables. (rows : Rows) × AreStored schema tables rows × P rows)
      (λ tables. (rows : Rows) × AreStored schema tables rows × Q rows)
      (λ clean tables held. (held.0, held.1, weaker held.0 held.2))

  -- two calls, one after the other
  pub rows_then : (schema : Schema) (first second third : Held S) (P Q : Rows → Type 0) →
      EnduresRows schema first second P → EnduresRows schema second third Q →
      EnduresRows schema first third (λ rows. P rows ⊎ Q rows)
  rows_then schema first second third P Q =
      survives_then (state g first) (state g second) (state g third)
      (Leaves (λ tables. (rows : Rows) × AreStored schema tables rows × P rows))
      (Leaves (λ tables. (rows : Rows) × AreStored schema tables rows × Q rows))
      (Leaves (λ tables. (rows : Rows) × AreStored schema tables rows × (P rows ⊎ Q rows)))
      (λ clean db made. (made.0, made.1, (made.2.0, made.2.1, inl made.2.2), made.3))
      (λ clean db made. (made.0, made.1, (made.2.0, made.2.1, inr made.2.2), made.3))
