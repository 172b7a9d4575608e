-- What is found under a main row is the object that has it, if one does.
use Rattle.std.specs.Prelude.{◌≡◌, ◌↔◌, ℕ, ◌<◌, Bool, true, false, length, IsTrue, List, [], ◌∷◌, map, Option, Some, None}
use Rattle.std.proofs.Common.{refl, sym, ap, subst, ◌∙◌}
use Rattle.std.specs.List.{zip}
use Rattle.jpa_value.specs.declared.value.Identity.{Identity}
use Rattle.jpa_model.specs.declared.unit.PersistenceUnit.{PersistenceUnit}
use Rattle.jpa_model.specs.declared.unit.Relation.{Relation}
use Rattle.jpa_model.specs.declared.unit.Side.{Side}
use Rattle.jpa_model.specs.Chains.{relations_of, root_of}
use Rattle.jpa_behaviour.specs.Behaviour.{World, IsRegular}
use Rattle.jpa_stored.specs.declared.objects.stored.Stored.{Stored}
use Rattle.jpa_stored.specs.objects.Sets.{each_fits, owns_as, is_at_most_one}
use Rattle.jpa_rows.specs.declared.rows.row.Content.{Content}
use Rattle.jpa_rows.specs.rows.Rows.{Row}
use Rattle.jpa_rows.proofs.laws.Facts.{some_none, value_in, true_false, and_both}
use Rattle.jpa_object_rows.specs.meaning.Unambiguous.{IsUnambiguous, is_class}
use Rattle.jpa_object_rows.specs.meaning.View.{SideHas, PairsAre}
use Rattle.jpa_object_rows.proofs.meaning.Bytes.Classes.{is_below}
use Rattle.jpa_object_rows.proofs.meaning.Bytes.Reading.{storable}
use Rattle.jpa_object_rows.specs.meaning.Objects.{main_row}
use Rattle.jpa_object_rows.specs.mapper.Guess.{link_in, class_in, side_in, links_in, guessed, is_sound}
use Rattle.jpa_rows.specs.rows.Same.{same_row}
use Rattle.jpa_rows.proofs.rows.SameRows.{row_exact, row_itself}
use Rattle.jpa_object_rows.specs.mapper.Mapped.{IsReadAs, all_pass, no_pairs}
use Rattle.jpa_object_rows.proofs.mapper.Shaped.{owns_by_side, sound_if, storable_if}
use Rattle.jpa_object_rows.proofs.mapper.Read.{class_read, guess_read}

-- ---- what a guess owns

one_at_most : (table : ℕ) (o : Option Content) → is_at_most_one (link_in table o) ≡ true
one_at_most table None = refl
one_at_most table (Some (Content.Value v)) = refl
one_at_most table (Some (Content.Reference key)) = refl

side_owns : (table : ℕ) (row : Row) (side : Side) → owns_as side (side_in table row side) ≡ true
side_owns table row (Side.ManyToOne c) = one_at_most table _
side_owns table row (Side.OneToOne c) = one_at_most table _
side_owns table row (Side.OneToOneInverse o) = refl
side_owns table row (Side.OneToMany o) = refl
side_owns table row (Side.ManyToMany join) = refl
side_owns table row (Side.ManyToManyInverse o) = refl

sides_own : (m : PersistenceUnit) (row : Row) (relations : List Relation) → each_fits owns_by_side relations (map (links_in m row) relations) ≡ true
sides_own m row [] = refl
sides_own m row (r ∷ relations) = and_both (owns_as r.side (links_in m row r)) _ (side_owns (root_of m r.target).table row r.side) (sides_own m row relations)

side_none : (table target : ℕ) (row : Row) (side : Side) → SideHas no_pairs target (side_in table row side) side
side_none table target row (Side.ManyToOne c) = tt
side_none table target row (Side.OneToOne c) = tt
side_none table target row (Side.OneToOneInverse o) = tt
side_none table target row (Side.OneToMany o) = tt
side_none table target row (Side.ManyToMany join) = refl
side_none table target row (Side.ManyToManyInverse o) = tt

owns_none : (m : PersistenceUnit) (row : Row) (relations : List Relation) → PairsAre no_pairs (zip relations (map (links_in m row) relations))
owns_none m row [] = tt
owns_none m row (r ∷ relations) = (side_none (root_of m r.target).table r.target row r.side, owns_none m row relations)

-- ---- the check

-- rows were compared, of which one is the object's
pub same_main : (world : World) (x : Stored) (written row : Row) (b : Bool) → b ≡ same_row written row → written ≡ main_row world x → all_pass world x ≡ true
    → IsTrue b ↔ ((all_pass world x ≡ true) × (main_row world x ≡ row))
same_main world x written row b e w p = (
  λ t. (p, sym w ∙ row_exact written row (sym e ∙ t)),
  λ h. e ∙ ap (λ r. same_row r row) (w ∙ h.1) ∙ row_itself row,
)

-- ---- what is found

abbrev pub Finds : World → Identity → Row → Option Stored → Type 0
Finds world id row found = (x : Stored) → (found ≡ Some x) ↔ IsReadAs world id row no_pairs x

module _ (world : World) (clear : IsUnambiguous world.model) (regular : IsRegular world) (id : Identity) (row : Row) where
  finds_none : ((x : Stored) → IsReadAs world id row no_pairs x → ⊥) → Finds world id row None
  finds_none never x = (λ e. absurd (some_none x (sym e)), λ read. absurd (never x read))

  -- no class
  pub no_class : class_in world.model id.table row ≡ None → Finds world id row None
  no_class none = finds_none (λ x read. some_none x.class (sym (class_read world clear id row x read) ∙ none))

  module _ (class : ℕ) (said : class_in world.model id.table row ≡ Some class) (guess : Stored) (is : guess ≡ guessed world row class) where
    -- only the guess is read
    guess_only : (x : Stored) → IsReadAs world id row no_pairs x → guess ≡ x
    guess_only x read =
        is ∙ ap (guessed world row) (value_in class x.class (sym said ∙ class_read world clear id row x read)) ∙ guess_read world clear id row x read regular

    guess_read_as : (x : Stored) → IsReadAs world id row no_pairs x → IsReadAs world id row no_pairs guess
    guess_read_as x read = subst (IsReadAs world id row no_pairs) (sym (guess_only x read)) read

    -- the guess is not of the shape of its class
    pub no_shape : is_sound world.model id guess ≡ false → Finds world id row None
    no_shape bad = finds_none (λ x read. true_false (sym (sound_if world id guess (guess_read_as x read).storable) ∙ bad))

    -- a converter throws for it, or it has another main row
    pub no_main : ((all_pass world guess ≡ true) × (main_row world guess ≡ row) → ⊥) → Finds world id row None
    no_main bad = finds_none (λ x read. let own = guess_read_as x read in bad ((storable world id guess own.storable).passing, own.main))

    pub found : class < length (world.model).entities → is_sound world.model id guess ≡ true → (all_pass world guess ≡ true) × (main_row world guess ≡ row) → Finds world id row (Some guess)
    found within sound main x = (λ e. subst (IsReadAs world id row no_pairs) (value_in guess x e) read, λ h. ap Some (guess_only x h))
      where
        m : PersistenceUnit
        m = world.model

        in_model : is_class m guess.class ≡ true
        in_model = subst (λ (y : Stored). is_class m y.class ≡ true) (sym is) (is_below class (length m.entities) within)

        sides : each_fits owns_by_side (relations_of m guess.class) guess.owned ≡ true
        sides = subst (λ (y : Stored). each_fits owns_by_side (relations_of m y.class) y.owned ≡ true) (sym is) (sides_own m row (relations_of m class))

        read : IsReadAs world id row no_pairs guess
        read = record {
          storable = storable_if world id guess in_model sound sides main.0;
          main = main.1;
          pairs = subst (λ (y : Stored). PairsAre no_pairs (zip (relations_of m y.class) y.owned)) (sym is) (owns_none m row (relations_of m class));
        }
