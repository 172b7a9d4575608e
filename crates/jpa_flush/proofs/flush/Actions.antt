-- What a flush does with an entry, by the version of its base alone.
use Rattle.std.proofs.Common.{◌≡◌, ◌∙◌, ℕ, List, [], ◌∷◌, ◌++◌, map, refl, ap, sym}
use Rattle.std.specs.Prelude.{ℤ, Option, Some, None}
use Rattle.std.specs.List.{flat_map}
use Rattle.std.specs.Option.{option_to_list}
use Rattle.jpa_value.specs.declared.refusal.Cause.{Cause}
use Rattle.jpa_value.specs.declared.refusal.PersistenceFault.{PersistenceFault}
use Rattle.jpa_model.specs.declared.unit.PersistenceUnit.{PersistenceUnit}
use Rattle.jpa_behaviour.specs.Behaviour.{World}
use Rattle.jpa_stored.specs.declared.objects.stored.Stored.{Stored}
use Rattle.jpa_work.specs.declared.context.Base.{Base}
use Rattle.jpa_work.specs.declared.context.Entry.{Entry}
use Rattle.jpa_work.specs.context.Work.{Work, object, row_at, identity_at}
use Rattle.jpa_work.specs.context.Steps.{◌>>=◌, ◌>>◌, Op, after, require, read}
use Rattle.jpa_flush.specs.flush.Flush.{Action, Insert, Replace, Drop, action_of, actions, row_is_base, can_rise, all_convert, check_action, check_one, pre_update_for, pre_update_one}
use Rattle.jpa_flush.specs.flush.Flush as flushes
use Rattle.jpa_flush.specs.flush.Plan.{step_as, step_of, update, has_version, check, item, planned, planned_of, plan_of}

-- ---- the checks

pub same_row : (row : Option Stored) (b : Base) → row_is_base row b ≡ has_version row (b.stored).version
same_row None b = refl
same_row (Some x) b = refl

after_current : World → ℕ → Option ℤ → Op (Unit {0})
after_current world n version = do
  require (can_rise version) (Cause.Persistence PersistenceFault.Version)
  convertible ← read (λ w. all_convert world (object w n))
  require convertible (Cause.Persistence PersistenceFault.Converter)

check_as : (world : World) (e : Entry) (a : Option Action) (w : Work) → check_action world e a w ≡ check world e.object (step_as a) w
unfolding after_current
check_as world e None w = refl
check_as world e (Some Insert) w = refl
check_as world e (Some (Replace b)) w =
    ap (λ current. after (require current Cause.OptimisticLock w) (λ _. after_current world e.object (b.stored).version)) (same_row (row_at w (identity_at world.model w e.object)) b)
check_as world e (Some (Drop b)) w = ap (λ current. require current Cause.OptimisticLock w) (same_row (row_at w (identity_at world.model w e.object)) b)

pub one_checked : (world : World) (e : Entry) (w : Work) → check_one world e w ≡ check world e.object (step_of world.model w e) w
one_checked world e w = check_as world e (action_of world.model w e) w

-- ---- PreUpdate

update_as : (world : World) (e : Entry) (a : Option Action) (w : Work) → pre_update_for world e a w ≡ update world e.object (step_as a) w
update_as world e None w = refl
update_as world e (Some Insert) w = refl
update_as world e (Some (Replace b)) w = refl
update_as world e (Some (Drop b)) w = refl

pub one_updated : (world : World) (e : Entry) (w : Work) → pre_update_one world e w ≡ update world e.object (step_of world.model w e) w
one_updated world e w = update_as world e (action_of world.model w e) w

-- ---- what is planned

planned_as : (m : PersistenceUnit) (w : Work) (e : Entry) (a : Option Action) → option_to_list (planned m w e.object (step_as a)) ≡ map (item m w) (flushes.planned m w e a)
planned_as m w e None = refl
planned_as m w e (Some Insert) = refl
planned_as m w e (Some (Replace b)) = refl
planned_as m w e (Some (Drop b)) = refl

pub one_planned : (m : PersistenceUnit) (w : Work) (e : Entry) → option_to_list (planned m w e.object (step_of m w e)) ≡ planned_of m w e
one_planned m w e = planned_as m w e (action_of m w e)

pub map_both : {A B : Type 0} (f : A → B) (xs ys : List A) → map f (xs ++ ys) ≡ map f xs ++ map f ys
map_both f [] ys = refl
map_both f (x ∷ xs) ys = ap (λ zs. f x ∷ zs) (map_both f xs ys)

entries_planned : (m : PersistenceUnit) (w : Work) (es : List Entry) → flat_map (planned_of m w) es ≡ map (item m w) (flat_map (λ e. flushes.planned m w e (action_of m w e)) es)
entries_planned m w [] = refl
entries_planned m w (e ∷ es) =
    ap (λ ps. planned_of m w e ++ ps) (entries_planned m w es)
    ∙ sym (map_both (item m w) (flushes.planned m w e (action_of m w e)) (flat_map (λ d. flushes.planned m w d (action_of m w d)) es))

pub all_planned : (m : PersistenceUnit) (w : Work) → flat_map (planned_of m w) w.context ≡ plan_of m w
all_planned m w = entries_planned m w w.context
