use Rattle.std.proofs.Common.{◌≡◌, ◌∙◌, ap, sym, refl, cond, get_or, ℕ, Bool, true, false, ◌||◌, List, [], ◌∷◌, None}
use Rattle.std.specs.Prelude.{◌==◌, ◌&&◌, not, is_some}
use Rattle.std.specs.List.{list_any, filter}
use Rattle.std.proofs.lemmas.Bool.{true≢false}
use Rattle.jpa_work.specs.heap.Objects.{object_at}
use Rattle.jpa_work.specs.context.Marks.{Entries}
use Rattle.jpa_work.specs.declared.context.Entry.{Entry}
use Rattle.jpa_work.specs.context.Indexed.{place_in, has_place}
use Rattle.jpa_work.specs.context.Places.{without_removed}
use Rattle.jpa_work.specs.context.Work.{state_from, is_removed}
use Rattle.jpa_work.proofs.context.Staying.{filter_alike, has_entry, left_has, gone_at}
use Rattle.jpa_work.proofs.context.entries.PersistenceContext.leave_removed.Goals as goal

-- the objects that leave are those without a place
pub returns-clause-now : goal.returns-clause-now
returns-clause-now c =
    let manager = c.args.manager in
    let objects = c.args.objects.now in
    let es = c.self.inside.list.now in
    let at' = c.forget_removed.new.at in
    let gone : ℕ → Bool = λ n. is_removed (state_from manager (object_at objects n).life) in
    c.drop_unplaced-self-inside.ensures.now
    ∙ filter_alike (λ (e : Entry). has_place at' e.object) (λ (e : Entry). not (gone e.object)) es
    (λ k d l.
    let n = (get_or es k d).object in
    let before = place_in c.self.inside.at n in
    left_has (gone n) before (place_in at' n)
    (c.forget_removed.ensures n
    ∙ ap (λ b. cond b None before) (ap (list_any (λ (e : Entry). gone e.object && (e.object == n))) c.as_slice-2.ensures ∙ gone_at gone es k d l))
    (ap is_some (c.self.invariant.at_each n) ∙ has_entry es k d l))
    ∙ ap (λ (v : Entries). without_removed objects manager v.now) c.self.view_is

stays_by : {A : Type 0} (p : A → Bool) (e : A) (es : List A) (b : Bool) → p e ≡ b → (b || list_any p es) ≡ false → (list_any p es ≡ false → filter (λ e. not (p e)) es ≡ es)
    → filter (λ e. not (p e)) (e ∷ es) ≡ e ∷ es
stays_by p e es true t k more = absurd (true≢false k)
stays_by p e es false t k more = ap (λ b. cond (not b) (e ∷ filter (λ e. not (p e)) es) (filter (λ e. not (p e)) es)) t ∙ ap (λ rest. e ∷ rest) (more k)

-- where none leaves, all stay
all_stay : {A : Type 0} (p : A → Bool) (es : List A) → list_any p es ≡ false → filter (λ e. not (p e)) es ≡ es
all_stay p [] h = refl
all_stay p (e ∷ es) h = stays_by p e es (p e) refl h (all_stay p es)

pub returns-then-not-any_removed-clause-now : goal.returns-then-not-any_removed-clause-now
returns-then-not-any_removed-clause-now c =
    let manager = c.args.manager in
    let objects = c.args.objects.now in
    let es = c.self.inside.list.now in
    let gone : Entry → Bool = λ e. is_removed (state_from manager (object_at objects e.object).life) in
    let none : list_any gone es ≡ false = ap (list_any gone) (sym c.as_slice.ensures) ∙ sym c.any_removed.ensures ∙ c.if-not-any_removed.true in
    c.keep.ensures.now ∙ ap (λ (v : Entries). v.now) (sym c.self.view_is) ∙ sym (all_stay gone es none)
    ∙ ap (λ (v : Entries). without_removed objects manager v.now) c.self.view_is
