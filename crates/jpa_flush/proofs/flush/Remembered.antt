-- What bases remember of relations.
use Rattle.std.proofs.Common.{◌≡◌, ◌∙◌, ℕ, zero, suc, ◌+◌, ◌<◌, true, List, [], ◌∷◌, map, length, get_or, refl, ap, sym, subst}
use Rattle.std.specs.Prelude.{slice_set, Option, Some, None}
use Rattle.std.proofs.lemmas.Bool.{cond_both}
use Rattle.jpa_value.specs.declared.value.Identity.{Identity}
use Rattle.jpa_model.specs.declared.unit.PersistenceUnit.{PersistenceUnit}
use Rattle.jpa_work.specs.declared.context.Base.{Base}
use Rattle.jpa_work.specs.declared.context.Entry.{Entry}
use Rattle.jpa_work.specs.context.Indexed.{placed}
use Rattle.jpa_work.specs.context.Work.{Work, state_of, is_managed}
use Rattle.jpa_operations.specs.fetch.Grown.{IsReady}
use Rattle.jpa_flush.specs.flush.Flush.{members_held, remembered_in, remembered}
use Rattle.jpa_flush.specs.flush.Plan.{same_members, entry_or}
use Rattle.jpa_flush.proofs.flush.Alike.{alike_entries, alike_ready}
use Rattle.jpa_flush.proofs.flush.Same.{members_are_one}
use Rattle.jpa_flush.proofs.flush.Settled.{partly, set_round, keep_round}

-- ---- an entry that remembers

abbrev pub with_members : List (Option (List Identity)) → Entry → Entry
with_members members e = record e { base = remembered_in members e.base }

-- without a base there is nothing to remember
pub none_to_remember : (e : Entry) (members : List (Option (List Identity))) → e.base ≡ None → e ≡ with_members members e
none_to_remember e members h = ap {A = Option Base} {B = Entry} (λ b. record e { base = b }) (h ∙ ap (remembered_in members) (sym h))

pub remembers_already : (e : Entry) (b : Base) (members : List (Option (List Identity))) → e.base ≡ Some b → same_members b.members members ≡ true → e ≡ with_members members e
remembers_already e b members h same =
    let known : Some b ≡ remembered_in members (Some b) = ap {A = List (Option (List Identity))} {B = Option Base} (λ ms. Some (record b { members = ms })) (members_are_one b.members members same) in
    ap {A = Option Base} {B = Entry} (λ o. record e { base = o }) (h ∙ known ∙ ap (remembered_in members) (sym h))

-- ---- some entries remember already

remembered_placed : (m : PersistenceUnit) (w : Work) (e : Entry) → placed (remembered m w e) ≡ placed e
remembered_placed m w e = cond_both (is_managed (state_of w e.object)) (with_members (members_held m w e.object) e) e (λ (v : Entry). placed v ≡ placed e) (λ q. refl) (λ q. refl)

partly_placed : (f : Entry → Entry) → ((e : Entry) → placed (f e) ≡ placed e) → (i : ℕ) (es : List Entry) → map placed (partly f i es) ≡ map placed es
partly_placed f same zero es = refl
partly_placed f same (suc i) [] = refl
partly_placed f same (suc i) (e ∷ es) = λ j. same e j ∷ partly_placed f same i es j

pub partly_ready : (m : PersistenceUnit) (w0 w : Work) (i : ℕ) → w ≡ record w0 { context = partly (remembered m w0) i w0.context } → IsReady m w0 → IsReady m w
partly_ready m w0 w i same ready =
    let es = partly (remembered m w0) i w0.context in
    subst (IsReady m) (sym same) (alike_ready m w0 (record w0 { context = es }) (alike_entries w0 es (partly_placed (remembered m w0) (remembered_placed m w0) i w0.context)) ready)

-- the next entry: another takes its place, or it stays
remembered_next : (m : PersistenceUnit) (w0 w : Work) (i : ℕ) (e : Entry) → w ≡ record w0 { context = partly (remembered m w0) i w0.context } → remembered m w e ≡ remembered m w0 e
remembered_next m w0 w i e same = ap {A = Work} {B = Entry} (λ v. remembered m v e) same

pub set_next : (m : PersistenceUnit) (w0 w : Work) (i : ℕ) (e y : Entry) (o : Option Entry) → i < length w0.context → w ≡ record w0 { context = partly (remembered m w0) i w0.context } → e ≡ get_or w.context i e →
    o ≡ Some y → entry_or e o ≡ remembered m w e → record w { context = slice_set w.context i y } ≡ record w0 { context = partly (remembered m w0) (i + 1) w0.context }
set_next m w0 w i e y o l same read is h = set_round (remembered m w0) w0 w i e y l same read (ap (entry_or e) (sym is) ∙ h ∙ remembered_next m w0 w i e same)

pub keep_next : (m : PersistenceUnit) (w0 w : Work) (i : ℕ) (e : Entry) (o : Option Entry) → i < length w0.context → w ≡ record w0 { context = partly (remembered m w0) i w0.context } → e ≡ get_or w.context i e →
    o ≡ None → entry_or e o ≡ remembered m w e → w ≡ record w0 { context = partly (remembered m w0) (i + 1) w0.context }
keep_next m w0 w i e o l same read is h = keep_round (remembered m w0) w0 w i e l same read (ap (entry_or e) (sym is) ∙ h ∙ remembered_next m w0 w i e same)
