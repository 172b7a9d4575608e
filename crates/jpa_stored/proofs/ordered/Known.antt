-- An object that an index was told of has its entry in each column of its class, and is found by a span that it lies in.
use Rattle.std.specs.Prelude.{◌≡◌, ℕ, suc, Bool, true, false, ◌==◌, ◌&&◌, ◌||◌, List, [], ◌∷◌, All}
use Rattle.std.proofs.Common.{refl, ap, subst, arith}
use Rattle.std.specs.List.{list_any}
use Rattle.std.proofs.lemmas.Bool.{eqb-true, false≢true}
use Rattle.jpa_value.specs.declared.value.Identity.{Identity}
use Rattle.jpa_value.specs.Value.{same_identity}
use Rattle.jpa_model.specs.declared.unit.Member.{Member}
use Rattle.jpa_stored.specs.declared.objects.stored.Stored.{Stored}
use Rattle.jpa_stored.specs.declared.ordered.column.Column.{Column}
use Rattle.jpa_stored.specs.declared.ordered.cut.Span.{Span}
use Rattle.jpa_stored.specs.declared.ordered.valued.Valued.{Valued}
use Rattle.jpa_stored.specs.ordered.Values.{at_object, valued, same_member, is_of, has_column, HasEntry, IsIn, lies_in_any, owners_in}
use Rattle.jpa_stored.proofs.ordered.Ordered.{among_owners}

member_exact : (a b : Member) → same_member a b ≡ true → a ≡ b
member_exact (Member.KeyPart i) (Member.KeyPart j) e = ap Member.KeyPart (eqb-true i j e)
member_exact (Member.KeyPart i) Member.Version e = absurd (false≢true e)
member_exact (Member.KeyPart i) (Member.Attribute j) e = absurd (false≢true e)
member_exact (Member.KeyPart i) (Member.Relation j) e = absurd (false≢true e)
member_exact Member.Version (Member.KeyPart j) e = absurd (false≢true e)
member_exact Member.Version Member.Version e = refl
member_exact Member.Version (Member.Attribute j) e = absurd (false≢true e)
member_exact Member.Version (Member.Relation j) e = absurd (false≢true e)
member_exact (Member.Attribute i) (Member.KeyPart j) e = absurd (false≢true e)
member_exact (Member.Attribute i) Member.Version e = absurd (false≢true e)
member_exact (Member.Attribute i) (Member.Attribute j) e = ap Member.Attribute (eqb-true i j e)
member_exact (Member.Attribute i) (Member.Relation j) e = absurd (false≢true e)
member_exact (Member.Relation i) (Member.KeyPart j) e = absurd (false≢true e)
member_exact (Member.Relation i) Member.Version e = absurd (false≢true e)
member_exact (Member.Relation i) (Member.Attribute j) e = absurd (false≢true e)
member_exact (Member.Relation i) (Member.Relation j) e = ap Member.Relation (eqb-true i j e)

both : (a b : Bool) → (a && b) ≡ true → (a ≡ true) × (b ≡ true)
both true b e = (refl, e)
both false b e = absurd (false≢true e)

module _ (entries : List Valued) (id : Identity) (x : Stored) (member : Member) (number : ℕ) where
  at_column : (c : Column) → HasEntry entries id x c → (is_of x.class member c && (c.number == number)) ≡ true → IsIn entries (valued number (at_object member (id, x)))
  at_column c has e =
      let outer = both (is_of x.class member c) (c.number == number) e in
      let inner = both (c.class == x.class) (same_member c.member member) outer.0 in
      let m = member_exact c.member member inner.1 in
      let n = eqb-true c.number number outer.1 in
      subst (IsIn entries) (λ i. valued (n i) (at_object (m i) (id, x))) (has (eqb-true c.class x.class inner.0))

  -- an object has an entry of each number by which its class has a column
  pub entry_of : (columns : List Column) → All (HasEntry entries id x) columns → has_column columns x.class member number ≡ true → IsIn entries (valued number (at_object member (id, x)))
  entry_of [] all e = absurd (false≢true e)
  entry_of (c ∷ cs) all e =
      by_first (is_of x.class member c && (c.number == number)) refl (entry_of cs (λ k d l. all (suc k) d (omega (arith, l)))) e
    where
      by_first : (b : Bool) → (is_of x.class member c && (c.number == number)) ≡ b → (has_column cs x.class member number ≡ true → IsIn entries (valued number (at_object member (id, x)))) →
          (b || has_column cs x.class member number) ≡ true → IsIn entries (valued number (at_object member (id, x)))
      by_first true same rest e = at_column c (all 0 c (omega arith)) same
      by_first false other rest e = rest e

  -- so it is among the owners found by spans of which it lies in one
  pub found_among : (columns : List Column) → All (HasEntry entries id x) columns → has_column columns x.class member number ≡ true → (spans : List Span) →
      lies_in_any member spans (id, x) ≡ true → list_any (same_identity id) (owners_in entries number spans) ≡ true
  found_among columns all e spans h = among_owners entries number (at_object member (id, x)) (entry_of columns all e) spans h
