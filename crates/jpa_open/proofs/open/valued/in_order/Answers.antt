use Rattle.std.proofs.Common.{rules, ◌≡◌, ◌∙◌, sym, ap, refl, Bool}
use Rattle.std.specs.Borrow.{Bor}
use Rattle.std.specs.Ordering.{is_lt}
use Rattle.std.specs.List.{list_any}
use Rattle.std.proofs.lemmas.Fn.{always_returns_same, dedup_same}
use Rattle.std.proofs.lemmas.List.Kept.{IsStrictlySortedBy-dedup}
use Rattle.std.proofs.lemmas.List.Sorted.{ranks_by, list_any-IsPermutation}
use Rattle.jpa_value.specs.declared.value.Identity.{Identity}
use Rattle.jpa_value.specs.Value.{same_identity}
use Rattle.jpa_open.specs.Valued.{lent_cmp}
use Rattle.jpa_open.proofs.Valued.{lent_total, any_dedup, any_lent, same_alike}
use Rattle.jpa_open.proofs.open.valued.in_order.Goals as goal

abbrev same_lent : Bor Identity → Bor Identity → Bool
same_lent a b = same_identity a.now b.now

pub returns-clause-rising : goal.returns-clause-rising
returns-clause-rising c =
    let is = dedup_same _ same_lent _ (λ x y b f' x' y' k. search rules) _ _ c.dedup_by.ensures.filtered in
    let sorted = c.sort_unstable_by.ensures.sorted (λ a b. is_lt (lent_cmp a b)) (ranks_by lent_total (λ a. a))
    (always_returns_same _ (λ a r. is_lt r ≡ is_lt (lent_cmp a.0.now a.1.0.now)) _ (λ a r q k. (ap is_lt {y = lent_cmp a.0.now a.1.0.now} (search rules), search rules))) in
    rw is (IsStrictlySortedBy-dedup lent_total (λ x y. refl) _ sorted)

pub returns-clause-same : goal.returns-clause-same
returns-clause-same c q =
    let is = dedup_same _ same_lent _ (λ x y b f' x' y' k. search rules) _ _ c.dedup_by.ensures.filtered in
    let t = λ (b : Bor Identity). same_identity q b.now in
    any_lent q _ ∙ ap (list_any t) is ∙ any_dedup same_lent t (λ x k e. same_alike q x.now k.now e) _
    ∙ sym (list_any-IsPermutation t _ _ c.sort_unstable_by.ensures.permutation) ∙ sym (any_lent q _)
