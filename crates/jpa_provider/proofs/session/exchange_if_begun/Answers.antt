use Rattle.std.proofs.Common.{◌≡◌, true, false, refl, ap, sym, ◌∙◌}
use Rattle.std.proofs.lemmas.Bool.{false≢true, true≢false}
use Rattle.std.proofs.lemmas.List.{set-get_or}
use Rattle.jpa_provider.specs.Serving.{manager_in, nobody, is_begun_status}
use Rattle.jpa_provider.proofs.session.exchange_if_begun.Goals as goal

pub returns-then-is_begun : goal.returns-then-is_begun
returns-then-is_begun c =
    let x = manager_in c.args.managers.now.items c.args.manager in
    let begun : is_begun_status x.status ≡ true = ap is_begun_status (sym c.status_of.ensures) ∙ sym c.is_begun.ensures ∙ c.if-is_begun.true in
    let h = c.exchange_layers.ensures.managers in
    record {
      layers = h.0;
      managers = h.1;
      committed = c.exchange_layers.ensures.committed;
      begun = λ q. record {
        begun_away = h.2;
        seen_away = h.3;
        begun = c.exchange_layers.ensures.begun;
        kept = c.exchange_layers.ensures.kept;
        seen = c.exchange_layers.ensures.seen;
      };
      none = λ q. absurd (true≢false (sym begun ∙ q));
    }

pub returns-else-is_begun : goal.returns-else-is_begun
returns-else-is_begun c =
    let xs = c.args.managers.now.items in
    let x = manager_in xs c.args.manager in
    let none : is_begun_status x.status ≡ false = ap is_begun_status (sym c.status_of.ensures) ∙ sym c.is_begun.ensures ∙ c.if-is_begun.false in
    record {
      layers = x.layers;
      managers = sym (set-get_or xs c.args.manager nobody);
      committed = refl;
      begun = λ q. absurd (false≢true (sym none ∙ q));
      none = λ q. (refl, refl);
    }
