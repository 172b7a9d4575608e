-- Texts that are joined one by one.
use Rattle.std.proofs.Common.{◌≡◌, ◌++◌, Option, Some, None, option_map, refl, sym, ap, append_assoc}
use Rattle.jpql_meaning.specs.eval.Texts.{Text}
use Rattle.jpql_meaning.specs.eval.Calls.{put_text}

pub joined_more : (front t : Text) (more : Option Text) → option_map (λ rest. front ++ rest) (put_text (Some t) more) ≡ option_map (λ rest. (front ++ t) ++ rest) more
joined_more front t None = refl
joined_more front t (Some rest) = ap Some (sym (append_assoc front t rest))
