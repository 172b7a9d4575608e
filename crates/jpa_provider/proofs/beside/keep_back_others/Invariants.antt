use Rattle.std.proofs.Common.{◌<◌, ℕ, get_or}
use Rattle.jpa_provider.specs.Beside.{AreHeld, IsTold}
use Rattle.jpa_provider.proofs.beside.keep_back_others.Given as goal

-- what is due was kept back for those at the places so far
abbrev pub invariant-loop-place : goal.invariant-loop-place
invariant-loop-place l = record {
  held : AreHeld (l.view).committed (l.fn.managers).items l.manager (l.view).committed (l.managers).items;
  told : (i : ℕ) → i < l.place-index → IsTold l.manager (l.managers).items l.ids (get_or l.places i 0);
}
