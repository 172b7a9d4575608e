use Rattle.std.proofs.Common.{rules, subst}
use Rattle.jpa_machine.specs.machine.Isolated.{IsSomeMove}
use Rattle.jpa_provider.specs.Provided.{Provided, world_in, StoresCall}
use Rattle.jpa_provider.specs.Serving.{machine_of}
use Rattle.jpa_provider.proofs.provider.ProviderPersistenceProvider.call.Goals as goal

pub returns : goal.returns
returns g c =
    let Old : Type 0 = Provided g.row.R.Denot g.row.B-Listener.Denot g.row.B-Converter.Denot in
    let done = c.serve in
    record {
      model = search rules;
      registry = search rules;
      step = search rules;
      changes = search rules;
      moves = subst
          (λ (old : Old). IsSomeMove (world_in g.B.Behaviour.meaning old) old.machine c.args.call done.result (machine_of done.new.session))
          c.self.view_is done.ensures.moves;
      stands = search rules;
      stores = subst
          (λ (old : Old). StoresCall (world_in g.B.Behaviour.meaning old) g.R.RowSource old.machine c.args.call done.result (machine_of done.new.session) old.rows done.new.rows)
          c.self.view_is done.ensures.stores;
    }
