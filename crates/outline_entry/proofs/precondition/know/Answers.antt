use Rattle.std.specs.Option.{option_map}
use Rattle.outline_entry.proofs.Room.{given-room}
use Rattle.outline_entry.proofs.precondition.know.Goals as goal

pub give-requires : goal.give-requires
give-requires c =
    given-room c.args.setting.now (option_map (λ k. k.now) c.args.contract) c.args.state.now.state _ _ c.in_ok-assume_precondition.ensures c.variables-first.ensures
