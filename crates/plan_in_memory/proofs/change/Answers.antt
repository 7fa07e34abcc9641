use Rattle.plan_in_memory.proofs.change.Goals as goal

pub change-requires-clause-on_map : goal.change-requires-clause-on_map
change-requires-clause-on_map c =
    let on_map = rw c.world.ensures.value at c.are_on_map.ensures.on_map.0 in on_map c.if-not-are_on_map.false
