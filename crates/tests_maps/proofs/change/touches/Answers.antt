use Rattle.tests_maps.proofs.change.touches.Goals as goal

pub apply-requires : goal.apply-requires
apply-requires c = record { on_map = c.are_on_map.ensures.on_map.0 c.if-not-are_on_map.false }
