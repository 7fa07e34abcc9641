use Rattle.std.proofs.Common.{refl, rules}
use Rattle.sbpl_cfg.proofs.place.place_at.Goals as goal

pub returns-clause-on_map : goal.returns-clause-on_map
returns-clause-on_map c = rw (← c.env.view_is) (
  λ _. record {
    x = (search rules, search rules);
    y = (search rules, search rules);
  },
  λ _. refl,
)
