use Rattle.std.proofs.Common.{◌≡◌, ℕ, List, [], ◌∷◌, refl}
use Rattle.sbpl_promises.specs.sbpl_map.CellMap.{CellMap}
use Rattle.sbpl_promises.specs.sbpl_map.ChangeText.{LinesSay, spelled}
use Rattle.sbpl_promises.specs.sbpl_map.declared.write.Write.{Write}
use Rattle.sbpl_worlds.proofs.files.no_changes.Goals as goal

-- where no line says anything, there is no batch
none_said : (states : ℕ) (m : CellMap) (batches : List (List Write)) → LinesSay states m [] (spelled batches) → batches ≡ []
none_said states m [] say = refl
none_said states m ([] ∷ batches) say = absurd say
none_said states m ((w ∷ writes) ∷ batches) say = absurd say

pub returns-in-Ok : goal.returns-in-Ok
returns-in-Ok c = record { none = none_said 1 c.args.map.now c.in-Ok.changes c.in-Ok.ensures.found }
