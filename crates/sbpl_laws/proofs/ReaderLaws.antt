-- The readers' laws of texts, as they are used of the files of a job.
use Rattle.std.proofs.Common.{◌≡◌, ℕ, ℤ, List, Option, Some, None, IfSome, refl, sym, ap, subst, ◌∙◌}
use Rattle.sbpl_promises.specs.sbpl_cfg.Environment.{IsPoseOnMap}
use Rattle.sbpl_promises.specs.sbpl_job.declared.job.GridSources.{GridSources}
use Rattle.sbpl_promises.specs.sbpl_job.declared.job.Sources.{Sources}
use Rattle.sbpl_promises.specs.sbpl_report.declared.refusal.PathEnd.{PathEnd}
use Rattle.sbpl_promises.specs.sbpl_report.declared.refusal.PathEnd.TheVariants as path_end
use Rattle.sbpl_promises.specs.sbpl_cfg.declared.fault.EnvFault.{EnvFault}
use Rattle.sbpl_promises.specs.sbpl_cfg.Environment.{Environment}
use Rattle.sbpl_promises.specs.sbpl_cfg.Text as environments
use Rattle.sbpl_promises.specs.sbpl_map.CellMap.{CellMap}
use Rattle.sbpl_promises.specs.sbpl_map.ChangeText as changes
use Rattle.sbpl_promises.specs.sbpl_map.LineFaults as change_faults
use Rattle.sbpl_promises.specs.sbpl_map.declared.fault.ChangeFault.{ChangeFault}
use Rattle.sbpl_promises.specs.sbpl_map.declared.write.Write.{Write}
use Rattle.sbpl_promises.specs.sbpl_mprim.declared.fault.PrimFault.{PrimFault}
use Rattle.sbpl_promises.specs.sbpl_mprim.Primitives.{Primitives}
use Rattle.sbpl_promises.specs.sbpl_mprim.Text as primitives
use Rattle.sbpl_promises.specs.sbpl_nav2d.Environment.{NavEnvironment}
use Rattle.sbpl_promises.specs.sbpl_nav2d.Text as grids
use Rattle.sbpl_promises.specs.sbpl_cfg.declared.pose.Place.{Place}
use Rattle.sbpl_promises.specs.Clear.{TextsAreClear}
use Rattle.sbpl_promises.specs.Texts.{AreOn, HasChangeFault, IsChangeText, IsEnvironmentFor, IsFirstOff, IsGridFor, IsOff, IsSquareOn, Scope}
use Rattle.sbpl_promises.specs.Texts.{posed, posed_on_grid}
use Rattle.sbpl_promises.specs.declared.updates.Updates.{Updates}

-- ---- the start and the goal of words in place of a file's

-- an end that is given is on the map, or off it
given_off : {P : Type 0} {IsOn : P → Type 0} {given : Option P} → IfSome given IsOn → IsOff IsOn given → ⊥
given_off {IsOn = IsOn} on off = off.off (subst (λ o. IfSome o IsOn) off.is on)

on_and_off : {P : Type 0} (IsOn : P → Type 0) (start goal : Option P) (end : PathEnd) → AreOn IsOn start goal
    → IsFirstOff IsOn start goal end → ⊥
on_and_off IsOn start goal path_end.Start on off = given_off on.0 off
on_and_off IsOn start goal path_end.Goal on off = given_off on.1 off.1

-- one of them is the first that is off
one_off : {P : Type 0} (IsOn : P → Type 0) (start goal : Option P) (end other : PathEnd)
    → IsFirstOff IsOn start goal end → IsFirstOff IsOn start goal other → end ≡ other
one_off IsOn start goal path_end.Start path_end.Start off also = refl
one_off IsOn start goal path_end.Start path_end.Goal off also = absurd (given_off also.0 off)
one_off IsOn start goal path_end.Goal path_end.Start off also = absurd (given_off off.0 also)
one_off IsOn start goal path_end.Goal path_end.Goal off also = refl

-- one text, with the same words, stands for one environment
environment_once : {text : List ℕ} (from : Sources)
    → ((e d : Environment) (cells others : List ℕ) → environments.IsTextOf from.states text e cells
    → environments.IsTextOf from.states text d others → (e ≡ d) × (cells ≡ others))
    → (e d : Environment) (cells others : List ℕ) → IsEnvironmentFor from text e cells
    → IsEnvironmentFor from text d others → (e ≡ d) × (cells ≡ others)
environment_once from one e d cells others (file, p, on, is) (other, q, also, same) =
    let both = one file other cells others p q in (is ∙ ap (posed from) both.0 ∙ sym same, both.1)

grid_once : {text : List ℕ} (from : GridSources)
    → ((e d : NavEnvironment) (cells others : List ℕ) → grids.IsTextOf from.states text e cells
    → grids.IsTextOf from.states text d others → (e ≡ d) × (cells ≡ others))
    → (e d : NavEnvironment) (cells others : List ℕ) → IsGridFor from text e cells
    → IsGridFor from text d others → (e ≡ d) × (cells ≡ others)
grid_once from one e d cells others (file, p, on, is) (other, q, also, same) =
    let both = one file other cells others p q in (is ∙ ap (posed_on_grid from) both.0 ∙ sym same, both.1)

pub texts_clear :
    ((states : ℕ) (text : List ℕ) (e d : Environment) (cells others : List ℕ) → environments.IsTextOf states text e cells
    → environments.IsTextOf states text d others → (e ≡ d) × (cells ≡ others))
    → ((states : ℕ) (text : List ℕ) (f : EnvFault) → environments.IsText states text → environments.HasFault states text f → ⊥)
    → ((states : ℕ) (text : List ℕ) (f g : EnvFault) → environments.HasFault states text f
    → environments.HasFault states text g → f ≡ g)
    → ((text : List ℕ) (ps qs : Primitives) → primitives.IsTextOf text ps → primitives.IsTextOf text qs → ps ≡ qs)
    → ((cell : ℤ) (headings : ℕ) (text : List ℕ) (f : PrimFault) → primitives.IsText cell headings text
    → primitives.HasFault cell headings text f → ⊥)
    → ((cell : ℤ) (headings : ℕ) (text : List ℕ) (f g : PrimFault) → primitives.HasFault cell headings text f
    → primitives.HasFault cell headings text g → f ≡ g)
    → ((states : ℕ) (text : List ℕ) (e d : NavEnvironment) (cells others : List ℕ) → grids.IsTextOf states text e cells
    → grids.IsTextOf states text d others → (e ≡ d) × (cells ≡ others))
    → ((states : ℕ) (text : List ℕ) (f : EnvFault) → grids.IsText states text → grids.HasFault states text f → ⊥)
    → ((states : ℕ) (text : List ℕ) (f g : EnvFault) → grids.HasFault states text f → grids.HasFault states text g → f ≡ g)
    → ((s : Scope) (text : List ℕ) (c d : Updates) → IsChangeText s text c → IsChangeText s text d → c ≡ d)
    → ((s : Scope) (text : List ℕ) (c : Updates) (f : ChangeFault) → IsChangeText s text c → HasChangeFault s text f → ⊥)
    → ((s : Scope) (text : List ℕ) (f g : ChangeFault) → HasChangeFault s text f → HasChangeFault s text g → f ≡ g)
    → TextsAreClear
texts_clear one not_both one_fault one_list not_both_lists one_list_fault one_grid not_both_grids one_grid_fault
    updates_once not_both_updates updates_once_fault = record {
      environment = λ from text. environment_once from (one from.states text);
      environment_fault = λ from text e cells f (file, p, on, is) q. not_both from.states text f (file, cells, p) q;
      end_off = λ from text e cells end (file, p, on, is) (other, others, q, off).
          on_and_off _ _ _ end on (subst (λ d. IsFirstOff (IsPoseOnMap d) from.start from.goal end)
          (one from.states text other file others cells q p).0 off);
      end_fault = λ from text end f (file, cells, p, off) q. not_both from.states text f (file, cells, p) q;
      one_end = λ from text end other (file, cells, p, off) (file', cells', q, also).
          one_off _ _ _ end other off (subst (λ d. IsFirstOff (IsPoseOnMap d) from.start from.goal other)
          (one from.states text file' file cells' cells q p).0 also);
      one_environment_fault = one_fault;
      primitives = λ text e ps qs p q. one_list text ps qs p.stands q.stands;
      primitive_fault = λ text e ps f p q. not_both_lists e.cell e.headings text f (ps, p.cell, p.headings, p.stands) q;
      one_primitive_fault = λ text e f g p q. one_list_fault e.cell e.headings text f g p q;
      grid = λ from text. grid_once from (one_grid from.states text);
      grid_fault = λ from text e cells f (file, p, on, is) q. not_both_grids from.states text f (file, cells, p) q;
      grid_end_off = λ from text e cells end (file, p, on, is) (other, others, q, off).
          on_and_off _ _ _ end on (subst (λ d. IsFirstOff (IsSquareOn d) from.start from.goal end)
          (one_grid from.states text other file others cells q p).0 off);
      grid_end_fault = λ from text end f (file, cells, p, off) q. not_both_grids from.states text f (file, cells, p) q;
      one_grid_end = λ from text end other (file, cells, p, off) (file', cells', q, also).
          one_off _ _ _ end other off (subst (λ d. IsFirstOff (IsSquareOn d) from.start from.goal other)
          (one_grid from.states text file' file cells' cells q p).0 also);
      one_grid_fault = one_grid_fault;
      changes = updates_once;
      change_fault = not_both_updates;
      one_change_fault = updates_once_fault;
    }

-- ---- change files, in whose lines the robot stays or moves

updates_by : (batches others : List (List Write)) (moves more : Option (List (Option Place)))
    → batches ≡ others → moves ≡ more
    → ◌≡◌ {A = Updates} (record { batches = batches; moves = moves }) (record { batches = others; moves = more })
updates_by batches others moves more a b = λ i. record { batches = a i; moves = b i }

pub updates_once_for :
    ((states : ℕ) (m : CellMap) (text : List ℕ) (batches others : List (List Write)) → changes.IsTextOf states m text batches
    → changes.IsTextOf states m text others → batches ≡ others)
    → ((states : ℕ) (m : CellMap) (headings : ℕ) (text : List ℕ) (batches others : List (List Write))
    (moves more : List (Option Place)) → changes.IsMovesTextOf states m headings text batches moves
    → changes.IsMovesTextOf states m headings text others more → (batches ≡ others) × (moves ≡ more))
    → (s : Scope) (text : List ℕ) (c d : Updates) → IsChangeText s text c → IsChangeText s text d → c ≡ d
updates_once_for still moving s text c d x y = by_headings s.headings x y
  where
    by_headings : (o : Option ℕ) → IsChangeText (record { states = s.states; map = s.map; headings = o }) text c
        → IsChangeText (record { states = s.states; map = s.map; headings = o }) text d → c ≡ d
    by_headings None x y =
        updates_by c.batches d.batches c.moves d.moves (still s.states s.map text c.batches d.batches x.0 y.0) (x.1 ∙ sym y.1)
    by_headings (Some headings) (moves, is, x) (more, also, y) =
        let both = moving s.states s.map headings text c.batches d.batches moves more x y in
        let same = both.1 in
        updates_by c.batches d.batches c.moves d.moves both.0 (is ∙ (λ i. Some (same i)) ∙ sym also)

pub not_both_for :
    ((states : ℕ) (m : CellMap) (text : List ℕ) (f : ChangeFault) → changes.IsText states m text
    → change_faults.HasFault states m text f → ⊥)
    → ((states : ℕ) (m : CellMap) (headings : ℕ) (text : List ℕ) (f : ChangeFault) → changes.IsMovesText states m headings text
    → change_faults.HasMovesFault states m headings text f → ⊥)
    → (s : Scope) (text : List ℕ) (c : Updates) (f : ChangeFault) → IsChangeText s text c → HasChangeFault s text f → ⊥
not_both_for still moving s text c f x y = by_headings s.headings x y
  where
    by_headings : (o : Option ℕ) → IsChangeText (record { states = s.states; map = s.map; headings = o }) text c
        → HasChangeFault (record { states = s.states; map = s.map; headings = o }) text f → ⊥
    by_headings None x y = still s.states s.map text f (c.batches, x.0) y
    by_headings (Some headings) (moves, is, x) y = moving s.states s.map headings text f (c.batches, moves, x) y

pub one_fault_for :
    ((states : ℕ) (m : CellMap) (text : List ℕ) (f g : ChangeFault) → change_faults.HasFault states m text f
    → change_faults.HasFault states m text g → f ≡ g)
    → ((states : ℕ) (m : CellMap) (headings : ℕ) (text : List ℕ) (f g : ChangeFault)
    → change_faults.HasMovesFault states m headings text f
    → change_faults.HasMovesFault states m headings text g → f ≡ g)
    → (s : Scope) (text : List ℕ) (f g : ChangeFault) → HasChangeFault s text f → HasChangeFault s text g → f ≡ g
one_fault_for still moving s text f g x y = by_headings s.headings x y
  where
    by_headings : (o : Option ℕ) → HasChangeFault (record { states = s.states; map = s.map; headings = o }) text f
        → HasChangeFault (record { states = s.states; map = s.map; headings = o }) text g → f ≡ g
    by_headings None x y = still s.states s.map text f g x y
    by_headings (Some headings) x y = moving s.states s.map headings text f g x y
