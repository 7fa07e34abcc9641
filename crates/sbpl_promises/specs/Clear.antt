-- No text of a file has two readings.
use Rattle.std.specs.Prelude.{◌≡◌, ℕ, ◌<◌, List}
use Rattle.sbpl_report.specs.sbpl_graph.Network.{Network}
use Rattle.sbpl_report.specs.sbpl_fixed.Formats.{Left}
use Rattle.sbpl_report.specs.sbpl_fixed.Tokens.{Piece}
use Rattle.sbpl_report.specs.sbpl_cfg.declared.fault.EnvFault.{EnvFault}
use Rattle.sbpl_report.specs.sbpl_cfg.Environment.{Environment}
use Rattle.sbpl_report.specs.sbpl_map.declared.fault.ChangeFault.{ChangeFault}
use Rattle.sbpl_report.specs.sbpl_mprim.declared.fault.PrimFault.{PrimFault}
use Rattle.sbpl_report.specs.sbpl_mprim.Primitives.{Primitives}
use Rattle.sbpl_report.specs.sbpl_cert.declared.fault.LabelFault.{LabelFault}
use Rattle.sbpl_report.specs.sbpl_cert.declared.flaw.Flaw.{Flaw}
use Rattle.sbpl_report.specs.sbpl_cert.declared.section.Section.{Section}
use Rattle.sbpl_report.specs.sbpl_cert.Flaws.{HasFlaw, HasNoFlaw, IsFirstFlaw}
use Rattle.sbpl_report.specs.sbpl_cert.Text.{AreTokens, AreTokensOf, HasFault}
use Rattle.sbpl_report.specs.sbpl_cert.Versions.{claim_by}
use Rattle.sbpl_promises.specs.declared.updates.Updates.{Updates}
use Rattle.sbpl_nav2d.specs.Environment.{NavEnvironment}
use Rattle.sbpl_promises.specs.Texts.{HasChangeFault, HasEndOff, HasEnvironmentFault, HasGridEndOff, HasGridFault, HasPrimitiveFault, IsChangeText, IsEnvironmentFor, IsGridFor, IsPrimitiveText, Scope}
use Rattle.sbpl_report.specs.declared.refusal.PathEnd.{PathEnd}
use Rattle.sbpl_report.specs.sbpl_job.declared.job.GridSources.{GridSources}
use Rattle.sbpl_report.specs.sbpl_job.declared.job.Sources.{Sources}

-- An environment file, of a lattice or of a grid, a primitive file or a change file stands for one value or has one first fault, and never both;
-- and where words give a start or a goal that is off an environment's map, one of them is the first, and there is neither.
pub record TextsAreClear : Type 0 where
  pub environment : (from : Sources) (text : List ℕ) (e d : Environment) (cells others : List ℕ) → IsEnvironmentFor from text e cells → IsEnvironmentFor from text d others → (e ≡ d) × (cells ≡ others)
  pub environment_fault : (from : Sources) (text : List ℕ) (e : Environment) (cells : List ℕ) (f : EnvFault) → IsEnvironmentFor from text e cells → HasEnvironmentFault from.states text f → ⊥
  pub end_off : (from : Sources) (text : List ℕ) (e : Environment) (cells : List ℕ) (end : PathEnd) → IsEnvironmentFor from text e cells → HasEndOff from text end → ⊥
  pub end_fault : (from : Sources) (text : List ℕ) (end : PathEnd) (f : EnvFault) → HasEndOff from text end → HasEnvironmentFault from.states text f → ⊥
  pub one_end : (from : Sources) (text : List ℕ) (end other : PathEnd) → HasEndOff from text end → HasEndOff from text other → end ≡ other
  pub one_environment_fault : (states : ℕ) (text : List ℕ) (f g : EnvFault) → HasEnvironmentFault states text f → HasEnvironmentFault states text g → f ≡ g
  pub primitives : (text : List ℕ) (e : Environment) (ps qs : Primitives) → IsPrimitiveText e text ps → IsPrimitiveText e text qs → ps ≡ qs
  pub primitive_fault : (text : List ℕ) (e : Environment) (ps : Primitives) (f : PrimFault) → IsPrimitiveText e text ps → HasPrimitiveFault e text f → ⊥
  pub one_primitive_fault : (text : List ℕ) (e : Environment) (f g : PrimFault) → HasPrimitiveFault e text f → HasPrimitiveFault e text g → f ≡ g
  pub grid : (from : GridSources) (text : List ℕ) (e d : NavEnvironment) (cells others : List ℕ) → IsGridFor from text e cells → IsGridFor from text d others → (e ≡ d) × (cells ≡ others)
  pub grid_fault : (from : GridSources) (text : List ℕ) (e : NavEnvironment) (cells : List ℕ) (f : EnvFault) → IsGridFor from text e cells → HasGridFault from.states text f → ⊥
  pub grid_end_off : (from : GridSources) (text : List ℕ) (e : NavEnvironment) (cells : List ℕ) (end : PathEnd) → IsGridFor from text e cells → HasGridEndOff from text end → ⊥
  pub grid_end_fault : (from : GridSources) (text : List ℕ) (end : PathEnd) (f : EnvFault) → HasGridEndOff from text end → HasGridFault from.states text f → ⊥
  pub one_grid_end : (from : GridSources) (text : List ℕ) (end other : PathEnd) → HasGridEndOff from text end → HasGridEndOff from text other → end ≡ other
  pub one_grid_fault : (states : ℕ) (text : List ℕ) (f g : EnvFault) → HasGridFault states text f → HasGridFault states text g → f ≡ g
  pub changes : (s : Scope) (text : List ℕ) (c d : Updates) → IsChangeText s text c → IsChangeText s text d → c ≡ d
  pub change_fault : (s : Scope) (text : List ℕ) (c : Updates) (f : ChangeFault) → IsChangeText s text c → HasChangeFault s text f → ⊥
  pub one_change_fault : (s : Scope) (text : List ℕ) (f g : ChangeFault) → HasChangeFault s text f → HasChangeFault s text g → f ≡ g

-- one section of labels stands in tokens, or they have one first fault, and never both; a section has one first flaw, or none
pub record SectionsAreClear : Type 0 where
  pub one : (ts rest more : List Piece) (s u : Section) → AreTokensOf ts s rest → AreTokensOf ts u more → (s ≡ u) × (rest ≡ more)
  pub not_both : (plan states : ℕ) (left : Left) (f : LabelFault) → AreTokens plan states left.tokens → HasFault plan states left f → ⊥
  pub one_fault : (plan states : ℕ) (left : Left) (f g : LabelFault) → HasFault plan states left f → HasFault plan states left g → f ≡ g
  pub one_flaw : (n : Network) (start goal : ℕ) (s : Section) (h k : ℕ → ℕ) (f e : Flaw) → ((u : ℕ) → u < n.states → h u ≡ k u)
      → IsFirstFlaw n start goal (claim_by h s) f → IsFirstFlaw n start goal (claim_by k s) e → f ≡ e
  pub no_flaw : (n : Network) (start goal : ℕ) (s : Section) (h k : ℕ → ℕ) (f : Flaw) → ((u : ℕ) → u < n.states → h u ≡ k u)
      → HasNoFlaw n start goal (claim_by h s) → HasFlaw n start goal (claim_by k s) f → ⊥
