-- What the calls of a serial planner mean.
use Rattle.std.specs.Prelude.{◌≡◌, ℕ, Bool, true, false, ⊤, List, [], length}
use Rattle.sbpl_search.specs.sbpl_graph.Network.{Network}
use Rattle.sbpl_search.specs.sbpl_graph.Exact.{AreExact}
use Rattle.sbpl_search.specs.sbpl_labels.Marks.{AreInitial, Marks, g_of, v_of, back_of}
use Rattle.sbpl_search.specs.Changed.{IsChangeable}
use Rattle.sbpl_search.specs.Meaning.{Meaning}
use Rattle.sbpl_search.specs.Ready.{AreReady, AreUsable}
use Rattle.sbpl_search.specs.State.{State}
use Rattle.sbpl_serial.specs.declared.step.Step.{Step}
use Rattle.sbpl_serial.specs.Repaired.{AreRepaired}
use Rattle.sbpl_serial.specs.Run.{IsSerialRun, IsNext, IsAtRest, none_closed, closed_after}
use Rattle.sbpl_serial.specs.Serial.{SerialState}
use Rattle.sbpl_serial.specs.Times.{times}

-- labels repaired for a graph that has changed: the touched states are recomputed, and all are exact
pub record AreRepairedFor (n : Network) (touched : List ℕ) (old new : Marks) : Type 0 where
  pub repaired : AreRepaired n touched old new
  pub exact : AreExact n new.start (g_of new) (v_of new) (back_of new)

-- Where the graph changes, a serial planner repairs its labels, as Anytime D* does, or makes them initial again, as ARA* does. Only
-- labels that are repaired may be underconsistent.

-- labels from which a pass may begin on a graph, at this count of expansions
abbrev pub MayBeginPass : (repairs : Bool) → Network → Marks → (count : ℕ) → Type 0
MayBeginPass false = AreReady
MayBeginPass true = AreUsable

-- either way they are usable
pub usable_by : (repairs : Bool) (n : Network) (m : Marks) (count : ℕ) → MayBeginPass repairs n m count → AreUsable n m count
usable_by false n m count is = record { states = is.states; exact = is.exact; fits = is.fits }
usable_by true n m count is = is

-- how often a pass takes one state at most
abbrev pub most_times : (repairs : Bool) → ℕ
most_times false = 1
most_times true = 3

-- labels that can be made ready for a graph that has changed, once these states were touched
abbrev pub AreRenewable : (repairs : Bool) → Network → (touched : List ℕ) → Marks → Type 0
AreRenewable false n touched m = ⊤
AreRenewable true n touched m = IsChangeable n touched m

-- labels made ready for it: initial ones of its size, or repaired ones
abbrev pub AreRenewed : (repairs : Bool) → Network → (touched : List ℕ) → (old new : Marks) → Type 0
AreRenewed false n touched old new = AreInitial new n.states old.start
AreRenewed true n touched old new = AreRepairedFor n touched old new

-- the trace that is then left: initial labels have none, and repaired ones that of the last pass
abbrev pub trace_left : (repairs : Bool) → List Step → List Step
trace_left false trace = []
trace_left true trace = trace

-- a plan begins with such labels, and raises states in its passes alone
abbrev pub Begins : (repairs : Bool) → Network → (touched : List ℕ) → (old new : Marks) → (raised : List ℕ) → Type 0
Begins repairs n touched old new raised = AreRenewed repairs n touched old new × (raised ≡ [])

-- a pass is a serial run, which one worker makes, always keeps what it did, and takes no memory
abbrev pub serial : (repairs : Bool) → Meaning Step
serial repairs = record {
  ready = MayBeginPass repairs;
  leads = λ q steps old new. IsSerialRun q none_closed steps old new;
  rests = λ q steps m. IsAtRest q (closed_after none_closed steps) m;
  goes_on = λ q steps m. (s : ℕ) × IsNext q (closed_after none_closed steps) m s;
  seated = λ workers steps. ⊤;
  keeps = λ traced. true;
  expansions = length;
  times = times;
  most = most_times repairs;
  repairs = repairs;
  begun = Begins repairs;
  cut = λ q old new before after. ⊥;
}

-- the labels, the goal and the trace
abbrev pub seen : SerialState → State Step
seen a = record { workers = 1; labels = a.labels; goal = a.goal; actions = a.trace; kept = true; raised = [] }
