-- What is told of a stop, from what is told where a file is read and judged.
use Rattle.std.proofs.Common.{◌≡◌, ℕ, List, Option, Some, None, Result, Ok, Err, IfErr, sym, ◌∙◌, ap, subst}
use Rattle.sbpl_promises.specs.sbpl_desk.Desk.{Stays}
use Rattle.sbpl_promises.specs.sbpl_job.declared.job.Sources.{Sources}
use Rattle.sbpl_promises.specs.sbpl_lists.Messages.{IsPlainMessage}
use Rattle.sbpl_promises.specs.sbpl_report.Refusals.{file_name}
use Rattle.sbpl_promises.specs.sbpl_report.declared.refusal.Input.{Input}
use Rattle.sbpl_promises.specs.sbpl_report.declared.refusal.Input.TheVariants as input
use Rattle.sbpl_promises.specs.sbpl_report.declared.refusal.Refusal.{Refusal}
use Rattle.sbpl_promises.specs.sbpl_report.declared.refusal.Refusal.TheVariants as refusal
use Rattle.sbpl_promises.specs.sbpl_report.declared.refusal.JobStop.{JobStop}
use Rattle.sbpl_promises.specs.sbpl_report.declared.refusal.JobStop.TheVariants as stop
use Rattle.sbpl_promises.specs.Causes.{IsChangesRefused, IsReadText, IsUnread}
use Rattle.sbpl_promises.specs.Explained.{Explains, ExplainsChanges, ExplainsLattice, ExplainsStop}
use Rattle.sbpl_promises.specs.Explained.{IsOnFault}
use Rattle.sbpl_promises.specs.Texts.{Scope}
use Rattle.sbpl_promises.specs.Writing.{DeskState, Told}

-- what a desk held later it held before
fault_before : {F : Type 0} {HasFault : List ℕ → F → Type 0} {place_of : F → ℕ} (held later : Told) (name : List ℕ)
    (f : F) (m : List ℕ) → later name ≡ held name → IsOnFault HasFault place_of later name f m
    → IsOnFault HasFault place_of held name f m
fault_before held later name f m same on = record {
  text = on.text;
  read = subst (λ (o : Option (List ℕ)). IsReadText o on.text) same on.read;
  first = on.first;
  message = on.message;
}

-- so what is told of a stop later is told of it before
pub explained_before : (held later : Told) (names : Input → List ℕ) (x : JobStop) → Stays held later
    → ExplainsStop later names x → ExplainsStop held names x
explained_before held later names stop.NoMemory same told = tt
explained_before held later names (stop.Refused r m) same told = by_refusal r told
  where
    by_refusal : (r : Refusal) → Explains later names r m → Explains held names r m
    by_refusal (refusal.Environment f) on = fault_before held later _ f m (same (names input.Environment)) on
    by_refusal (refusal.Grid f) on = fault_before held later _ f m (same (names input.Environment)) on
    by_refusal (refusal.Primitives f) on = fault_before held later _ f m (same (names input.Primitives)) on
    by_refusal (refusal.Changes f) on = record {
      text = on.text;
      read = subst (λ (o : Option (List ℕ)). IsReadText o on.text) (same (names input.Changes)) on.read;
      scope = on.scope;
      first = on.first;
      message = on.message;
    }
    by_refusal (refusal.OffMap end) plain = plain
    by_refusal (refusal.TooWide i) plain = plain
    by_refusal (refusal.TooDear i) plain = plain
    by_refusal (refusal.Read i) plain = plain
    by_refusal (refusal.Length i) none = none

pub lattice_before : (held later : Told) (from : Sources) (x : JobStop) → Stays held later → ExplainsLattice later from x
    → ExplainsLattice held from x
lattice_before held later from x same told = λ changes labels.
    explained_before held later (file_name from.env (Some from.prims) changes labels) x same (told changes labels)

-- a file that was not read
pub unread_told : (s t : DeskState) (held : Told) (names : Input → List ℕ) (name : List ℕ) (i : Input) (x : JobStop)
    → names i ≡ name → IsUnread s t name i x → ExplainsStop held names x
unread_told s t held names name i stop.NoMemory is unread = tt
unread_told s t held names name i (stop.Refused (refusal.Read j) m) is (same, failed, plain) =
    subst (λ (n : List ℕ). IsPlainMessage n m) (sym (ap names same ∙ is)) plain
unread_told s t held names name i (stop.Refused (refusal.Length j) m) is (same, long, none) = none
unread_told s t held names name i (stop.Refused _ m) is unread = absurd unread

-- a text with a fault
pub changes_told : (held : Told) (changes : Option (List ℕ)) (name : List ℕ) (s : Scope) (text : List ℕ) (x : JobStop)
    → changes ≡ Some name → IsReadText (held name) text → IsChangesRefused s name text x
    → ExplainsChanges held changes x
changes_told held None name s text x is read faulty = absurd (cc)
changes_told held (Some other) name s text x is read faulty =
    let same : name ≡ other = cc in
    subst (λ (n : List ℕ). ExplainsChanges held (Some n) x) same (by_stop x faulty)
  where
    by_stop : (x : JobStop) → IsChangesRefused s name text x → ExplainsChanges held (Some name) x
    by_stop stop.NoMemory faulty = λ env prims labels. tt
    by_stop (stop.Refused (refusal.Changes f) m) (first, message) = λ env prims labels.
        record { text = text; read = read; scope = s; first = first; message = message }
    by_stop (stop.Refused _ m) faulty = absurd faulty

pub changes_explained : {A : Type 0} (held : Told) (changes : Option (List ℕ)) (name : List ℕ) (s : Scope)
    (text : List ℕ) (r : Result A JobStop) → changes ≡ Some name → IsReadText (held name) text
    → IfErr r (IsChangesRefused s name text) → IfErr r (ExplainsChanges held changes)
changes_explained held changes name s text (Ok x) is read faulty = tt
changes_explained held changes name s text (Err x) is read faulty = changes_told held changes name s text x is read faulty
