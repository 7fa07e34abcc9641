-- The queue goes on holding the open states as heads are recomputed.
use Rattle.std.proofs.Common.{ℕ, Bool, Option, Some, None, refl}
use Rattle.sbpl_search.specs.sbpl_graph.Network.{Network}
use Rattle.sbpl_search.specs.sbpl_labels.Marks.{Marks}
use Rattle.sbpl_open.specs.OpenList.{OpenList}
use Rattle.sbpl_serial.specs.Queue.{AreQueued, IsUnplaced}
use Rattle.sbpl_serial.proofs.Queueing.{unplaced}
use Rattle.sbpl_serial.specs.Raised.{ReturnsHead, IsReturned}
use Rattle.sbpl_serial.proofs.Raising.{back_inside}

-- a head was recomputed, or none
pub returned_unplaced : {eps : ℕ} {h : ℕ → ℕ} {closed : ℕ → Bool} {m : Marks} {f : OpenList} (n : Network) (m' : Marks)
    (s k : ℕ) (head : Option ℕ)
    → AreQueued eps h closed m f → IsReturned n m m' s k head → IsUnplaced eps h closed m' f head
returned_unplaced n m' s k None queued returned = rw returned.0 queued
returned_unplaced {eps} {h} {closed} {m} n m' s k (Some t) queued returned =
    let by : ReturnsHead n m m' s k t = returned in
    unplaced eps h closed closed m m' t queued (back_inside m by.by) by.recomputes.same_states
    by.recomputes.others (λ u apart. refl)
