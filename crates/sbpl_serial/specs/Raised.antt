-- What raising a state does over one of its arcs, and over all of them in turn.
use Rattle.std.specs.Prelude.{◌≡◌, ◌≢◌, ℕ, ◌+◌, ◌<◌, ◌≤◌, Option, Some, None}
use Rattle.sbpl_search.specs.sbpl_graph.declared.TheConstants.{FAR}
use Rattle.sbpl_search.specs.sbpl_graph.Network.{Network}
use Rattle.sbpl_search.specs.sbpl_graph.Laws.{IsSound, HasExactTails}
use Rattle.sbpl_search.specs.sbpl_graph.Exact.{AreExact}
use Rattle.sbpl_search.specs.sbpl_graph.Fit.{FitCount}
use Rattle.sbpl_search.specs.sbpl_labels.Marks.{Marks, AreLabels, ChangesRow, states_of, g_of, v_of, back_of}
use Rattle.sbpl_search.specs.sbpl_labels.Recomputed.{IsRecomputed, Recomputes}
use Rattle.sbpl_serial.specs.Run.{IsUnder, RaisesState}

-- arc k of s leads to t and is its back arc, and t is recomputed
pub record ReturnsHead (n : Network) (old new : Marks) (s k t : ℕ) : Type 0 where
  pub head : n.head s k ≡ Some t
  pub by : back_of old t ≡ Some (s, k)
  pub recomputes : Recomputes n old new t

-- the head that is recomputed, or none where arc k of s is no back arc
abbrev pub IsReturned : Network → Marks → Marks → ℕ → ℕ → Option ℕ → Type 0
IsReturned n old new s k None = (new ≡ old) × ((t : ℕ) → n.head s k ≡ Some t → back_of old t ≢ Some (s, k))
IsReturned n old new s k (Some t) = ReturnsHead n old new s k t

-- labels in the middle of the raising of s, before its arc of number i: v of s is infinite, the heads whose back arcs are arcs before
-- i are recomputed, and all else is as before
pub record IsRaising (n : Network) (old m : Marks) (s i : ℕ) : Type 0 where
  pub same_start : m.start ≡ old.start
  pub same_states : states_of m ≡ states_of old
  pub raised : v_of m s ≡ FAR
  pub other_v : (u : ℕ) → u ≢ s → v_of m u ≡ v_of old u
  pub heads : (t k : ℕ) → k < i → back_of old t ≡ Some (s, k) → IsRecomputed n (v_of m) t (g_of m t) (back_of m t)
  pub other_g : (t : ℕ) → ((k : ℕ) → k < i → back_of old t ≢ Some (s, k)) → g_of m t ≡ g_of old t
  pub other_back : (t : ℕ) → ((k : ℕ) → k < i → back_of old t ≢ Some (s, k)) → back_of m t ≡ back_of old t
  pub fits : (count : ℕ) → FitCount n.states (g_of old) (v_of old) count → FitCount n.states (g_of m) (v_of m) count

-- labels whose row s has this v, and which are otherwise the same
abbrev pub ChangesV : (old new : Marks) → (s v : ℕ) → Type 0
ChangesV old new s v = ChangesRow old new s (record { g = g_of old s; v = v; back = back_of old s })

-- the raising of s begins where its v becomes infinite
abbrev pub RaisingBegins : Type 0
RaisingBegins = (n : Network) (old m : Marks) (s : ℕ) → ChangesV old m s FAR → IsRaising n old m s 0

-- from exact labels it goes on from arc to arc
abbrev pub RaisingGoesOn : Type 0
RaisingGoesOn = (n : Network) (old m new : Marks) (s i : ℕ) (head : Option ℕ) → states_of old ≡ n.states
    → AreExact n old.start (g_of old) (v_of old) (back_of old) → IsRaising n old m s i → IsReturned n m new s i head
    → ((count : ℕ) → FitCount (states_of m) (g_of m) (v_of m) count → FitCount (states_of m) (g_of new) (v_of new) count)
    → IsRaising n old new s (i + 1)

-- and no g falls by it
abbrev pub RaisingLowersNone : Type 0
RaisingLowersNone = (n : Network) (old m new : Marks) (s i : ℕ) (head : Option ℕ) → states_of old ≡ n.states → AreLabels old
    → AreExact n old.start (g_of old) (v_of old) (back_of old) → IsRaising n old m s i → IsReturned n m new s i head
    → (t : ℕ) → g_of m t ≤ g_of new t

-- after the last arc an underconsistent s is raised, and the labels are exact again
abbrev pub RaisingEnds : Type 0
RaisingEnds = (n : Network) (old new : Marks) (s i : ℕ) → IsSound n → HasExactTails n → states_of old ≡ n.states → AreLabels new
    → AreExact n old.start (g_of old) (v_of old) (back_of old) → IsRaising n old new s i → n.fan s ≤ i → IsUnder old s
    → RaisesState n old new s × AreExact n new.start (g_of new) (v_of new) (back_of new)
