-- Worlds of a site that files cannot tell apart: what is made in them is the same.
use Rattle.std.proofs.Common.{◌≡◌, ℕ, ℤ, ◌<◌, Bool, true, false, List, take, Option, Some, None, option_map, unwrap_or}
use Rattle.std.proofs.Common.{sym, ◌∙◌, ap, subst, refl}
use Rattle.std.specs.List.{filter_map, last_or}
use Rattle.sbpl_promises.specs.sbpl_cfg.declared.pose.Place.{Place}
use Rattle.sbpl_promises.specs.sbpl_graph.Network.{Network}
use Rattle.sbpl_promises.specs.sbpl_back.Reversed.{AreTurned, PathsTurnOnce, reversed}
use Rattle.sbpl_promises.specs.sbpl_map.CellMap.{CellMap, IsCellMap}
use Rattle.sbpl_promises.specs.Sites.{Leads, Site, Reporting, network_by, reads_by, says_by, start_after}
use Rattle.sbpl_promises.specs.sbpl_report.declared.record.PathStep.{PathStep}

-- alike worlds have one map, one graph and the same cells that its
-- arcs read, and one way of reporting; and one heuristic for a goal, at states
pub record AreAlike {W : Type 0} (on : Site W) (Alike : W → W → Type 0) : Type 0 where
  pub same : (w : W) → Alike w w
  pub back : (w v : W) → Alike w v → Alike v w
  pub over : (w v : W) (m : CellMap) → Alike w v → Alike (on.cells.over w m) (on.cells.over v m)
  pub map : (w v : W) → Alike w v → on.cells.map w ≡ on.cells.map v
  pub over_is : (w : W) (m : CellMap) → on.cells.map (on.cells.over w m) ≡ m
  pub again : (w : W) (l m : CellMap) → on.cells.over (on.cells.over w l) m ≡ on.cells.over w m
  pub made : (w v : W) (m : CellMap) → Alike w v → on.cells.is_made w → on.cells.is_made (on.cells.over v m)
      → on.cells.is_made (on.cells.over w m)
  pub cell_map : (w : W) (m : CellMap) → on.cells.is_made (on.cells.over w m) → IsCellMap m
  pub graph : (w v : W) → Alike w v → on.cells.is_made w → on.cells.is_made v → on.reporting.told w ≡ on.reporting.told v
  pub sized : (w : W) (l m : CellMap) → on.cells.is_made (on.cells.over w l) → on.cells.is_made (on.cells.over w m)
      → (on.reporting.told (on.cells.over w l)).states ≡ (on.reporting.told (on.cells.over w m)).states
  pub reads : (w v : W) (s k : ℕ) (x y : ℤ) → Alike w v → on.cells.reads w s k x y → on.cells.reads v s k x y
  pub says : (w v : W) (goal : ℕ) (h k : ℕ → ℕ) → Alike w v → on.reporting.told w ≡ on.reporting.told v → on.says w goal h
      → on.says v goal k → (s : ℕ) → s < (on.reporting.told w).states → h s ≡ k s
  pub moved : (w v : W) (goal : ℕ) (h : ℕ → ℕ) → Alike w v → on.reporting.told w ≡ on.reporting.told v
      → on.says w goal h → on.says v goal h
  pub starts : (w v : W) (s t : ℕ) → Alike w v → on.reporting.starts w s → on.reporting.starts v t → s ≡ t
  pub ends : (w v : W) (s t : ℕ) → Alike w v → on.reporting.ends w s → on.reporting.ends v t → s ≡ t
  pub report_pose : (w v : W) (s : ℕ) → Alike w v → on.reporting.report_pose w s ≡ on.reporting.report_pose v s
  pub step : (w v : W) (s k t : ℕ) (a b : PathStep) → Alike w v → on.reporting.step w s k t a
      → on.reporting.step v s k t b → a ≡ b
  pub state : (w v : W) → Alike w v → on.reporting.state w ≡ on.reporting.state v

-- and where they are searched so, one graph whose arcs read the same cells, and one guide
pub record GoesAlike {W : Type 0} (on : Site W) (Alike : W → W → Type 0) (back : Bool) : Type 0 where
  pub network : (w v : W) → on.reporting.told w ≡ on.reporting.told v
      → network_by back (on.reporting.told w) ≡ network_by back (on.reporting.told v)
  pub states : (w : W) → (network_by back (on.reporting.told w)).states ≡ (on.reporting.told w).states
  pub reads : (w v : W) (s k : ℕ) (x y : ℤ) → Alike w v → on.reporting.told w ≡ on.reporting.told v
      → reads_by back on.reporting.told on.cells w s k x y → reads_by back on.reporting.told on.cells v s k x y
  pub guides : (w v : W) (to : ℕ) (h k : ℕ → ℕ) → Alike w v → on.reporting.told w ≡ on.reporting.told v
      → says_by back on.reporting.told on.says w to h → says_by back on.reporting.told on.says v to k
      → (s : ℕ) → s < (on.reporting.told w).states → h s ≡ k s
  pub moved : (w v : W) (to : ℕ) (h : ℕ → ℕ) → Alike w v → on.reporting.told w ≡ on.reporting.told v
      → says_by back on.reporting.told on.says w to h → says_by back on.reporting.told on.says v to h

-- what is found leads to one path
abbrev pub LeadsOnce : {W : Type 0} → Site W → (back : Bool) → Type 0
LeadsOnce {W} on back =
    (w v : W) (start goal : ℕ) (found path other : List ℕ) → on.reporting.told w ≡ on.reporting.told v
    → Leads back (on.reporting.told w) start goal found path → Leads back (on.reporting.told v) start goal found other
    → path ≡ other

module _ {W : Type 0} (on : Site W) (Alike : W → W → Type 0) (alike : AreAlike on Alike) where
  pub goes_alike : (back : Bool) → GoesAlike on Alike back
  goes_alike true = record {
    network = λ w v same. ap reversed same;
    states = λ w. refl;
    reads = λ w v t j x y a same r. (
      r.0,
      r.1,
      subst (λ (n : Network). n.tail t j ≡ Some (r.0, r.1)) same r.2,
      alike.reads w v r.0 r.1 x y a r.3,
    );
    guides = λ w v to h k a same x y s inside. x s inside ∙ ap (λ (n : Network). n.gap to s) same
        ∙ sym (y s (subst (λ (n : Network). s < n.states) same inside));
    moved = λ w v to h a same x s inside.
        x s (subst (λ (n : Network). s < n.states) (sym same) inside) ∙ ap (λ (n : Network). n.gap to s) same;
  }
  goes_alike false = record {
    network = λ w v same. same;
    states = λ w. refl;
    reads = λ w v s k x y a same r. alike.reads w v s k x y a r;
    guides = λ w v to h k a same x y. alike.says w v to h k a same x y;
    moved = λ w v to h a same x. alike.moved w v to h a same x;
  }

  pub leads_once : PathsTurnOnce → (back : Bool) → LeadsOnce on back
  leads_once once true w v start goal found path other same x y =
      once (on.reporting.told v) goal start found path other
      (subst (λ (n : Network). AreTurned n goal found start path) same x) y
  leads_once once false w v start goal found path other same x y = x ∙ sym y

-- the starts of plans in two worlds that give places the same states
pub same_starts : {W : Type 0} (words : Reporting W) (v w : W) (start other : ℕ)
    (moves also : Option (List (Option Place))) → words.state v ≡ words.state w → start ≡ other → moves ≡ also
    → start_after words v start moves ≡ start_after words w other also
same_starts words v w start other moves also state from updates =
    λ i k. (at k moves ∙ ap (λ (s : ℕ). start_after words w s moves k) from
    ∙ ap (λ (m : Option (List (Option Place))). start_after words w other m k) updates) i
  where
    at : (k : ℕ) (l : Option (List (Option Place))) → start_after words v start l k ≡ start_after words w start l k
    at k None = refl
    at k (Some places) =
        ap (λ (f : Place → ℕ). unwrap_or (last_or None (filter_map (option_map f) (take k places))) start) state
