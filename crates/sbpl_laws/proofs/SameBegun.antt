-- The labels that a plan begins with are determined.
use Rattle.std.proofs.Common.{◌≡◌, ◌≢◌, ℕ, ◌↔◌, Bool, true, List, [], None, sym, subst, ◌∙◌}
use Rattle.std.specs.List.{Contains}
use Rattle.sbpl_promises.specs.sbpl_graph.Network.{Network, IsArc}
use Rattle.sbpl_promises.specs.sbpl_map.CellMap.{CellMap, cost_at}
use Rattle.sbpl_promises.specs.sbpl_terrain.Reading.{IsEndReading}
use Rattle.sbpl_promises.specs.sbpl_terrain.declared.arc_end.ArcEnd.TheVariants as end
use Rattle.sbpl_promises.specs.sbpl_terrain.Affected.{IsAffected}
use Rattle.sbpl_promises.specs.sbpl_labels.Marks.{AreInitial, Marks, states_of, back_of}
use Rattle.sbpl_promises.specs.sbpl_search.Determined.{AreBeginningsDetermined}
use Rattle.sbpl_promises.specs.sbpl_search.Meaning.{Meaning}
use Rattle.sbpl_promises.specs.sbpl_serial.Determined.{InitialLabelsAreOne}
use Rattle.sbpl_promises.specs.sbpl_replan.Replanning.{BeginsWith}
use Rattle.sbpl_promises.specs.Headline.{Before, Begins, Carried, Changed, NoPlan, Unchanged}
use Rattle.sbpl_promises.specs.Sites.{Site, searched_on}
use Rattle.sbpl_laws.proofs.AlikeSites.{AreAlike, GoesAlike}

-- the labels are the same, with one row for each state, and the start has no back arc
pub record AreBegun (count : ℕ) (a b : Marks) (xs ys : List ℕ) : Type 0 where
  pub same : a ≡ b
  pub raised : xs ≡ ys
  pub states : states_of a ≡ count
  pub no_arc : back_of a a.start ≡ None

module _ {W : Type 0} (on : Site W) (Alike : W → W → Type 0) (alike : AreAlike on Alike) where
  -- alike worlds have one set of states that a change touches
  touched_on : (back : Bool) → GoesAlike on Alike back → (w v : W) (now : CellMap) → Alike w v
      → on.reporting.told w ≡ on.reporting.told v → (t : ℕ)
      → IsAffected (searched_on on back).network (searched_on on back).cells end.Head w now t
      → IsAffected (searched_on on back).network (searched_on on back).cells end.Head v now t
  touched_on back goes w v now a same t is =
      let r = is.reads in
      let reading : IsEndReading (searched_on on back).network (searched_on on back).cells end.Head v is.x is.y t =
      record {
        source = r.source;
        number = r.number;
        head = r.head;
        arc = subst (λ (n : Network). IsArc n r.source r.number r.head) (goes.network w v same) r.arc;
        reads = goes.reads w v r.source r.number is.x is.y a same r.reads;
        at = r.at;
      } in
      record {
        x = is.x;
        y = is.y;
        changed = subst (λ (m : CellMap). cost_at now is.x is.y ≢ cost_at m is.x is.y) (alike.map w v a) is.changed;
        reads = reading;
      }

  module _ (w v : W) (a : Alike w v) where
    -- what plans leave to the next one: labels of all states, the
    -- start's with no back arc, and a map that gives one graph
    pub record IsCarried (b : Carried) : Type 0 where
      pub made : on.cells.is_made (on.cells.over w b.map)
      pub states : states_of b.labels ≡ (on.reporting.told (on.cells.over w b.map)).states
      pub no_arc : back_of b.labels b.labels.start ≡ None
      pub graph : on.reporting.told (on.cells.over w b.map) ≡ on.reporting.told (on.cells.over v b.map)

    -- what is left to plans of a change file, the first of which comes after none, and each later one after changes
    abbrev pub AreCarried : Before → Type 0
    AreCarried NoPlan = Unit {0}
    AreCarried (Changed b) = IsCarried b
    AreCarried (Unchanged b) = ⊥

    module _ (initial : InitialLabelsAreOne) where
      initial_begun : (m : CellMap) (start : ℕ) (x y : Marks) (xs ys : List ℕ)
          → on.reporting.told (on.cells.over w m) ≡ on.reporting.told (on.cells.over v m)
          → AreInitial x (on.reporting.told (on.cells.over w m)).states start × (xs ≡ [])
          → AreInitial y (on.reporting.told (on.cells.over v m)).states start × (ys ≡ [])
          → AreBegun (on.reporting.told (on.cells.over w m)).states x y xs ys
      initial_begun m start x y xs ys same p q =
          let own : AreInitial y (on.reporting.told (on.cells.over w m)).states start =
          subst (λ (n : Network). AreInitial y n.states start) (sym same) q.0 in
          record {
            same = initial x y _ start p.0 own;
            raised = p.1 ∙ sym q.1;
            states = p.0.states;
            no_arc = p.0.no_arc x.start;
          }

      module _ {Action : Type 0} (means : Meaning Action) (law : AreBeginningsDetermined means) (back : Bool)
          (goes : GoesAlike on Alike back) where
        abbrev over : Site W
        over = searched_on on back

        with_begun : (m : CellMap) (left : Carried) (x y : Marks) (xs ys : List ℕ)
            → on.cells.is_made (on.cells.over w m)
            → on.reporting.told (on.cells.over w m) ≡ on.reporting.told (on.cells.over v m) → IsCarried left
            → BeginsWith means over.network over.cells (on.cells.over (on.cells.over w m) left.map)
            (on.cells.over w m) left.labels x xs
            → BeginsWith means over.network over.cells (on.cells.over (on.cells.over v m) left.map)
            (on.cells.over v m) left.labels y ys
            → AreBegun (on.reporting.told (on.cells.over w m)).states x y xs ys
        with_begun m left x y xs ys made same carried p q =
            let here : W = on.cells.over w m in
            let there : W = on.cells.over v m in
            let n : Network = over.network here in
            let own : means.begun n q.touched left.labels y ys =
            subst (λ (k : Network). means.begun k q.touched left.labels y ys)
            (sym (goes.network here there same)) q.begun in
            let old : Alike (on.cells.over here left.map) (on.cells.over there left.map) =
            alike.over here there left.map (alike.over w v m a) in
            let graph : on.reporting.told (on.cells.over here left.map) ≡ on.reporting.told (on.cells.over there left.map) =
            subst (λ (u : W). on.reporting.told u ≡ on.reporting.told (on.cells.over there left.map)) (sym (alike.again w m left.map))
            (subst (λ (u : W). on.reporting.told (on.cells.over w left.map) ≡ on.reporting.told u)
            (sym (alike.again v m left.map)) carried.graph)
            in
            let maps : on.cells.map here ≡ on.cells.map there = alike.map here there (alike.over w v m a) in
            let both : means.repairs ≡ true → (t : ℕ) → Contains p.touched t ↔ Contains q.touched t = λ repairs t. (
              λ among. (q.are_touched repairs t).1 (subst
                  (λ (l : CellMap). IsAffected over.network over.cells end.Head (on.cells.over there left.map) l t) maps
                  (touched_on back goes (on.cells.over here left.map) (on.cells.over there left.map) (on.cells.map here)
                  old graph t ((p.are_touched repairs t).0 among))),
              λ among. (p.are_touched repairs t).1 (subst (λ (l : CellMap).
                  IsAffected over.network over.cells end.Head (on.cells.over here left.map) l t) (sym maps)
                  (touched_on back goes (on.cells.over there left.map) (on.cells.over here left.map)
                  (on.cells.map there) (alike.back _ _ old) (sym graph) t ((q.are_touched repairs t).0 among))),
            ) in
            let all : states_of left.labels ≡ n.states =
            carried.states ∙ alike.sized w left.map m carried.made made ∙ sym (goes.states here) in
            record {
              same = (law.one n p.touched q.touched left.labels x y xs ys both p.begun own).0;
              raised = (law.one n p.touched q.touched left.labels x y xs ys both p.begun own).1;
              states = law.states n p.touched left.labels x xs all p.begun ∙ goes.states here;
              no_arc = law.no_arc n p.touched left.labels x xs carried.no_arc p.begun;
            }

        pub one_begun : (m : CellMap) (from : ℕ) (before : Before) (x y : Marks) (xs ys : List ℕ)
            → on.cells.is_made (on.cells.over w m) → on.reporting.told (on.cells.over w m) ≡ on.reporting.told (on.cells.over v m)
            → AreCarried before → Begins means over (on.cells.over w m) from before x xs
            → Begins means over (on.cells.over v m) from before y ys
            → AreBegun (on.reporting.told (on.cells.over w m)).states x y xs ys
        one_begun m from NoPlan x y xs ys made same carried p q =
            let count : (w : W) → (over.network w).states ≡ (on.reporting.told w).states = goes.states in
            initial_begun m from x y xs ys same
            (subst (λ (k : ℕ). AreInitial x k from) (count (on.cells.over w m)) p.0, p.1)
            (subst (λ (k : ℕ). AreInitial y k from) (count (on.cells.over v m)) q.0, q.1)
        one_begun m from (Changed left) x y xs ys made same carried p q = with_begun m left x y xs ys made same carried p q
        one_begun m from (Unchanged left) x y xs ys made same carried p q = absurd carried
