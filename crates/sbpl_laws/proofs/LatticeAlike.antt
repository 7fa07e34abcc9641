-- Lattices that files cannot tell apart.
use Rattle.std.proofs.Common.{◌≡◌, ℕ, zero, suc, ℤ, pos, ◌+◌, ◌<◌, ◌≤◌, ◌==◌, max, min, Bool, true, cond, inl, inr, refl}
use Rattle.std.proofs.Common.{sym, ap, subst, ◌∙◌, arith, List, [], ◌∷◌, take, count_by, slice_get, Option, Some, None}
use Rattle.std.proofs.lemmas.Bool.{eq-eqb}
use Rattle.std.proofs.lemmas.List.Sums.{sum_by-cons}
use Rattle.std.proofs.lemmas.Option.{same_Some}
use Rattle.sbpl_promises.specs.sbpl_graph.Network.{Network}
use Rattle.sbpl_promises.specs.sbpl_cfg.declared.pose.Pose.{Pose}
use Rattle.sbpl_promises.specs.sbpl_cfg.declared.pose.Place.{Place}
use Rattle.sbpl_promises.specs.sbpl_cfg.Environment.{Environment, IsPlaceOf}
use Rattle.sbpl_promises.specs.sbpl_mprim.Primitives.{Primitives}
use Rattle.sbpl_promises.specs.sbpl_mprim.declared.prim.Primitive.{Primitive}
use Rattle.sbpl_promises.specs.sbpl_sweep.Swept.{Swept}
use Rattle.sbpl_promises.specs.sbpl_map.CellMap.{CellMap}
use Rattle.sbpl_promises.specs.sbpl_cost.Arc.{IsArcBy}
use Rattle.sbpl_promises.specs.sbpl_cost.Alike.{AlikeWorldsAreOneGraph}
use Rattle.sbpl_promises.specs.sbpl_cost.Lattices.{network_of, states_are}
use Rattle.sbpl_promises.specs.sbpl_cost.Reads.{ReadsCell}
use Rattle.sbpl_promises.specs.sbpl_cost.States.{place_of, state_count, state_number}
use Rattle.sbpl_promises.specs.sbpl_cost.World.{World, over_map}
use Rattle.sbpl_promises.specs.sbpl_heur.Bests.{IsBest, cell_of}
use Rattle.sbpl_promises.specs.sbpl_heur.Walks.{IsCellBound, IsCellWeight}
use Rattle.sbpl_promises.specs.Determined.{AreAlikeWorlds}
use Rattle.sbpl_promises.specs.LatticeSite.{IsPathStep, IsStateOf, lattice_site}
use Rattle.sbpl_promises.specs.sbpl_report.declared.record.PathStep.{PathStep}
use Rattle.sbpl_promises.specs.sbpl_report.declared.record.ReportPose.TheVariants as report_pose
use Rattle.sbpl_laws.proofs.AlikeSites.{AreAlike}

-- a world of these parts
abbrev pub made : Environment → Primitives → Swept → CellMap → World
made e ps sweeps m = record { env = e; prims = ps; sweeps = sweeps; map = m }

-- the weight of a cell is determined
one_weight : (e : Environment) (ps : List Primitive) (m : CellMap) (goal a b c : ℕ) → IsCellWeight e ps m goal a b
    → IsCellWeight e ps m goal a c → b ≡ c
one_weight e ps m goal a b c (inl x) (inl y) =
    let up : b ≤ c = x.least y.cells c y.walk in
    let down : c ≤ b = y.least x.cells b x.walk in
    omega arith
one_weight e ps m goal a b c (inl x) (inr y) = absurd (y.0 x.cells b x.walk)
one_weight e ps m goal a b c (inr x) (inl y) = absurd (x.0 y.cells c y.walk)
one_weight e ps m goal a b c (inr x) (inr y) =
    let up : b ≤ c = y.1.greatest x.1.cell b x.1.inside x.1.attained in
    let down : c ≤ b = x.1.greatest y.1.cell c y.1.inside y.1.attained in
    omega arith

-- the lesser of a number and a constant is determined
one_lesser : (most b c v w : ℕ) → b ≡ min v most → c ≡ min w most → v ≡ w → b ≡ c
one_lesser most b c v w x y same = x ∙ ap (λ (n : ℕ). min n most) same ∙ sym y

-- so the cell bound is
one_cell_bound : (e : Environment) (ps : List Primitive) (m : CellMap) (goal a b c : ℕ) → IsCellBound e ps m goal a b
    → IsCellBound e ps m goal a c → b ≡ c
one_cell_bound e ps m goal a b c x y =
    one_lesser _ b c x.weight y.weight x.lesser y.lesser (one_weight e ps m goal a x.weight y.weight x.weighs y.weighs)

one_best : (e : Environment) (ps : Primitives) (sweeps others : Swept) (m : CellMap) (goal : ℕ) (h h' : ℕ → ℕ)
    → network_of (made e ps sweeps m) ≡ network_of (made e ps others m) → IsBest (made e ps sweeps m) goal h
    → IsBest (made e ps others m) goal h'
    → (s : ℕ) → s < state_count e → h s ≡ h' s
one_best e ps sweeps others m goal h h' same x y s inside =
    let bounds : x.bound s ≡ y.bound s =
    one_cell_bound e ps.items m (cell_of e goal) (cell_of e s) (x.bound s) (y.bound s)
    (x.bounds s inside) (y.bounds s inside) in
    let gaps : (network_of (made e ps sweeps m)).gap s goal ≡ (network_of (made e ps others m)).gap s goal =
    ap (λ (n : Network). n.gap s goal) same in
    let values : max (x.bound s) ((network_of (made e ps sweeps m)).gap s goal)
    ≡ max (y.bound s) ((network_of (made e ps others m)).gap s goal) = λ i. max (bounds i) (gaps i) in
    x.values s inside ∙ values ∙ sym (y.values s inside)

-- the best heuristic of a world is that of a world with the same environment, primitives, map and graph
best_moved : (v w : World) (goal : ℕ) (h : ℕ → ℕ) → v.env ≡ w.env → v.prims ≡ w.prims → v.map ≡ w.map
    → network_of v ≡ network_of w → IsBest v goal h → IsBest w goal h
best_moved v w goal h env prims map same x = record {
  bound = x.bound;
  bounds = λ s inside.
      subst (λ (m : CellMap). IsCellBound w.env w.prims.items m (cell_of w.env goal) (cell_of w.env s) (x.bound s)) map
      (subst (λ (ps : Primitives).
      IsCellBound w.env ps.items v.map (cell_of w.env goal) (cell_of w.env s) (x.bound s)) prims
      (subst (λ (e : Environment). IsCellBound e v.prims.items v.map (cell_of e goal) (cell_of e s) (x.bound s)) env
      (x.bounds s (in_v s inside))));
  values = λ s inside. x.values s (in_v s inside) ∙ ap (λ (n : Network). max (x.bound s) (n.gap s goal)) same;
}
  where
    in_v : (s : ℕ) → s < state_count w.env → s < state_count v.env
    in_v s inside = subst (λ (e : Environment). s < state_count e) (sym env) inside

-- ---- poses and steps

place_by : (x y t u v w : ℕ) → x ≡ u → y ≡ v → t ≡ w
    → ◌≡◌ {A = Place} (record { x = x; y = y; t = t }) (record { x = u; y = v; t = w })
place_by x y t u v w a b c = cc

-- the state of a pose is determined
pub one_state : (e : Environment) (p : Pose) (s t : ℕ) → IsStateOf e p s → IsStateOf e p t → s ≡ t
one_state e p s t a b =
    a.number ∙ ap (λ (q : Place). state_number e q) (one_place a.place b.place a.of_pose b.of_pose) ∙ sym b.number
  where
    one_place : (q r : Place) → IsPlaceOf e p q → IsPlaceOf e p r → q ≡ r
    one_place q r i j =
        let x : q.x ≡ r.x = (let both : pos q.x ≡ pos r.x = i.x ∙ sym j.x in cc) in
        let y : q.y ≡ r.y = (let both : pos q.y ≡ pos r.y = i.y ∙ sym j.y in cc) in
        place_by q.x q.y q.t r.x r.y r.t x y (i.t ∙ sym j.t)

-- an alike world is the one with its own table of sweeps
is_made_of : (w v : World) → AreAlikeWorlds w v → made w.env w.prims v.sweeps w.map ≡ v
is_made_of w v a =
    let env = a.env in
    let prims = a.prims in
    let map = a.map in
    λ i. record { env = (sym env) i; prims = (sym prims) i; sweeps = v.sweeps; map = (sym map) i }

-- one more element in front counts where it passes
counted_first : {X : Type 0} (f : X → Bool) (x : X) (l : List X) → count_by f (x ∷ l) ≡ cond (f x) 1 0 + count_by f l
counted_first f x l = sum_by-cons (λ y. cond (f y) 1 0) x l

-- an element that passes is counted, so no number before it is that of none
first_counted : {X : Type 0} (f : X → Bool) (x : X) (l : List X) → f x ≡ true → count_by f (x ∷ l) ≡ count_by f [] → ⊥
first_counted f x l passes same =
    let one : ◌≡◌ {A = ℕ} (cond (f x) 1 0) 1 = ap (λ (b : Bool). cond b 1 0) passes in
    let more : cond (f x) 1 0 + count_by f l ≡ count_by f [] = sym (counted_first f x l) ∙ same in
    let none : ◌≡◌ {A = ℕ} (count_by f []) 0 = refl in
    omega (arith, more, one, none)

-- among elements that pass a test, the one after a number of others is determined
one_at : {X : Type 0} (f : X → Bool) (l : List X) (i j : ℕ) (p q : X) → slice_get l i ≡ Some p → slice_get l j ≡ Some q
    → f p ≡ true → f q ≡ true
    → count_by f (take i l) ≡ count_by f (take j l) → p ≡ q
one_at {X} f [] i j p q at also this that same = absurd (let no : ◌≡◌ {A = Option X} None (Some p) = at in cc)
one_at f (x ∷ l) zero zero p q at also this that same = same_Some p q (sym at ∙ also)
one_at f (x ∷ l) zero (suc j) p q at also this that same =
    absurd (first_counted f x (take j l) (ap f (same_Some x p at) ∙ this) (sym same))
one_at f (x ∷ l) (suc i) zero p q at also this that same =
    absurd (first_counted f x (take i l) (ap f (same_Some x q also) ∙ that) same)
one_at f (x ∷ l) (suc i) (suc j) p q at also this that same =
    one_at f l i j p q at also this that
    (omega (arith, same, counted_first f x (take i l), counted_first f x (take j l)))

-- the motion that an arc is, is determined
one_motion : (w : World) (s k i j : ℕ) (p q : Primitive) → IsArcBy w s k i p → IsArcBy w s k j q → p ≡ q
one_motion w s k i j p q a b =
    let t : ℕ = (place_of w.env s).t in
    one_at (λ r. r.from == t) w.prims.items i j p q a.stands b.stands (eq-eqb p.from t a.heading)
    (eq-eqb q.from t b.heading) (a.number ∙ sym b.number)

one_step : (w : World) (s k t : ℕ) (x y : PathStep) → IsPathStep w s k t x → IsPathStep w s k t y → x ≡ y
one_step w s k t x y a b =
    let motion : a.primitive ≡ b.primitive = one_motion w s k a.index b.index a.primitive b.primitive a.by b.by in
    let id : x.id ≡ y.id = a.id ∙ ap (λ (p : Primitive). p.id) motion ∙ sym b.id in
    let report_pose : x.report_pose ≡ y.report_pose = a.report_pose ∙ sym b.report_pose in
    λ i. record { id = id i; report_pose = report_pose i }

-- a step in one of two worlds that differ in their tables of sweeps alone is one in the other
step_on : (w : World) (others : Swept) (s k t : ℕ) (x : PathStep)
    → IsPathStep (made w.env w.prims others w.map) s k t x → IsPathStep w s k t x
step_on w others s k t x a = record { index = a.index; primitive = a.primitive; by = a.by; id = a.id; report_pose = a.report_pose }

-- and a cell that is read in the one is read in the other
reads_on : (w : World) (others : Swept) (s k : ℕ) (x y : ℤ) → others.radius ≡ w.sweeps.radius → ReadsCell w s k x y
    → ReadsCell (made w.env w.prims others w.map) s k x y
reads_on w others s k x y radius r = record {
  index = r.index;
  prim = r.prim;
  by = r.by;
  dx = r.dx;
  dy = r.dy;
  column = r.column;
  row = r.row;
  read = rw radius r.read;
}

-- ---- all of it

pub lattices_alike : AlikeWorldsAreOneGraph → AreAlike lattice_site AreAlikeWorlds
lattices_alike one_graph = record {
  same = λ w. record { env = refl; prims = refl; map = refl; radius = refl };
  back = λ w v a. record { env = sym a.env; prims = sym a.prims; map = sym a.map; radius = sym a.radius };
  over = λ w v m a. record { env = a.env; prims = a.prims; map = refl; radius = a.radius };
  map = λ w v a. sym a.map;
  over_is = λ w m. refl;
  again = λ w l m. refl;
  made = λ w v m a is moved. record {
    env = is.env;
    prims = is.prims;
    map = moved.map;
    cell = is.cell;
    headings = is.headings;
    width = moved.width ∙ ap (λ (e : Environment). e.width) a.env;
    height = moved.height ∙ ap (λ (e : Environment). e.height) a.env;
    sweeps = is.sweeps;
    radius = is.radius;
    costs = is.costs;
  };
  cell_map = λ w m is. is.map;
  graph = λ w v a is also. sym (one_graph w v is also a.env a.prims a.map a.radius);
  sized = λ w l m is also. states_are (over_map w l) ∙ sym (states_are (over_map w m));
  reads = λ w v s k x y a r.
      subst (λ (u : World). ReadsCell u s k x y) (is_made_of w v a) (reads_on w v.sweeps s k x y a.radius r);
  says = λ w v goal h k a same x y s inside.
      let parts = is_made_of w v a in
      let own : IsBest (made w.env w.prims v.sweeps w.map) goal k =
      subst (λ (u : World). IsBest u goal k) (sym parts) y in
      let one : network_of w ≡ network_of (made w.env w.prims v.sweeps w.map) = same ∙ ap network_of (sym parts) in
      one_best w.env w.prims w.sweeps v.sweeps w.map goal h k one x own s
      (subst (λ (count : ℕ). s < count) (states_are w) inside);
  moved = λ w v goal h a same x. best_moved w v goal h (sym a.env) (sym a.prims) (sym a.map) same x;
  starts =
      λ w v s t a x y. one_state w.env w.env.start s t x (subst (λ (e : Environment). IsStateOf e e.start t) a.env y);
  ends = λ w v s t a x y. one_state w.env w.env.end s t x (subst (λ (e : Environment). IsStateOf e e.end t) a.env y);
  report_pose = λ w v s a. ap (λ (e : Environment). report_pose.Pose (place_of e s)) (sym a.env);
  step = λ w v s k t x y a b c. one_step w s k t x y b
      (step_on w v.sweeps s k t y (subst (λ (u : World). IsPathStep u s k t y) (sym (is_made_of w v a)) c));
  state = λ w v a. let env = sym a.env in λ i place. state_number (env i) place;
}
