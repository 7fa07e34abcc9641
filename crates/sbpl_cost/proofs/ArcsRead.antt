-- The states at an end of the arcs that read a cell, by the table of reads.
use Rattle.std.proofs.Common.{◌≡◌, ℕ, zero, suc, ℤ, pos, negsuc, ◌+◌, ◌<◌, ◌≤◌, ◌==◌, ◌&&◌, ◌+ℤ◌, ◌-ℤ◌, ◌++◌, ◌∷◌, []}
use Rattle.std.proofs.Common.{◌⊎◌, inl, inr, List, length, take, count_by, slice_get, Option, Some, None}
use Rattle.std.proofs.Common.{option_and_then, option_map, nat_lt, refl, ap, sym, zero-add, ◌∙◌, arith, subst}
use Rattle.std.specs.List.{filter_map, cons_option}
use Rattle.std.proofs.lemmas.Bool.{and_parts, ltb-true, eq-eqb}
use Rattle.std.proofs.lemmas.Int.{ints}
use Rattle.std.proofs.lemmas.List.{append_assoc}
use Rattle.std.proofs.lemmas.List.Elements.{filter_map-append}
use Rattle.std.proofs.lemmas.Option.{cond_some, none-some, same_Some, slice_get_within}
use Rattle.sbpl_terrain.specs.sbpl_graph.Network.{IsArc}
use Rattle.sbpl_sweep.specs.sbpl_cfg.declared.pose.Place.{Place}
use Rattle.sbpl_sweep.specs.sbpl_cfg.Environment.{Environment, IsWithin}
use Rattle.sbpl_sweep.specs.sbpl_mprim.declared.prim.Primitive.{Primitive}
use Rattle.sbpl_sweep.specs.sbpl_mprim.Primitives.{IsPrimitive}
use Rattle.sbpl_sweep.specs.declared.reads.Read.{Read}
use Rattle.sbpl_sweep.specs.Reads.{IsRead}
use Rattle.sbpl_sweep.specs.Reads.IsRead.{at_source, at_target, at_centre, at_swept}
use Rattle.sbpl_cost.specs.States.{IsPlace, place_of, state_number, state_count, place_on_map}
use Rattle.sbpl_cost.specs.World.{World, IsWorld}
use Rattle.sbpl_cost.specs.Arc.{IsArcBy}
use Rattle.sbpl_cost.specs.Lattices.{leaving, arc_index, head_by, network_of}
use Rattle.sbpl_terrain.specs.Ends.{at_end}
use Rattle.sbpl_terrain.specs.Reading.{IsEndReading}
use Rattle.sbpl_cost.specs.Cells.{lattice_cells}
use Rattle.sbpl_cost.specs.Reading.{AddsFewEnds, end_of, ends_by_offset, ends_from}
use Rattle.sbpl_cost.specs.Reading.{ends_of_read, end_of_read, AreReadable}
use Rattle.sbpl_terrain.specs.declared.arc_end.ArcEnd.{ArcEnd}
use Rattle.sbpl_terrain.specs.declared.arc_end.ArcEnd.TheVariants as end
use Rattle.sbpl_cost.proofs.Numbered.{numbered_at}
use Rattle.sbpl_cost.proofs.Filling.{take_next}
use Rattle.sbpl_cost.proofs.PlaceLaws.{place_of_state, place_of_state_number, state_of_place_of}
use Rattle.sbpl_cost.proofs.LatticeLaws.{sound, state_number_below}
use Rattle.sbpl_cost.proofs.Arcs.{IsFound}
use Rattle.sbpl_cost.proofs.Offsets.{swept_within}
use Rattle.sbpl_cost.proofs.Plane.{place_at}

-- ---- what a function gives of the elements of a list

consed_from : {Y : Type 0} (o : Option Y) (ys : List Y) (i : ℕ) (y : Y) → slice_get (cons_option o ys) i ≡ Some y
    → (o ≡ Some y) ⊎ ((j : ℕ) × (slice_get ys j ≡ Some y))
consed_from None ys i y at = inr (i, at)
consed_from (Some z) ys zero y at = inl at
consed_from (Some z) ys (suc i) y at = inr (i, at)

consed_first : {Y : Type 0} (o : Option Y) (ys : List Y) (y : Y) → o ≡ Some y
    → (i : ℕ) × (slice_get (cons_option o ys) i ≡ Some y)
consed_first None ys y h = absurd (none-some y h)
consed_first (Some z) ys y h = (0, h)

consed_later : {Y : Type 0} (o : Option Y) (ys : List Y) (j : ℕ) (y : Y) → slice_get ys j ≡ Some y
    → (i : ℕ) × (slice_get (cons_option o ys) i ≡ Some y)
consed_later None ys j y at = (j, at)
consed_later (Some z) ys j y at = (suc j, at)

-- each answer is that to an element, and each element's answer is there
pub filtered_from : {X Y : Type 0} (f : X → Option Y) (xs : List X) (i : ℕ) (y : Y)
    → slice_get (filter_map f xs) i ≡ Some y → (j : ℕ) × ((x : X) × (slice_get xs j ≡ Some x) × (f x ≡ Some y))
filtered_from f [] i y at = absurd (none-some y at)
filtered_from f (x ∷ xs) i y at = elim (consed_from (f x) (filter_map f xs) i y at) [
  | inl here ↦ (0, (x, refl, here))
  | inr later ↦ let from = filtered_from f xs later.0 y later.1 in (suc from.0, from.1)
]

pub filtered_at : {X Y : Type 0} (f : X → Option Y) (xs : List X) (j : ℕ) (x : X) (y : Y) → slice_get xs j ≡ Some x
    → f x ≡ Some y → (i : ℕ) × (slice_get (filter_map f xs) i ≡ Some y)
filtered_at f [] j x y at h = absurd (none-some x at)
filtered_at f (z ∷ xs) zero x y at h = consed_first (f z) (filter_map f xs) y (ap f (same_Some z x at) ∙ h)
filtered_at f (z ∷ xs) (suc j) x y at h =
    let later = filtered_at f xs j x y at h in consed_later (f z) (filter_map f xs) later.0 y later.1

-- there are no more answers than elements
consed_few : {Y : Type 0} (o : Option Y) (ys : List Y) (n : ℕ) → length ys ≤ n → length (cons_option o ys) ≤ n + 1
consed_few None ys n few = omega (arith, few)
consed_few (Some y) ys n few = omega (arith, few)

pub filtered_few : {X Y : Type 0} (f : X → Option Y) (xs : List X) → length (filter_map f xs) ≤ length xs
filtered_few f [] = omega arith
filtered_few f (x ∷ xs) = omega (arith, consed_few (f x) (filter_map f xs) (length xs) (filtered_few f xs))

-- the answer to one more element
pub filtered_more : {X Y : Type 0} (f : X → Option Y) (xs : List X) (old mid new : List Y) (j : ℕ) (x : X)
    (o : Option Y) → slice_get xs j ≡ Some x → mid ≡ old ++ filter_map f (take j xs)
    → new ≡ mid ++ cons_option o [] → o ≡ f x
    → new ≡ old ++ filter_map f (take (j + 1) xs)
filtered_more f xs old mid new j x o at so_far added is =
    added ∙ ap (λ l. l ++ cons_option o []) so_far ∙ ap (λ z. (old ++ filter_map f (take j xs)) ++ cons_option z []) is
    ∙ append_assoc old (filter_map f (take j xs)) (cons_option (f x) [])
    ∙ ap (λ l. old ++ l) (sym (filter_map-append f (take j xs) (x ∷ [])))
    ∙ ap (λ l. old ++ filter_map f l) (sym (take_next xs j x at))

-- ---- places on the map

pub record IsOnMapAt (e : Environment) (x y : ℤ) (t : ℕ) (q : Place) : Type 0 where
  pub column : x ≡ pos q.x
  pub row : y ≡ pos q.y
  pub heading : q.t ≡ t
  pub right : q.x < e.width
  pub high : q.y < e.height

pub place_some : (e : Environment) (x y : ℤ) (t : ℕ) (q : Place) → place_on_map e x y t ≡ Some q → IsOnMapAt e x y t q
place_some e (pos a) (pos b) t q h =
    let here : Place = record { x = a; y = b; t = t } in
    let parts = cond_some (nat_lt a e.width && nat_lt b e.height) here q h in
    let inside = and_parts (nat_lt a e.width) (nat_lt b e.height) parts.0 in
    let P : Place → Type 0 = λ p. IsOnMapAt e (pos a) (pos b) t p in
    subst P parts.1 (record {
      column = refl;
      row = refl;
      heading = refl;
      right = ltb-true a e.width inside.0;
      high = ltb-true b e.height inside.1;
    })
place_some e (pos a) (negsuc b) t q h = absurd (none-some q h)
place_some e (negsuc a) y t q h = absurd (none-some q h)

-- ---- arcs

pub made_of : {A B : Type 0} (f : A → Option B) (o : Option A) (y : B) → option_and_then f o ≡ Some y
    → (x : A) × (o ≡ Some x) × (f x ≡ Some y)
made_of f None y h = absurd (none-some y h)
made_of f (Some x) y h = (x, refl, h)

back_by : (x d a : ℤ) → x -ℤ d ≡ a → a +ℤ d ≡ x
back_by x d a h = omega (arith, ints, h)

away_by : (x d a : ℤ) → a +ℤ d ≡ x → x -ℤ d ≡ a
away_by x d a h = omega (arith, ints, h)

-- what a function gives of the one or the other of what an option has
mapped : {A B : Type 0} (f : A → B) (o : Option A) (y : B) → option_map f o ≡ Some y
    → (x : A) × (o ≡ Some x) × (f x ≡ y)
mapped f None y h = absurd (none-some y h)
mapped f (Some x) y h = (x, refl, same_Some (f x) y h)

-- the answer to a read, by its primitive, its source and its head
pub no_source : (end : ArcEnd) (e : Environment) (prims : List Primitive) (x y : ℤ) (r : Read) (p : Primitive)
    → slice_get prims r.prim ≡ Some p
    → None ≡ place_on_map e (x -ℤ r.cell.x) (y -ℤ r.cell.y) p.from → None ≡ end_of_read end e prims x y r
unfolding ends_of_read
no_source end e prims x y r p at source =
    ap (λ z. option_map (at_end end) (option_and_then (ends_from e p) z)) source
    ∙ ap (λ z. option_map (at_end end) (option_and_then (ends_by_offset e x y r.cell.x r.cell.y) z)) (sym at)

module _ (end : ArcEnd) (e : Environment) (prims : List Primitive) (x y : ℤ) (r : Read) (p : Primitive) (q : Place)
    (at : slice_get prims r.prim ≡ Some p)
    (source : Some q ≡ place_on_map e (x -ℤ r.cell.x) (y -ℤ r.cell.y) p.from) where
  by_head : (o : Option ℕ) → end_of e p q ≡ o
      → option_map (at_end end) (option_map (λ (head : ℕ). (state_number e q, head)) o) ≡ end_of_read end e prims x y r
  unfolding ends_of_read
  by_head o head =
      ap (λ z. option_map (at_end end) (option_map (λ (head : ℕ). (state_number e q, head)) z)) (sym head)
      ∙ ap (λ z. option_map (at_end end) (option_and_then (ends_from e p) z)) source
      ∙ ap (λ z. option_map (at_end end) (option_and_then (ends_by_offset e x y r.cell.x r.cell.y) z)) (sym at)

  pub no_head : end_of e p q ≡ None → None ≡ end_of_read end e prims x y r
  no_head head = by_head None head

  pub ends_found : (t : ℕ) → end_of e p q ≡ Some t
      → Some (at_end end (state_number e q, t)) ≡ end_of_read end e prims x y r
  ends_found t head = by_head (Some t) head

module _ (w : World) (is_world : IsWorld w) where
  -- the motion of an arc is in the tables
  pub found_by_arc : (s k place : ℕ) (p : Primitive) → IsArcBy w s k place p → IsFound w s k place p
  found_by_arc s k place p by =
      let t = (place_of w.env s).t in
      let table =
      numbered_at (λ q. q.from == t) 0 w.prims.items place p by.stands (eq-eqb p.from t by.heading)
      ∙ ap (λ n. Some n) (zero-add place) in
      let at : arc_index w s k ≡ Some place = ap (λ n. slice_get (leaving w.prims.items t) n) (sym by.number) ∙ table in
      record {
        by = by;
        at = at;
        primitive = ap (λ o. option_and_then (slice_get w.prims.items) o) at ∙ by.stands;
        good = is_world.prims.each place p by.stands;
      }

  -- the cell of a read is not far off
  near_read : (p : Primitive) (x y : ℤ) → IsPrimitive w.prims.cell w.prims.headings p
      → IsRead w.prims.cell w.sweeps.radius p x y
      → IsWithin (negsuc 10000000000000) (pos 10000000000000) x
      × IsWithin (negsuc 10000000000000) (pos 10000000000000) y
  near_read p x y good (at_source column row) =
      ((omega (arith, ints, column), omega (arith, ints, column)), (omega (arith, ints, row), omega (arith, ints, row)))
  near_read p x y good (at_target column row) =
      let a = good.dx in
      let b = good.dy in (
        (omega (arith, ints, column, a.0), omega (arith, ints, column, a.1)),
        (omega (arith, ints, row, b.0), omega (arith, ints, row, b.1)),
      )
  near_read p x y good (at_centre lies) =
      swept_within w.prims.cell w.prims.cell w.prims.headings w.sweeps.radius p x y is_world.prims.cell good
      is_world.radius (inl lies)
  near_read p x y good (at_swept touched) =
      swept_within w.prims.cell w.prims.cell w.prims.headings w.sweeps.radius p x y is_world.prims.cell
      good is_world.radius touched

  pub readable : AreReadable w.prims.items w.sweeps.reads
  readable i r at =
      let read = is_world.sweeps.reads.each i r at in (
        slice_get_within w.prims.items r.prim read.0 read.1,
        near_read read.0 r.cell.x r.cell.y (is_world.prims.each r.prim read.0 read.1) read.2,
      )

  -- the arc by a primitive from a place
  arc_from : (i : ℕ) (p : Primitive) (source : Place) → slice_get w.prims.items i ≡ Some p
      → IsPlace w.env source → source.t ≡ p.from
      → IsFound w (state_number w.env source) (count_by (λ q. q.from == p.from) (take i w.prims.items)) i p
  arc_from i p source stands on_map heading =
      let there = place_of_state_number w.env is_world.env source on_map in
      let same : p.from ≡ (place_of w.env (state_number w.env source)).t =
      sym (ap (λ (q : Place). q.t) there ∙ heading) in
      found_by_arc (state_number w.env source) (count_by (λ q. q.from == p.from) (take i w.prims.items)) i p
      (record {
        stands = stands;
        heading = same;
        number = ap (λ h. count_by (λ q. q.from == h) (take i w.prims.items)) (sym same);
      })

  arc_head : (s k place t : ℕ) (p : Primitive) → IsFound w s k place p → end_of w.env p (place_of w.env s) ≡ Some t
      → (network_of w).head s k ≡ Some t
  unfolding network_of head_by
  arc_head s k place t p f h = ap (λ o. option_and_then (head_by w s) o) f.primitive ∙ h

  head_arc : (s k place t : ℕ) (p : Primitive) → IsFound w s k place p → (network_of w).head s k ≡ Some t
      → end_of w.env p (place_of w.env s) ≡ Some t
  unfolding network_of head_by
  head_arc s k place t p f h = sym (ap (λ o. option_and_then (head_by w s) o) f.primitive) ∙ h

  is_arc : (s k place t : ℕ) (p : Primitive) → s < state_count w.env → IsFound w s k place p
      → (network_of w).head s k ≡ Some t → IsArc (network_of w) s k t
  unfolding network_of
  is_arc s k place t p state f h = record {
    source = state;
    number = slice_get_within (leaving w.prims.items (place_of w.env s).t) k place f.at;
    head = h;
  }

  source_of : (s k t : ℕ) → IsArc (network_of w) s k t → s < state_count w.env
  unfolding network_of
  source_of s k t arc = arc.source

  -- what a read answers is the end of an arc that reads the cell
  pub answered : (end : ArcEnd) (j : ℕ) (r : Read) (x y : ℤ) (z : ℕ) → slice_get w.sweeps.reads j ≡ Some r
      → end_of_read end w.env w.prims.items x y r ≡ Some z → IsEndReading network_of lattice_cells end w x y z
  unfolding ends_of_read
  answered end j r x y z at h =
      let ends = mapped (at_end end) (ends_of_read w.env w.prims.items x y r) z h in
      let by = made_of (ends_by_offset w.env x y r.cell.x r.cell.y) (slice_get w.prims.items r.prim) ends.0 ends.1 in
      let p = by.0 in
      let from = made_of (ends_from w.env p) (place_on_map w.env (x -ℤ r.cell.x) (y -ℤ r.cell.y) p.from) ends.0 by.2 in
      let source = from.0 in
      let s = state_number w.env source in
      let to = mapped (λ (head : ℕ). (s, head)) (end_of w.env p source) ends.0 from.2 in
      let t = to.0 in
      let lies = place_some w.env (x -ℤ r.cell.x) (y -ℤ r.cell.y) p.from source from.1 in
      let good = is_world.prims.each r.prim p by.1 in
      let on_map : IsPlace w.env source =
      record { x = lies.right; y = lies.high; t = omega (arith, lies.heading, good.from, is_world.headings) } in
      let k = count_by (λ q. q.from == p.from) (take r.prim w.prims.items) in
      let f = arc_from r.prim p source by.1 on_map lies.heading in
      let there = place_of_state_number w.env is_world.env source on_map in
      let head = arc_head s k r.prim t p f (ap (end_of w.env p) there ∙ to.1) in
      let read = is_world.sweeps.reads.each j r at in
      let same = same_Some read.0 p (sym read.1 ∙ by.1) in
      record {
        source = s;
        number = k;
        head = t;
        arc = is_arc s k r.prim t p (state_number_below w.env source on_map) f head;
        reads = record {
          index = r.prim;
          prim = p;
          by = f.by;
          dx = r.cell.x;
          dy = r.cell.y;
          column = ap (λ (q : Place). pos q.x +ℤ r.cell.x) there ∙ back_by x r.cell.x (pos source.x) lies.column;
          row = ap (λ (q : Place). pos q.y +ℤ r.cell.y) there ∙ back_by y r.cell.y (pos source.y) lies.row;
          read =
              subst (λ c. IsRead c w.sweeps.radius p r.cell.x r.cell.y) is_world.cell
              (subst (λ q. IsRead w.prims.cell w.sweeps.radius q r.cell.x r.cell.y) same read.2);
        };
        at = sym (ap (at_end end) to.2 ∙ ends.2);
      }

  -- the end of an arc that reads the cell is what a read answers
  pub asked : (end : ArcEnd) (x y : ℤ) (z : ℕ) → IsEndReading network_of lattice_cells end w x y z → (j : ℕ)
      × ((r : Read) × (slice_get w.sweeps.reads j ≡ Some r) × (end_of_read end w.env w.prims.items x y r ≡ Some z))
  unfolding ends_of_read
  asked end x y z reading =
      let s = reading.source in
      let k = reading.number in
      let t = reading.head in
      let reads = reading.reads in
      let p = reads.prim in
      let r : Read = record { prim = reads.index; cell = record { y = reads.dy; x = reads.dx } } in
      let at =
      is_world.sweeps.reads.all reads.index p reads.dx reads.dy reads.by.stands
      (subst (λ c. IsRead c w.sweeps.radius p reads.dx reads.dy) (sym is_world.cell) reads.read) in
      let source = place_of w.env s in
      let state = source_of s k t reading.arc in
      let inside = place_of_state w.env is_world.env s state in
      let here =
      place_at w.env (x -ℤ reads.dx) (y -ℤ reads.dy) p.from source.x source.y (away_by x reads.dx (pos source.x)
      reads.column) (away_by y reads.dy (pos source.y) reads.row) inside.x inside.y in
      let head = head_arc s k reads.index t p (found_by_arc s k reads.index p reads.by) reading.arc.head in
      let place : place_on_map w.env (x -ℤ reads.dx) (y -ℤ reads.dy) p.from ≡ Some source =
      here ∙ ap (λ h. Some (record { x = source.x; y = source.y; t = h })) reads.by.heading in
      let ends = ends_found end w.env w.prims.items x y r p source reads.by.stands (sym place) t head in
      let number = state_of_place_of w.env is_world.env s in
      (at.0, (r, at.1, sym ends ∙ ap (λ n. Some (at_end end (n, t))) number ∙ ap (λ n. Some n) (sym reading.at)))

  -- the end of an arc is a state
  end_is_state : (end : ArcEnd) (s k t z : ℕ) → IsArc (network_of w) s k t → z ≡ at_end end (s, t)
      → z < (network_of w).states
  end_is_state end.Source s k t z arc is = subst (λ n. n < (network_of w).states) (sym is) arc.source
  end_is_state end.Head s k t z arc is =
      subst (λ n. n < (network_of w).states) (sym is)
      ((sound w is_world).head_is_state s k t arc.source arc.number arc.head)

  pub adds_ends : (end : ArcEnd) (x y : ℤ) (old new : List ℕ)
      → new ≡ old ++ filter_map (end_of_read end w.env w.prims.items x y) w.sweeps.reads → AddsFewEnds end w x y old new
  adds_ends end x y old new added =
      let f : Read → Option ℕ = end_of_read end w.env w.prims.items x y in
      let found : (i t : ℕ) → slice_get (filter_map f w.sweeps.reads) i ≡ Some t
      → IsEndReading network_of lattice_cells end w x y t = λ i t at.
      let from = filtered_from f w.sweeps.reads i t at in
      answered end from.0 from.1.0 x y t from.1.1 from.1.2 in
      record {
        adds = record {
          added = filter_map f w.sweeps.reads;
          kept = added;
          sound = found;
          complete = λ t reading.
              let from = asked end x y t reading in filtered_at f w.sweeps.reads from.0 from.1.0 t from.1.1 from.1.2;
          states = λ i t at. let reading = found i t at in
              end_is_state end reading.source reading.number reading.head t reading.arc reading.at;
        };
        few = filtered_few f w.sweeps.reads;
      }
