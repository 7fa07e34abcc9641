-- The tails of the lattice are its arcs, read from the other end.
use Rattle.std.proofs.Common.{◌≡◌, ℕ, ℤ, pos, ◌<◌, ◌≤◌, ◌==◌, ◌+ℤ◌, ◌-ℤ◌, List, length, take, count_by, slice_get}
use Rattle.std.proofs.Common.{Option, Some, None, option_and_then, refl, ap, sym, zero-add, ◌∙◌, arith, subst}
use Rattle.std.specs.Option.{option_map}
use Rattle.std.proofs.lemmas.Bool.{eqb-true, eq-eqb}
use Rattle.std.proofs.lemmas.Grind.{merely}
use Rattle.std.proofs.lemmas.Int.{ints}
use Rattle.std.proofs.lemmas.List.Sums.{count_by-le-length}
use Rattle.std.proofs.lemmas.Option.{none-some, same_Some, slice_get_within}
use Rattle.sbpl_terrain.specs.sbpl_graph.Network.{IsArc}
use Rattle.sbpl_terrain.specs.sbpl_graph.Laws.{IsTail, HasExactTails}
use Rattle.sbpl_sweep.specs.sbpl_cfg.declared.pose.Place.{Place}
use Rattle.sbpl_sweep.specs.sbpl_mprim.declared.prim.Primitive.{Primitive}
use Rattle.sbpl_cost.specs.States.{IsPlace, place_of, state_number, state_in, state_count}
use Rattle.sbpl_cost.specs.World.{World, IsWorld}
use Rattle.sbpl_cost.specs.Lattices.{leaving, entering, arc_index, arc_primitive, head_by, tail_by, network_of}
use Rattle.sbpl_cost.proofs.Numbered.{numbered, numbered_at, length-indices_from}
use Rattle.sbpl_cost.proofs.Heads.{state_in_some, state_in_at, ends_in}
use Rattle.sbpl_cost.proofs.PlaceLaws.{place_of_state, state_of_place_of, place_of_state_number}
use Rattle.sbpl_cost.proofs.LatticeLaws.{state_number_below}
use Rattle.sbpl_cost.proofs.Arcs.{IsFound, found}
use Rattle.sbpl_cost.proofs.ArcsRead.{made_of}

-- a tail of state t: the primitive that ends at its heading, and the place that it leads from
pub record IsTailBy (w : World) (t j s k : ℕ) : Type 0 where
  pub place : ℕ
  pub prim : Primitive
  pub source : Place
  pub table : slice_get (entering w.prims.items (place_of w.env t).t) j ≡ Some place
  pub stands : slice_get w.prims.items place ≡ Some prim
  pub ends : prim.to ≡ (place_of w.env t).t
  pub before : count_by (λ q. q.to == (place_of w.env t).t) (take place w.prims.items) ≡ j
  pub on_map : IsPlace w.env source
  pub column : pos (place_of w.env t).x ≡ pos source.x +ℤ prim.dx
  pub row : pos (place_of w.env t).y ≡ pos source.y +ℤ prim.dy
  pub heading : source.t ≡ prim.from
  pub state : s ≡ state_number w.env source
  pub number : k ≡ count_by (λ q. q.from == prim.from) (take place w.prims.items)

-- the parts of a pair that is there
pub pair_made : (o : Option ℕ) (n s k : ℕ) → ◌≡◌ {A = Option (ℕ × ℕ)} (option_map (λ r. (r, n)) o) (Some (s, k))
    → (o ≡ Some s) × (n ≡ k)
pair_made None n s k h = absurd (none-some (s, k) h)
pair_made (Some r) n s k h =
    let pair = same_Some {A = ℕ × ℕ} (r, n) (s, k) h in
    (ap (λ x. Some x) (ap (λ (p : ℕ × ℕ). p.0) pair), ap (λ (p : ℕ × ℕ). p.1) pair)

pub left_of : (a x d : ℤ) → x -ℤ d ≡ a → x ≡ a +ℤ d
left_of a x d h = omega (arith, ints, h)

pub right_of : (a x d : ℤ) → x ≡ a +ℤ d → x -ℤ d ≡ a
right_of a x d h = omega (arith, ints, h)

pub few_entering : (prims : List Primitive) (t : ℕ) → length (entering prims t) ≤ length prims
few_entering prims t =
    omega (arith, length-indices_from (λ p. p.to == t) 0 prims, count_by-le-length (λ p. p.to == t) prims)

module _ (w : World) (is_world : IsWorld w) where
  pub tail_is : (t j s k : ℕ) → (network_of w).tail t j ≡ Some (s, k) → IsTailBy w t j s k
  unfolding network_of tail_by
  tail_is t j s k h =
      let at =
      made_of (λ i. option_and_then (tail_by w t i) (slice_get w.prims.items i))
      (slice_get (entering w.prims.items (place_of w.env t).t) j) (s, k) h in
      let by = made_of (tail_by w t at.0) (slice_get w.prims.items at.0) (s, k) at.2 in
      let p = by.0 in
      let parts =
      pair_made (state_in w.env (pos (place_of w.env t).x -ℤ p.dx) (pos (place_of w.env t).y -ℤ p.dy) p.from)
      (count_by (λ q. q.from == p.from) (take at.0 w.prims.items)) s k by.2 in
      let source =
      state_in_some w.env (pos (place_of w.env t).x -ℤ p.dx) (pos (place_of w.env t).y -ℤ p.dy) p.from s parts.0 in
      let n = numbered (λ q. q.to == (place_of w.env t).t) 0 w.prims.items j at.0 at.1 in
      let same : n.at ≡ at.0 = omega (arith, n.number) in
      let item = same_Some n.item p (sym n.stands ∙ ap (λ i. slice_get w.prims.items i) same ∙ by.1) in
      record {
        place = at.0;
        prim = p;
        source = record { x = source.column; y = source.row; t = p.from };
        table = at.1;
        stands = by.1;
        ends = eqb-true p.to (place_of w.env t).t (ap (λ q. q.to == (place_of w.env t).t) (sym item) ∙ n.passes);
        before = ap (λ i. count_by (λ q. q.to == (place_of w.env t).t) (take i w.prims.items)) (sym same) ∙ n.before;
        on_map = record {
          x = source.right;
          y = source.high;
          t = omega (arith, is_world.headings, (is_world.prims.each at.0 p by.1).from);
        };
        column = left_of (pos source.column) (pos (place_of w.env t).x) p.dx source.x_is;
        row = left_of (pos source.row) (pos (place_of w.env t).y) p.dy source.y_is;
        heading = refl;
        state = source.number;
        number = sym parts.1;
      }

  -- the place of the state that a tail comes from
  source_is : (t j s k : ℕ) (tail : IsTailBy w t j s k) → place_of w.env s ≡ tail.source
  source_is t j s k tail =
      ap (place_of w.env) tail.state ∙ place_of_state_number w.env is_world.env tail.source tail.on_map

  -- a tail is in the table of its source's heading
  tail_place : (t j s k : ℕ) (tail : IsTailBy w t j s k) → arc_index w s k ≡ Some tail.place
  tail_place t j s k tail =
      let from = ap (λ (q : Place). q.t) (source_is t j s k tail) ∙ tail.heading in
      ap (λ h. slice_get (leaving w.prims.items h) k) from
      ∙ ap (λ n. slice_get (leaving w.prims.items tail.prim.from) n) tail.number
      ∙ numbered_at (λ q. q.from == tail.prim.from) 0 w.prims.items tail.place tail.prim tail.stands
      (eq-eqb tail.prim.from tail.prim.from refl) ∙ ap (λ n. Some n) (zero-add tail.place)

  tail_head : (t j s k : ℕ) → t < state_count w.env → (tail : IsTailBy w t j s k) → head_by w s tail.prim ≡ Some t
  unfolding head_by
  tail_head t j s k state tail =
      let there = place_of_state w.env is_world.env t state in
      let same = source_is t j s k tail in
      let column = ap (λ (q : Place). pos q.x +ℤ tail.prim.dx) same ∙ sym tail.column in
      let row = ap (λ (q : Place). pos q.y +ℤ tail.prim.dy) same ∙ sym tail.row in
      state_in_at w.env _ _ tail.prim.to (place_of w.env t).x (place_of w.env t).y column row there.x there.y
      ∙ ap (λ h. Some (state_number w.env (record { x = (place_of w.env t).x; y = (place_of w.env t).y; t = h })))
      tail.ends ∙ ap (λ n. Some n) (state_of_place_of w.env is_world.env t)

  pub tail_is_arc : (t j s k : ℕ) → IsTail (network_of w) t j s k → IsArc (network_of w) s k t
  unfolding network_of
  tail_is_arc t j s k h =
      let tail = tail_is t j s k h.tail in
      let place = tail_place t j s k tail in
      record {
        source = omega (arith, state_number_below w.env tail.source tail.on_map, tail.state);
        number = slice_get_within (leaving w.prims.items (place_of w.env s).t) k tail.place place;
        head =
            ap (λ o. option_and_then (head_by w s) (option_and_then (slice_get w.prims.items) o)) place
            ∙ ap (λ o. option_and_then (head_by w s) o) tail.stands ∙ tail_head t j s k h.target tail;
      }

  pub tail_of_arc : (t s k : ℕ) → IsArc (network_of w) s k t → (j : ℕ) × IsTail (network_of w) t j s k
  unfolding network_of tail_by
  tail_of_arc t s k h =
      let f = found w s k is_world h.number in
      let i = f.0 in
      let p = f.1 in
      let head_is : option_and_then (head_by w s) (arc_primitive w s k) ≡ head_by w s p =
      ap (λ o. option_and_then (head_by w s) o) f.2.primitive in
      let ends = ends_in w is_world s p f.2.good t (sym head_is ∙ h.head) in
      let place = ap (place_of w.env) ends.number ∙ place_of_state_number w.env is_world.env ends.place ends.on_map in
      let to = sym (ap (λ (q : Place). q.t) place ∙ ends.heading) in
      let table =
      numbered_at (λ q. q.to == (place_of w.env t).t) 0 w.prims.items i p f.2.by.stands
      (eq-eqb p.to (place_of w.env t).t to) ∙ ap (λ n. Some n) (zero-add i) in
      let there = place_of_state w.env is_world.env s h.source in
      let column =
      right_of (pos (place_of w.env s).x) (pos (place_of w.env t).x) p.dx
      (ap (λ (q : Place). pos q.x) place ∙ ends.column) in
      let row =
      right_of (pos (place_of w.env s).y) (pos (place_of w.env t).y) p.dy
      (ap (λ (q : Place). pos q.y) place ∙ ends.row) in
      let source =
      state_in_at w.env (pos (place_of w.env t).x -ℤ p.dx) (pos (place_of w.env t).y -ℤ p.dy) p.from
      (place_of w.env s).x (place_of w.env s).y column row there.x there.y
      ∙ ap (λ n. Some (state_number w.env (record { x = (place_of w.env s).x; y = (place_of w.env s).y; t = n })))
      f.2.by.heading ∙ ap (λ n. Some n) (state_of_place_of w.env is_world.env s) in
      let number = ap (λ n. count_by (λ q. q.from == n) (take i w.prims.items)) f.2.by.heading ∙ f.2.by.number in
      let pair : ℕ → Option (ℕ × ℕ) = λ n. Some (s, n) in (
        count_by (λ q. q.to == (place_of w.env t).t) (take i w.prims.items),
        record {
          target = omega (arith, state_number_below w.env ends.place ends.on_map, ends.number);
          number =
              slice_get_within (entering w.prims.items (place_of w.env t).t)
              (count_by (λ q. q.to == (place_of w.env t).t) (take i w.prims.items)) i table;
          tail =
              ap (λ o. option_and_then (λ n. option_and_then (tail_by w t n) (slice_get w.prims.items n)) o) table
              ∙ ap (λ o. option_and_then (tail_by w t i) o) f.2.by.stands
              ∙ ap (λ o. option_map (λ r. (r, count_by (λ q. q.from == p.from) (take i w.prims.items))) o) source
              ∙ ap pair number;
        },
      )

  -- an arc by the primitive at an index of the file is the tail with
  -- the number of this primitive among those that end at its heading
  pub arc_as_tail : (s k t i j : ℕ) (p : Primitive) → IsFound w s k i p → IsArc (network_of w) s k t
      → j ≡ count_by (λ q. q.to == p.to) (take i w.prims.items) → IsTail (network_of w) t j s k
  arc_as_tail s k t i j p f arc is =
      let at = tail_of_arc t s k arc in
      let tail = tail_is t at.0 s k at.1.tail in
      let same : tail.place ≡ i = same_Some tail.place i (sym (tail_place t at.0 s k tail) ∙ f.at) in
      let item : tail.prim ≡ p =
      same_Some tail.prim p (sym tail.stands ∙ ap (slice_get w.prims.items) same ∙ f.by.stands) in
      let to : (place_of w.env t).t ≡ p.to = sym tail.ends ∙ ap (λ (q : Primitive). q.to) item in
      let number =
      sym tail.before ∙ ap (λ n. count_by (λ q. q.to == (place_of w.env t).t) (take n w.prims.items)) same
      ∙ ap (λ h. count_by (λ q. q.to == h) (take i w.prims.items)) to in
      subst (λ j. IsTail (network_of w) t j s k) (number ∙ sym is) at.1

  pub tails_differ : (t i j s k : ℕ) → IsTail (network_of w) t i s k → IsTail (network_of w) t j s k → i ≡ j
  tails_differ t i j s k first second =
      let a = tail_is t i s k first.tail in
      let b = tail_is t j s k second.tail in
      let same = same_Some a.place b.place (sym (tail_place t i s k a) ∙ tail_place t j s k b) in
      sym a.before ∙ ap (λ n. count_by (λ q. q.to == (place_of w.env t).t) (take n w.prims.items)) same ∙ b.before

  pub exact_tails : HasExactTails (network_of w)
  unfolding network_of
  exact_tails = record {
    few_tails = λ t _. omega (arith, few_entering w.prims.items (place_of w.env t).t, is_world.prims.count);
    tails_are_arcs = tail_is_arc;
    arcs_are_tails = λ t s k arc. merely (tail_of_arc t s k arc);
    tails_differ = tails_differ;
  }
