-- Ends of arcs are appended to a list, one kind of arcs after another.
use Rattle.std.proofs.Common.{◌≡◌, ◌≢◌, ℕ, ℤ, pos, ◌+◌, ◌*◌, ◌<◌, ◌≤◌, ◌+ℤ◌, ◌⊎◌, inl, inr, true, false, zero}
use Rattle.std.proofs.Common.{suc, List, [], ◌∷◌, ◌++◌, slice_get, Option, Some, None, IfSome, IfNone, refl, sym, ap}
use Rattle.std.proofs.Common.{◌∙◌, subst, append_assoc, append-nil, length-append, arith}
use Rattle.std.specs.List.{All, AllByRecursion, AllPairs, cons_option}
use Rattle.std.proofs.lemmas.Bool.{cases_lt}
use Rattle.std.proofs.lemmas.Int.{ints}
use Rattle.std.proofs.lemmas.List.Elements.{All-append, All-cons, All-nil}
use Rattle.std.proofs.lemmas.List.Kept.{AllPairs-cons}
use Rattle.std.proofs.lemmas.Option.{none-some, same_Some}
use Rattle.sbpl_terrain.specs.sbpl_graph.Network.{Network, IsArc}
use Rattle.sbpl_nav2d.specs.declared.cell.Cell.{Cell}
use Rattle.sbpl_nav2d.specs.Environment.{column_of, row_of}
use Rattle.sbpl_nav2d.specs.Directions.{direction, is_diagonal, by, moved, moved_back}
use Rattle.sbpl_nav2d.specs.World.{GridWorld, IsGridWorld}
use Rattle.sbpl_nav2d.specs.Arc.{cell_of, IsReadAt}
use Rattle.sbpl_nav2d.specs.Arc.IsReadAt.{at_source, at_end, beside_along_x, beside_along_y}
use Rattle.sbpl_nav2d.specs.Grids.{network_of, state_at}
use Rattle.sbpl_terrain.specs.Ends.{at_end as state_at_end}
use Rattle.sbpl_terrain.specs.Reading.{IsEndReading}
use Rattle.sbpl_terrain.specs.declared.arc_end.ArcEnd.{ArcEnd}
use Rattle.sbpl_terrain.specs.declared.arc_end.ArcEnd.TheVariants as end
use Rattle.sbpl_nav2d.specs.Cells.{grid_cells}
use Rattle.sbpl_nav2d.specs.Reads.{ReadsCell}
use Rattle.sbpl_nav2d.specs.Reading.{AddsFewEnds, AreAtEnd, IsAmong}
use Rattle.sbpl_nav2d.specs.Adding.{Adds, Extends, IsEndBy, ReadsAs, ReadsBelow, ReadsIn}
use Rattle.sbpl_nav2d.proofs.Networks.{states_are, fan_is, head_is}
use Rattle.sbpl_nav2d.proofs.Steps.{is_direction}
use Rattle.sbpl_nav2d.proofs.Places.{found, same_cell, state_again, state_here, back_again, forth_again}

-- ---- lists of arcs

ends_append : (end : ArcEnd) (n : Network) (ar bs : List (ℕ × ℕ)) (ts us : List ℕ)
    → AreAtEnd end n ar ts → AreAtEnd end n bs us
    → AreAtEnd end n (ar ++ bs) (ts ++ us)
ends_append end n [] bs [] us h k = k
ends_append end n [] bs (t ∷ ts) us h k = absurd h
ends_append end n (a ∷ ar) bs [] us h k = absurd h
ends_append end n (a ∷ ar) bs (t ∷ ts) us h k = (h.0, ends_append end n ar bs ts us h.1 k)

among_first : (s k : ℕ) (ar bs : List (ℕ × ℕ)) → IsAmong s k ar → IsAmong s k (ar ++ bs)
among_first s k [] bs h = absurd h
among_first s k (a ∷ ar) bs (inl h) = inl h
among_first s k (a ∷ ar) bs (inr h) = inr (among_first s k ar bs h)

among_second : (s k : ℕ) (ar bs : List (ℕ × ℕ)) → IsAmong s k bs → IsAmong s k (ar ++ bs)
among_second s k [] bs h = h
among_second s k (a ∷ ar) bs h = inr (among_second s k ar bs h)

all_append : (P : ℕ × ℕ → Type 0) (ar bs : List (ℕ × ℕ)) → AllByRecursion P ar → AllByRecursion P bs
    → AllByRecursion P (ar ++ bs)
all_append P [] bs h k = k
all_append P (a ∷ ar) bs h k = (h.0, all_append P ar bs h.1 k)

all_weaker : (P Q : ℕ × ℕ → Type 0) (ar : List (ℕ × ℕ)) → ((a : ℕ × ℕ) → P a → Q a) → AllByRecursion P ar
    → AllByRecursion Q ar
all_weaker P Q [] f h = tt
all_weaker P Q (a ∷ ar) f h = (f a h.0, all_weaker P Q ar f h.1)

-- ---- arcs that differ

abbrev Differ : ℕ × ℕ → ℕ × ℕ → Type 0
Differ a b = a ≢ b

differ_from : (P Q : ℕ × ℕ → Type 0) (a : ℕ × ℕ) (bs : List (ℕ × ℕ)) → P a → AllByRecursion Q bs
    → ((b : ℕ × ℕ) → P b → Q b → ⊥) → All (Differ a) bs
differ_from P Q a [] p all none = All-nil (Differ a)
differ_from P Q a (b ∷ bs) p all none =
    All-cons (Differ a) b bs (λ same. none b (subst P same p) all.0) (differ_from P Q a bs p all.1 none)

-- arcs of one kind differ from those of another
apart_append : (P Q : ℕ × ℕ → Type 0) (ar bs : List (ℕ × ℕ)) → AllByRecursion P ar → AllByRecursion Q bs
    → ((b : ℕ × ℕ) → P b → Q b → ⊥) → AllPairs Differ ar → AllPairs Differ bs → AllPairs Differ (ar ++ bs)
apart_append P Q [] bs all_p all_q none one two = two
apart_append P Q (a ∷ ar) bs all_p all_q none one two =
    AllPairs-cons Differ a (ar ++ bs)
    (All-append (Differ a) ar bs (λ j d inside. one 0 (suc j) d (omega arith) (omega (arith, inside)))
    (differ_from P Q a bs all_p.0 all_q none))
    (apart_append P Q ar bs all_p.1 all_q none
    (λ i j d before inside. one (suc i) (suc j) d (omega (arith, before)) (omega (arith, inside))) two)

-- ---- kinds of arcs

-- no arc of a kind
pub adds_none : (end : ArcEnd) (n : Network) (P : ℕ → ℕ → Type 0) (old new : List ℕ) (most : ℕ)
    → ((s k t : ℕ) → IsArc n s k t → P s k → ⊥) → new ≡ old → Adds end n P old new most
adds_none end n P old new most none same = record {
  added = [];
  kept = same ∙ sym (append-nil old);
  arcs = [];
  ends = tt;
  sound = tt;
  each = λ s k t arc is. absurd (none s k t arc is);
  apart = λ i j d before inside. absurd (omega (arith, inside));
  few = omega arith;
}

-- just one arc of a kind
pub adds_one : (end : ArcEnd) (n : Network) (P : ℕ → ℕ → Type 0) (old new : List ℕ) (s k head t : ℕ) → IsArc n s k head
    → t ≡ state_at_end end (s, head) → P s k
    → ((a b u : ℕ) → IsArc n a b u → P a b → (a ≡ s) × (b ≡ k)) → new ≡ old ++ t ∷ [] → Adds end n P old new 1
adds_one end n P old new s k head t arc at is alone kept = record {
  added = t ∷ [];
  kept = kept;
  arcs = (s, k) ∷ [];
  ends = ((head, arc, at), tt);
  sound = (is, tt);
  each = λ a b u other of. inl (alone a b u other of);
  apart = λ i j d before inside. absurd (omega (arith, before, inside));
  few = omega arith;
}

-- the arcs of two kinds, of which none is of both, are those of a third
pub adds_both : (end : ArcEnd) (n : Network) (P Q R : ℕ → ℕ → Type 0) (old mid new : List ℕ) (x y most : ℕ)
    → Adds end n P old mid x
    → Adds end n Q mid new y
    → ((s k : ℕ) → P s k → Q s k → ⊥)
    → ((s k : ℕ) → P s k → R s k) → ((s k : ℕ) → Q s k → R s k) → ((s k t : ℕ) → IsArc n s k t → R s k → P s k ⊎ Q s k)
    → x + y ≤ most → Adds end n R old new most
adds_both end n P Q R old mid new x y most a b none first second either bound = record {
  added = a.added ++ b.added;
  kept = b.kept ∙ ap (λ (l : List ℕ). l ++ b.added) a.kept ∙ append_assoc old a.added b.added;
  arcs = a.arcs ++ b.arcs;
  ends = ends_append end n a.arcs b.arcs a.added b.added a.ends b.ends;
  sound = all_append (λ (p : ℕ × ℕ). R p.0 p.1) a.arcs b.arcs
      (all_weaker (λ (p : ℕ × ℕ). P p.0 p.1) (λ (p : ℕ × ℕ). R p.0 p.1) a.arcs (λ p h. first p.0 p.1 h) a.sound)
      (all_weaker (λ (p : ℕ × ℕ). Q p.0 p.1) (λ (p : ℕ × ℕ). R p.0 p.1) b.arcs (λ p h. second p.0 p.1 h) b.sound);
  each = λ s k t arc is. elim (either s k t arc is) [
    | inl h ↦ among_first s k a.arcs b.arcs (a.each s k t arc h)
    | inr h ↦ among_second s k a.arcs b.arcs (b.each s k t arc h)
  ];
  apart =
      apart_append (λ (p : ℕ × ℕ). P p.0 p.1) (λ (p : ℕ × ℕ). Q p.0 p.1) a.arcs b.arcs a.sound b.sound
      (λ b p q. none b.0 b.1 p q) a.apart b.apart;
  few = let one = a.few in let two = b.few in omega (arith, length-append a.added b.added);
}

-- the arcs of one kind are those of another
pub adds_by : (end : ArcEnd) (n : Network) (P R : ℕ → ℕ → Type 0) (old new : List ℕ) (x most : ℕ)
    → Adds end n P old new x
    → ((s k : ℕ) → P s k → R s k) → ((s k t : ℕ) → IsArc n s k t → R s k → P s k) → x ≤ most → Adds end n R old new most
adds_by end n P R old new x most a there back bound = record {
  added = a.added;
  kept = a.kept;
  arcs = a.arcs;
  ends = a.ends;
  sound = all_weaker (λ (p : ℕ × ℕ). P p.0 p.1) (λ (p : ℕ × ℕ). R p.0 p.1) a.arcs (λ p h. there p.0 p.1 h) a.sound;
  each = λ s k t arc is. a.each s k t arc (back s k t arc is);
  apart = a.apart;
  few = let one = a.few in omega arith;
}

-- ---- lists that grow

pub extends_on : (old mid new : List ℕ) → Extends old mid → Extends mid new → Extends old new
extends_on old mid new a b =
    record {
      added = a.added ++ b.added;
      kept =
          b.kept ∙ ap (λ (l : List ℕ). l ++ b.added) a.kept ∙ append_assoc old a.added b.added;
    }

pub extends_same : (old new : List ℕ) → new ≡ old → Extends old new
extends_same old new same = record { added = []; kept = same ∙ sym (append-nil old) }

pub extends_by : (end : ArcEnd) (n : Network) (P : ℕ → ℕ → Type 0) (old new : List ℕ) (most : ℕ)
    → Adds end n P old new most
    → Extends old new
extends_by end n P old new most a = record { added = a.added; kept = a.kept }

-- ---- the arc that reads a cell ar this far from its source

-- two states of one cell are one state
one_state : (w : GridWorld) (a b : ℕ) → cell_of w a ≡ cell_of w b → a ≡ b
one_state w a b same =
    let width = w.map.width in
    let column : pos (column_of width a) ≡ pos (column_of width b) = ap (λ (c : Cell). c.x) same in
    let row : pos (row_of width a) ≡ pos (row_of width b) = ap (λ (c : Cell). c.y) same in
    let columns : column_of width a ≡ column_of width b = cc in
    let rows : row_of width a ≡ row_of width b = cc in
    sym (state_again width a) ∙ ap (λ n. n * width + column_of width a) rows
    ∙ ap (λ n. row_of width b * width + n) columns ∙ state_again width b

source_is : (w : GridWorld) (k : ℕ) (offset cell : Cell) (s n : ℕ) → ReadsAs w k offset cell s n
    → cell_of w s ≡ moved_back cell offset
source_is w k offset cell s n reads =
    sym (back_again (cell_of w s) offset) ∙ ap (λ c. moved_back c offset) reads.cell_is

-- it reads the cell as this far and as that far only where these are the same
offset_x : (w : GridWorld) (k : ℕ) (this that cell : Cell) (s n : ℕ) → ReadsAs w k this cell s n
    → ReadsAs w k that cell s n → this.x ≡ that.x
offset_x w k this that cell s n a b =
    let same : (cell_of w s).x +ℤ this.x ≡ (cell_of w s).x +ℤ that.x =
    ap (λ (c : Cell). c.x) a.cell_is ∙ sym (ap (λ (c : Cell). c.x) b.cell_is) in
    omega (arith, ints, same)

offset_y : (w : GridWorld) (k : ℕ) (this that cell : Cell) (s n : ℕ) → ReadsAs w k this cell s n
    → ReadsAs w k that cell s n → this.y ≡ that.y
offset_y w k this that cell s n a b =
    let same : (cell_of w s).y +ℤ this.y ≡ (cell_of w s).y +ℤ that.y =
    ap (λ (c : Cell). c.y) a.cell_is ∙ sym (ap (λ (c : Cell). c.y) b.cell_is) in
    omega (arith, ints, same)

pub not_both : (w : GridWorld) (k : ℕ) (this that cell : Cell) → this ≢ that → (s n : ℕ)
    → ReadsAs w k this cell s n → ReadsAs w k that cell s n → ⊥
not_both w k this that cell apart s n a b =
    apart (same_cell this that (offset_x w k this that cell s n a b) (offset_y w k this that cell s n a b))

-- no step leads nowhere, and that of a diagonal leads along both
pub none_or_step : (k : ℕ) (step : Cell) → k < 8 → step ≡ direction k → by (pos 0) (pos 0) ≢ step
none_or_step k step few is same =
    let at : direction k ≡ by (pos 0) (pos 0) = sym is ∙ sym same in
    (is_direction k few).moves (ap (λ (c : Cell). c.x) at) (ap (λ (c : Cell). c.y) at)

pub side_or_side : (k : ℕ) (step : Cell) → k < 8 → is_diagonal k ≡ true → step ≡ direction k
    → by step.x (pos 0) ≢ by (pos 0) step.y
side_or_side k step few d is same =
    ((is_direction k few).diagonal d).0 (sym (ap (λ (c : Cell). c.x) is) ∙ ap (λ (c : Cell). c.x) same)

module _ (end : ArcEnd) (w : GridWorld) (k : ℕ) (offset cell : Cell) where
  pub pushed : (o : Option ℕ) (old new : List ℕ) → IfSome o (IsEndBy end w k offset cell (network_of w))
      → IfNone o ((s n t : ℕ) → IsArc (network_of w) s n t → ReadsAs w k offset cell s n → ⊥)
      → new ≡ old ++ cons_option o []
      → Adds end (network_of w) (ReadsAs w k offset cell) old new 1
  pushed None old new some none kept =
      adds_none end (network_of w) (ReadsAs w k offset cell) old new 1 none (kept ∙ append-nil old)
  pushed (Some t) old new some none kept =
      adds_one end (network_of w) (ReadsAs w k offset cell) old new some.source k some.head t
      some.arc some.at some.reads
      (λ a b u arc is. (
        one_state w a some.source
            (source_is w k offset cell a b is ∙ sym (source_is w k offset cell some.source k some.reads)),
        is.number_is,
      ))
      kept

  module _ (is_world : IsGridWorld w) (few : k < 8) where
    -- where there is such an arc, its source is a state
    source_there : (s n t : ℕ) → IsArc (network_of w) s n t → ReadsAs w k offset cell s n
        → state_at w.map (moved_back cell offset) ≡ Some s
    source_there s n t arc reads =
        let inside : s < w.map.width * w.map.height = rw states_are at arc.source in
        ap (state_at w.map) (sym (source_is w k offset cell s n reads)) ∙ state_here w is_world s inside

    pub no_source : state_at w.map (moved_back cell offset) ≡ None → (s n t : ℕ) → IsArc (network_of w) s n t
        → ReadsAs w k offset cell s n → ⊥
    no_source none s n t arc reads = none-some s (sym none ∙ source_there s n t arc reads)

    -- and its head is a state
    pub no_end : state_at w.map (moved (moved_back cell offset) (direction k)) ≡ None → (s n t : ℕ)
        → IsArc (network_of w) s n t → ReadsAs w k offset cell s n → ⊥
    no_end none s n t arc reads =
        let last : state_at w.map (moved (cell_of w s) (direction n)) ≡ Some t = sym (head_is w s n) ∙ arc.head in
        let there : state_at w.map (moved (moved_back cell offset) (direction k)) ≡ Some t =
        ap (λ c. state_at w.map (moved c (direction k))) (sym (source_is w k offset cell s n reads))
        ∙ ap (λ m. state_at w.map (moved (cell_of w s) (direction m))) (sym reads.number_is) ∙ last in
        none-some t (sym none ∙ there)

    pub end_there : (s t u : ℕ) → state_at w.map (moved_back cell offset) ≡ Some s
        → state_at w.map (moved (moved_back cell offset) (direction k)) ≡ Some t → u ≡ state_at_end end (s, t)
        → IsEndBy end w k offset cell (network_of w) u
    end_there s t u start there is =
        let at = found w _ s start in
        record {
          source = s;
          head = t;
          at = is;
          arc = record {
            source = rw states_are at.inside;
            number = rw fan_is few;
            head = head_is w s k ∙ ap (λ c. state_at w.map (moved c (direction k))) (sym at.is) ∙ there;
          };
          reads = record { number_is = refl; cell_is = ap (λ c. moved c offset) (sym at.is) ∙ forth_again cell offset };
        }

-- ---- the arcs in one direction

as_read : (w : GridWorld) (k : ℕ) (offset cell : Cell) (s n : ℕ) → IsReadAt k offset.x offset.y
    → ReadsAs w k offset cell s n → ReadsIn w k cell s n
as_read w k offset cell s n read ar = record {
  number_is = ar.number_is;
  reads = record {
    dx = offset.x;
    dy = offset.y;
    read = subst (λ m. IsReadAt m offset.x offset.y) (sym ar.number_is) read;
    column = ap (λ (c : Cell). c.x) ar.cell_is;
    row = ap (λ (c : Cell). c.y) ar.cell_is;
  };
}

by_read : (w : GridWorld) (k : ℕ) (offset cell : Cell) (s n : ℕ) (dx dy : ℤ) → n ≡ k → dx ≡ offset.x → dy ≡ offset.y
    → (cell_of w s).x +ℤ dx ≡ cell.x → (cell_of w s).y +ℤ dy ≡ cell.y → ReadsAs w k offset cell s n
by_read w k offset cell s n dx dy number x y column row = record {
  number_is = number;
  cell_is = same_cell (moved (cell_of w s) offset) cell (ap (λ d. (cell_of w s).x +ℤ d) (sym x) ∙ column)
      (ap (λ d. (cell_of w s).y +ℤ d) (sym y) ∙ row);
}

module _ (end : ArcEnd) (w : GridWorld) (k : ℕ) (cell : Cell) where
  abbrev none : Cell
  none = by (pos 0) (pos 0)

  abbrev along_x : Cell
  along_x = by (direction k).x (pos 0)

  abbrev along_y : Cell
  along_y = by (pos 0) (direction k).y

  abbrev pub ByEnds : ℕ → ℕ → Type 0
  ByEnds s n = ReadsAs w k (by (pos 0) (pos 0)) cell s n ⊎ ReadsAs w k (direction k) cell s n

  abbrev pub BySides : ℕ → ℕ → Type 0
  BySides s n = ReadsAs w k (by (direction k).x (pos 0)) cell s n ⊎ ReadsAs w k (by (pos 0) (direction k).y) cell s n

  pub by_ends : (s n : ℕ) → ByEnds s n → ReadsIn w k cell s n
  by_ends s n (inl h) = as_read w k none cell s n (at_source refl refl) h
  by_ends s n (inr h) = as_read w k (direction k) cell s n (at_end refl refl) h

  pub by_sides : is_diagonal k ≡ true → (s n : ℕ) → BySides s n → ReadsIn w k cell s n
  by_sides d s n (inl h) = as_read w k along_x cell s n (beside_along_x d refl refl) h
  by_sides d s n (inr h) = as_read w k along_y cell s n (beside_along_y d refl refl) h

  -- on a diagonal the source and the head are not beside the arc
  ends_or_sides : k < 8 → is_diagonal k ≡ true → (s n : ℕ) → ByEnds s n → BySides s n → ⊥
  ends_or_sides few d s n (inl a) (inl b) =
      ((is_direction k few).diagonal d).0 (sym (offset_x w k none along_x cell s n a b))
  ends_or_sides few d s n (inl a) (inr b) =
      ((is_direction k few).diagonal d).1 (sym (offset_y w k none along_y cell s n a b))
  ends_or_sides few d s n (inr a) (inl b) =
      ((is_direction k few).diagonal d).1 (offset_y w k (direction k) along_x cell s n a b)
  ends_or_sides few d s n (inr a) (inr b) =
      ((is_direction k few).diagonal d).0 (offset_x w k (direction k) along_y cell s n a b)

  read_by : (s n : ℕ) (dx dy : ℤ) → n ≡ k → IsReadAt n dx dy → (cell_of w s).x +ℤ dx ≡ cell.x
      → (cell_of w s).y +ℤ dy ≡ cell.y → ByEnds s n ⊎ ((is_diagonal k ≡ true) × BySides s n)
  read_by s n dx dy number (at_source x y) column row =
      inl (inl (by_read w k none cell s n dx dy number x y column row))
  read_by s n dx dy number (at_end x y) column row =
      inl (inr (by_read w k (direction k) cell s n dx dy number (x ∙ ap (λ m. (direction m).x) number)
      (y ∙ ap (λ m. (direction m).y) number) column row))
  read_by s n dx dy number (beside_along_x d x y) column row =
      inr (
        sym (ap is_diagonal number)
            ∙ d,
        inl (by_read w k along_x cell s n dx dy number (x ∙ ap (λ m. (direction m).x) number) y column row),
      )
  read_by s n dx dy number (beside_along_y d x y) column row =
      inr (
        sym (ap is_diagonal number)
            ∙ d,
        inr (by_read w k along_y cell s n dx dy number x (y ∙ ap (λ m. (direction m).y) number) column row),
      )

  pub reads_either : (s n : ℕ) → ReadsIn w k cell s n → ByEnds s n ⊎ ((is_diagonal k ≡ true) × BySides s n)
  reads_either s n r = read_by s n r.reads.dx r.reads.dy r.number_is r.reads.read r.reads.column r.reads.row

  pub straight_added : (old new : List ℕ) (most : ℕ) → is_diagonal k ≡ false → Adds end (network_of w) ByEnds old new 2
      → 2 ≤ most → Adds end (network_of w) (ReadsIn w k cell) old new most
  straight_added old new most d ends bound =
      adds_by end (network_of w) ByEnds (ReadsIn w k cell) old new 2 most ends by_ends
      (λ s n t arc is. elim
      (reads_either s n is) [ inl h ↦ h | inr h ↦ absurd (let no : true ≡ false = sym h.0 ∙ d in cc) ]) bound

  pub diagonal_added : (old mid new : List ℕ) (most : ℕ) → k < 8 → is_diagonal k ≡ true
      → Adds end (network_of w) ByEnds old mid 2
      → Adds end (network_of w) BySides mid new 2 → 4 ≤ most
      → Adds end (network_of w) (ReadsIn w k cell) old new most
  diagonal_added old mid new most few d ends sides bound =
      adds_both end (network_of w) ByEnds BySides (ReadsIn w k cell) old mid new 2 2 most ends
      sides (ends_or_sides few d) by_ends (by_sides d)
      (λ s n t arc is. elim (reads_either s n is) [ inl h ↦ inl h | inr h ↦ inr h.1 ]) bound

-- ---- all directions in turn

module _ (end : ArcEnd) (w : GridWorld) (cell : Cell) where
  pub no_direction : (old new : List ℕ) (most : ℕ) → new ≡ old
      → Adds end (network_of w) (ReadsBelow w 0 cell) old new most
  no_direction old new most same =
      adds_none end (network_of w) (ReadsBelow w 0 cell) old new most
      (λ s n t arc is. let before = is.before in absurd (omega arith)) same

  pub next_direction : (k : ℕ) (old mid new : List ℕ) (x y most : ℕ)
      → Adds end (network_of w) (ReadsBelow w k cell) old mid x → Adds end (network_of w) (ReadsIn w k cell) mid new y
      → x + y ≤ most → Adds end (network_of w) (ReadsBelow w (k + 1) cell) old new most
  next_direction k old mid new x y most before now bound =
      adds_both end (network_of w) (ReadsBelow w k cell) (ReadsIn w k cell)
      (ReadsBelow w (k + 1) cell) old mid new x y most before now
      (λ s n below here. let less = below.before in let same = here.number_is in omega arith)
      (λ s n is. record { before = let less = is.before in omega arith; reads = is.reads })
      (λ s n is. record { before = let same = is.number_is in omega arith; reads = is.reads })
      (λ s n t arc is. elim (cases_lt n k) [
        | inl less ↦ inl (record { before = less; reads = is.reads })
        | inr more ↦ let less = is.before in inr (record { number_is = omega arith; reads = is.reads })
      ])
      bound

-- ---- what a caller sees

-- the arc that a state of the list is at the end of
record IsEndOf (end : ArcEnd) (n : Network) (P : ℕ → ℕ → Type 0) (t : ℕ) : Type 0 where
  source : ℕ
  number : ℕ
  head : ℕ
  arc : IsArc n source number head
  at : t ≡ state_at_end end (source, head)
  is : P source number

ends_sound : (end : ArcEnd) (n : Network) (P : ℕ → ℕ → Type 0) (arcs : List (ℕ × ℕ)) (added : List ℕ) (i t : ℕ)
    → AreAtEnd end n arcs added
    → AllByRecursion (λ (a : ℕ × ℕ). P a.0 a.1) arcs → slice_get added i ≡ Some t → IsEndOf end n P t
ends_sound end n P [] [] i t h all e = absurd (none-some t e)
ends_sound end n P [] (u ∷ us) i t h all e = absurd h
ends_sound end n P (a ∷ ar) [] i t h all e = absurd h
ends_sound end n P (a ∷ ar) (u ∷ us) zero t h all e =
    record { source = a.0; number = a.1; head = h.0.0; arc = h.0.1; at = sym (same_Some u t e) ∙ h.0.2; is = all.0 }
ends_sound end n P (a ∷ ar) (u ∷ us) (suc i) t h all e = ends_sound end n P ar us i t h.1 all.1 e

same_head : (n : Network) (s k a b t u : ℕ) → s ≡ a → k ≡ b → n.head s k ≡ Some t → n.head a b ≡ Some u → t ≡ u
same_head n s k a b t u source number here there =
    let own : n.head s k ≡ Some u = ap (λ x. n.head x k) source ∙ ap (λ x. n.head a x) number ∙ there in
    same_Some t u (sym here ∙ own)

ends_complete : (end : ArcEnd) (n : Network) (arcs : List (ℕ × ℕ)) (added : List ℕ) (s k head t : ℕ)
    → AreAtEnd end n arcs added
    → IsAmong s k arcs → n.head s k ≡ Some head → t ≡ state_at_end end (s, head)
    → (i : ℕ) × (slice_get added i ≡ Some t)
ends_complete end n [] added s k head t h among e at = absurd among
ends_complete end n (a ∷ ar) [] s k head t h among e at = absurd h
ends_complete end n (a ∷ ar) (u ∷ us) s k head t h (inl is) e at =
    let one : head ≡ h.0.0 = same_head n s k a.0 a.1 head h.0.0 is.0 is.1 e h.0.1.head in
    let same : u ≡ t =
    h.0.2 ∙ ap (λ x. state_at_end end (x, h.0.0)) (sym is.0) ∙ ap (λ x. state_at_end end (s, x)) (sym one) ∙ sym at in
    (0, ap (λ x. Some x) same)
ends_complete end n (a ∷ ar) (u ∷ us) s k head t h (inr is) e at =
    let rest = ends_complete end n ar us s k head t h.1 is e at in
    (suc rest.0, rest.1)

-- the end of an arc is a state
end_is_state : (end : ArcEnd) (n : Network) (s t z : ℕ) → s < n.states → t < n.states
    → z ≡ state_at_end end (s, t) → z < n.states
end_is_state end.Source n s t z source head is = subst (λ x. x < n.states) (sym is) source
end_is_state end.Head n s t z source head is = subst (λ x. x < n.states) (sym is) head

pub adds_few_ends : (end : ArcEnd) (w : GridWorld) (cell : Cell) (old new : List ℕ)
    → Adds end (network_of w) (ReadsBelow w 8 cell) old new 24 → AddsFewEnds end w cell.x cell.y old new
adds_few_ends end w cell old new a =
    let n = network_of w in
    let each : (s k t : ℕ) → IsArc n s k t → ReadsCell w s k cell.x cell.y → IsAmong s k a.arcs = λ s k t arc reads.
    a.each s k t arc (record { before = rw fan_is at arc.number; reads = reads }) in
    let sound : (i t : ℕ) → slice_get a.added i ≡ Some t → IsEndReading network_of grid_cells end w cell.x cell.y t =
    λ i t e.
    let of = ends_sound end n (ReadsBelow w 8 cell) a.arcs a.added i t a.ends a.sound e in
    record { source = of.source; number = of.number; head = of.head; arc = of.arc; reads = of.is.reads; at = of.at } in
    record {
      adds = record {
        added = a.added;
        kept = a.kept;
        sound = sound;
        complete = λ t h. ends_complete end n a.arcs a.added h.source h.number h.head t a.ends
            (each h.source h.number h.head h.arc h.reads) h.arc.head h.at;
        states = λ i t e.
            let h = sound i t e in
            let inside : h.head < n.states =
            subst (λ (x : ℕ). h.head < x) (sym (states_are w))
            (found w _ h.head (sym (head_is w h.source h.number) ∙ h.arc.head)).inside in
            end_is_state end n h.source h.head t h.arc.source inside h.at;
      };
      arcs = a.arcs;
      ends = a.ends;
      each = each;
      apart = a.apart;
      few = a.few;
    }
