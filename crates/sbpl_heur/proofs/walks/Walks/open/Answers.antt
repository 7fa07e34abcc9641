use Rattle.std.proofs.Common.{◌≡◌, ◌≢◌, ℕ, ◌+◌, ◌<◌, length, slice_index, get_or, set, inl, inr, ap, sym, ◌∙◌, subst, arith}
use Rattle.std.proofs.lemmas.Bool.{cases_eq, false≢true}
use Rattle.std.proofs.lemmas.List.{get_or-set_same, get_or-set_other}
use Rattle.sbpl_serial.specs.sbpl_graph.declared.TheConstants.{FAR}
use Rattle.sbpl_heur.specs.Boards.{cell_count}
use Rattle.sbpl_heur.specs.Followed.{Walking, IsWall, IsSinking}
use Rattle.sbpl_heur.proofs.Sinking.{one_written, now_open}
use Rattle.sbpl_heur.proofs.walks.Walks.open.Goals as goal
use Rattle.sbpl_heur.proofs.walks.Walks.open.Goals.{then-is_blocked, else-is_blocked}

-- the obstacles so far have the distance
far_written : (s old new : Walking) (cell : ℕ) → new ≡ record old { distances = set old.distances cell FAR }
    → cell < length old.distances
    → ((a : ℕ) → a < cell → a ≢ s.goal → IsWall s.board a → slice_index old.distances a ≡ FAR)
    → (a : ℕ) → a < cell + 1 → a ≢ s.goal → IsWall s.board a → slice_index new.distances a ≡ FAR
far_written s old new cell is inside far a below apart wall =
    ap (λ (z : Walking). get_or z.distances a 0) is ∙ elim (cases_eq a cell) [
      | inl same ↦
          ap (λ n. get_or (set old.distances cell FAR) n 0) same ∙ get_or-set_same old.distances cell FAR 0 inside
      | inr other ↦
          get_or-set_other old.distances cell a FAR 0 other ∙ far a (omega (arith, below, other)) apart wall
    ]

pub loop-cell-preserved : goal.loop-cell-preserved
loop-cell-preserved c =
    let so_far = c.loop-cell.invariant in
    let s = c.args.self.now in
    let old = c.loop-cell.self in
    let cell = c.loop-cell.cell in
    elim c.if-is_blocked.branch [
      | then-is_blocked w ↦
          let made =
          one_written s old w.set_distance.new.self cell FAR so_far.rest
          so_far.differs w.set_distance.ensures.set (c.is_blocked.ensures.wall w.if-is_blocked.true)
          (c.is_blocked.ensures.beside w.if-is_blocked.true) (omega arith) in
          rw w.self-is (record {
            rest = made.0;
            differs = made.1;
            far = far_written s old w.set_distance.new.self cell w.set_distance.ensures.set
                (omega (
                  arith,
                  c.loop-cell-test.true,
                  c.count-cell-end.ensures.value,
                  ap (λ z. cell_count z.board) c.self.view_is,
                  ap (λ (z : Walking). cell_count z.board) so_far.rest,
                  w.set_distance.ensures.sizes.distances,
                )) so_far.far;
          })
      | else-is_blocked w ↦ rw w.self-is (record {
        rest = so_far.rest;
        differs = so_far.differs;
        far = λ a below apart wall. elim (cases_eq a cell) [
          | inl same ↦ absurd (false≢true (sym w.if-is_blocked.false ∙ c.is_blocked.ensures.other
              (subst (λ n. IsWall old.board n) same (subst (λ b. IsWall b a) (sym (ap (λ (z : Walking). z.board) so_far.rest)) wall))
              (λ at. apart (same ∙ at ∙ ap (λ (z : Walking). z.goal) so_far.rest))))
          | inr other ↦ so_far.far a (omega (arith, below, other)) apart wall
        ];
      })
    ]

pub returns-clause-sinking : goal.returns-clause-sinking
returns-clause-sinking c =
    let done = c.loop-cell.invariant in
    subst IsSinking (sym done.rest) (now_open c.args.self.now c.loop-cell.self.distances done.differs
    (λ a inside apart wall. done.far a (omega (
      arith,
      inside,
      c.loop-cell-test.false,
      c.count-cell-end.ensures.value,
      ap (λ z. cell_count z.board) c.self.view_is,
    )) apart wall) c.requires.shut)
