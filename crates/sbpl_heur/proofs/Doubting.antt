-- Cells that come into doubt, and distances that are forgotten.
use Rattle.std.proofs.Common.{◌≡◌, ◌≢◌, ℕ, ◌<◌, ◌≤◌, inl, inr, true, false, List, length, get_or, set}
use Rattle.std.proofs.Common.{length-set, slice_get, ap, sym, ◌∙◌, arith, subst, Some, refl}
use Rattle.std.proofs.lemmas.Bool.{cases_eq, cases_lt, false≢true}
use Rattle.std.proofs.lemmas.List.{get_or-set_same, get_or-set_other}
use Rattle.std.proofs.lemmas.Option.{slice_get_within}
use Rattle.sbpl_serial.specs.sbpl_graph.declared.TheConstants.{FAR}
use Rattle.sbpl_heur.specs.Boards.{Board, IsBoard, cell_count, start_of, end_of}
use Rattle.sbpl_heur.specs.Followed.{Walking, distance, IsMarked, IsArc, IsWalking, IsSupported, IsSinking}
use Rattle.sbpl_heur.specs.Followed.{IsDoubtful, IsDoubtfulBeside, Takes, HasNone, Marks, IsRousedBy, AreRoused}
use Rattle.sbpl_heur.proofs.Boarding.{arc_start, arc_end, arc_weight}
use Rattle.sbpl_heur.proofs.Hopping.{beside_set}
use Rattle.sbpl_heur.proofs.Sinking.{marked_there, still_marked}

-- marks are only added
pub no_marks : (s : Walking) → Marks s s
no_marks s = record { rest = refl; waits = λ a marked. marked; doubts = λ a marked. marked }

pub more_marks : (s t u : Walking) → Marks s t → Marks t u → Marks s u
more_marks s t u first second = record {
  rest = second.rest ∙ ap (λ (z : Walking). record z { waits = u.waits; doubts = u.doubts }) first.rest;
  waits = λ a marked. second.waits a (first.waits a marked);
  doubts = λ a marked. second.doubts a (first.doubts a marked);
}

pub still_roused : (s t : Walking) (cell was k : ℕ) → Marks s t → IsRousedBy s cell was k → IsRousedBy t cell was k
still_roused s t cell was k marks by =
    let board : t.board ≡ s.board = ap (λ (z : Walking). z.board) marks.rest in
    let same : (a : ℕ) → distance t a ≡ distance s a = λ a. ap (λ (z : Walking). distance z a) marks.rest in
    record {
      doubts = λ a start beyond near.
          marks.doubts a (by.doubts a (ap (λ b. start_of b cell k) (sym board) ∙ start) (omega (arith, same a, beyond))
          (omega (arith, same a, near)));
      waits = λ a end near.
          marks.waits a (by.waits a (ap (λ b. end_of b cell k) (sym board) ∙ end) (omega (arith, same a, near)));
    }

-- more cells are in doubt, and more wait
pub still_doubtful : (s t : Walking) → Marks s t → IsDoubtful s → IsDoubtful t
still_doubtful s t marks under = subst IsDoubtful (sym marks.rest) (record {
  supported = λ a inside near beside. elim (under.supported a inside near beside) [
    | inl doubted ↦ inl (marks.doubts a doubted)
    | inr held ↦ inr held
  ];
  relaxed = λ a c j weight arc. elim (under.relaxed a c j weight arc) [
    | inl waits ↦ inl (marks.waits c waits)
    | inr low ↦ inr low
  ];
})

pub still_beside : (s t : Walking) (cell : ℕ) → Marks s t → IsDoubtfulBeside s cell → IsDoubtfulBeside t cell
still_beside s t cell marks under = subst (λ z. IsDoubtfulBeside z cell) (sym marks.rest) (record {
  supported = λ a inside near beside. elim (under.supported a inside near beside) [
    | inl some ↦ elim some [ inl doubted ↦ inl (inl (marks.doubts a doubted)) | inr at ↦ inl (inr at) ]
    | inr held ↦ inr held
  ];
  relaxed = λ a c j weight arc. elim (under.relaxed a c j weight arc) [
    | inl waits ↦ inl (marks.waits c waits)
    | inr low ↦ inr low
  ];
})

-- a cell is taken that is in doubt
pub doubt_taken : (s new : Walking) (cell : ℕ) → new ≡ record s { doubts = new.doubts }
    → Takes s.doubts new.doubts cell → IsDoubtful s → IsDoubtfulBeside new cell
doubt_taken s new cell rest takes under = subst (λ z. IsDoubtfulBeside z cell) (sym rest) (record {
  supported = λ a inside near beside. elim (under.supported a inside near beside) [
    | inl doubted ↦ elim (cases_eq a cell) [
      | inl at ↦ inl (inr at)
      | inr apart ↦ inl (inl (ap (λ l. get_or l a false) takes.taken
          ∙ get_or-set_other s.doubts cell a false false apart ∙ doubted))
    ]
    | inr held ↦ inr held
  ];
  relaxed = under.relaxed;
})

pub doubt_inside : (s new : Walking) (cell : ℕ) → Takes s.doubts new.doubts cell → IsWalking new
    → cell < cell_count new.board
doubt_inside s new cell takes is =
    omega (arith, takes.inside, ap length takes.taken, length-set s.doubts cell false, is.doubts)

-- it is not in doubt any more where it has support, if it needs some
pub cleared : (s : Walking) (cell : ℕ)
    → (distance s cell < FAR → cell ≢ s.goal → IsSupported s.board s.distances cell) → IsDoubtfulBeside s cell
    → IsDoubtful s
cleared s cell held under = record {
  supported = λ a inside near beside. elim (under.supported a inside near beside) [
    | inl some ↦ elim some [
      | inl doubted ↦ inl doubted
      | inr at ↦
          let even : distance s a ≡ distance s cell = ap (distance s) at in
          inr (subst (λ x. IsSupported s.board s.distances x) (sym at)
          (held (omega (arith, near, even)) (λ same. beside (at ∙ same))))
    ]
    | inr by ↦ inr by
  ];
  relaxed = under.relaxed;
}

-- none is in doubt
pub none_doubted : (s : Walking) → HasNone s.doubts → IsDoubtful s → IsSinking s
none_doubted s none under = record {
  supported = λ a inside near beside. elim (under.supported a inside near beside) [
    | inl doubted ↦ absurd (false≢true (sym (none a) ∙ doubted))
    | inr held ↦ inr held
  ];
  relaxed = under.relaxed;
}

-- the distance of a cell is forgotten, after all that it supports has come into doubt
module _ (s : Walking) (is : IsWalking s) (cell : ℕ) (within : cell < cell_count s.board)
    (roused : AreRoused s cell (distance s cell) (length s.board.hops)) where
  gone : get_or (set s.distances cell FAR) cell 0 ≡ FAR
  gone = get_or-set_same s.distances cell FAR 0 (omega (arith, within, is.distances))

  others : (x : ℕ) → x ≢ cell → get_or (set s.distances cell FAR) x 0 ≡ distance s x
  others x apart = get_or-set_other s.distances cell x FAR 0 apart

  no_farther : (x : ℕ) → get_or (set s.distances cell FAR) x 0 ≤ FAR
  no_farther x = elim (cases_eq x cell) [
    | inl same ↦
        let here : get_or (set s.distances cell FAR) x 0 ≡ FAR =
        ap (λ y. get_or (set s.distances cell FAR) y 0) same ∙ gone in omega arith
    | inr apart ↦ omega (arith, others x apart, is.at_most x)
  ]

  pub forgotten : IsDoubtfulBeside s cell → IsDoubtful (record s { distances = set s.distances cell FAR })
  forgotten under = record {
    supported = λ a inside near beside. elim (cases_eq a cell) [
      | inl same ↦
          let here : get_or (set s.distances cell FAR) a 0 ≡ FAR =
          ap (λ y. get_or (set s.distances cell FAR) y 0) same ∙ gone in absurd (omega (arith, here, near))
      | inr apart ↦
          let was_near : distance s a < FAR = omega (arith, others a apart, near) in
          elim (under.supported a inside was_near beside) [
            | inl some ↦ elim some [ inl doubted ↦ inl doubted | inr at ↦ absurd (apart at) ]
            | inr held ↦ elim (cases_eq held.next cell) [
              | inl leans ↦
                  let start : start_of s.board cell held.hop ≡ Some a =
                  ap (λ x. start_of s.board x held.hop) (sym leans)
                  ∙ arc_start s.board is.board a held.next held.hop held.weight held.arc in
                  let even : distance s held.next ≡ distance s cell = ap (distance s) leans in
                  let weight = arc_weight s.board is.board a held.next held.hop held.weight held.arc in
                  let number = slice_get_within s.board.hops held.hop held.arc.hop held.arc.at in
                  inl ((roused held.hop number).doubts a start (omega (arith, even, held.enough, weight.0)) was_near)
              | inr free ↦ inr (record {
                next = held.next;
                hop = held.hop;
                weight = held.weight;
                arc = held.arc;
                enough = omega (arith, others held.next free, others a apart, held.enough);
              })
            ]
          ]
    ];
    relaxed = λ a c j weight arc. elim (cases_eq c cell) [
      | inl same ↦
          let here : get_or (set s.distances cell FAR) c 0 ≡ FAR =
          ap (λ y. get_or (set s.distances cell FAR) y 0) same ∙ gone in inr (omega (arith, here, no_farther a))
      | inr apart ↦ elim (cases_eq a cell) [
        | inl same ↦ elim (cases_lt (distance s c) FAR) [
          | inl near ↦
              let end : end_of s.board cell j ≡ Some c =
              ap (λ x. end_of s.board x j) (sym same) ∙ arc_end s.board is.board a c j weight arc in
              inl ((roused j (slice_get_within s.board.hops j arc.hop arc.at)).waits c end near)
          | inr far ↦ inr (omega (arith, others c apart, far, no_farther a))
        ]
        | inr free ↦ elim (under.relaxed a c j weight arc) [
          | inl waits ↦ inl waits
          | inr low ↦ inr (omega (arith, others a free, others c apart, low))
        ]
      ]
    ];
  }

-- an arc between two cells whose costs are the same in another list
same_arc : (b : Board) (costs : List ℕ) (a c k weight : ℕ) → slice_get costs a ≡ slice_get b.costs a
    → slice_get costs c ≡ slice_get b.costs c → IsArc b a c k weight → IsArc (record b { costs = costs }) a c k weight
same_arc b costs a c k weight start end arc = record {
  hop = arc.hop;
  at = arc.at;
  step = record {
    leads = arc.step.leads;
    start = arc.step.start;
    end = arc.step.end;
    start_is = start ∙ arc.step.start_is;
    end_is = end ∙ arc.step.end_is;
    start_below = arc.step.start_below;
    end_below = arc.step.end_below;
    end_inscribed = arc.step.end_inscribed;
    product = arc.step.product;
  };
}

-- a cell gets a cost, after all that its distance may have made has been marked
module _ (s : Walking) (is : IsWalking s) (cell cost : ℕ) (within : cell < cell_count s.board)
    (is_board : IsBoard (record s.board { costs = set s.board.costs cell cost }))
    (roused : AreRoused s cell (distance s cell) (length s.board.hops)) where
  abbrev costs : List ℕ
  costs = set s.board.costs cell cost

  doubts_inside : cell < length s.doubts
  doubts_inside = omega (arith, within, is.doubts)

  waits_inside : cell < length s.waits
  waits_inside = omega (arith, within, is.waits)

  other_cost : (x : ℕ) → x ≢ cell → slice_get costs x ≡ slice_get s.board.costs x
  other_cost x apart = beside_set s.board.costs cell x cost apart

  pub written : IsDoubtful s → IsDoubtful (record s {
    board = record s.board { costs = set s.board.costs cell cost };
    waits = set s.waits cell true;
    doubts = set s.doubts cell true;
  })
  written under = record {
    supported = λ a inside near beside. elim (cases_eq a cell) [
      | inl same ↦
          inl (subst (λ x. IsMarked (set s.doubts cell true) x) (sym same) (marked_there s.doubts cell doubts_inside))
      | inr apart ↦ elim (under.supported a (omega (arith, inside, length-set s.board.costs cell cost)) near beside) [
        | inl doubted ↦ inl (still_marked s.doubts cell a doubts_inside doubted)
        | inr held ↦ elim (cases_eq held.next cell) [
          | inl leans ↦
              let start : start_of s.board cell held.hop ≡ Some a =
              ap (λ x. start_of s.board x held.hop) (sym leans)
              ∙ arc_start s.board is.board a held.next held.hop held.weight held.arc in
              let even : distance s held.next ≡ distance s cell = ap (distance s) leans in
              let weight = arc_weight s.board is.board a held.next held.hop held.weight held.arc in
              let number = slice_get_within s.board.hops held.hop held.arc.hop held.arc.at in
              inl (still_marked s.doubts cell a doubts_inside ((roused held.hop number).doubts a start
              (omega (arith, even, held.enough, weight.0)) near))
          | inr free ↦ inr (record {
            next = held.next;
            hop = held.hop;
            weight = held.weight;
            arc = same_arc s.board costs a held.next held.hop held.weight (other_cost a apart) (other_cost held.next free) held.arc;
            enough = held.enough;
          })
        ]
      ]
    ];
    relaxed = λ a c j weight arc. elim (cases_eq c cell) [
      | inl same ↦
          inl (subst (λ x. IsMarked (set s.waits cell true) x) (sym same) (marked_there s.waits cell waits_inside))
      | inr apart ↦ elim (cases_eq a cell) [
        | inl same ↦ elim (cases_lt (distance s c) FAR) [
          | inl near ↦
              let end : end_of s.board cell j ≡ Some c =
              ap (λ x. end_of s.board x j) (sym same)
              ∙ arc_end (record s.board { costs = costs }) is_board a c j weight arc in
              inl (still_marked s.waits cell c waits_inside ((roused j (slice_get_within s.board.hops j arc.hop arc.at)).waits c end near))
          | inr far ↦ inr (omega (arith, far, is.at_most a))
        ]
        | inr free ↦
            let old : IsArc s.board a c j weight =
            same_arc (record s.board { costs = costs }) s.board.costs a c j weight (sym (other_cost a free))
            (sym (other_cost c apart)) arc in
            elim (under.relaxed a c j weight old) [
              | inl waits ↦ inl (still_marked s.waits cell c waits_inside waits)
              | inr low ↦ inr low
            ]
      ]
    ];
  }
