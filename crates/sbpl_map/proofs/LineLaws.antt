-- What is judged of a line is what it tells, or its fault.
use Rattle.std.proofs.Common.{◌≡◌, ℕ, ℤ, pos, negsuc, ◌||◌, ◌&&◌, true, false, nat_lt, List, [], ◌∷◌, codes, Option}
use Rattle.std.proofs.Common.{Some, None, Result, Ok, Err, refl, sym, ap, ◌∙◌, inl, inr, arith}
use Rattle.std.specs.Prelude.{◌≢◌, ◌<ℤ◌, ◌≤ℤ◌, ◌⊎◌, bytes_eq}
use Rattle.std.proofs.lemmas.Bool.{cases_Bool, false≢true, or_cases, or_parts, or_from, or_left, or_right, and_parts}
use Rattle.std.proofs.lemmas.Bool.{and_from, ltb-true, ltb-false, le-ltb, lt-ltb, false_from_ne_true}
use Rattle.std.proofs.lemmas.Int.{ints}
use Rattle.std.proofs.lemmas.Slice.Eq.{bytes_eq-Decides}
use Rattle.sbpl_cfg.specs.sbpl_fixed.Numbers.{whole_of}
use Rattle.sbpl_cfg.specs.sbpl_fixed.declared.fault.NumFault.{NumFault}
use Rattle.sbpl_cfg.specs.sbpl_fixed.declared.fault.NumFault.TheVariants.{Form, Size}
use Rattle.sbpl_map.specs.CellMap.{CellMap}
use Rattle.sbpl_map.specs.ChangeText.{cell_line, start_line, HasThree, IsNoStart, IsNumberBelow}
use Rattle.sbpl_map.specs.ChangeText.{Give, IsCellOnMap, LineTells}
use Rattle.sbpl_map.specs.LineFaults.{IsOther, IsNoNumber, IsOutside, HaveNoNumber, AreOutside, AreOffMap, HasLineFault}
use Rattle.sbpl_map.specs.Reading.{Three, at_line, lacks_form, in_range, on_map, measured, numbers, cell_said, start_said}
use Rattle.sbpl_map.specs.Reading.{started, three, ended, judged}
use Rattle.sbpl_map.specs.declared.said.Said.{Said}
use Rattle.sbpl_map.specs.declared.said.Said.TheVariants.{Nothing, Cell, Start, Replan}
use Rattle.sbpl_map.specs.declared.fault.ChangeFault.{ChangeFault}
use Rattle.sbpl_map.specs.declared.line_fault.LineFault.{LineFault}
use Rattle.sbpl_map.specs.declared.line_fault.LineFault.TheVariants as fault
use Rattle.sbpl_map.specs.declared.fault.ChangeFault.TheVariants.{Word, Number, Range, OffMap, NoReplan, NoMemory}

-- what was judged is true of the line
abbrev pub Verdict : (states : ℕ) → CellMap → Option ℕ → ℕ → List (List ℕ) → Result Said ChangeFault → Type 0
Verdict states m headings at line (Ok s) = LineTells states m headings line s
Verdict states m headings at line (Err f) = HasLineFault states m headings at line f

-- ---- a number

gives_of : (limit : ℕ) (field : List ℕ) (n : ℕ) (r : Result ℤ NumFault) → whole_of field ≡ r
    → in_range limit r ≡ Some n → IsNumberBelow limit field n
gives_of limit field n (Ok (pos k)) e h =
    elim (cases_Bool (nat_lt k limit)) [
      | inl b ↦ let same : Some k ≡ Some n = rw b at h in let one : k ≡ n = grind arith in
          (e ∙ ap (λ i. Ok (pos i)) one, omega (arith, ltb-true k limit b))
      | inr b ↦ absurd (let none : None ≡ Some n = rw b at h in grind arith)
    ]
gives_of limit field n (Ok (negsuc k)) e h = absurd (grind arith)
gives_of limit field n (Err f) e h = absurd (grind arith)

outside_of : (limit : ℕ) (field : List ℕ) (r : Result ℤ NumFault) → whole_of field ≡ r → in_range limit r ≡ None
    → lacks_form r ≡ false → IsOutside limit field
outside_of limit field (Ok (pos k)) e h l =
    elim (cases_Bool (nat_lt k limit)) [
      | inl b ↦ absurd (let none : Some k ≡ None = rw b at h in grind arith)
      | inr b ↦ inr (pos k, e, inr (let above = ltb-false k limit b in omega (arith, ints)))
    ]
outside_of limit field (Ok (negsuc k)) e h l = inr (negsuc k, e, inl (omega (arith, ints)))
outside_of limit field (Err Form) e h l = absurd (false≢true (sym l))
outside_of limit field (Err Size) e h l = inl e

no_number_of : (field : List ℕ) (r : Result ℤ NumFault) → whole_of field ≡ r → lacks_form r ≡ true → IsNoNumber field
no_number_of field (Ok n) e l = absurd (false≢true l)
no_number_of field (Err Form) e l = e
no_number_of field (Err Size) e l = absurd (false≢true l)

number_of : (field : List ℕ) → lacks_form (whole_of field) ≡ false → IsNoNumber field → ⊥
number_of field l e = absurd (let bad : true ≡ false = rw e at l in false≢true (sym bad))

-- ---- three numbers

record Ranges (states limit : ℕ) (x y z : List ℕ) (ox oy oz : Option ℕ) : Type 0 where
  column : in_range states (whole_of x) ≡ ox
  row : in_range states (whole_of y) ≡ oy
  third : in_range limit (whole_of z) ≡ oz

record Forms (x y z : List ℕ) : Type 0 where
  column : lacks_form (whole_of x) ≡ false
  row : lacks_form (whole_of y) ≡ false
  third : lacks_form (whole_of z) ≡ false

no_forms : (x y z : List ℕ) → Forms x y z → HaveNoNumber x y z → ⊥
no_forms x y z f h = elim h [
  | inl a ↦ number_of x f.column a
  | inr b ↦ elim b [ inl a ↦ number_of y f.row a | inr a ↦ number_of z f.third a ]
]

-- what was measured is true of the three fields
abbrev pub ThreeVerdict : (states : ℕ) → CellMap → (limit : ℕ) → List ℕ → List ℕ → List ℕ → Result Three LineFault → Type 0
ThreeVerdict states m limit x y z (Ok n) = Give states limit x y z n.0 n.1 n.2 × IsCellOnMap m n.0 n.1
ThreeVerdict states m limit x y z (Err fault.Word) = ⊥
ThreeVerdict states m limit x y z (Err fault.Number) = HaveNoNumber x y z
ThreeVerdict states m limit x y z (Err fault.Range) = AreOutside states limit x y z
ThreeVerdict states m limit x y z (Err fault.OffMap) = AreOffMap states m limit x y z

tests_of : (m : CellMap) (a b : ℕ) → IsCellOnMap m a b → (nat_lt a m.width && nat_lt b m.height) ≡ true
tests_of m a b on =
    and_from (nat_lt a m.width) (nat_lt b m.height) (lt-ltb a m.width on.x) (lt-ltb b m.height on.y)

cell_of_tests : (m : CellMap) (a b : ℕ) → (nat_lt a m.width && nat_lt b m.height) ≡ true → IsCellOnMap m a b
cell_of_tests m a b e =
    let both = and_parts (nat_lt a m.width) (nat_lt b m.height) e in
    record { x = ltb-true a m.width both.0; y = ltb-true b m.height both.1 }

on_map_verdict : (states : ℕ) (m : CellMap) (limit : ℕ) (x y z : List ℕ) (ox oy oz : Option ℕ) → Forms x y z
    → Ranges states limit x y z ox oy oz → ThreeVerdict states m limit x y z (on_map m ox oy oz)
on_map_verdict states m limit x y z None oy oz f r =
    record { numbers = no_forms x y z f; outside = inl (outside_of states x _ refl r.column f.column) }
on_map_verdict states m limit x y z (Some a) None oz f r =
    record { numbers = no_forms x y z f; outside = inr (inl (outside_of states y _ refl r.row f.row)) }
on_map_verdict states m limit x y z (Some a) (Some b) None f r =
    record { numbers = no_forms x y z f; outside = inr (inr (outside_of limit z _ refl r.third f.third)) }
on_map_verdict states m limit x y z (Some a) (Some b) (Some k) f r =
    let gives : Give states limit x y z a b k = record {
      x_is = gives_of states x a _ refl r.column;
      y_is = gives_of states y b _ refl r.row;
      z_is = gives_of limit z k _ refl r.third;
    } in
    elim (cases_Bool (nat_lt a m.width && nat_lt b m.height)) [
      | inl e ↦ rw e (gives, cell_of_tests m a b e)
      | inr e ↦ let off = λ (on : IsCellOnMap m a b). false≢true (sym e ∙ tests_of m a b on) in
          rw e (a, b, k, gives, off)
    ]

pub measured_verdict : (states : ℕ) (m : CellMap) (limit : ℕ) (x y z : List ℕ)
    → ThreeVerdict states m limit x y z (measured states m limit (whole_of x) (whole_of y) (whole_of z))
measured_verdict states m limit x y z =
    let lx = lacks_form (whole_of x) in
    let ly = lacks_form (whole_of y) in
    let lz = lacks_form (whole_of z) in
    elim (cases_Bool (lx || (ly || lz))) [
      | inl e ↦ rw e (elim (or_cases lx (ly || lz) e) [
        | inl a ↦ inl (no_number_of x _ refl a)
        | inr b ↦ inr (elim (or_cases ly lz b) [
          | inl a ↦ inl (no_number_of y _ refl a)
          | inr a ↦ inr (no_number_of z _ refl a)
        ])
      ])
      | inr e ↦ let one = or_parts lx (ly || lz) e in let two = or_parts ly lz one.1 in
          let forms : Forms x y z = record { column = one.0; row = two.0; third = two.1 } in
          rw e (on_map_verdict states m limit x y z _ _ _ forms (record { column = refl; row = refl; third = refl }))
    ]

-- ---- lines of three fields

cell_told : (states : ℕ) (m : CellMap) (headings : Option ℕ) (at : ℕ) (line : List (List ℕ)) (x y z : List ℕ)
    (r : Result Three LineFault)
    → line ≡ cell_line x y z → ThreeVerdict states m 256 x y z r → Verdict states m headings at line (cell_said at r)
cell_told states m headings at line x y z (Ok n) e v = (x, y, z, e, v.0, v.1)
cell_told states m headings at line x y z (Err fault.Word) e v = absurd v
cell_told states m headings at line x y z (Err fault.Number) e v = (refl, (256, x, y, z, inl (e, refl), v))
cell_told states m headings at line x y z (Err fault.Range) e v = (refl, (256, x, y, z, inl (e, refl), v))
cell_told states m headings at line x y z (Err fault.OffMap) e v = (refl, (256, x, y, z, inl (e, refl), v))

start_told : (states : ℕ) (m : CellMap) (limit at : ℕ) (line : List (List ℕ)) (x y z : List ℕ) (r : Result Three LineFault)
    → line ≡ start_line x y z → ThreeVerdict states m limit x y z r → Verdict states m (Some limit) at line (start_said at r)
start_told states m limit at line x y z (Ok n) e v = (x, y, z, e, (limit, refl, v.0), v.1)
start_told states m limit at line x y z (Err fault.Word) e v = absurd v
start_told states m limit at line x y z (Err fault.Number) e v = (refl, (limit, x, y, z, inr (e, refl), v))
start_told states m limit at line x y z (Err fault.Range) e v = (refl, (limit, x, y, z, inr (e, refl), v))
start_told states m limit at line x y z (Err fault.OffMap) e v = (refl, (limit, x, y, z, inr (e, refl), v))

-- ---- lines

abbrev pub HasNotThree : List (List ℕ) → Type 0
HasNotThree more = (x y z : List ℕ) → more ≢ x ∷ y ∷ z ∷ []

cell≢start : codes "cell" ≢ codes "start"
cell≢start h = cc

cell≢replan : codes "cell" ≢ codes "replan"
cell≢replan h = cc

start≢replan : codes "start" ≢ codes "replan"
start≢replan h = cc

-- another number of fields
other_cell : (headings : Option ℕ) (word : List ℕ) (more : List (List ℕ)) → word ≡ codes "cell" → HasNotThree more
    → IsOther headings (word ∷ more)
other_cell headings word more e n = record {
  some = λ h. cc;
  no_replan = λ h. (let other : word ≡ codes "replan" = cc in cell≢replan (sym e ∙ other));
  no_three = λ limit x y z h. elim h [
    | inl p ↦ (let q = p.0 in n x y z cc)
    | inr p ↦ (let q = p.0 in let other : word ≡ codes "start" = cc in cell≢start (sym e ∙ other))
  ];
}

other_start : (headings : Option ℕ) (word : List ℕ) (more : List (List ℕ)) → word ≡ codes "start"
    → ((limit : ℕ) → headings ≡ Some limit → HasNotThree more) → IsOther headings (word ∷ more)
other_start headings word more e n = record {
  some = λ h. cc;
  no_replan = λ h. (let other : word ≡ codes "replan" = cc in start≢replan (sym e ∙ other));
  no_three = λ limit x y z h. elim h [
    | inl p ↦ (let q = p.0 in let other : word ≡ codes "cell" = cc in cell≢start (sym other ∙ e))
    | inr p ↦ (let q = p.0 in n limit p.1 x y z cc)
  ];
}

cell_verdict : (states : ℕ) (m : CellMap) (headings : Option ℕ) (at : ℕ) (word : List ℕ) (more : List (List ℕ))
    → word ≡ codes "cell" → Verdict states m headings at (word ∷ more) (cell_said at (numbers states m 256 (three more)))
cell_verdict states m headings at word [] e = (refl, other_cell headings word [] e (λ _ _ _ h. cc))
cell_verdict states m headings at word (x ∷ []) e = (refl, other_cell headings word (x ∷ []) e (λ _ _ _ h. cc))
cell_verdict states m headings at word (x ∷ y ∷ []) e = (refl, other_cell headings word (x ∷ y ∷ []) e (λ _ _ _ h. cc))
cell_verdict states m headings at word (x ∷ y ∷ z ∷ []) e =
    let line_is = ap (λ w. w ∷ x ∷ y ∷ z ∷ []) e in
    cell_told states m headings at (word ∷ x ∷ y ∷ z ∷ []) x y z _ line_is (measured_verdict states m 256 x y z)
cell_verdict states m headings at word (x ∷ y ∷ z ∷ d ∷ more) e =
    (refl, other_cell headings word (x ∷ y ∷ z ∷ d ∷ more) e (λ _ _ _ h. cc))

start_verdict : (states : ℕ) (m : CellMap) (headings : Option ℕ) (at : ℕ) (word : List ℕ) (more : List (List ℕ))
    → word ≡ codes "start" → Verdict states m headings at (word ∷ more) (started states m headings at more)
start_verdict states m None at word more e = (refl, other_start None word more e (λ limit h. absurd cc))
start_verdict states m (Some n) at word [] e = (refl, other_start (Some n) word [] e (λ _ _ _ _ _ h. cc))
start_verdict states m (Some n) at word (x ∷ []) e = (refl, other_start (Some n) word (x ∷ []) e (λ _ _ _ _ _ h. cc))
start_verdict states m (Some n) at word (x ∷ y ∷ []) e = (refl, other_start (Some n) word (x ∷ y ∷ []) e (λ _ _ _ _ _ h. cc))
start_verdict states m (Some n) at word (x ∷ y ∷ z ∷ []) e =
    start_told states m n at (word ∷ x ∷ y ∷ z ∷ []) x y z _ (ap (λ w. w ∷ x ∷ y ∷ z ∷ []) e) (measured_verdict states m n x y z)
start_verdict states m (Some n) at word (x ∷ y ∷ z ∷ d ∷ more) e =
    (refl, other_start (Some n) word (x ∷ y ∷ z ∷ d ∷ more) e (λ _ _ _ _ _ h. cc))

-- no line of three fields begins with another word
no_three_of : (headings : Option ℕ) (word : List ℕ) (more : List (List ℕ)) → word ≢ codes "cell"
    → word ≢ codes "start" → (limit : ℕ) (x y z : List ℕ) → HasThree headings (word ∷ more) limit x y z → ⊥
no_three_of headings word more c s limit x y z h = elim h [
  | inl p ↦ (let q = p.0 in c cc)
  | inr p ↦ (let q = p.0 in s cc)
]

replan_verdict : (states : ℕ) (m : CellMap) (headings : Option ℕ) (at : ℕ) (word : List ℕ) (more : List (List ℕ))
    → word ≢ codes "cell" → word ≢ codes "start" → word ≡ codes "replan"
    → Verdict states m headings at (word ∷ more) (ended at more)
replan_verdict states m headings at word [] c s e = ap (λ w. w ∷ []) e
replan_verdict states m headings at word (x ∷ more) c s e =
    (refl, record { some = λ h. cc; no_replan = λ h. cc; no_three = no_three_of headings word (x ∷ more) c s })

pub judged_verdict : (states : ℕ) (m : CellMap) (headings : Option ℕ) (at : ℕ) (line : List (List ℕ))
    → Verdict states m headings at line (judged states m headings at line)
unfolding judged
judged_verdict states m headings at [] = refl
judged_verdict states m headings at (word ∷ more) =
    let is_cell = bytes_eq-Decides word (codes "cell") in
    let is_start = bytes_eq-Decides word (codes "start") in
    let is_replan = bytes_eq-Decides word (codes "replan") in
    elim (cases_Bool (bytes_eq word (codes "cell"))) [
      | inl e ↦ rw e (cell_verdict states m headings at word more (is_cell.0 e))
      | inr e ↦ let no_cell : word ≢ codes "cell" = λ h. false≢true (sym e ∙ is_cell.1 h) in
          elim (cases_Bool (bytes_eq word (codes "start"))) [
            | inl d ↦ rw (e, d) (start_verdict states m headings at word more (is_start.0 d))
            | inr d ↦ let no_start : word ≢ codes "start" = λ h. false≢true (sym d ∙ is_start.1 h) in
                elim (cases_Bool (bytes_eq word (codes "replan"))) [
                  | inl k ↦ rw (e, d, k) (replan_verdict states m headings at word more no_cell no_start (is_replan.0 k))
                  | inr k ↦ rw (e, d, k) (
                    refl,
                    record {
                      some = λ h. cc;
                      no_replan = λ h. false≢true (sym k ∙ is_replan.1 cc);
                      no_three = no_three_of headings word more no_cell no_start;
                    },
                  )
                ]
          ]
    ]

-- ---- and what is true of a line is judged of it

in_range_given : (limit : ℕ) (field : List ℕ) (n : ℕ) → IsNumberBelow limit field n
    → in_range limit (whole_of field) ≡ Some n
in_range_given limit field n g = rw (g.0, lt-ltb n limit g.1) refl

form_given : (limit : ℕ) (field : List ℕ) (n : ℕ) → IsNumberBelow limit field n → lacks_form (whole_of field) ≡ false
form_given limit field n g = rw g.0 refl

form_not_missing : (field : List ℕ) (r : Result ℤ NumFault) → whole_of field ≡ r → (IsNoNumber field → ⊥)
    → lacks_form r ≡ false
form_not_missing field (Ok n) e h = refl
form_not_missing field (Err Form) e h = absurd (h e)
form_not_missing field (Err Size) e h = refl

outside_not_in : (limit : ℕ) (r : Result ℤ NumFault) (n : ℤ) → r ≡ Ok n → (n <ℤ pos 0) ⊎ (pos limit ≤ℤ n)
    → in_range limit r ≡ None
outside_not_in limit r (pos k) e o =
    rw e (rw (le-ltb k limit (elim o [ inl a ↦ absurd (omega (arith, ints)) | inr a ↦ omega (arith, ints) ])) refl)
outside_not_in limit r (negsuc k) e o = rw e refl

range_outside : (limit : ℕ) (field : List ℕ) → IsOutside limit field → in_range limit (whole_of field) ≡ None
range_outside limit field o = elim o [
  | inl e ↦ rw e refl
  | inr h ↦ outside_not_in limit (whole_of field) h.0 h.1 h.2
]

one_outside : (m : CellMap) (ox oy oz : Option ℕ) → (ox ≡ None) ⊎ ((oy ≡ None) ⊎ (oz ≡ None))
    → on_map m ox oy oz ≡ Err fault.Range
one_outside m None oy oz h = refl
one_outside m (Some a) None oz h = refl
one_outside m (Some a) (Some b) None h = refl
one_outside m (Some a) (Some b) (Some k) h = absurd (elim h [
  | inl e ↦ grind arith
  | inr o ↦ elim o [ inl e ↦ grind arith | inr e ↦ grind arith ]
])

no_number_judged : (states : ℕ) (m : CellMap) (limit : ℕ) (x y z : List ℕ) → HaveNoNumber x y z
    → measured states m limit (whole_of x) (whole_of y) (whole_of z) ≡ Err fault.Number
no_number_judged states m limit x y z h =
    let lx = lacks_form (whole_of x) in
    let ly = lacks_form (whole_of y) in
    let lz = lacks_form (whole_of z) in
    let some : (lx || (ly || lz)) ≡ true = elim h [
      | inl e ↦ or_left lx (ly || lz) (rw e refl)
      | inr o ↦ or_right lx (ly || lz) (elim o [
        | inl e ↦ or_left ly lz (rw e refl)
        | inr e ↦ or_right ly lz (rw e refl)
      ])
    ] in
    rw some refl

have_forms : (states : ℕ) (m : CellMap) (limit : ℕ) (x y z : List ℕ) → lacks_form (whole_of x) ≡ false
    → lacks_form (whole_of y) ≡ false → lacks_form (whole_of z) ≡ false
    → measured states m limit (whole_of x) (whole_of y) (whole_of z) ≡ on_map m (in_range states (whole_of x))
    (in_range states (whole_of y)) (in_range limit (whole_of z))
have_forms states m limit x y z fx fy fz =
    let last_two = or_from (lacks_form (whole_of y)) (lacks_form (whole_of z)) fy fz in
    let none = or_from (lacks_form (whole_of x)) (lacks_form (whole_of y) || lacks_form (whole_of z)) fx last_two in
    rw none refl

range_judged : (states : ℕ) (m : CellMap) (limit : ℕ) (x y z : List ℕ) → AreOutside states limit x y z
    → measured states m limit (whole_of x) (whole_of y) (whole_of z) ≡ Err fault.Range
range_judged states m limit x y z h =
    let fx = form_not_missing x _ refl (λ e. h.numbers (inl e)) in
    let fy = form_not_missing y _ refl (λ e. h.numbers (inr (inl e))) in
    let fz = form_not_missing z _ refl (λ e. h.numbers (inr (inr e))) in
    have_forms states m limit x y z fx fy fz ∙ one_outside m _ _ _ (elim h.outside [
      | inl o ↦ inl (range_outside states x o)
      | inr o ↦ inr (elim o [ inl p ↦ inl (range_outside states y p) | inr p ↦ inr (range_outside limit z p) ])
    ])

give_judged : (states : ℕ) (m : CellMap) (limit : ℕ) (x y z : List ℕ) (a b k : ℕ) → Give states limit x y z a b k
    → measured states m limit (whole_of x) (whole_of y) (whole_of z) ≡ on_map m (Some a) (Some b) (Some k)
give_judged states m limit x y z a b k g =
    let x_form = form_given states x a g.x_is in
    let y_form = form_given states y b g.y_is in
    have_forms states m limit x y z x_form y_form (form_given limit z k g.z_is)
    ∙ rw (in_range_given states x a g.x_is, in_range_given states y b g.y_is, in_range_given limit z k g.z_is) refl

on_map_judged : (m : CellMap) (a b k : ℕ) → IsCellOnMap m a b → on_map m (Some a) (Some b) (Some k) ≡ Ok (a, b, k)
on_map_judged m a b k on =
    rw (and_from (nat_lt a m.width) (nat_lt b m.height) (lt-ltb a m.width on.x) (lt-ltb b m.height on.y)) refl

off_map_judged : (states : ℕ) (m : CellMap) (limit : ℕ) (x y z : List ℕ) → AreOffMap states m limit x y z
    → measured states m limit (whole_of x) (whole_of y) (whole_of z) ≡ Err fault.OffMap
off_map_judged states m limit x y z h =
    let a = h.0 in
    let b = h.1 in
    let off = false_from_ne_true (nat_lt a m.width && nat_lt b m.height) (λ e. h.4 (cell_of_tests m a b e)) in
    give_judged states m limit x y z a b h.2 h.3 ∙ rw off refl

-- what is true of three fields is measured
pub measured_is : (states : ℕ) (m : CellMap) (limit : ℕ) (x y z : List ℕ) (r : Result Three LineFault)
    → ThreeVerdict states m limit x y z r → measured states m limit (whole_of x) (whole_of y) (whole_of z) ≡ r
measured_is states m limit x y z (Ok n) v =
    give_judged states m limit x y z n.0 n.1 n.2 v.0 ∙ on_map_judged m n.0 n.1 n.2 v.1
measured_is states m limit x y z (Err fault.Word) v = absurd v
measured_is states m limit x y z (Err fault.Number) v = no_number_judged states m limit x y z v
measured_is states m limit x y z (Err fault.Range) v = range_judged states m limit x y z v
measured_is states m limit x y z (Err fault.OffMap) v = off_map_judged states m limit x y z v

cell_judged : (states : ℕ) (m : CellMap) (headings : Option ℕ) (at : ℕ) (line : List (List ℕ)) (x y z : List ℕ)
    (r : Result Three LineFault) → line ≡ cell_line x y z
    → measured states m 256 (whole_of x) (whole_of y) (whole_of z) ≡ r → judged states m headings at line ≡ cell_said at r
unfolding judged
cell_judged states m headings at line x y z r e h = rw e (ap (cell_said at) h)

start_judged : (states : ℕ) (m : CellMap) (headings : Option ℕ) (at limit : ℕ) (line : List (List ℕ)) (x y z : List ℕ)
    (r : Result Three LineFault) → line ≡ start_line x y z → headings ≡ Some limit
    → measured states m limit (whole_of x) (whole_of y) (whole_of z) ≡ r → judged states m headings at line ≡ start_said at r
unfolding judged
start_judged states m headings at limit line x y z r e s h = rw (e, s) (ap (start_said at) h)

-- the fault of the three fields is that of their line
three_judged : (states : ℕ) (m : CellMap) (headings : Option ℕ) (at limit : ℕ) (line : List (List ℕ)) (x y z : List ℕ)
    (f : LineFault) → HasThree headings line limit x y z
    → measured states m limit (whole_of x) (whole_of y) (whole_of z) ≡ Err f → judged states m headings at line ≡ Err (at_line at f)
three_judged states m headings at limit line x y z f t h = elim t [
  | inl p ↦ let here = rw p.1 at h in cell_judged states m headings at line x y z (Err f) p.0 here
  | inr p ↦ start_judged states m headings at limit line x y z (Err f) p.0 p.1 h
]

pub few_or_many : (states : ℕ) (m : CellMap) (limit : ℕ) (more : List (List ℕ)) → HasNotThree more
    → numbers states m limit (three more) ≡ Err fault.Word
few_or_many states m limit [] n = refl
few_or_many states m limit (x ∷ []) n = refl
few_or_many states m limit (x ∷ y ∷ []) n = refl
few_or_many states m limit (x ∷ y ∷ z ∷ []) n = absurd (n x y z refl)
few_or_many states m limit (x ∷ y ∷ z ∷ d ∷ more) n = refl

not_started : (states : ℕ) (m : CellMap) (headings : Option ℕ) (at : ℕ) (word : List ℕ) (more : List (List ℕ))
    → word ≡ codes "start" → IsOther headings (word ∷ more) → started states m headings at more ≡ Err (Word at)
not_started states m None at word more e o = refl
not_started states m (Some n) at word more e o =
    ap (start_said at) (few_or_many states m n more (λ x y z h. o.no_three n x y z (inr (cc, refl))))

not_alone : (headings : Option ℕ) (at : ℕ) (word : List ℕ) (more : List (List ℕ)) → word ≡ codes "replan"
    → IsOther headings (word ∷ more) → ended at more ≡ Err (Word at)
not_alone headings at word [] e o = absurd (o.no_replan (ap (λ w. w ∷ []) e))
not_alone headings at word (x ∷ more) e o = refl

other_judged : (states : ℕ) (m : CellMap) (headings : Option ℕ) (at : ℕ) (line : List (List ℕ)) → IsOther headings line
    → judged states m headings at line ≡ Err (Word at)
unfolding judged
other_judged states m headings at [] o = absurd (o.some refl)
other_judged states m headings at (word ∷ more) o =
    let is_cell = bytes_eq-Decides word (codes "cell") in
    let is_start = bytes_eq-Decides word (codes "start") in
    let is_replan = bytes_eq-Decides word (codes "replan") in
    elim (cases_Bool (bytes_eq word (codes "cell"))) [
      | inl e ↦ let word_is = is_cell.0 e in
          rw e (ap (cell_said at) (few_or_many states m 256 more (λ x y z h. o.no_three 256 x y z (inl (cc, refl)))))
      | inr e ↦ elim (cases_Bool (bytes_eq word (codes "start"))) [
        | inl d ↦ rw (e, d) (not_started states m headings at word more (is_start.0 d) o)
        | inr d ↦ elim (cases_Bool (bytes_eq word (codes "replan"))) [
          | inl k ↦ rw (e, d, k) (not_alone headings at word more (is_replan.0 k) o)
          | inr k ↦ rw (e, d, k) refl
        ]
      ]
    ]

-- What is true of a line is what is judged of it.
pub judged_is : (states : ℕ) (m : CellMap) (headings : Option ℕ) (at : ℕ) (line : List (List ℕ)) (r : Result Said ChangeFault)
    → Verdict states m headings at line r → judged states m headings at line ≡ r
unfolding judged
judged_is states m headings at line (Ok Nothing) h = rw h refl
judged_is states m headings at line (Ok (Cell w)) h =
    let n : Three = (w.x, w.y, w.cost) in
    cell_judged states m headings at line h.0 h.1 h.2 (Ok n) h.3 (measured_is states m 256 h.0 h.1 h.2 (Ok n) (h.4, h.5))
judged_is states m headings at line (Ok (Start p)) h =
    let g = h.4 in
    let n : Three = (p.x, p.y, p.t) in
    let is = measured_is states m g.0 h.0 h.1 h.2 (Ok n) (g.2, h.5) in
    start_judged states m headings at g.0 line h.0 h.1 h.2 (Ok n) h.3 g.1 is
judged_is states m headings at line (Ok Replan) h = rw h refl
judged_is states m headings at line (Err (Word n)) h = rw h.0 (other_judged states m headings at line h.1)
judged_is states m headings at line (Err (Number n)) h =
    let t = h.1 in
    let is = measured_is states m t.0 t.1 t.2 t.3 (Err fault.Number) t.5 in
    rw h.0 (three_judged states m headings at t.0 line t.1 t.2 t.3 fault.Number t.4 is)
judged_is states m headings at line (Err (Range n)) h =
    let t = h.1 in
    let is = measured_is states m t.0 t.1 t.2 t.3 (Err fault.Range) t.5 in
    rw h.0 (three_judged states m headings at t.0 line t.1 t.2 t.3 fault.Range t.4 is)
judged_is states m headings at line (Err (OffMap n)) h =
    let t = h.1 in
    let is = measured_is states m t.0 t.1 t.2 t.3 (Err fault.OffMap) t.5 in
    rw h.0 (three_judged states m headings at t.0 line t.1 t.2 t.3 fault.OffMap t.4 is)
judged_is states m headings at line (Err (NoReplan n)) h = absurd h
judged_is states m headings at line (Err NoMemory) h = absurd h

-- ---- a line that is no start's

same_by_word : (states : ℕ) (m : CellMap) (headings : Option ℕ) (at : ℕ) (word : List ℕ) (more : List (List ℕ))
    → word ≢ codes "start" → judged states m headings at (word ∷ more) ≡ judged states m None at (word ∷ more)
unfolding judged
same_by_word states m headings at word more n =
    let is_start = bytes_eq-Decides word (codes "start") in
    let other = false_from_ne_true (bytes_eq word (codes "start")) (λ e. n (is_start.0 e)) in
    rw other refl

-- is judged alike whether or not a start's could be
pub judged_alike : (states : ℕ) (m : CellMap) (headings : Option ℕ) (at : ℕ) (line : List (List ℕ)) → IsNoStart line
    → judged states m headings at line ≡ judged states m None at line
unfolding judged
judged_alike states m headings at [] n = refl
judged_alike states m headings at (word ∷ more) n = same_by_word states m headings at word more n
