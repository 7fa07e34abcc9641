-- What is read of a line is what it says, or its fault.
use Rattle.std.proofs.Common.{◌≡◌, ◌≤◌, ℕ, true, false, nat_lt, List, [], ◌∷◌, length, codes, Result, Ok, Err}
use Rattle.std.proofs.Common.{refl, sym, ap, ◌∙◌, inl, inr, subst, arith}
use Rattle.std.specs.Prelude.{◌≢◌, ◌<◌, ◌⊎◌, IfErr, IfOk, bytes_eq}
use Rattle.std.proofs.lemmas.Bool.{cases_Bool, false≢true, ltb-true, ltb-false, le-ltb, lt-ltb, false_from_ne_true}
use Rattle.std.proofs.lemmas.Bool.Decides.{nat_tests}
use Rattle.std.proofs.lemmas.Slice.Eq.{bytes_eq-Decides}
use Rattle.sbpl_map.specs.CellMap.{CellMap}
use Rattle.sbpl_map.specs.ChangeText.{IsCellOnMap, cell_line, start_line}
use Rattle.sbpl_map.specs.Fields.{fields}
use Rattle.sbpl_map.specs.Reading.{Three, numbers, three}
use Rattle.sbpl_map.specs.declared.line_fault.LineFault.{LineFault}
use Rattle.sbpl_map.specs.declared.line_fault.LineFault.TheVariants as fault
use Rattle.sbpl_map.proofs.LineLaws.{HasNotThree, ThreeVerdict, few_or_many, measured_is, measured_verdict}
use Rattle.sbpl_live.specs.Lines.{FieldsHave, FieldsSay, HasFault, HasThreeFields, IsNoLine, IsNote, IsSilent, LineSays, Scope}
use Rattle.sbpl_live.specs.Lines.{IsFaulty, SaysSome, goal_line, plan_line, scope_of}
use Rattle.sbpl_live.specs.Settings.{ArePairs}
use Rattle.sbpl_live.specs.Reading.{are_pairs, cell_said, goal_said, heard, heard_in, is_note, plan_of, plan_said, start_said}
use Rattle.sbpl_live.specs.Reading.{wants_given}
use Rattle.sbpl_live.specs.declared.spoken.Wants.{Wants}
use Rattle.sbpl_live.specs.declared.spoken.Spoken.{Spoken}
use Rattle.sbpl_live.specs.declared.spoken.Spoken.TheVariants.{Nothing, Cell, Start, Goal, Plan}
use Rattle.sbpl_live.proofs.PlanLaws.{PlanVerdict, pairs_are, pairs_of, wants_is, wants_verdict}

-- what was read is true of the fields
abbrev pub FieldsVerdict : Scope → List (List ℕ) → Result Spoken LineFault → Type 0
FieldsVerdict s line (Ok said) = FieldsSay s line said
FieldsVerdict s line (Err f) = FieldsHave s line f

-- ---- lines of three fields

cell_told : (s : Scope) (line : List (List ℕ)) (x y z : List ℕ) (r : Result Three LineFault) → line ≡ cell_line x y z
    → ThreeVerdict s.states s.cells 256 x y z r → FieldsVerdict s line (cell_said r)
cell_told s line x y z (Ok n) e v = (x, y, z, e, v)
cell_told s line x y z (Err fault.Word) e v = absurd v
cell_told s line x y z (Err fault.Number) e v = inl (256, x, y, z, inl (e, refl), v)
cell_told s line x y z (Err fault.Range) e v = inl (256, x, y, z, inl (e, refl), v)
cell_told s line x y z (Err fault.OffMap) e v = (256, x, y, z, inl (e, refl), v)

start_told : (s : Scope) (line : List (List ℕ)) (x y z : List ℕ) (r : Result Three LineFault) → line ≡ start_line x y z
    → ThreeVerdict s.states s.cells s.headings x y z r → FieldsVerdict s line (start_said r)
start_told s line x y z (Ok n) e v = (x, y, z, e, v)
start_told s line x y z (Err fault.Word) e v = absurd v
start_told s line x y z (Err fault.Number) e v = inl (s.headings, x, y, z, inr (inl e, refl), v)
start_told s line x y z (Err fault.Range) e v = inl (s.headings, x, y, z, inr (inl e, refl), v)
start_told s line x y z (Err fault.OffMap) e v = (s.headings, x, y, z, inr (inl e, refl), v)

goal_told : (s : Scope) (line : List (List ℕ)) (x y z : List ℕ) (r : Result Three LineFault) → line ≡ goal_line x y z
    → ThreeVerdict s.states s.cells s.headings x y z r → FieldsVerdict s line (goal_said r)
goal_told s line x y z (Ok n) e v = (x, y, z, e, v)
goal_told s line x y z (Err fault.Word) e v = absurd v
goal_told s line x y z (Err fault.Number) e v = inl (s.headings, x, y, z, inr (inr e, refl), v)
goal_told s line x y z (Err fault.Range) e v = inl (s.headings, x, y, z, inr (inr e, refl), v)
goal_told s line x y z (Err fault.OffMap) e v = (s.headings, x, y, z, inr (inr e, refl), v)

-- ---- words

cell≢plan : codes "cell" ≢ codes "plan"
cell≢plan h = false≢true ((bytes_eq-Decides (codes "cell") (codes "plan")).1 h)

start≢plan : codes "start" ≢ codes "plan"
start≢plan h = false≢true ((bytes_eq-Decides (codes "start") (codes "plan")).1 h)

goal≢plan : codes "goal" ≢ codes "plan"
goal≢plan h = false≢true ((bytes_eq-Decides (codes "goal") (codes "plan")).1 h)

no_note : (word : List ℕ) (more : List (List ℕ)) → is_note word ≡ false → IsNote (word ∷ more) → ⊥
no_note [] more e h = h
no_note (b ∷ bs) more e h = let bad : true ≡ false = rw h at e in false≢true (sym bad)

not_silent : (word : List ℕ) (more : List (List ℕ)) → is_note word ≡ false → IsSilent (word ∷ more) → ⊥
not_silent word more e h = elim h [ inl a ↦ cc | inr a ↦ no_note word more e a ]

note_of : (word : List ℕ) (more : List (List ℕ)) → is_note word ≡ true → IsNote (word ∷ more)
note_of [] more e = false≢true e
note_of (b ∷ bs) more e = grind (arith, nat_tests)

-- a line that has not just three fields after its word
few_three : (s : Scope) (word : List ℕ) (more : List (List ℕ)) → HasNotThree more
    → (limit : ℕ) (x y z : List ℕ) → HasThreeFields s (word ∷ more) limit x y z → ⊥
few_three s word more n limit x y z h = elim h [
  | inl p ↦ (let q = p.0 in n x y z cc)
  | inr p ↦ elim p.0 [ inl q ↦ n x y z cc | inr q ↦ n x y z cc ]
]

-- or one of another word
word_three : (s : Scope) (word : List ℕ) (more : List (List ℕ)) → word ≢ codes "cell" → word ≢ codes "start"
    → word ≢ codes "goal" → (limit : ℕ) (x y z : List ℕ) → HasThreeFields s (word ∷ more) limit x y z → ⊥
word_three s word more c a g limit x y z h = elim h [
  | inl p ↦ (let q = p.0 in c cc)
  | inr p ↦ elim p.0 [ inl q ↦ a cc | inr q ↦ g cc ]
]

few_fields : (s : Scope) (word : List ℕ) (more : List (List ℕ)) → is_note word ≡ false → word ≢ codes "plan"
    → HasNotThree more → IsNoLine s (word ∷ more)
few_fields s word more e p n = record {
  loud = not_silent word more e;
  no_three = few_three s word more n;
  no_plan = λ pairs h _. p cc;
}

-- ---- what was read of the fields is true of them

cell_verdict : (s : Scope) (word : List ℕ) (more : List (List ℕ)) → is_note word ≡ false → word ≡ codes "cell"
    → FieldsVerdict s (word ∷ more) (cell_said (numbers s.states s.cells 256 (three more)))
cell_verdict s word [] n e = few_fields s word [] n (λ h. cell≢plan (sym e ∙ h)) (λ _ _ _ h. cc)
cell_verdict s word (x ∷ []) n e = few_fields s word (x ∷ []) n (λ h. cell≢plan (sym e ∙ h)) (λ _ _ _ h. cc)
cell_verdict s word (x ∷ y ∷ []) n e = few_fields s word (x ∷ y ∷ []) n (λ h. cell≢plan (sym e ∙ h)) (λ _ _ _ h. cc)
cell_verdict s word (x ∷ y ∷ z ∷ []) n e =
    cell_told s (word ∷ x ∷ y ∷ z ∷ []) x y z _ (ap (λ w. w ∷ x ∷ y ∷ z ∷ []) e) (measured_verdict s.states s.cells 256 x y z)
cell_verdict s word (x ∷ y ∷ z ∷ d ∷ more) n e =
    few_fields s word (x ∷ y ∷ z ∷ d ∷ more) n (λ h. cell≢plan (sym e ∙ h)) (λ _ _ _ h. cc)

start_verdict : (s : Scope) (word : List ℕ) (more : List (List ℕ)) → is_note word ≡ false → word ≡ codes "start"
    → FieldsVerdict s (word ∷ more) (start_said (numbers s.states s.cells s.headings (three more)))
start_verdict s word [] n e = few_fields s word [] n (λ h. start≢plan (sym e ∙ h)) (λ _ _ _ h. cc)
start_verdict s word (x ∷ []) n e = few_fields s word (x ∷ []) n (λ h. start≢plan (sym e ∙ h)) (λ _ _ _ h. cc)
start_verdict s word (x ∷ y ∷ []) n e = few_fields s word (x ∷ y ∷ []) n (λ h. start≢plan (sym e ∙ h)) (λ _ _ _ h. cc)
start_verdict s word (x ∷ y ∷ z ∷ []) n e =
    start_told s (word ∷ x ∷ y ∷ z ∷ []) x y z _ (ap (λ w. w ∷ x ∷ y ∷ z ∷ []) e)
    (measured_verdict s.states s.cells s.headings x y z)
start_verdict s word (x ∷ y ∷ z ∷ d ∷ more) n e =
    few_fields s word (x ∷ y ∷ z ∷ d ∷ more) n (λ h. start≢plan (sym e ∙ h)) (λ _ _ _ h. cc)

goal_verdict : (s : Scope) (word : List ℕ) (more : List (List ℕ)) → is_note word ≡ false → word ≡ codes "goal"
    → FieldsVerdict s (word ∷ more) (goal_said (numbers s.states s.cells s.headings (three more)))
goal_verdict s word [] n e = few_fields s word [] n (λ h. goal≢plan (sym e ∙ h)) (λ _ _ _ h. cc)
goal_verdict s word (x ∷ []) n e = few_fields s word (x ∷ []) n (λ h. goal≢plan (sym e ∙ h)) (λ _ _ _ h. cc)
goal_verdict s word (x ∷ y ∷ []) n e = few_fields s word (x ∷ y ∷ []) n (λ h. goal≢plan (sym e ∙ h)) (λ _ _ _ h. cc)
goal_verdict s word (x ∷ y ∷ z ∷ []) n e =
    goal_told s (word ∷ x ∷ y ∷ z ∷ []) x y z _ (ap (λ w. w ∷ x ∷ y ∷ z ∷ []) e)
    (measured_verdict s.states s.cells s.headings x y z)
goal_verdict s word (x ∷ y ∷ z ∷ d ∷ more) n e =
    few_fields s word (x ∷ y ∷ z ∷ d ∷ more) n (λ h. goal≢plan (sym e ∙ h)) (λ _ _ _ h. cc)

plan_told : (s : Scope) (line pairs : List (List ℕ)) (r : Result Wants LineFault) → line ≡ plan_line pairs → ArePairs pairs
    → PlanVerdict pairs r → FieldsVerdict s line (plan_of r)
plan_told s line pairs (Ok w) e a v = (pairs, e, a, v)
plan_told s line pairs (Err fault.Word) e a v = absurd v
plan_told s line pairs (Err fault.Number) e a v = inr (pairs, e, a, v)
plan_told s line pairs (Err fault.Range) e a v = inr (pairs, e, a, v)
plan_told s line pairs (Err fault.OffMap) e a v = absurd v

record OtherWord (word : List ℕ) : Type 0 where
  no_cell : word ≢ codes "cell"
  no_start : word ≢ codes "start"
  no_goal : word ≢ codes "goal"

plan_verdict : (s : Scope) (word : List ℕ) (more : List (List ℕ)) → is_note word ≡ false → OtherWord word
    → word ≡ codes "plan" → FieldsVerdict s (word ∷ more) (plan_said more)
plan_verdict s word more n o e =
    elim (cases_Bool (are_pairs more)) [
      | inl a ↦ rw a (plan_told s (word ∷ more) more (wants_given more) (ap (λ w. w ∷ more) e) (pairs_of more a)
          (wants_verdict more))
      | inr a ↦ rw a (record {
        loud = not_silent word more n;
        no_three = word_three s word more o.no_cell o.no_start o.no_goal;
        no_plan = λ pairs h p. (let same : more ≡ pairs = cc in let are = pairs_are pairs p in
            let bad : are_pairs more ≡ true = rw same are in false≢true (sym a ∙ bad));
      })
    ]

decided : (word : List ℕ) (name : List ℕ) → bytes_eq word name ≡ false → word ≢ name
decided word name e h = false≢true (sym e ∙ (bytes_eq-Decides word name).1 h)

fields_verdict : (s : Scope) (line : List (List ℕ)) → FieldsVerdict s line (heard_in s line)
unfolding heard_in
fields_verdict s [] = inl refl
fields_verdict s (word ∷ more) =
    elim (cases_Bool (is_note word)) [
      | inl n ↦ rw n (inr (note_of word more n))
      | inr n ↦ elim (cases_Bool (bytes_eq word (codes "cell"))) [
        | inl e ↦ rw (n, e) (cell_verdict s word more n ((bytes_eq-Decides word (codes "cell")).0 e))
        | inr c ↦ elim (cases_Bool (bytes_eq word (codes "start"))) [
          | inl e ↦ rw (n, c, e) (start_verdict s word more n ((bytes_eq-Decides word (codes "start")).0 e))
          | inr a ↦ elim (cases_Bool (bytes_eq word (codes "goal"))) [
            | inl e ↦ rw (n, c, a, e) (goal_verdict s word more n ((bytes_eq-Decides word (codes "goal")).0 e))
            | inr g ↦ let o : OtherWord word = record {
              no_cell = decided word (codes "cell") c;
              no_start = decided word (codes "start") a;
              no_goal = decided word (codes "goal") g;
            } in
                elim (cases_Bool (bytes_eq word (codes "plan"))) [
                  | inl e ↦ rw (n, c, a, g, e) (plan_verdict s word more n o ((bytes_eq-Decides word (codes "plan")).0 e))
                  | inr p ↦ rw (n, c, a, g, p) (record {
                    loud = not_silent word more n;
                    no_three = word_three s word more o.no_cell o.no_start o.no_goal;
                    no_plan = λ pairs h _. (let other : word ≡ codes "plan" = cc in decided word (codes "plan") p other);
                  })
                ]
          ]
        ]
      ]
    ]

-- ---- and what is true of the fields is read of them

note_heard : (s : Scope) (line : List (List ℕ)) → IsNote line → heard_in s line ≡ Ok Nothing
unfolding heard_in
note_heard s [] h = absurd h
note_heard s ([] ∷ more) h = absurd h
note_heard s ((b ∷ bs) ∷ more) h = rw h refl

cell_heard : (s : Scope) (line : List (List ℕ)) (x y z : List ℕ) (r : Result Three LineFault) → line ≡ cell_line x y z
    → ThreeVerdict s.states s.cells 256 x y z r → heard_in s line ≡ cell_said r
unfolding heard_in
cell_heard s line x y z r e v = rw e (ap cell_said (measured_is s.states s.cells 256 x y z r v))

start_heard : (s : Scope) (line : List (List ℕ)) (x y z : List ℕ) (r : Result Three LineFault) → line ≡ start_line x y z
    → ThreeVerdict s.states s.cells s.headings x y z r → heard_in s line ≡ start_said r
unfolding heard_in
start_heard s line x y z r e v = rw e (ap start_said (measured_is s.states s.cells s.headings x y z r v))

goal_heard : (s : Scope) (line : List (List ℕ)) (x y z : List ℕ) (r : Result Three LineFault) → line ≡ goal_line x y z
    → ThreeVerdict s.states s.cells s.headings x y z r → heard_in s line ≡ goal_said r
unfolding heard_in
goal_heard s line x y z r e v = rw e (ap goal_said (measured_is s.states s.cells s.headings x y z r v))

-- the fault of the three fields is that of their line
three_heard : (s : Scope) (line : List (List ℕ)) (limit : ℕ) (x y z : List ℕ) (f : LineFault)
    → HasThreeFields s line limit x y z → ThreeVerdict s.states s.cells limit x y z (Err f) → heard_in s line ≡ Err f
three_heard s line limit x y z f t v = let P : ℕ → Type 0 = λ n. ThreeVerdict s.states s.cells n x y z (Err f) in elim t [
  | inl p ↦ let here = subst P p.1 v in cell_heard s line x y z (Err f) p.0 here
  | inr p ↦ let here = subst P p.1 v in elim p.0 [
    | inl e ↦ start_heard s line x y z (Err f) e here
    | inr e ↦ goal_heard s line x y z (Err f) e here
  ]
]

plan_heard : (s : Scope) (line pairs : List (List ℕ)) (r : Result Wants LineFault) → line ≡ plan_line pairs → ArePairs pairs
    → PlanVerdict pairs r → heard_in s line ≡ plan_of r
unfolding heard_in
plan_heard s line pairs r e a v = let are = pairs_are pairs a in rw e (rw are (ap plan_of (wants_is pairs r v)))

no_line_heard : (s : Scope) (line : List (List ℕ)) → IsNoLine s line → heard_in s line ≡ Err fault.Word
unfolding heard_in
no_line_heard s [] o = absurd (o.loud (inl refl))
no_line_heard s (word ∷ more) o =
    let n = false_from_ne_true (is_note word) (λ e. o.loud (inr (note_of word more e))) in
    elim (cases_Bool (bytes_eq word (codes "cell"))) [
      | inl e ↦ let word_is = (bytes_eq-Decides word (codes "cell")).0 e in
          rw (n, e) (ap cell_said (few_or_many s.states s.cells 256 more (λ x y z h. o.no_three 256 x y z (inl (cc, refl)))))
      | inr c ↦ elim (cases_Bool (bytes_eq word (codes "start"))) [
        | inl e ↦ let word_is = (bytes_eq-Decides word (codes "start")).0 e in
            rw (n, c, e) (ap start_said (few_or_many s.states s.cells s.headings more
            (λ x y z h. o.no_three s.headings x y z (inr (inl cc, refl)))))
        | inr a ↦ elim (cases_Bool (bytes_eq word (codes "goal"))) [
          | inl e ↦ let word_is = (bytes_eq-Decides word (codes "goal")).0 e in
              rw (n, c, a, e) (ap goal_said (few_or_many s.states s.cells s.headings more
              (λ x y z h. o.no_three s.headings x y z (inr (inr cc, refl)))))
          | inr g ↦ elim (cases_Bool (bytes_eq word (codes "plan"))) [
            | inl e ↦ let word_is = (bytes_eq-Decides word (codes "plan")).0 e in
                let line_is = ap (λ w. w ∷ more) word_is in
                let none = false_from_ne_true (are_pairs more) (λ p. o.no_plan more line_is (pairs_of more p)) in
                rw (n, c, a, g, e, none) refl
            | inr p ↦ rw (n, c, a, g, p) refl
          ]
        ]
      ]
    ]

fields_heard : (s : Scope) (line : List (List ℕ)) (r : Result Spoken LineFault) → FieldsVerdict s line r → heard_in s line ≡ r
unfolding heard_in
fields_heard s line (Ok Nothing) h = elim h [ inl e ↦ rw e refl | inr n ↦ note_heard s line n ]
fields_heard s line (Ok (Cell w)) h =
    let n : Three = (w.x, w.y, w.cost) in cell_heard s line h.0 h.1 h.2 (Ok n) h.3 h.4
fields_heard s line (Ok (Start p)) h =
    let n : Three = (p.x, p.y, p.t) in start_heard s line h.0 h.1 h.2 (Ok n) h.3 h.4
fields_heard s line (Ok (Goal p)) h =
    let n : Three = (p.x, p.y, p.t) in goal_heard s line h.0 h.1 h.2 (Ok n) h.3 h.4
fields_heard s line (Ok (Plan w)) h = plan_heard s line h.0 (Ok w) h.1 h.2 h.3
fields_heard s line (Err fault.Word) h = no_line_heard s line h
fields_heard s line (Err fault.Number) h = elim h [
  | inl t ↦ three_heard s line t.0 t.1 t.2 t.3 fault.Number t.4 t.5
  | inr p ↦ plan_heard s line p.0 (Err fault.Number) p.1 p.2 p.3
]
fields_heard s line (Err fault.Range) h = elim h [
  | inl t ↦ three_heard s line t.0 t.1 t.2 t.3 fault.Range t.4 t.5
  | inr p ↦ plan_heard s line p.0 (Err fault.Range) p.1 p.2 p.3
]
fields_heard s line (Err fault.OffMap) h = three_heard s line h.0 h.1 h.2 h.3 fault.OffMap h.4 h.5

-- ---- lines

abbrev pub Verdict : Scope → List ℕ → Result Spoken LineFault → Type 0
Verdict s line (Ok said) = LineSays s line said
Verdict s line (Err f) = HasFault s line f

short_verdict : (s : Scope) (line : List ℕ) (r : Result Spoken LineFault) → length line ≤ 4096
    → FieldsVerdict s (fields line) r → Verdict s line r
short_verdict s line (Ok said) le v = (le, v)
short_verdict s line (Err f) le v = inr (le, v)

-- What is read of a line is true of it.
pub heard_verdict : (s : Scope) (line : List ℕ) → Verdict s line (heard s line)
heard_verdict s line =
    elim (cases_Bool (nat_lt 4096 (length line))) [
      | inl e ↦ let long : 4096 < length line = omega (arith, ltb-true 4096 (length line) e) in rw e (inl (long, refl))
      | inr e ↦ let short : length line ≤ 4096 = omega (arith, ltb-false 4096 (length line) e) in
          rw e (short_verdict s line _ short (fields_verdict s (fields line)))
    ]

short_heard : (s : Scope) (line : List ℕ) (r : Result Spoken LineFault) → length line ≤ 4096
    → FieldsVerdict s (fields line) r → heard s line ≡ r
short_heard s line r le v = let short = le-ltb 4096 (length line) le in rw short (fields_heard s (fields line) r v)

pub said_of : (s : Scope) (line : List ℕ) (r : Result Spoken LineFault) → Verdict s line r → IfOk r (LineSays s line)
said_of s line (Ok said) v = v
said_of s line (Err f) v = tt

pub fault_of : (s : Scope) (line : List ℕ) (r : Result Spoken LineFault) → Verdict s line r → IfErr r (HasFault s line)
fault_of s line (Ok said) v = tt
fault_of s line (Err f) v = v

either_of : (s : Scope) (line : List ℕ) (r : Result Spoken LineFault) → Verdict s line r → SaysSome s line ⊎ IsFaulty s line
either_of s line (Ok said) v = inl (said, v)
either_of s line (Err f) v = inr (f, v)

pub says_or_faulty : (s : Scope) (line : List ℕ) → SaysSome s line ⊎ IsFaulty s line
says_or_faulty s line = either_of s line (heard s line) (heard_verdict s line)

-- And what is true of a line is read of it.
pub heard_is : (s : Scope) (line : List ℕ) (r : Result Spoken LineFault) → Verdict s line r → heard s line ≡ r
heard_is s line (Ok said) h = short_heard s line (Ok said) h.0 h.1
heard_is s line (Err f) h = elim h [
  | inl p ↦ let long = lt-ltb 4096 (length line) p.0 in rw (long, p.1) refl
  | inr p ↦ short_heard s line (Err f) p.0 p.1
]

-- ---- what is unique

-- A line says one thing.
pub one_saying : (s : Scope) (line : List ℕ) (a b : Spoken) → LineSays s line a → LineSays s line b → a ≡ b
one_saying s line a b p q =
    let same : Ok a ≡ Ok b = sym (heard_is s line (Ok a) p) ∙ heard_is s line (Ok b) q in cc

-- A line has one fault.
pub one_fault : (s : Scope) (line : List ℕ) (f g : LineFault) → HasFault s line f → HasFault s line g → f ≡ g
one_fault s line f g p q =
    let same : Err f ≡ Err g = sym (heard_is s line (Err f) p) ∙ heard_is s line (Err g) q in cc

-- A line that says something has no fault.
pub no_fault_of_saying : (s : Scope) (line : List ℕ) (a : Spoken) (f : LineFault) → LineSays s line a → HasFault s line f → ⊥
no_fault_of_saying s line a f p q =
    let same : Ok a ≡ Err f = sym (heard_is s line (Ok a) p) ∙ heard_is s line (Err f) q in cc

-- ---- maps of one size

on_alike : (m n : CellMap) (x y : ℕ) → m.width ≡ n.width → m.height ≡ n.height → IsCellOnMap m x y → IsCellOnMap n x y
on_alike m n x y w h on = record { x = rw w at on.x; y = rw h at on.y }

-- What a line says on a map it says on each map of its size.
pub says_alike : (states headings : ℕ) (m n : CellMap) (line : List ℕ) (said : Spoken) → m.width ≡ n.width → m.height ≡ n.height
    → LineSays (scope_of states m headings) line said → LineSays (scope_of states n headings) line said
says_alike states headings m n line Nothing w h p = p
says_alike states headings m n line (Cell c) w h p =
    let q = p.1 in (p.0, (q.0, q.1, q.2, q.3, (q.4.0, on_alike m n c.x c.y w h q.4.1)))
says_alike states headings m n line (Start c) w h p =
    let q = p.1 in (p.0, (q.0, q.1, q.2, q.3, (q.4.0, on_alike m n c.x c.y w h q.4.1)))
says_alike states headings m n line (Goal c) w h p =
    let q = p.1 in (p.0, (q.0, q.1, q.2, q.3, (q.4.0, on_alike m n c.x c.y w h q.4.1)))
says_alike states headings m n line (Plan a) w h p = p

fields_have_alike : (states headings : ℕ) (m n : CellMap) (line : List (List ℕ)) (f : LineFault) → m.width ≡ n.width
    → m.height ≡ n.height → FieldsHave (scope_of states m headings) line f → FieldsHave (scope_of states n headings) line f
fields_have_alike states headings m n line fault.Word w h p =
    record { loud = p.loud; no_three = p.no_three; no_plan = p.no_plan }
fields_have_alike states headings m n line fault.Number w h p = p
fields_have_alike states headings m n line fault.Range w h p = p
fields_have_alike states headings m n line fault.OffMap w h p =
    let o = p.5 in
    let off = λ (on : IsCellOnMap n o.0 o.1). o.4 (on_alike n m o.0 o.1 (sym w) (sym h) on) in
    (p.0, p.1, p.2, p.3, p.4, (o.0, o.1, o.2, o.3, off))

-- And so it has its fault.
pub fault_alike : (states headings : ℕ) (m n : CellMap) (line : List ℕ) (f : LineFault) → m.width ≡ n.width
    → m.height ≡ n.height → HasFault (scope_of states m headings) line f → HasFault (scope_of states n headings) line f
fault_alike states headings m n line f w h p = elim p [
  | inl a ↦ inl a
  | inr a ↦ inr (a.0, fields_have_alike states headings m n (fields line) f w h a.1)
]
