-- What the format of a primitive file says: primitives, spelled token by token.
use Rattle.std.proofs.Common.{◌≡◌, ℕ, zero, suc, ◌≤◌, ℤ, pos, ◌==◌, List, [], ◌∷◌, ◌++◌, length, refl, sym, ap, subst}
use Rattle.std.proofs.Common.{◌∙◌, arith, append_assoc, append-nil}
use Rattle.std.specs.Prelude.{◌≤ℤ◌, unsigned_abs, codes, if◌then◌else◌}
use Rattle.std.proofs.lemmas.Bool.Decides.{Decides-eqb, Decides-int_eq}
use Rattle.std.proofs.lemmas.Int.{ints}
use Rattle.std.specs.List.{flat_map}
use Rattle.std.specs.Ordering.{int_eq}
use Rattle.sbpl_fixed.specs.Meaning.{StandsFor}
use Rattle.sbpl_fixed.specs.Tokens.{Piece, tokens}
use Rattle.sbpl_fixed.specs.Formats.{Format, ended, wrong, done, and_then, turns, Says}
use Rattle.sbpl_cfg.specs.Environment.{IsWithin}
use Rattle.sbpl_mprim.specs.declared.fault.PrimFault.{PrimFault}
use Rattle.sbpl_mprim.specs.declared.fault.PrimFault.TheVariants.{Resolution, Angles}
use Rattle.sbpl_mprim.specs.declared.prim.Primitive.{Primitive}
use Rattle.sbpl_mprim.specs.Primitives.{Primitives}
use Rattle.sbpl_mprim.specs.Reading.{angles_format, head_format, prim_format, prim_turn}
use Rattle.sbpl_mprim.specs.Reading.{prims_format, resolution_format, total_format}
use Rattle.sbpl_mprim.specs.Text.{IsTextOf, Saying, a_nano, a_whole, a_word, spelled, spelled_prim}
use Rattle.sbpl_mprim.proofs.NextLaws.{AreNext, are_next, next_are}
use Rattle.sbpl_mprim.proofs.PrimLaws.{PrimFound, natural_front, natural_within, prim_found, prim_said}
use Rattle.sbpl_fixed.specs.Parts.{says_both, says_parts}
use Rattle.sbpl_mprim.proofs.Spelling.{Spells, all_meant, found_done, found_end, found_nano, found_whole}
use Rattle.sbpl_mprim.proofs.Spelling.{found_word, found_yes, just_said, natural_is, none_spelled, say_done}
use Rattle.sbpl_mprim.proofs.Spelling.{say_end, say_nano, say_whole, say_word, say_yes, spells_all}
use Rattle.sbpl_mprim.proofs.Spelling.{spells_append, spells_none, spells_split}

-- ---- one more primitive, and several more

pub turn_found : (cell : ℤ) (headings : ℕ) (earlier : List Primitive) (ts : List Piece) (qs : List Primitive)
    (rest : List Piece) → 1 ≤ headings → Says (prim_turn cell headings earlier) ts qs rest
    → (p : Primitive) × (qs ≡ earlier ++ p ∷ []) × PrimFound cell headings earlier ts p rest
unfolding prim_turn
turn_found cell headings earlier ts qs rest some h =
    let a = says_parts (prim_format cell headings earlier) _ ts rest qs h in
    let b = prim_found cell headings earlier ts a.0 a.1 some a.2 in
    let c = found_done PrimFault (earlier ++ a.0 ∷ []) a.1 qs rest a.3 in
    (a.0, c.0, subst (λ (l : List Piece). PrimFound cell headings earlier ts a.0 l) (sym c.1) b)

pub record PrimsFound (cell : ℤ) (headings count : ℕ) (earlier : List Primitive) (ts : List Piece) (qs : List Primitive)
    (rest : List Piece) : Type 0 where
  pub more : List Primitive
  pub all : qs ≡ earlier ++ more
  pub many : length more ≡ count
  pub next : AreNext cell headings earlier more
  pub spells : Spells headings (flat_map spelled_prim more) ts rest

pub prims_found : (cell : ℤ) (headings count : ℕ) (earlier : List Primitive) (ts : List Piece) (qs : List Primitive)
    (rest : List Piece) → 1 ≤ headings
    → Says (turns count (prim_turn cell headings) earlier) ts qs rest
    → PrimsFound cell headings count earlier ts qs rest
unfolding turns AreNext
prims_found cell headings zero earlier ts qs rest some h =
    let a = found_done PrimFault earlier ts qs rest h in
    record {
      more = [];
      all = a.0 ∙ sym (append-nil earlier);
      many = refl;
      next = tt;
      spells = spells_none headings ts rest a.1;
    }
prims_found cell headings (suc n) earlier ts qs rest some h =
    let a = says_parts (prim_turn cell headings earlier) (turns n (prim_turn cell headings)) ts rest qs h in
    let b = turn_found cell headings earlier ts a.0 a.1 some a.2 in
    let c = prims_found cell headings n a.0 a.1 qs rest some a.3 in
    record {
      more = b.0 ∷ c.more;
      all = c.all ∙ (ap (λ (l : List Primitive). l ++ c.more) b.1 ∙ append_assoc earlier (b.0 ∷ []) c.more);
      many = ap suc c.many;
      next = (b.2.next, subst (λ (l : List Primitive). AreNext cell headings l c.more) b.1 c.next);
      spells = spells_append headings (spelled_prim b.0) (flat_map spelled_prim c.more) ts a.1 rest b.2.spells c.spells;
    }

pub prims_said : (cell : ℤ) (headings : ℕ) (earlier more : List Primitive) (ts rest : List Piece)
    → AreNext cell headings earlier more → Spells headings (flat_map spelled_prim more) ts rest
    → Says (turns (length more) (prim_turn cell headings) earlier) ts (earlier ++ more) rest
unfolding turns AreNext prim_turn
prims_said cell headings earlier [] ts rest next h =
    rw append-nil (say_done PrimFault earlier ts rest (none_spelled headings ts rest h))
prims_said cell headings earlier (p ∷ ps) ts rest next h =
    let a = spells_split headings (spelled_prim p) (flat_map spelled_prim ps) ts rest h in
    let b = prim_said cell headings earlier p ts a.0 next.0 a.1 in
    let turn : Says (prim_turn cell headings earlier) ts (earlier ++ p ∷ []) a.0 =
    says_both (prim_format cell headings earlier) (λ (prim : Primitive). done (earlier ++ prim ∷ [])) ts a.0 a.0 p
    (earlier ++ p ∷ []) b (say_done PrimFault (earlier ++ p ∷ []) a.0 a.0 refl) in
    let c = prims_said cell headings (earlier ++ p ∷ []) ps a.0 rest next.1 a.2 in
    says_both (prim_turn cell headings earlier) (turns (length ps) (prim_turn cell headings)) ts a.0 rest
    (earlier ++ p ∷ []) (earlier ++ p ∷ ps) turn (rw append_assoc at c)

-- ---- what stands before the first primitive

abbrev spelled_head : ℤ → ℕ → ℕ → List Saying
spelled_head cell headings total =
    a_word (codes "resolution_m:") ∷ a_nano cell ∷ a_word (codes "numberofangles:") ∷ a_whole (pos headings)
    ∷ a_word (codes "totalnumberofprimitives:") ∷ a_whole (pos total) ∷ []

abbrev same_resolution : ℤ → ℕ → ℤ → Format PrimFault ℤ
same_resolution cell place r = if int_eq r cell then done r else wrong (Resolution place)

resolution_found : (cell : ℤ) (headings : ℕ) (ts : List Piece) (r : ℤ) (rest : List Piece)
    → Says (resolution_format cell) ts r rest
    → Spells headings (a_word (codes "resolution_m:") ∷ a_nano cell ∷ []) ts rest
unfolding resolution_format
resolution_found cell headings ts r rest h =
    let a = found_word headings _ _ ts r rest h in
    let b = found_nano headings (pos 1) (pos 1000000000000) (same_resolution cell) a.after r rest a.says in
    let c = found_yes (int_eq b.value cell) (Resolution b.place) (done b.value) b.after r rest b.says in
    let d = found_done PrimFault b.value b.after r rest c.1 in
    let same = (Decides-int_eq b.value cell).0 c.0 in
    subst (λ (z : ℤ). Spells headings (a_word (codes "resolution_m:") ∷ a_nano z ∷ []) ts rest) same
    (a.front _ (b.front [] (spells_none headings b.after rest d.1)))

at_zero : (n : ℤ) → pos 1 ≤ℤ n → pos 0 ≤ℤ n
at_zero n h = omega (arith, ints)

abbrev same_angles : ℕ → ℕ → ℤ → Format PrimFault ℕ
same_angles headings place n = if unsigned_abs n == headings then done (unsigned_abs n) else wrong (Angles place)

angles_found : (headings : ℕ) (ts : List Piece) (n : ℕ) (rest : List Piece) → Says (angles_format headings) ts n rest
    → Spells headings (a_word (codes "numberofangles:") ∷ a_whole (pos headings) ∷ []) ts rest
unfolding angles_format
angles_found headings ts n rest h =
    let a = found_word headings _ _ ts n rest h in
    let b = found_whole headings (pos 1) (pos 64) (same_angles headings) a.after n rest a.says in
    let c =
    found_yes (unsigned_abs b.value == headings) (Angles b.place) (done (unsigned_abs b.value)) b.after n rest b.says in
    let d = found_done PrimFault (unsigned_abs b.value) b.after n rest c.1 in
    let same = (Decides-eqb (unsigned_abs b.value) headings).0 c.0 in
    let counted =
    natural_front headings 64 b.value [] a.after rest (at_zero b.value b.within.0, b.within.1)
    (b.front [] (spells_none headings b.after rest d.1)) in
    subst (λ (z : ℕ). Spells headings (a_word (codes "numberofangles:") ∷ a_whole (pos z) ∷ []) ts rest)
    same (a.front _ counted)

total_found : (headings : ℕ) (ts : List Piece) (n : ℕ) (rest : List Piece) → Says total_format ts n rest
    → Spells headings (a_word (codes "totalnumberofprimitives:") ∷ a_whole (pos n) ∷ []) ts rest × (n ≤ 4096)
unfolding total_format
total_found headings ts n rest h =
    let a = found_word headings _ _ ts n rest h in
    let b = found_whole headings _ _ _ a.after n rest a.says in
    let c = found_done PrimFault (unsigned_abs b.value) b.after n rest b.says in
    rw c.0 (
      a.front _ (natural_front headings 4096 b.value [] a.after rest b.within
          (b.front [] (spells_none headings b.after rest c.1))),
      (natural_is 4096 b.value b.within).1,
    )

head_found : (cell : ℤ) (headings : ℕ) (ts : List Piece) (n : ℕ) (rest : List Piece)
    → Says (head_format cell headings) ts n rest → Spells headings (spelled_head cell headings n) ts rest × (n ≤ 4096)
unfolding head_format
head_found cell headings ts n rest h =
    let a = says_parts (resolution_format cell) _ ts rest n h in
    let b = says_parts (angles_format headings) _ a.1 rest n a.3 in
    let t = total_found headings b.1 n rest b.3 in (
      spells_append headings (a_word (codes "resolution_m:") ∷ a_nano cell ∷ []) _ ts a.1 rest
          (resolution_found cell headings ts a.0 a.1 a.2)
          (spells_append headings (a_word (codes "numberofangles:") ∷ a_whole (pos headings) ∷ []) _ a.1 b.1 rest
          (angles_found headings a.1 b.0 b.1 b.2) t.0),
      t.1,
    )

head_said : (cell : ℤ) (headings total : ℕ) (ts rest : List Piece) → IsWithin (pos 1) (pos 1000000000000) cell
    → 1 ≤ headings → headings ≤ 64 → total ≤ 4096
    → Spells headings (spelled_head cell headings total) ts rest → Says (head_format cell headings) ts total rest
unfolding head_format resolution_format angles_format total_format
head_said cell headings total ts rest size some most count h =
    let a =
    spells_split headings (a_word (codes "resolution_m:") ∷ a_nano cell ∷ []) (a_word (codes "numberofangles:")
    ∷ a_whole (pos headings) ∷ a_word (codes "totalnumberofprimitives:") ∷ a_whole (pos total) ∷ []) ts rest h in
    let b =
    spells_split headings (a_word (codes "numberofangles:") ∷ a_whole (pos headings) ∷ [])
    (a_word (codes "totalnumberofprimitives:") ∷ a_whole (pos total) ∷ []) a.0 rest a.2 in
    let r = just_said cell (resolution_format cell) ts a.0 (say_word _ headings _ _ _ ts a.0 a.1 (λ _ us k.
    say_nano _ headings (pos 1) (pos 1000000000000) cell (same_resolution cell) _ us a.0 size k (λ place vs l. (
      cell,
      refl,
      say_yes (int_eq cell cell) (Resolution place) (done cell) vs cell a.0 ((Decides-int_eq cell cell).1 refl)
          (say_done PrimFault cell vs a.0 (none_spelled headings vs a.0 l)),
    )))) in
    let n = just_said headings (angles_format headings) a.0 b.0 (say_word _ headings _ _ _ a.0 b.0 b.1 (λ _ us k.
    say_whole _ headings (pos 1) (pos 64) (pos headings) (same_angles headings) _ us b.0
    (omega (arith, ints, some), omega (arith, ints, most)) k (λ place vs l. (
      headings,
      refl,
      say_yes (headings == headings) (Angles place) (done headings) vs headings b.0 ((Decides-eqb headings headings).1
          refl) (say_done PrimFault headings vs b.0 (none_spelled headings vs b.0 l)),
    )))) in
    let t = just_said total total_format b.0 rest (say_word _ headings _ _ _ b.0 rest b.2 (λ _ us k.
    say_whole _ headings (pos 0) (pos 4096) (pos total) (λ _ m. done (unsigned_abs m)) _ us rest
    (natural_within total 4096 count) k (λ _ vs l.
    (total, refl, say_done PrimFault total vs rest (none_spelled headings vs rest l))))) in
    says_both (resolution_format cell) (λ _. and_then (angles_format headings) (λ _. total_format))
    ts a.0 rest cell total r
    (says_both (angles_format headings) (λ _. total_format) a.0 b.0 rest headings total n t)

-- ---- the file

-- what the format says is spelled by the tokens
pub file_found : (cell : ℤ) (headings : ℕ) (text : List ℕ) (prims : List Primitive)
    → IsWithin (pos 1) (pos 1000000000000) cell → 1 ≤ headings → headings ≤ 64
    → StandsFor (prims_format cell headings) text prims
    → IsTextOf text (record { cell = cell; headings = headings; items = prims })
unfolding prims_format spelled
file_found cell headings text prims size some most h =
    let a = says_parts (head_format cell headings) _ (tokens text) h.0 prims h.1 in
    let b =
    says_parts (turns a.0 (prim_turn cell headings) []) (λ (ps : List Primitive). ended (done ps)) a.1 h.0 prims a.3 in
    let e = found_end PrimFault b.0 b.1 prims h.0 b.3 in
    let front = head_found cell headings (tokens text) a.0 a.1 a.2 in
    let p = prims_found cell headings a.0 [] a.1 b.0 b.1 some b.2 in
    let all : prims ≡ p.more = e.1 ∙ p.all in
    let spells : Spells headings
    (spelled_head cell headings (length p.more) ++ flat_map spelled_prim p.more) (tokens text) [] =
    subst (λ (l : List Piece).
    Spells headings (spelled_head cell headings (length p.more) ++ flat_map spelled_prim p.more) (tokens text) l) e.0
    (spells_append headings (spelled_head cell headings (length p.more))
    (flat_map spelled_prim p.more) (tokens text) a.1 b.1
    (subst (λ (n : ℕ). Spells headings (spelled_head cell headings n) (tokens text) a.1)
    (sym p.many) front.0) p.spells) in
    let there : IsTextOf text (record { cell = cell; headings = headings; items = p.more }) = record {
      fits = next_are cell headings p.more size some most (omega (arith, p.many, front.1)) p.next;
      tokens = all_meant headings
          (spelled (record { cell = cell; headings = headings; items = p.more })) (tokens text) spells;
    } in
    rw all there

-- and what the tokens spell is said by the format
pub file_said : (ps : Primitives) (text : List ℕ) → IsTextOf text ps
    → StandsFor (prims_format ps.cell ps.headings) text ps.items
unfolding prims_format spelled
file_said ps text h =
    let fits = h.fits in
    let spells = spells_all ps.headings (spelled ps) (tokens text) h.tokens in
    let a =
    spells_split ps.headings (spelled_head ps.cell ps.headings (length ps.items)) (flat_map spelled_prim ps.items)
    (tokens text) [] spells in
    let front =
    head_said ps.cell ps.headings (length ps.items) (tokens text) a.0 fits.cell fits.headings.0
    fits.headings.1 fits.count a.1 in
    let each = prims_said ps.cell ps.headings [] ps.items a.0 [] (are_next ps fits) a.2 in (
      [],
      says_both (head_format ps.cell ps.headings) _ (tokens text) a.0 [] (length ps.items) ps.items front
          (says_both (turns (length ps.items) (prim_turn ps.cell ps.headings) [])
          (λ (qs : List Primitive). ended (done qs)) a.0 [] [] ps.items ps.items each (say_end PrimFault ps.items)),
    )
