-- What the format of one primitive says.
use Rattle.std.proofs.Common.{◌≡◌, ℕ, ◌+◌, ◌-◌, ◌<◌, ◌≤◌, ℤ, pos, negsuc, false, not, ◌==◌, List, [], ◌∷◌, ◌++◌, length}
use Rattle.std.proofs.Common.{sum_by, Some, refl, sym, ap, subst, ◌∙◌, arith, length-append}
use Rattle.std.specs.Prelude.{unsigned_abs, nat_lt, codes}
use Rattle.std.proofs.lemmas.Bool.Decides.{nat_tests}
use Rattle.std.proofs.lemmas.Int.{ints}
use Rattle.std.specs.List.{flat_map, slice_get, AllByRecursion}
use Rattle.sbpl_fixed.specs.Tokens.{Piece}
use Rattle.sbpl_fixed.specs.Formats.{done, Says}
use Rattle.sbpl_cfg.specs.Environment.{IsWithin}
use Rattle.sbpl_cfg.specs.declared.pose.Pose.{Pose}
use Rattle.sbpl_mprim.specs.declared.fault.PrimFault.{PrimFault}
use Rattle.sbpl_mprim.specs.declared.fault.PrimFault.TheVariants.{SameId}
use Rattle.sbpl_mprim.specs.declared.parts.PlacedPose.{PlacedPose}
use Rattle.sbpl_mprim.specs.declared.parts.Start.{Start}
use Rattle.sbpl_mprim.specs.declared.parts.End.{End}
use Rattle.sbpl_mprim.specs.declared.prim.Primitive.{Primitive}
use Rattle.sbpl_mprim.specs.Judging.{costs_nothing, has_id, heading_modulo, is_in_bin, is_in_cell}
use Rattle.sbpl_mprim.specs.Primitives.{EndsAt, IsOffsetInRange, IsPrimitive, pose_count}
use Rattle.sbpl_mprim.specs.Reading.{count_format, end_format, front_format, judged, made, mult_format, path_format}
use Rattle.sbpl_mprim.specs.Reading.{prim_format, signed_format, start_format}
use Rattle.sbpl_mprim.specs.Text.{Saying, a_word, a_whole, a_heading, spelled_pose, spelled_prim}
use Rattle.sbpl_mprim.proofs.JudgingLaws.{costs_something, costs_then, ends_at, in_end_bin, in_end_cell}
use Rattle.sbpl_mprim.proofs.NextLaws.{IsNext}
use Rattle.sbpl_mprim.proofs.PathLaws.{path_found, path_said}
use Rattle.sbpl_mprim.proofs.Indices.{all_at, at_all, at_seam, last_at, last_some}
use Rattle.sbpl_fixed.specs.Parts.{says_both, says_parts}
use Rattle.sbpl_mprim.proofs.Spelling.{Spells, SaysSome, just_said, found_done, found_test, found_whole, found_word}
use Rattle.sbpl_mprim.proofs.Spelling.{natural_is, none_spelled, say_done, say_test, say_whole, say_word}
use Rattle.sbpl_mprim.proofs.Spelling.{spells_append, spells_none, spells_split}

-- a whole number of zero or more that was found, as a natural number
pub natural_front : (headings high : ℕ) (n : ℤ) (ss : List Saying) (ts rest : List Piece)
    → IsWithin (pos 0) (pos high) n → Spells headings (a_whole n ∷ ss) ts rest
    → Spells headings (a_whole (pos (unsigned_abs n)) ∷ ss) ts rest
natural_front headings high n ss ts rest w h =
    subst (λ (z : ℤ). Spells headings (a_whole z ∷ ss) ts rest) (natural_is high n w).0 h

-- ---- the id and the start heading

abbrev pub spelled_start : Start → List Saying
spelled_start s =
    a_word (codes "primID:") ∷ a_whole (pos s.id) ∷ a_word (codes "startangle_c:") ∷ a_whole (pos s.from) ∷ []

pub record IsStart (headings : ℕ) (earlier : List Primitive) (s : Start) : Type 0 where
  pub id : s.id ≤ 65535
  pub from : s.from ≤ headings - 1
  pub own : has_id earlier s.from s.id ≡ false

pub start_found : (headings : ℕ) (earlier : List Primitive) (ts : List Piece) (s : Start) (rest : List Piece)
    → Says (start_format headings earlier) ts s rest
    → Spells headings (spelled_start s) ts rest × IsStart headings earlier s
unfolding start_format
start_found headings earlier ts s rest h =
    let a = found_word headings _ _ ts s rest h in
    let b = found_whole headings _ _ _ a.after s rest a.says in
    let c = found_word headings _ _ b.after s rest b.says in
    let d = found_whole headings _ _ _ c.after s rest c.says in
    let e = found_test (has_id earlier (unsigned_abs d.value) (unsigned_abs b.value)) _ _ d.after s rest d.says in
    let f = found_done PrimFault _ d.after s rest e.1 in
    let last =
    natural_front headings (headings - 1) d.value [] c.after rest d.within
    (d.front [] (spells_none headings d.after rest f.1)) in
    rw f.0 (
      a.front _ (natural_front headings 65535 b.value _ a.after rest b.within (b.front _ (c.front _ last))),
      record {
        id = (natural_is 65535 b.value b.within).1;
        from = (natural_is (headings - 1) d.value d.within).1;
        own = e.0;
      },
    )

pub natural_within : (n high : ℕ) → n ≤ high → IsWithin (pos 0) (pos high) (pos n)
natural_within n high h = (omega (arith, ints), omega (arith, ints, h))

pub start_said : (headings : ℕ) (earlier : List Primitive) (id from : ℕ) (ts rest : List Piece) → id ≤ 65535
    → from ≤ headings - 1 → has_id earlier from id ≡ false
    → Spells headings
    (a_word (codes "primID:") ∷ a_whole (pos id) ∷ a_word (codes "startangle_c:") ∷ a_whole (pos from) ∷ []) ts rest
    → SaysSome (λ s. (s.id ≡ id) × (s.from ≡ from)) (start_format headings earlier) ts rest
unfolding start_format
start_said headings earlier id from ts rest small below own h =
    say_word _ headings _ _ _ ts rest h (λ _ us k.
    say_whole _ headings _ _ (pos id) _ _ us rest (natural_within id 65535 small) k (λ place vs l.
    say_word _ headings _ _ _ vs rest l (λ _ ws m.
    say_whole _ headings _ _ (pos from) _ _ ws rest (natural_within from (headings - 1) below) m (λ _ xs n.
    let s : Start = record { id = id; from = from; place = place } in (
      s,
      (refl, refl),
      say_test (has_id earlier from id) (SameId place) (done s) xs s rest own
          (say_done PrimFault s xs rest (none_spelled headings xs rest n)),
    )))))

-- ---- the end cell and the end heading

abbrev IsSigned : ℤ → Type 0
IsSigned n = IsWithin (negsuc 32766) (pos 32767) n

signed_found : (headings : ℕ) (ts : List Piece) (n : ℤ) (rest : List Piece) → Says signed_format ts n rest
    → Spells headings (a_whole n ∷ []) ts rest × IsSigned n
unfolding signed_format
signed_found headings ts n rest h =
    let a = found_whole headings _ _ _ ts n rest h in
    let b = found_done PrimFault _ a.after n rest a.says in
    rw b.0 (a.front [] (spells_none headings a.after rest b.1), a.within)

signed_said : (headings : ℕ) (ts : List Piece) (n : ℤ) (rest : List Piece) → IsSigned n
    → Spells headings (a_whole n ∷ []) ts rest → Says signed_format ts n rest
unfolding signed_format
signed_said headings ts n rest range h =
    let a =
    say_whole (λ z. z ≡ n) headings _ _ n _ [] ts rest range h
    (λ _ us k. (n, refl, say_done PrimFault n us rest (none_spelled headings us rest k))) in
    subst (λ (z : ℤ). Says signed_format ts z rest) a.1 a.2

heading_front : (headings : ℕ) (n : ℤ) (ts rest : List Piece) → IsSigned n → Spells headings (a_whole n ∷ []) ts rest
    → Spells headings (a_heading (heading_modulo headings n) ∷ []) ts rest
unfolding Spells
heading_front headings n [] rest w h = absurd h
heading_front headings n (t ∷ ts) rest w h = ((n, h.0, w, refl), h.1)

-- a number that stands for an end heading
heading_number : (headings to : ℕ) (ts rest : List Piece) → Spells headings (a_heading to ∷ []) ts rest
    → (n : ℤ) × IsSigned n × (heading_modulo headings n ≡ to) × Spells headings (a_whole n ∷ []) ts rest
unfolding Spells
heading_number headings to [] rest h = absurd h
heading_number headings to (t ∷ ts) rest h = (h.0.0, h.0.2, h.0.3, (h.0.1, h.1))

heading_below : (headings : ℕ) (n : ℤ) → 1 ≤ headings → heading_modulo headings n < headings
heading_below headings (pos n) h = omega arith
heading_below headings (negsuc n) h = omega arith

abbrev pub spelled_end : End → List Saying
spelled_end e = a_word (codes "endpose_c:") ∷ a_whole e.dx ∷ a_whole e.dy ∷ a_heading e.to ∷ []

pub record IsEnd (headings : ℕ) (e : End) : Type 0 where
  pub dx : IsSigned e.dx
  pub dy : IsSigned e.dy
  pub to : e.to < headings

pub end_found : (headings : ℕ) (ts : List Piece) (e : End) (rest : List Piece) → 1 ≤ headings
    → Says (end_format headings) ts e rest → Spells headings (spelled_end e) ts rest × IsEnd headings e
unfolding end_format
end_found headings ts e rest some h =
    let a = found_word headings _ _ ts e rest h in
    let b = says_parts signed_format _ a.after rest e a.says in
    let c = says_parts signed_format _ b.1 rest e b.3 in
    let d = says_parts signed_format _ c.1 rest e c.3 in
    let f = found_done PrimFault _ d.1 e rest d.3 in
    let x = signed_found headings a.after b.0 b.1 b.2 in
    let y = signed_found headings b.1 c.0 c.1 c.2 in
    let t = signed_found headings c.1 d.0 d.1 d.2 in
    let last : Spells headings (a_heading (heading_modulo headings d.0) ∷ []) c.1 rest =
    subst (λ (l : List Piece). Spells headings (a_heading (heading_modulo headings d.0) ∷ []) c.1 l) (sym f.1)
    (heading_front headings d.0 c.1 d.1 t.1 t.0) in
    rw f.0 (
      a.front _ (spells_append headings (a_whole b.0 ∷ []) _ a.after b.1 rest x.0
          (spells_append headings (a_whole c.0 ∷ []) _ b.1 c.1 rest y.0 last)),
      record { dx = x.1; dy = y.1; to = heading_below headings d.0 some },
    )

pub end_said : (headings : ℕ) (ts : List Piece) (e : End) (rest : List Piece) → IsEnd headings e
    → Spells headings (spelled_end e) ts rest → SaysSome (λ d. d ≡ e) (end_format headings) ts rest
unfolding end_format
end_said headings ts e rest range h =
    say_word _ headings _ _ _ ts rest h (λ _ us k.
    let a = spells_split headings (a_whole e.dx ∷ []) (a_whole e.dy ∷ a_heading e.to ∷ []) us rest k in
    let b = spells_split headings (a_whole e.dy ∷ []) (a_heading e.to ∷ []) a.0 rest a.2 in
    let t = heading_number headings e.to b.0 rest b.2 in
    let same : record e { to = heading_modulo headings t.0 } ≡ e = ap (λ (to : ℕ). record e { to = to }) t.2 in
    let last =
    says_both signed_format (λ (n : ℤ). done (record { dx = e.dx; dy = e.dy; to = heading_modulo headings n })) b.0 rest
    rest t.0 (record e { to = heading_modulo headings t.0 })
    (signed_said headings b.0 t.0 rest t.1 t.3) (say_done PrimFault
    (record e { to = heading_modulo headings t.0 }) rest rest refl) in (
      record e { to = heading_modulo headings t.0 },
      same,
      says_both signed_format _ us a.0 rest e.dx _ (signed_said headings us e.dx a.0 range.dx a.1)
          (says_both signed_format _ a.0 b.0 rest e.dy _ (signed_said headings a.0 e.dy b.0 range.dy b.1) last),
    ))

-- ---- the multiplier

pub mult_found : (headings : ℕ) (ts : List Piece) (m : ℕ) (rest : List Piece) → Says mult_format ts m rest
    → Spells headings (a_word (codes "additionalactioncostmult:") ∷ a_whole (pos m) ∷ []) ts rest × (m ≤ 16777215)
unfolding mult_format
mult_found headings ts m rest h =
    let a = found_word headings _ _ ts m rest h in
    let b = found_whole headings _ _ _ a.after m rest a.says in
    let c = found_done PrimFault _ b.after m rest b.says in
    rw c.0 (
      a.front _ (natural_front headings 16777215 b.value [] a.after rest b.within
          (b.front [] (spells_none headings b.after rest c.1))),
      (natural_is 16777215 b.value b.within).1,
    )

pub mult_said : (headings : ℕ) (ts : List Piece) (m : ℕ) (rest : List Piece) → m ≤ 16777215
    → Spells headings (a_word (codes "additionalactioncostmult:") ∷ a_whole (pos m) ∷ []) ts rest
    → SaysSome (λ n. n ≡ m) mult_format ts rest
unfolding mult_format
mult_said headings ts m rest small h =
    say_word _ headings _ _ _ ts rest h (λ _ us k.
    say_whole _ headings _ _ (pos m) _ _ us rest (natural_within m 16777215 small) k (λ _ vs l.
    (m, refl, say_done PrimFault m vs rest (none_spelled headings vs rest l))))

-- ---- the number of poses

pub count_found : (headings before : ℕ) (ts : List Piece) (n : ℕ) (rest : List Piece)
    → Says (count_format before) ts n rest
    → Spells headings (a_word (codes "intermediateposes:") ∷ a_whole (pos n) ∷ []) ts rest
    × (1 ≤ n) × (before + n ≤ 200000)
unfolding count_format
count_found headings before ts n rest h =
    let a = found_word headings _ _ ts n rest h in
    let b = found_whole headings _ _ _ a.after n rest a.says in
    let c = found_test (unsigned_abs b.value == 0) _ _ b.after n rest b.says in
    let d = found_test (nat_lt 200000 (before + unsigned_abs b.value)) _ _ b.after n rest c.1 in
    let e = found_done PrimFault _ b.after n rest d.1 in
    let some : 1 ≤ unsigned_abs b.value = grind (arith, nat_tests, c.0) in
    let few : before + unsigned_abs b.value ≤ 200000 = grind (arith, nat_tests, d.0) in
    rw e.0 (
      a.front _ (natural_front headings 200000 b.value [] a.after rest b.within
          (b.front [] (spells_none headings b.after rest e.1))),
      some,
      few,
    )

pub count_said : (headings before : ℕ) (ts : List Piece) (n : ℕ) (rest : List Piece) → 1 ≤ n → before + n ≤ 200000
    → Spells headings (a_word (codes "intermediateposes:") ∷ a_whole (pos n) ∷ []) ts rest
    → SaysSome (λ m. m ≡ n) (count_format before) ts rest
unfolding count_format
count_said headings before ts n rest some few h =
    let zero_not : (n == 0) ≡ false = grind (arith, nat_tests) in
    let few_not : nat_lt 200000 (before + n) ≡ false = grind (arith, nat_tests) in
    say_word _ headings _ _ _ ts rest h (λ _ us k.
    say_whole _ headings _ _ (pos n) _ _ us rest (natural_within n 200000 (omega arith)) k (λ place vs l. (
      n,
      refl,
      say_test (n == 0) _ _ vs n rest zero_not (say_test (nat_lt 200000 (before + n)) _ _ vs n rest few_not
          (say_done PrimFault n vs rest (none_spelled headings vs rest l))),
    )))

-- ---- what stands before the poses

abbrev pub spelled_front : Start → End → ℕ → List Saying
spelled_front s e mult =
    spelled_start s ++ (spelled_end e ++ a_word (codes "additionalactioncostmult:") ∷ a_whole (pos mult) ∷ [])

pub record FrontFound (headings : ℕ) (earlier : List Primitive) (ts : List Piece) (f : Start × End × ℕ)
    (rest : List Piece) : Type 0 where
  pub start : IsStart headings earlier f.0
  pub end_is : IsEnd headings f.1
  pub mult : f.2 ≤ 16777215
  pub spells : Spells headings (spelled_front f.0 f.1 f.2) ts rest

pub front_found : (headings : ℕ) (earlier : List Primitive) (ts : List Piece) (f : Start × End × ℕ) (rest : List Piece)
    → 1 ≤ headings → Says (front_format headings earlier) ts f rest
    → FrontFound headings earlier ts f rest
unfolding front_format
front_found headings earlier ts f rest some h =
    let a = says_parts (start_format headings earlier) _ ts rest f h in
    let b = says_parts (end_format headings) _ a.1 rest f a.3 in
    let c = says_parts mult_format _ b.1 rest f b.3 in
    let d = found_done PrimFault (a.0, b.0, c.0) c.1 f rest c.3 in
    let s = start_found headings earlier ts a.0 a.1 a.2 in
    let e = end_found headings a.1 b.0 b.1 some b.2 in
    let m = mult_found headings b.1 c.0 c.1 c.2 in
    let there : FrontFound headings earlier ts (a.0, b.0, c.0) c.1 = record {
      start = s.1;
      end_is = e.1;
      mult = m.1;
      spells =
          spells_append headings (spelled_start a.0) _ ts a.1 c.1 s.0
          (spells_append headings (spelled_end b.0) _ a.1 b.1 c.1 e.0 m.0);
    } in
    subst (λ (l : List Piece). FrontFound headings earlier ts f l) (sym d.1)
    (subst (λ (g : Start × End × ℕ). FrontFound headings earlier ts g c.1) (sym d.0) there)

-- a start with this id and this heading, and an end and a multiplier
abbrev pub IsFront : ℕ → ℕ → End → ℕ → Start × End × ℕ → Type 0
IsFront id from e mult f = (f.0.id ≡ id) × (f.0.from ≡ from) × (f.1 ≡ e) × (f.2 ≡ mult)

pub front_said : (headings : ℕ) (earlier : List Primitive) (id from : ℕ) (e : End) (mult : ℕ) (ts rest : List Piece)
    → id ≤ 65535 → from ≤ headings - 1 → has_id earlier from id ≡ false → IsEnd headings e → mult ≤ 16777215
    → Spells headings (spelled_front (record { id = id; from = from; place = 0 }) e mult) ts rest
    → SaysSome (IsFront id from e mult) (front_format headings earlier) ts rest
unfolding front_format
front_said headings earlier id from e mult ts rest small below own end_is most h =
    let a =
    spells_split headings (spelled_start (record { id = id; from = from; place = 0 }))
    (spelled_end e ++ a_word (codes "additionalactioncostmult:") ∷ a_whole (pos mult) ∷ []) ts rest h in
    let b =
    spells_split headings (spelled_end e)
    (a_word (codes "additionalactioncostmult:") ∷ a_whole (pos mult) ∷ []) a.0 rest a.2 in
    let s = start_said headings earlier id from ts a.0 small below own a.1 in
    let d = end_said headings a.0 e b.0 end_is b.1 in
    let m = mult_said headings b.0 mult rest most b.2 in (
      (s.0, d.0, m.0),
      (s.1.0, s.1.1, d.1, m.1),
      says_both (start_format headings earlier) _ ts a.0 rest s.0 (s.0, d.0, m.0) s.2
          (says_both (end_format headings) _ a.0 b.0 rest d.0 (s.0, d.0, m.0) d.2
          (says_both mult_format _ b.0 rest rest m.0 (s.0, d.0, m.0) m.2
          (say_done PrimFault (s.0, d.0, m.0) rest rest refl))),
    )

-- ---- a primitive whose tokens were read

pub judged_found : (cell : ℤ) (headings place : ℕ) (last : PlacedPose) (whole : Primitive) (ts : List Piece)
    (prim : Primitive) (rest : List Piece) → Says (judged cell headings place last whole) ts prim rest
    → (prim ≡ whole) × (rest ≡ ts) × EndsAt cell headings whole last.pose × (costs_nothing whole ≡ false)
unfolding judged
judged_found cell headings place last whole ts prim rest h =
    let a = found_test (not (is_in_cell cell whole.dx whole.dy last.pose)) _ _ ts prim rest h in
    let b = found_test (not (is_in_bin headings whole.to last.pose)) _ _ ts prim rest a.1 in
    let c = found_test (costs_nothing whole) _ _ ts prim rest b.1 in
    let d = found_done PrimFault whole ts prim rest c.1 in
    (d.0, d.1, ends_at cell headings whole last.pose a.0 b.0, c.0)

pub judged_said : (cell : ℤ) (headings place : ℕ) (last : PlacedPose) (prim : Primitive) (ts : List Piece)
    → EndsAt cell headings prim last.pose → costs_nothing prim ≡ false
    → Says (judged cell headings place last prim) ts prim ts
unfolding judged
judged_said cell headings place last prim ts ends costs =
    say_test (not (is_in_cell cell prim.dx prim.dy last.pose)) _ _ ts prim ts
    (in_end_cell cell headings prim last.pose ends)
    (say_test (not (is_in_bin headings prim.to last.pose)) _ _ ts prim ts (in_end_bin cell headings prim last.pose ends)
    (say_test (costs_nothing prim) _ _ ts prim ts costs (say_done PrimFault prim ts ts refl)))

-- ---- a whole primitive

abbrev poses_spelled : List Pose → List Saying
poses_spelled poses = a_word (codes "intermediateposes:") ∷ a_whole (pos (length poses)) ∷ flat_map spelled_pose poses

-- the parts of a primitive make it one
made_is : (cell : ℤ) (headings : ℕ) (earlier : List Primitive) (s : Start) (e : End) (mult : ℕ)
    (poses front : List Pose) (last : Pose) → 1 ≤ headings
    → IsStart headings earlier s → IsEnd headings e → mult ≤ 16777215 → 1 ≤ length poses
    → AllByRecursion IsOffsetInRange poses → poses ≡ front ++ last ∷ []
    → EndsAt cell headings (made s e mult poses) last
    → costs_nothing (made s e mult poses) ≡ false → IsPrimitive cell headings (made s e mult poses)
made_is cell headings earlier s e mult poses front last some start end_is most many range parts ends costs =
    let dear = costs_something (made s e mult poses) costs in
    record {
      id = start.id;
      from = omega (arith, start.from);
      dx = end_is.dx;
      dy = end_is.dy;
      to = end_is.to;
      mult = (dear.0, most);
      some_pose = many;
      poses = all_at IsOffsetInRange poses range;
      end = λ p i at_end here. subst (λ (q : Pose). EndsAt cell headings (made s e mult poses) q)
          (sym (last_at front last poses i p parts at_end here)) ends;
      moves = dear.1;
    }

pub record PrimFound (cell : ℤ) (headings : ℕ) (earlier : List Primitive) (ts : List Piece) (prim : Primitive)
    (rest : List Piece) : Type 0 where
  pub next : IsNext cell headings earlier prim
  pub spells : Spells headings (spelled_prim prim) ts rest

pub prim_found : (cell : ℤ) (headings : ℕ) (earlier : List Primitive) (ts : List Piece) (prim : Primitive)
    (rest : List Piece) → 1 ≤ headings → Says (prim_format cell headings earlier) ts prim rest
    → PrimFound cell headings earlier ts prim rest
unfolding prim_format
prim_found cell headings earlier ts prim rest some h =
    let a = says_parts (front_format headings earlier) _ ts rest prim h in
    let b = says_parts (count_format (sum_by pose_count earlier)) _ a.1 rest prim a.3 in
    let c = says_parts (path_format b.0) _ b.1 rest prim b.3 in
    let f = front_found headings earlier ts a.0 a.1 some a.2 in
    let n = count_found headings (sum_by pose_count earlier) a.1 b.0 b.1 b.2 in
    let p = path_found headings b.0 b.1 c.0 c.1 n.1 c.2 in
    let whole = made a.0.0 a.0.1 a.0.2 c.0.0 in
    let j = judged_found cell headings a.0.0.place c.0.1 whole c.1 prim rest c.3 in
    let many : 1 ≤ length c.0.0 = omega (arith, p.many, n.1) in
    let counted : Spells headings (a_word (codes "intermediateposes:") ∷ a_whole (pos (length c.0.0)) ∷ []) a.1 b.1 =
    subst (λ (k : ℕ). Spells headings (a_word (codes "intermediateposes:") ∷ a_whole (pos k) ∷ []) a.1 b.1)
    (sym p.many) n.0 in
    let there : PrimFound cell headings earlier ts whole c.1 = record {
      next = record {
        prim_is =
            made_is cell headings earlier a.0.0 a.0.1 a.0.2 c.0.0 p.front c.0.1.pose some f.start f.end_is f.mult
            many p.range p.ends j.2 j.3;
        own = f.start.own;
        few = omega (arith, p.many, n.2);
      };
      spells = spells_append headings (spelled_front a.0.0 a.0.1 a.0.2) _ ts a.1 c.1 f.spells
          (spells_append headings (a_word (codes "intermediateposes:") ∷ a_whole (pos (length c.0.0)) ∷ []) _ a.1
          b.1 c.1 counted p.spells);
    } in
    subst (λ (l : List Piece). PrimFound cell headings earlier ts prim l) (sym j.1)
    (subst (λ (q : Primitive). PrimFound cell headings earlier ts q c.1) (sym j.0) there)

abbrev end_of : Primitive → End
end_of prim = record { dx = prim.dx; dy = prim.dy; to = prim.to }

abbrev start_of : Primitive → Start
start_of prim = record { id = prim.id; from = prim.from; place = 0 }

-- parts that are those of a primitive make it
made_same : (prim : Primitive) (f : Start × End × ℕ) (poses : List Pose)
    → IsFront prim.id prim.from (end_of prim) prim.mult f → poses ≡ prim.poses → made f.0 f.1 f.2 poses ≡ prim
made_same prim f poses h p =
    let e : End = f.1 in
    ap (λ (n : ℕ). record { id = n; from = f.0.from; dx = e.dx; dy = e.dy; to = e.to; mult = f.2; poses = poses }) h.0
    ∙ (ap (λ (n : ℕ). record { id = prim.id; from = n; dx = e.dx; dy = e.dy; to = e.to; mult = f.2; poses = poses }) h.1
    ∙ (ap (λ (d : End).
    record { id = prim.id; from = prim.from; dx = d.dx; dy = d.dy; to = d.to; mult = f.2; poses = poses }) h.2
    ∙ (ap (λ (n : ℕ).
    record { id = prim.id; from = prim.from; dx = prim.dx; dy = prim.dy; to = prim.to; mult = n; poses = poses }) h.3
    ∙ ap (λ (l : List Pose). record prim { poses = l }) p)))

-- the path of a primitive is said
own_path : (cell : ℤ) (headings : ℕ) (prim : Primitive) (ts rest : List Piece) → IsPrimitive cell headings prim
    → Spells headings (flat_map spelled_pose prim.poses) ts rest
    → SaysSome (λ x. (x.0 ≡ prim.poses) × EndsAt cell headings prim x.1.pose) (path_format (length prim.poses)) ts rest
own_path cell headings prim ts rest is h =
    let l = last_some prim.poses (omega (arith, is.some_pose)) in
    let long : length prim.poses ≡ length l.front + 1 = ap length l.parts ∙ length-append l.front (l.last ∷ []) in
    let range =
    subst (λ (ps : List Pose). AllByRecursion IsOffsetInRange ps) l.parts
    (at_all IsOffsetInRange prim.poses is.poses) in
    let spells = subst (λ (ps : List Pose). Spells headings (flat_map spelled_pose ps) ts rest) l.parts h in
    let p = path_said headings l.front l.last ts rest range spells in
    let here : slice_get prim.poses (length l.front) ≡ Some l.last =
    subst (λ (ps : List Pose). slice_get ps (length l.front) ≡ Some l.last) (sym l.parts) (at_seam l.front l.last []) in
    let ends = is.end l.last (length l.front) (sym long) here in (
      p.0,
      (p.1.0 ∙ sym l.parts, subst (λ (q : Pose). EndsAt cell headings prim q) (sym p.1.1) ends),
      subst (λ (n : ℕ). Says (path_format n) ts p.0 rest) (sym long) p.2,
    )

pub prim_said : (cell : ℤ) (headings : ℕ) (earlier : List Primitive) (prim : Primitive) (ts rest : List Piece)
    → IsNext cell headings earlier prim → Spells headings (spelled_prim prim) ts rest
    → Says (prim_format cell headings earlier) ts prim rest
unfolding prim_format
prim_said cell headings earlier prim ts rest next h =
    let is = next.prim_is in
    let a =
    spells_split headings (spelled_front (start_of prim) (end_of prim) prim.mult)
    (poses_spelled prim.poses) ts rest h in
    let b =
    spells_split headings (a_word (codes "intermediateposes:") ∷ a_whole (pos (length prim.poses)) ∷ [])
    (flat_map spelled_pose prim.poses) a.0 rest a.2 in
    let f =
    front_said headings earlier prim.id prim.from (end_of prim) prim.mult ts a.0 is.id (omega (arith, is.from)) next.own
    (record { dx = is.dx; dy = is.dy; to = is.to }) is.mult.1 a.1 in
    let n =
    just_said (length prim.poses) _ a.0 b.0
    (count_said headings (sum_by pose_count earlier) a.0 (length prim.poses) b.0 is.some_pose next.few b.1) in
    let p = own_path cell headings prim b.0 rest is b.2 in
    let same = made_same prim f.0 p.0.0 f.1 p.1.0 in
    let costs = costs_then prim is.mult.0 is.moves in
    let j =
    subst (λ (q : Primitive). Says (judged cell headings f.0.0.place p.0.1 q) rest prim rest) (sym same)
    (judged_said cell headings f.0.0.place p.0.1 prim rest p.1.1 costs) in
    says_both (front_format headings earlier) _ ts a.0 rest f.0 prim f.2
    (says_both (count_format (sum_by pose_count earlier)) _ a.0 b.0 rest (length prim.poses) prim n
    (says_both (path_format (length prim.poses)) _ b.0 rest rest p.0 prim p.2 j))
