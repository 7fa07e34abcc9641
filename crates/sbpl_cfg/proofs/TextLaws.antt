-- The format of an environment and its list of tokens say the same.
use Rattle.std.proofs.Common.{◌≡◌, ◌↔◌, ℕ, ℤ, pos, negsuc, zero, suc, ◌*◌, ◌≤◌, ◌≤ℤ◌, Bool, true, false, ltb, lit≤}
use Rattle.std.proofs.Common.{List, [], ◌∷◌, ◌++◌, length, map, codes, inl, inr, Ok, refl, sym, ap, subst, ◌∙◌}
use Rattle.std.proofs.Common.{append_assoc, append-nil, arith}
use Rattle.std.specs.Prelude.{bytes_eq, int_le, int_lt, nat_abs}
use Rattle.std.specs.List.{AllByRecursion}
use Rattle.std.proofs.lemmas.Bool.{and_from, and_parts, ltb-false, le-ltb}
use Rattle.std.proofs.lemmas.Int.{ints}
use Rattle.std.proofs.Math.Nat.{le_trans, mul_comm, mul-le-mul_left}
use Rattle.sbpl_fixed.specs.Formats.{Says, turns}
use Rattle.sbpl_fixed.specs.Numbers.{nano_of, whole_of}
use Rattle.sbpl_fixed.specs.Tokens.{Piece}
use Rattle.sbpl_fixed.specs.declared.placed.Placed.{Placed}
use Rattle.sbpl_cfg.specs.declared.pose.Pose.{Pose}
use Rattle.sbpl_cfg.specs.declared.parts.Ends.{Ends}
use Rattle.sbpl_cfg.specs.declared.parts.Extent.{Extent}
use Rattle.sbpl_cfg.specs.declared.parts.Header.{Header}
use Rattle.sbpl_cfg.specs.declared.parts.Rates.{Rates}
use Rattle.sbpl_cfg.specs.declared.parts.Size.{Size}
use Rattle.sbpl_cfg.specs.declared.parts.Thresholds.{Thresholds}
use Rattle.sbpl_cfg.specs.Environment.{Environment, IsEnvironment, IsHeadingCount, IsOnAxis, IsPoseInRange}
use Rattle.sbpl_cfg.specs.Environment.{IsWithin, is_on_axis, state_count, usual_headings}
use Rattle.sbpl_cfg.specs.Place.{cell_of}
use Rattle.sbpl_cfg.specs.Format.{whole_format, nano_format, extent_format, headings_format, size_format}
use Rattle.sbpl_cfg.specs.Format.{obsthresh_format, inscribed_format, circumscribed_format}
use Rattle.sbpl_cfg.specs.Format.{thresholds_format, cell_format, speed_format, turn45_format, rates_format}
use Rattle.sbpl_cfg.specs.Format.{pose_format, start_pose_format, end_pose_format, start_format, end_format}
use Rattle.sbpl_cfg.specs.Format.{header_format, ends_format, numbers_format, cost_format, grid_format}
use Rattle.sbpl_cfg.specs.Format.{environment_format, environment_of, headings_word, is_fourth_token}
use Rattle.sbpl_cfg.specs.Format.{says_headings, IsHeaderInRange, is_on_map_of}
use Rattle.sbpl_fixed.specs.Meaning.{StandsFor}
use Rattle.sbpl_fixed.specs.Tokens.{tokens}
use Rattle.sbpl_cfg.specs.Text.{Said, word, number, nano, AllMean, AreTokensOf, LeavesOutUsual, words_of, IsGrid}
use Rattle.sbpl_cfg.specs.Text.{IsTextOf, spelled, spelled_grid, spelled_headings, spelled_pose}
use Rattle.sbpl_fixed.specs.Parts.{says_both, says_parts}
use Rattle.sbpl_cfg.proofs.Items.{Begins, all_begins, append_begins, at_end, begins_all, begins_append, fixed_is}
use Rattle.sbpl_cfg.proofs.Items.{if_right, is_fixed, is_within, unless_wrong, within_is}

-- ---- a word with a number

pub whole_said : (w : List ℕ) (low high n : ℤ) (ts rest : List Piece) → Says (whole_format w low high) ts n rest
    → Begins (word w ∷ number n ∷ []) ts rest × IsWithin low high n
unfolding whole_format Says
whole_said w low high n [] rest h = absurd h
whole_said w low high n (t ∷ []) rest h = absurd h.2
whole_said w low high n (t ∷ u ∷ ts) rest h =
    let r = within_is low high h.2.0 (whole_of u.bytes) h.2.1 in
    let same : h.2.0 ≡ n = sym h.2.2.0 in
    ((fixed_is w t.bytes h.0 h.1, (r.value ∙ ap (λ z. Ok z) same, h.2.2.1)), subst (IsWithin low high) same r.between)

pub says_whole : (w : List ℕ) (low high n : ℤ) (ts rest : List Piece)
    → Begins (word w ∷ number n ∷ []) ts rest → IsWithin low high n
    → Says (whole_format w low high) ts n rest
unfolding whole_format Says
says_whole w low high n [] rest h k = absurd h
says_whole w low high n (t ∷ []) rest h k = absurd h.1
says_whole w low high n (t ∷ u ∷ ts) rest h k = (
  pos 0,
  is_fixed w t.bytes h.0,
  (n, is_within low high n (whole_of u.bytes) (record { value = h.1.0; between = k }), (refl, h.1.1)),
)

pub nano_said : (w : List ℕ) (low high n : ℤ) (ts rest : List Piece) → Says (nano_format w low high) ts n rest
    → Begins (word w ∷ nano n ∷ []) ts rest × IsWithin low high n
unfolding nano_format Says
nano_said w low high n [] rest h = absurd h
nano_said w low high n (t ∷ []) rest h = absurd h.2
nano_said w low high n (t ∷ u ∷ ts) rest h =
    let r = within_is low high h.2.0 (nano_of u.bytes) h.2.1 in
    let same : h.2.0 ≡ n = sym h.2.2.0 in
    ((fixed_is w t.bytes h.0 h.1, (r.value ∙ ap (λ z. Ok z) same, h.2.2.1)), subst (IsWithin low high) same r.between)

pub says_nano : (w : List ℕ) (low high n : ℤ) (ts rest : List Piece)
    → Begins (word w ∷ nano n ∷ []) ts rest → IsWithin low high n
    → Says (nano_format w low high) ts n rest
unfolding nano_format Says
says_nano w low high n [] rest h k = absurd h
says_nano w low high n (t ∷ []) rest h k = absurd h.1
says_nano w low high n (t ∷ u ∷ ts) rest h k = (
  pos 0,
  is_fixed w t.bytes h.0,
  (n, is_within low high n (nano_of u.bytes) (record { value = h.1.0; between = k }), (refl, h.1.1)),
)

-- ---- the size

natural_is : (k : ℕ) (v : ℤ) → pos k ≤ℤ v → v ≡ pos (nat_abs v)
natural_is k (pos n) h = refl
natural_is k (negsuc n) h = absurd (omega (arith, ints))

within_naturals : (low high n : ℕ) → low ≤ n → n ≤ high → IsWithin (pos low) (pos high) (pos n)
within_naturals low high n h k = (omega (arith, ints), omega (arith, ints))

naturals_within : (low high n : ℕ) → IsWithin (pos low) (pos high) (pos n) → (low ≤ n) × (n ≤ high)
naturals_within low high n h = let low = h.0 in let high = h.1 in (omega (arith, ints), omega (arith, ints))

pub record IsExtent (states : ℕ) (x : Extent) : Type 0 where
  pub width : (1 ≤ x.width) × (x.width ≤ states)
  pub height : (1 ≤ x.height) × (x.height ≤ states)

abbrev pub extent_words : Extent → List Said
extent_words x = word (codes "discretization(cells):") ∷ number (pos x.width) ∷ number (pos x.height) ∷ []

pub extent_said : (states : ℕ) (p : Placed Extent) (ts rest : List Piece) → Says (extent_format states) ts p rest
    → Begins (extent_words p.value) ts rest × IsExtent states p.value
unfolding extent_format Says
extent_said states p [] rest h = absurd h
extent_said states p (t ∷ []) rest h = absurd h.2
extent_said states p (t ∷ u ∷ []) rest h = absurd h.2.2
extent_said states p (t ∷ u ∷ v ∷ ts) rest h =
    let w = within_is (pos 1) (pos states) h.2.0 (whole_of u.bytes) h.2.1 in
    let r = within_is (pos 1) (pos states) h.2.2.0 (whole_of v.bytes) h.2.2.1 in
    let g = h.2.2.2 in
    let width : h.2.0 ≡ pos p.value.width =
    natural_is 1 h.2.0 w.between.0 ∙ ap (λ (y : Placed Extent). pos y.value.width) (sym g.0) in
    let height : h.2.2.0 ≡ pos p.value.height =
    natural_is 1 h.2.2.0 r.between.0 ∙ ap (λ (y : Placed Extent). pos y.value.height) (sym g.0) in (
      (fixed_is _ t.bytes h.0 h.1, (w.value ∙ ap (λ z. Ok z) width, (r.value ∙ ap (λ z. Ok z) height, g.1))),
      record {
        width = naturals_within 1 states p.value.width (subst (IsWithin (pos 1) (pos states)) width w.between);
        height = naturals_within 1 states p.value.height (subst (IsWithin (pos 1) (pos states)) height r.between);
      },
    )

pub says_extent : (states : ℕ) (x : Extent) (ts rest : List Piece) → Begins (extent_words x) ts rest
    → IsExtent states x → (place : ℕ) × Says (extent_format states) ts (record { value = x; place = place }) rest
unfolding extent_format Says
says_extent states x [] rest h k = absurd h
says_extent states x (t ∷ []) rest h k = absurd h.1
says_extent states x (t ∷ u ∷ []) rest h k = absurd h.1.1
says_extent states x (t ∷ u ∷ v ∷ ts) rest h k = (
  u.place,
  (
    pos 0,
    is_fixed _ t.bytes h.0,
    (
      pos x.width,
      is_within (pos 1) (pos states) (pos x.width) (whole_of u.bytes)
          (record { value = h.1.0; between = within_naturals 1 states x.width k.width.0 k.width.1 }),
      (
        pos x.height,
        is_within (pos 1) (pos states) (pos x.height) (whole_of v.bytes)
            (record { value = h.1.1.0; between = within_naturals 1 states x.height k.height.0 k.height.1 }),
        (refl, h.1.1.1),
      ),
    ),
  ),
)

-- the number of headings, which a text says or leaves out
abbrev pub headings_words : Bool → ℕ → List Said
headings_words true n = spelled_headings n
headings_words false n = []

-- it may stand in a file, and where it is left out it is the usual one
pub record IsCount (said : Bool) (n : ℕ) : Type 0 where
  pub count : IsHeadingCount n
  pub usual : said ≡ false → n ≡ usual_headings

pub headings_said : (said : Bool) (z : ℤ) (ts rest : List Piece) → Says (headings_format said) ts z rest
    → Begins (headings_words said (nat_abs z)) ts rest × IsCount said (nat_abs z)
unfolding headings_format Says
headings_said true z ts rest h =
    let a = whole_said headings_word (pos 4) (pos 64) z ts rest h in
    let is : z ≡ pos (nat_abs z) = natural_is 4 z a.1.0 in (
      subst (λ n. Begins (word headings_word ∷ number n ∷ []) ts rest) is a.0,
      record {
        count = naturals_within 4 64 (nat_abs z) (subst (IsWithin (pos 4) (pos 64)) is a.1);
        usual = λ e. absurd cc;
      },
    )
headings_said false z ts rest h =
    let is : nat_abs z ≡ usual_headings = ap nat_abs h.0 in
    (h.1, record { count = subst IsHeadingCount (sym is) (lit≤ tt, lit≤ tt); usual = λ _. is })

pub says_count : (said : Bool) (n : ℕ) (ts rest : List Piece) → Begins (headings_words said n) ts rest → IsCount said n
    → Says (headings_format said) ts (pos n) rest
unfolding headings_format Says
says_count true n ts rest h k =
    says_whole headings_word (pos 4) (pos 64) (pos n) ts rest h (within_naturals 4 64 n k.count.0 k.count.1)
says_count false n ts rest h k = (ap pos (k.usual refl), h)

pub record IsSize (states : ℕ) (said : Bool) (x : Size) : Type 0 where
  pub width : (1 ≤ x.width) × (x.width ≤ states)
  pub height : (1 ≤ x.height) × (x.height ≤ states)
  pub headings : IsCount said x.headings
  pub few : x.width * x.height * x.headings ≤ states

abbrev pub extent_of : Size → Extent
extent_of x = record { width = x.width; height = x.height }

abbrev pub size_words : Bool → Size → List Said
size_words said x = extent_words (extent_of x) ++ headings_words said x.headings

pub size_said : (states : ℕ) (said : Bool) (x : Size) (ts rest : List Piece) → Says (size_format states said) ts x rest
    → Begins (size_words said x) ts rest × IsSize states said x
unfolding size_format
size_said states said x ts rest s =
    let a = says_parts _ _ ts rest x s in
    let b = says_parts _ _ a.1 rest x a.3 in
    let e = extent_said states a.0 ts a.1 a.2 in
    let n = headings_said said b.0 a.1 b.1 b.2 in
    let g = unless_wrong _ _ x _ b.1 rest b.3 in
    let made : Size = record { width = a.0.value.width; height = a.0.value.height; headings = nat_abs b.0 } in
    let begins : Begins (size_words said made) ts rest =
    begins_append (extent_words (extent_of made)) (headings_words said made.headings) ts a.1 rest e.0
    (subst (λ m. Begins (headings_words said made.headings) a.1 m) (sym g.2) n.0) in
    let is : IsSize states said made =
    record { width = e.1.width; height = e.1.height; headings = n.1; few = ltb-false _ _ g.0 } in
    (subst (λ (y : Size). Begins (size_words said y) ts rest) (sym g.1) begins, subst (IsSize states said) (sym g.1) is)

pub says_size : (states : ℕ) (said : Bool) (x : Size) (ts rest : List Piece) → Begins (size_words said x) ts rest
    → IsSize states said x → Says (size_format states said) ts x rest
unfolding size_format Says
says_size states said x ts rest h k =
    let a = append_begins (extent_words (extent_of x)) (headings_words said x.headings) ts rest h in
    let e = says_extent states (extent_of x) ts a.0 a.1 (record { width = k.width; height = k.height }) in
    let small : ltb states (x.width * x.height * x.headings) ≡ false = le-ltb _ _ k.few in
    says_both (extent_format states) _ ts a.0 rest (record { value = extent_of x; place = e.0 }) x e.1
    (says_both (headings_format said) _ a.0 rest rest (pos x.headings) x
    (says_count said x.headings a.0 rest a.2 k.headings) (rw small (refl, refl)))

-- ---- the thresholds

pub record AreThresholds (x : Thresholds) : Type 0 where
  pub obsthresh : x.obsthresh ≤ 255
  pub inscribed : x.inscribed ≤ 255
  pub circumscribed : IsWithin (negsuc 0) (pos 255) x.circumscribed

abbrev pub obsthresh_words : ℤ → List Said
obsthresh_words n = word (codes "obsthresh:") ∷ number n ∷ []

abbrev pub inscribed_words : ℤ → List Said
inscribed_words n = word (codes "cost_inscribed_thresh:") ∷ number n ∷ []

abbrev pub circumscribed_words : ℤ → List Said
circumscribed_words n = word (codes "cost_possibly_circumscribed_thresh:") ∷ number n ∷ []

abbrev pub thresholds_words : Thresholds → List Said
thresholds_words x =
    obsthresh_words (pos x.obsthresh) ++ (inscribed_words (pos x.inscribed) ++ circumscribed_words x.circumscribed)

pub thresholds_said : (x : Thresholds) (ts rest : List Piece) → Says thresholds_format ts x rest
    → Begins (thresholds_words x) ts rest × AreThresholds x
unfolding thresholds_format obsthresh_format inscribed_format circumscribed_format Says
thresholds_said x ts rest h =
    let a = says_parts _ _ ts rest x h in
    let b = says_parts _ _ a.1 rest x a.3 in
    let c = says_parts _ _ b.1 rest x b.3 in
    let o = whole_said _ (pos 0) (pos 255) a.0 ts a.1 a.2 in
    let i = whole_said _ (pos 0) (pos 255) b.0 a.1 b.1 b.2 in
    let r = whole_said _ (negsuc 0) (pos 255) c.0 b.1 c.1 c.2 in
    let obsthresh : a.0 ≡ pos x.obsthresh =
    natural_is 0 a.0 o.1.0 ∙ ap (λ (y : Thresholds). pos y.obsthresh) (sym c.3.0) in
    let inscribed : b.0 ≡ pos x.inscribed =
    natural_is 0 b.0 i.1.0 ∙ ap (λ (y : Thresholds). pos y.inscribed) (sym c.3.0) in
    let circumscribed : c.0 ≡ x.circumscribed = ap (λ (y : Thresholds). y.circumscribed) (sym c.3.0) in (
      begins_append (obsthresh_words (pos x.obsthresh))
          (inscribed_words (pos x.inscribed) ++ circumscribed_words x.circumscribed) ts a.1 rest
          (subst (λ n. Begins (obsthresh_words n) ts a.1) obsthresh o.0)
          (begins_append (inscribed_words (pos x.inscribed)) (circumscribed_words x.circumscribed) a.1 b.1 rest
          (subst (λ n. Begins (inscribed_words n) a.1 b.1) inscribed i.0)
          (subst (λ m. Begins (circumscribed_words x.circumscribed) b.1 m) (sym c.3.1)
          (subst (λ n. Begins (circumscribed_words n) b.1 c.1) circumscribed r.0))),
      record {
        obsthresh = (naturals_within 0 255 x.obsthresh (subst (IsWithin (pos 0) (pos 255)) obsthresh o.1)).1;
        inscribed = (naturals_within 0 255 x.inscribed (subst (IsWithin (pos 0) (pos 255)) inscribed i.1)).1;
        circumscribed = subst (IsWithin (negsuc 0) (pos 255)) circumscribed r.1;
      },
    )

pub says_thresholds : (x : Thresholds) (ts rest : List Piece) → Begins (thresholds_words x) ts rest → AreThresholds x
    → Says thresholds_format ts x rest
unfolding thresholds_format obsthresh_format inscribed_format circumscribed_format Says
says_thresholds x ts rest h k =
    let a =
    append_begins (obsthresh_words (pos x.obsthresh))
    (inscribed_words (pos x.inscribed) ++ circumscribed_words x.circumscribed) ts rest h in
    let b = append_begins (inscribed_words (pos x.inscribed)) (circumscribed_words x.circumscribed) a.0 rest a.2 in
    says_both obsthresh_format _ ts a.0 rest (pos x.obsthresh) x (says_whole _ (pos 0) (pos 255) (pos x.obsthresh) ts
    a.0 a.1 (within_naturals 0 255 x.obsthresh (omega arith) k.obsthresh))
    (says_both inscribed_format _ a.0 b.0 rest (pos x.inscribed) x (says_whole _ (pos 0) (pos 255) (pos x.inscribed) a.0
    b.0 b.1 (within_naturals 0 255 x.inscribed (omega arith) k.inscribed))
    (says_both circumscribed_format _ b.0 rest rest x.circumscribed x
    (says_whole _ (negsuc 0) (pos 255) x.circumscribed b.0 rest b.2 k.circumscribed) (refl, refl)))

-- ---- the rates

pub record AreRates (x : Rates) : Type 0 where
  pub cell : IsWithin (pos 1) (pos 1000000000000) x.cell
  pub speed : IsWithin (pos 1) (pos 1000000000000) x.speed
  pub turn45 : IsWithin (pos 1) (pos 1000000000000) x.turn45

abbrev pub cell_words : ℤ → List Said
cell_words n = word (codes "cellsize(meters):") ∷ nano n ∷ []

abbrev pub speed_words : ℤ → List Said
speed_words n = word (codes "nominalvel(mpersecs):") ∷ nano n ∷ []

abbrev pub turn45_words : ℤ → List Said
turn45_words n = word (codes "timetoturn45degsinplace(secs):") ∷ nano n ∷ []

abbrev pub rates_words : Rates → List Said
rates_words x = cell_words x.cell ++ (speed_words x.speed ++ turn45_words x.turn45)

pub rates_said : (x : Rates) (ts rest : List Piece) → Says rates_format ts x rest
    → Begins (rates_words x) ts rest × AreRates x
unfolding rates_format cell_format speed_format turn45_format Says
rates_said x ts rest h =
    let a = says_parts _ _ ts rest x h in
    let b = says_parts _ _ a.1 rest x a.3 in
    let c = says_parts _ _ b.1 rest x b.3 in
    let p = nano_said _ (pos 1) (pos 1000000000000) a.0 ts a.1 a.2 in
    let q = nano_said _ (pos 1) (pos 1000000000000) b.0 a.1 b.1 b.2 in
    let r = nano_said _ (pos 1) (pos 1000000000000) c.0 b.1 c.1 c.2 in
    let cell : a.0 ≡ x.cell = ap (λ (y : Rates). y.cell) (sym c.3.0) in
    let speed : b.0 ≡ x.speed = ap (λ (y : Rates). y.speed) (sym c.3.0) in
    let turn45 : c.0 ≡ x.turn45 = ap (λ (y : Rates). y.turn45) (sym c.3.0) in (
      begins_append (cell_words x.cell) (speed_words x.speed ++ turn45_words x.turn45) ts a.1 rest
          (subst (λ n. Begins (cell_words n) ts a.1) cell p.0)
          (begins_append (speed_words x.speed) (turn45_words x.turn45) a.1 b.1 rest
          (subst (λ n. Begins (speed_words n) a.1 b.1) speed q.0)
          (subst (λ m. Begins (turn45_words x.turn45) b.1 m) (sym c.3.1)
          (subst (λ n. Begins (turn45_words n) b.1 c.1) turn45 r.0))),
      record {
        cell = subst (IsWithin (pos 1) (pos 1000000000000)) cell p.1;
        speed = subst (IsWithin (pos 1) (pos 1000000000000)) speed q.1;
        turn45 = subst (IsWithin (pos 1) (pos 1000000000000)) turn45 r.1;
      },
    )

pub says_rates : (x : Rates) (ts rest : List Piece) → Begins (rates_words x) ts rest → AreRates x
    → Says rates_format ts x rest
unfolding rates_format cell_format speed_format turn45_format Says
says_rates x ts rest h k =
    let a = append_begins (cell_words x.cell) (speed_words x.speed ++ turn45_words x.turn45) ts rest h in
    let b = append_begins (speed_words x.speed) (turn45_words x.turn45) a.0 rest a.2 in
    says_both cell_format _ ts a.0 rest x.cell x (says_nano _ (pos 1) (pos 1000000000000) x.cell ts a.0 a.1 k.cell)
    (says_both speed_format _ a.0 b.0 rest x.speed x
    (says_nano _ (pos 1) (pos 1000000000000) x.speed a.0 b.0 b.1 k.speed)
    (says_both turn45_format _ b.0 rest rest x.turn45 x
    (says_nano _ (pos 1) (pos 1000000000000) x.turn45 b.0 rest b.2 k.turn45) (refl, refl)))

-- ---- the poses

pub pose_said : (w : List ℕ) (p : Placed Pose) (ts rest : List Piece) → Says (pose_format w) ts p rest
    → Begins (spelled_pose w p.value) ts rest × IsPoseInRange p.value
unfolding pose_format Says
pose_said w p [] rest h = absurd h
pose_said w p (t ∷ []) rest h = absurd h.2
pose_said w p (t ∷ u ∷ []) rest h = absurd h.2.2
pose_said w p (t ∷ u ∷ v ∷ []) rest h = absurd h.2.2.2
pose_said w p (t ∷ u ∷ v ∷ a ∷ ts) rest h =
    let low = negsuc 999999999999999999 in
    let high = pos 1000000000000000000 in
    let x = within_is low high h.2.0 (nano_of u.bytes) h.2.1 in
    let y = within_is low high h.2.2.0 (nano_of v.bytes) h.2.2.1 in
    let theta = within_is low high h.2.2.2.0 (nano_of a.bytes) h.2.2.2.1 in
    let g = h.2.2.2.2 in
    let is_x : h.2.0 ≡ p.value.x = ap (λ (q : Placed Pose). q.value.x) (sym g.0) in
    let is_y : h.2.2.0 ≡ p.value.y = ap (λ (q : Placed Pose). q.value.y) (sym g.0) in
    let is_theta : h.2.2.2.0 ≡ p.value.theta = ap (λ (q : Placed Pose). q.value.theta) (sym g.0) in (
      (
        fixed_is w t.bytes h.0 h.1,
        (x.value ∙ ap (λ z. Ok z) is_x, (y.value ∙ ap (λ z. Ok z) is_y, (theta.value ∙ ap (λ z. Ok z) is_theta, g.1))),
      ),
      record {
        x = subst (IsWithin low high) is_x x.between;
        y = subst (IsWithin low high) is_y y.between;
        theta = subst (IsWithin low high) is_theta theta.between;
      },
    )

pub says_pose : (w : List ℕ) (p : Pose) (ts rest : List Piece) → Begins (spelled_pose w p) ts rest → IsPoseInRange p
    → (place : ℕ) × Says (pose_format w) ts (record { value = p; place = place }) rest
unfolding pose_format Says
says_pose w p [] rest h k = absurd h
says_pose w p (t ∷ []) rest h k = absurd h.1
says_pose w p (t ∷ u ∷ []) rest h k = absurd h.1.1
says_pose w p (t ∷ u ∷ v ∷ []) rest h k = absurd h.1.1.1
says_pose w p (t ∷ u ∷ v ∷ a ∷ ts) rest h k =
    let low = negsuc 999999999999999999 in
    let high = pos 1000000000000000000 in (
      u.place,
      (
        pos 0,
        is_fixed w t.bytes h.0,
        (
          p.x,
          is_within low high p.x (nano_of u.bytes) (record { value = h.1.0; between = k.x }),
          (
            p.y,
            is_within low high p.y (nano_of v.bytes) (record { value = h.1.1.0; between = k.y }),
            (
              p.theta,
              is_within low high p.theta (nano_of a.bytes) (record { value = h.1.1.1.0; between = k.theta }),
              (refl, h.1.1.1.1),
            ),
          ),
        ),
      ),
    )

-- a pose in its ranges and on the map
pub record IsGood (h : Header) (p : Pose) : Type 0 where
  pub in_range : IsPoseInRange p
  pub on_map : is_on_map_of h p ≡ true

pub start_said : (h : Header) (p : Pose) (ts rest : List Piece) → Says (start_format h) ts p rest
    → Begins (spelled_pose (codes "start(meters,rads):") p) ts rest × IsGood h p
unfolding start_format start_pose_format
start_said h p ts rest s =
    let a = says_parts _ _ ts rest p s in
    let r = pose_said _ a.0 ts a.1 a.2 in
    let g = if_right _ _ p _ a.1 rest a.3 in
    let same : a.0.value ≡ p = sym g.1 in (
      subst (λ m. Begins (spelled_pose (codes "start(meters,rads):") p) ts m) (sym g.2)
          (subst (λ q. Begins (spelled_pose (codes "start(meters,rads):") q) ts a.1) same r.0),
      record { in_range = subst IsPoseInRange same r.1; on_map = subst (λ q. is_on_map_of h q ≡ true) same g.0 },
    )

pub says_start : (h : Header) (p : Pose) (ts rest : List Piece)
    → Begins (spelled_pose (codes "start(meters,rads):") p) ts rest → IsGood h p
    → Says (start_format h) ts p rest
unfolding start_format start_pose_format Says
says_start h p ts rest s good =
    let a = says_pose _ p ts rest s good.in_range in
    says_both (pose_format (codes "start(meters,rads):")) _ ts rest rest (record { value = p; place = a.0 }) p a.1
    (rw good.on_map (refl, refl))

pub end_said : (h : Header) (p : Pose) (ts rest : List Piece) → Says (end_format h) ts p rest
    → Begins (spelled_pose (codes "end(meters,rads):") p) ts rest × IsGood h p
unfolding end_format end_pose_format
end_said h p ts rest s =
    let a = says_parts _ _ ts rest p s in
    let r = pose_said _ a.0 ts a.1 a.2 in
    let g = if_right _ _ p _ a.1 rest a.3 in
    let same : a.0.value ≡ p = sym g.1 in (
      subst (λ m. Begins (spelled_pose (codes "end(meters,rads):") p) ts m) (sym g.2)
          (subst (λ q. Begins (spelled_pose (codes "end(meters,rads):") q) ts a.1) same r.0),
      record { in_range = subst IsPoseInRange same r.1; on_map = subst (λ q. is_on_map_of h q ≡ true) same g.0 },
    )

pub says_end : (h : Header) (p : Pose) (ts rest : List Piece)
    → Begins (spelled_pose (codes "end(meters,rads):") p) ts rest → IsGood h p
    → Says (end_format h) ts p rest
unfolding end_format end_pose_format Says
says_end h p ts rest s good =
    let a = says_pose _ p ts rest s good.in_range in
    says_both (pose_format (codes "end(meters,rads):")) _ ts rest rest (record { value = p; place = a.0 }) p a.1
    (rw good.on_map (refl, refl))

abbrev pub ends_words : Ends → List Said
ends_words x = spelled_pose (codes "start(meters,rads):") x.start ++ spelled_pose (codes "end(meters,rads):") x.end

pub ends_said : (h : Header) (x : Ends) (ts rest : List Piece) → Says (ends_format h) ts x rest
    → Begins (ends_words x) ts rest × IsGood h x.start × IsGood h x.end
unfolding ends_format Says
ends_said h x ts rest s =
    let a = says_parts _ _ ts rest x s in
    let b = says_parts _ _ a.1 rest x a.3 in
    let p = start_said h a.0 ts a.1 a.2 in
    let q = end_said h b.0 a.1 b.1 b.2 in
    let start : a.0 ≡ x.start = ap (λ (y : Ends). y.start) (sym b.3.0) in
    let end : b.0 ≡ x.end = ap (λ (y : Ends). y.end) (sym b.3.0) in (
      begins_append (spelled_pose (codes "start(meters,rads):") x.start)
          (spelled_pose (codes "end(meters,rads):") x.end) ts a.1 rest
          (subst (λ p. Begins (spelled_pose (codes "start(meters,rads):") p) ts a.1) start p.0)
          (subst (λ m. Begins (spelled_pose (codes "end(meters,rads):") x.end) a.1 m) (sym b.3.1)
          (subst (λ p. Begins (spelled_pose (codes "end(meters,rads):") p) a.1 b.1) end q.0)),
      subst (IsGood h) start p.1,
      subst (IsGood h) end q.1,
    )

pub says_ends : (h : Header) (x : Ends) (ts rest : List Piece) → Begins (ends_words x) ts rest → IsGood h x.start
    → IsGood h x.end → Says (ends_format h) ts x rest
unfolding ends_format Says
says_ends h x ts rest s good fine =
    let a =
    append_begins (spelled_pose (codes "start(meters,rads):") x.start)
    (spelled_pose (codes "end(meters,rads):") x.end) ts rest s in
    says_both (start_format h) _ ts a.0 rest x.start x (says_start h x.start ts a.0 a.1 good)
    (says_both (end_format h) _ a.0 rest rest x.end x (says_end h x.end a.0 rest a.2 fine) (refl, refl))

-- ---- the header

abbrev pub header_words : Bool → Header → List Said
header_words said h = size_words said h.size ++ (thresholds_words h.thresholds ++ rates_words h.rates)

-- how many states there are by a header
abbrev pub header_count : Header → ℕ
header_count h = h.size.width * h.size.height * h.size.headings

pub header_said : (states : ℕ) (said : Bool) (h : Header) (ts rest : List Piece) → states ≤ 268435456
    → Says (header_format states said) ts h rest
    → Begins (header_words said h) ts rest × IsHeaderInRange h × (header_count h ≤ states) × IsCount said h.size.headings
unfolding header_format Says
header_said states said h ts rest small s =
    let a = says_parts _ _ ts rest h s in
    let b = says_parts _ _ a.1 rest h a.3 in
    let c = says_parts _ _ b.1 rest h b.3 in
    let p = size_said states said a.0 ts a.1 a.2 in
    let q = thresholds_said b.0 a.1 b.1 b.2 in
    let r = rates_said c.0 b.1 c.1 c.2 in
    let size : a.0 ≡ h.size = ap (λ (y : Header). y.size) (sym c.3.0) in
    let thresholds : b.0 ≡ h.thresholds = ap (λ (y : Header). y.thresholds) (sym c.3.0) in
    let rates : c.0 ≡ h.rates = ap (λ (y : Header). y.rates) (sym c.3.0) in
    let is_size = subst (IsSize states said) size p.1 in
    let are_thresholds = subst AreThresholds thresholds q.1 in
    let are_rates = subst AreRates rates r.1 in (
      begins_append (size_words said h.size) (thresholds_words h.thresholds ++ rates_words h.rates) ts a.1 rest
          (subst (λ x. Begins (size_words said x) ts a.1) size p.0)
          (begins_append (thresholds_words h.thresholds) (rates_words h.rates) a.1 b.1 rest
          (subst (λ x. Begins (thresholds_words x) a.1 b.1) thresholds q.0)
          (subst (λ m. Begins (rates_words h.rates) b.1 m) (sym c.3.1)
          (subst (λ x. Begins (rates_words x) b.1 c.1) rates r.0))),
      record {
        width = (is_size.width.0, omega (arith, is_size.width.1, small));
        height = (is_size.height.0, omega (arith, is_size.height.1, small));
        headings = is_size.headings.count;
        states = le_trans is_size.few small;
        obsthresh = are_thresholds.obsthresh;
        inscribed = are_thresholds.inscribed;
        circumscribed = are_thresholds.circumscribed;
        cell = are_rates.cell;
        speed = are_rates.speed;
        turn45 = are_rates.turn45;
      },
      is_size.few,
      is_size.headings,
    )

-- a side of a map is not longer than all its states
side_le : (w h n states : ℕ) → 1 ≤ h → 4 ≤ n → w * h * n ≤ states → w ≤ states
side_le w h n states some few small =
    let one : w * 1 ≤ w * h = mul-le-mul_left w some in
    let all : w * h * 1 ≤ w * h * n = mul-le-mul_left (w * h) (omega (arith, few)) in
    omega arith

pub says_header : (states : ℕ) (said : Bool) (h : Header) (ts rest : List Piece) → Begins (header_words said h) ts rest
    → IsHeaderInRange h → header_count h ≤ states → IsCount said h.size.headings
    → Says (header_format states said) ts h rest
unfolding header_format Says
says_header states said h ts rest s k few n =
    let a = append_begins (size_words said h.size) (thresholds_words h.thresholds ++ rates_words h.rates) ts rest s in
    let b = append_begins (thresholds_words h.thresholds) (rates_words h.rates) a.0 rest a.2 in
    says_both (size_format states said) _ ts a.0 rest h.size h
    (says_size states said h.size ts a.0 a.1 (record {
      width = (k.width.0, side_le h.size.width h.size.height h.size.headings states k.height.0 k.headings.0 few);
      height = (
        k.height.0,
        side_le h.size.height h.size.width h.size.headings states k.width.0 k.headings.0
            (rw (mul_comm h.size.height h.size.width) few),
      );
      headings = n;
      few = few;
    }))
    (says_both thresholds_format _ a.0 b.0 rest h.thresholds h
    (says_thresholds h.thresholds a.0 b.0 b.1
    (record { obsthresh = k.obsthresh; inscribed = k.inscribed; circumscribed = k.circumscribed }))
    (says_both rates_format _ b.0 rest rest h.rates h
    (says_rates h.rates b.0 rest b.2 (record { cell = k.cell; speed = k.speed; turn45 = k.turn45 })) (refl, refl)))

-- ---- all numbers but the costs

on_axis_is : (size x : ℤ) (count : ℕ) → is_on_axis size count x ≡ true → IsOnAxis size count x
on_axis_is size x count e =
    let both = and_parts (int_le (pos 0) (cell_of size x)) (int_lt (cell_of size x) (pos count)) e in
    let low = both.0 in
    let high = both.1 in
    (omega (arith, ints), omega (arith, ints))

is_on : (size x : ℤ) (count : ℕ) → IsOnAxis size count x → is_on_axis size count x ≡ true
is_on size x count h =
    let low = h.0 in
    let high = h.1 in
    and_from (int_le (pos 0) (cell_of size x)) (int_lt (cell_of size x) (pos count))
    (grind (arith, ints)) (grind (arith, ints))

pub environment_is : (h : Header) (x : Ends) → IsHeaderInRange h → IsGood h x.start → IsGood h x.end
    → IsEnvironment (environment_of h x)
environment_is h x k good fine =
    let s =
    and_parts (is_on_axis h.rates.cell h.size.width x.start.x)
    (is_on_axis h.rates.cell h.size.height x.start.y) good.on_map in
    let e =
    and_parts (is_on_axis h.rates.cell h.size.width x.end.x)
    (is_on_axis h.rates.cell h.size.height x.end.y) fine.on_map in
    record {
      width = k.width;
      height = k.height;
      obsthresh = k.obsthresh;
      inscribed = k.inscribed;
      circumscribed = k.circumscribed;
      cell = k.cell;
      speed = k.speed;
      turn45 = k.turn45;
      start_in_range = good.in_range;
      end_in_range = fine.in_range;
      headings = k.headings;
      states = k.states;
      start_on_map = record {
        x = on_axis_is h.rates.cell x.start.x h.size.width s.0;
        y = on_axis_is h.rates.cell x.start.y h.size.height s.1;
      };
      end_on_map = record {
        x = on_axis_is h.rates.cell x.end.x h.size.width e.0;
        y = on_axis_is h.rates.cell x.end.y h.size.height e.1;
      };
    }

abbrev pub header_of : Environment → Header
header_of e = record {
  size = record { width = e.width; height = e.height; headings = e.headings };
  thresholds = record { obsthresh = e.obsthresh; inscribed = e.inscribed; circumscribed = e.circumscribed };
  rates = record { cell = e.cell; speed = e.speed; turn45 = e.turn45 };
}

abbrev pub ends_of : Environment → Ends
ends_of e = record { start = e.start; end = e.end }

-- the words before the grid
abbrev pub numbers_words : Bool → Environment → List Said
numbers_words said e = header_words said (header_of e) ++ ends_words (ends_of e)

pub numbers_said : (states : ℕ) (said : Bool) (e : Environment) (ts rest : List Piece) → states ≤ 268435456
    → Says (numbers_format states said) ts e rest
    → Begins (numbers_words said e) ts rest × IsEnvironment e × (state_count e ≤ states) × IsCount said e.headings
unfolding numbers_format Says
numbers_said states said e ts rest small s =
    let a = says_parts _ _ ts rest e s in
    let b = says_parts _ _ a.1 rest e a.3 in
    let p = header_said states said a.0 ts a.1 small a.2 in
    let q = ends_said a.0 b.0 a.1 b.1 b.2 in
    let same : environment_of a.0 b.0 ≡ e = sym b.3.0 in (
      subst (λ (x : Environment). Begins (numbers_words said x) ts rest) same
          (begins_append (header_words said a.0) (ends_words b.0) ts a.1 rest p.0
          (subst (λ m. Begins (ends_words b.0) a.1 m) (sym b.3.1) q.0)),
      subst IsEnvironment same (environment_is a.0 b.0 p.1 q.1 q.2),
      subst (λ (x : Environment). state_count x ≤ states) same p.2,
      subst (λ (x : Environment). IsCount said x.headings) same p.3,
    )

pub says_numbers : (states : ℕ) (said : Bool) (e : Environment) (ts rest : List Piece)
    → Begins (numbers_words said e) ts rest → IsEnvironment e → state_count e ≤ states → IsCount said e.headings
    → Says (numbers_format states said) ts e rest
unfolding numbers_format Says
says_numbers states said e ts rest s k few n =
    let a = append_begins (header_words said (header_of e)) (ends_words (ends_of e)) ts rest s in
    let in_range : IsHeaderInRange (header_of e) = record {
      width = k.width;
      height = k.height;
      headings = k.headings;
      states = k.states;
      obsthresh = k.obsthresh;
      inscribed = k.inscribed;
      circumscribed = k.circumscribed;
      cell = k.cell;
      speed = k.speed;
      turn45 = k.turn45;
    } in
    let start : IsGood (header_of e) e.start = record {
      in_range = k.start_in_range;
      on_map =
          and_from (is_on_axis e.cell e.width e.start.x) (is_on_axis e.cell e.height e.start.y)
          (is_on e.cell e.start.x e.width k.start_on_map.x) (is_on e.cell e.start.y e.height k.start_on_map.y);
    } in
    let end : IsGood (header_of e) e.end = record {
      in_range = k.end_in_range;
      on_map =
          and_from (is_on_axis e.cell e.width e.end.x) (is_on_axis e.cell e.height e.end.y)
          (is_on e.cell e.end.x e.width k.end_on_map.x) (is_on e.cell e.end.y e.height k.end_on_map.y);
    } in
    says_both (header_format states said) _ ts a.0 rest (header_of e) e
    (says_header states said (header_of e) ts a.0 a.1 in_range few n)
    (says_both (ends_format (header_of e)) _ a.0 rest rest (ends_of e) e
    (says_ends (header_of e) (ends_of e) a.0 rest a.2 start end) (refl, refl))

-- ---- the grid

abbrev pub costs_words : List ℕ → List Said
costs_words cells = map (λ c. number (pos c)) cells

abbrev pub AreCosts : List ℕ → Type 0
AreCosts cells = AllByRecursion (λ c. c ≤ 255) cells

-- one more cost
pub record IsMore (before cells : List ℕ) (ts rest : List Piece) : Type 0 where
  pub cost : ℕ
  pub all : cells ≡ before ++ cost ∷ []
  pub bound : cost ≤ 255
  pub begins : Begins (number (pos cost) ∷ []) ts rest

pub cost_said : (before cells : List ℕ) (ts rest : List Piece) → Says (cost_format before) ts cells rest
    → IsMore before cells ts rest
unfolding cost_format Says
cost_said before cells [] rest h = absurd h
cost_said before cells (t ∷ ts) rest h =
    let r = within_is (pos 0) (pos 255) h.0 (whole_of t.bytes) h.1 in
    let is : h.0 ≡ pos (nat_abs h.0) = natural_is 0 h.0 r.between.0 in
    record {
      cost = nat_abs h.0;
      all = h.2.0;
      bound = (naturals_within 0 255 (nat_abs h.0) (subst (IsWithin (pos 0) (pos 255)) is r.between)).1;
      begins = (r.value ∙ ap (λ z. Ok z) is, h.2.1);
    }

pub says_cost : (before : List ℕ) (cost : ℕ) (ts rest : List Piece) → Begins (number (pos cost) ∷ []) ts rest
    → cost ≤ 255 → Says (cost_format before) ts (before ++ cost ∷ []) rest
unfolding cost_format Says
says_cost before cost [] rest h k = absurd h
says_cost before cost (t ∷ ts) rest h k = (
  pos cost,
  is_within (pos 0) (pos 255) (pos cost) (whole_of t.bytes)
      (record { value = h.0; between = within_naturals 0 255 cost (omega arith) k }),
  (refl, h.1),
)

-- costs after those that were read
pub record Further (count : ℕ) (before cells : List ℕ) (ts rest : List Piece) : Type 0 where
  pub more : List ℕ
  pub all : cells ≡ before ++ more
  pub size : length more ≡ count
  pub costs : AreCosts more
  pub begins : Begins (costs_words more) ts rest

pub costs_said : (count : ℕ) (before cells : List ℕ) (ts rest : List Piece)
    → Says (turns count cost_format before) ts cells rest → Further count before cells ts rest
unfolding turns Says
costs_said zero before cells ts rest h = record {
  more = [];
  all = h.0 ∙ sym (append-nil before);
  size = refl;
  costs = tt;
  begins = h.1;
}
costs_said (suc count) before cells ts rest h =
    let a = says_parts _ _ ts rest cells h in
    let one = cost_said before a.0 ts a.1 a.2 in
    let others = costs_said count a.0 cells a.1 rest a.3 in
    record {
      more = one.cost ∷ others.more;
      all =
          others.all ∙ ap (λ (xs : List ℕ). xs ++ others.more) one.all
          ∙ append_assoc before (one.cost ∷ []) others.more;
      size = ap suc others.size;
      costs = (one.bound, others.costs);
      begins =
          begins_append (number (pos one.cost) ∷ []) (costs_words others.more) ts a.1 rest one.begins others.begins;
    }

pub says_costs : (more before : List ℕ) (ts rest : List Piece) → Begins (costs_words more) ts rest → AreCosts more
    → Says (turns (length more) cost_format before) ts (before ++ more) rest
unfolding turns Says
says_costs [] before ts rest h k = (append-nil before, h)
says_costs (cost ∷ more) before ts rest h k =
    let a = append_begins (number (pos cost) ∷ []) (costs_words more) ts rest h in
    says_both (cost_format before) _ ts a.0 rest (before ++ cost ∷ []) (before ++ cost ∷ more)
    (says_cost before cost ts a.0 a.1 k.0)
    (subst (λ (xs : List ℕ). Says (turns (length more) cost_format (before ++ cost ∷ [])) a.0 xs rest)
    (append_assoc before (cost ∷ []) more)
    (says_costs more (before ++ cost ∷ []) a.0 rest a.2 k.1))

pub grid_said : (count : ℕ) (cells : List ℕ) (ts rest : List Piece) → Says (grid_format count) ts cells rest
    → Begins (spelled_grid cells) ts rest × (length cells ≡ count) × AreCosts cells
unfolding grid_format Says
grid_said count cells [] rest h = absurd h
grid_said count cells (t ∷ ts) rest h =
    let all = costs_said count [] cells ts rest h.2 in
    let same : all.more ≡ cells = sym all.all in (
      (fixed_is _ t.bytes h.0 h.1, subst (λ xs. Begins (costs_words xs) ts rest) same all.begins),
      subst (λ (xs : List ℕ). length xs ≡ count) same all.size,
      subst AreCosts same all.costs,
    )

pub says_grid : (count : ℕ) (cells : List ℕ) (ts rest : List Piece) → Begins (spelled_grid cells) ts rest
    → length cells ≡ count → AreCosts cells
    → Says (grid_format count) ts cells rest
unfolding grid_format Says
says_grid count cells [] rest h size k = absurd h
says_grid count cells (t ∷ ts) rest h size k = (
  pos 0,
  is_fixed _ t.bytes h.0,
  subst (λ n. Says (turns n cost_format []) ts cells rest) size (says_costs cells [] ts rest h.1 k),
)

-- ---- the whole text

-- the words of the file, with the number of headings or without it
abbrev file_words : Bool → Environment → List ℕ → List Said
file_words said e cells = numbers_words said e ++ spelled_grid cells

are_tokens : (said : Bool) (e : Environment) (cells : List ℕ) (ts : List Piece) → IsCount said e.headings
    → Begins (file_words said e cells) ts []
    → AreTokensOf (map (λ t. t.bytes) ts) e cells
are_tokens true e cells ts k h = inl (begins_all (spelled (spelled_headings e.headings) e cells) ts h)
are_tokens false e cells ts k h = inr (k.usual refl, begins_all (spelled [] e cells) ts h)

-- a file with the number of headings says it by its fourth token, and one without it does not
said_by_fourth : (said : Bool) (e : Environment) (cells : List ℕ) (ts : List Piece)
    → Begins (file_words said e cells) ts [] → is_fourth_token ts ≡ said
said_by_fourth true e cells [] h = absurd h
said_by_fourth true e cells (t ∷ []) h = absurd h.1
said_by_fourth true e cells (t ∷ u ∷ []) h = absurd h.1.1
said_by_fourth true e cells (t ∷ u ∷ v ∷ []) h = absurd h.1.1.1
said_by_fourth true e cells (t ∷ u ∷ v ∷ w ∷ ts) h = ap (λ bytes. bytes_eq bytes headings_word) h.1.1.1.0
said_by_fourth false e cells [] h = absurd h
said_by_fourth false e cells (t ∷ []) h = absurd h.1
said_by_fourth false e cells (t ∷ u ∷ []) h = absurd h.1.1
said_by_fourth false e cells (t ∷ u ∷ v ∷ []) h = absurd h.1.1.1
said_by_fourth false e cells (t ∷ u ∷ v ∷ w ∷ ts) h = ap (λ bytes. bytes_eq bytes headings_word) h.1.1.1.0

pub text_said : (states : ℕ) (text : List ℕ) (x : Environment × List ℕ) → states ≤ 268435456
    → StandsFor (environment_format states (says_headings text)) text x → IsTextOf states text x.0 x.1
unfolding environment_format
text_said states text x small h =
    let said = says_headings text in
    let a = says_parts _ _ (tokens text) h.0 x h.1 in
    let b = says_parts _ _ a.1 h.0 x a.3 in
    let z = at_end _ _ x (a.0, b.0) b.1 h.0 b.3 in
    let p = numbers_said states said a.0 (tokens text) a.1 small a.2 in
    let q = grid_said (a.0.width * a.0.height) b.0 a.1 b.1 b.2 in
    let all =
    begins_append (numbers_words said a.0) (spelled_grid b.0) (tokens text) a.1 [] p.0
    (subst (λ m. Begins (spelled_grid b.0) a.1 m) z.1 q.0) in
    subst (λ (y : Environment × List ℕ). IsTextOf states text y.0 y.1) (sym z.0) (record {
      tokens = are_tokens said a.0 b.0 (tokens text) p.3 all;
      environment = p.1;
      few = p.2;
      grid = record { size = q.1; costs = q.2 };
    })

-- tokens that are those of an environment and a grid are what the format says that has these words
says_file : (states : ℕ) (said : Bool) (text : List ℕ) (x : Environment × List ℕ)
    → Begins (file_words said x.0 x.1) (tokens text) [] → IsCount said x.0.headings
    → IsEnvironment x.0 → state_count x.0 ≤ states → IsGrid x.0 x.1 → StandsFor (environment_format states said) text x
unfolding environment_format Says
says_file states said text x all n e few g =
    let a = append_begins (numbers_words said x.0) (spelled_grid x.1) (tokens text) [] all in (
      [],
      says_both (numbers_format states said) _ (tokens text) a.0 [] x.0 x
          (says_numbers states said x.0 (tokens text) a.0 a.1 e few n)
          (says_both (grid_format (x.0.width * x.0.height)) _ a.0 [] [] x.1 x
          (says_grid (x.0.width * x.0.height) x.1 a.0 [] a.2 g.size g.costs) (refl, refl)),
    )

pub says_text : (states : ℕ) (text : List ℕ) (x : Environment × List ℕ) → IsTextOf states text x.0 x.1
    → StandsFor (environment_format states (says_headings text)) text x
says_text states text x h =
    let by : (said : Bool) → Begins (file_words said x.0 x.1) (tokens text) [] → IsCount said x.0.headings
    → StandsFor (environment_format states (says_headings text)) text x =
    λ said all n.
    subst (λ b. StandsFor (environment_format states b) text x) (sym (said_by_fourth said x.0 x.1 (tokens text) all))
    (says_file states said text x all n h.environment h.few h.grid) in
    elim h.tokens [
      | inl t ↦ by true (all_begins (spelled (spelled_headings x.0.headings) x.0 x.1) (tokens text) t)
          (record { count = h.environment.headings; usual = λ e. absurd cc })
      | inr t ↦
          by false (all_begins (spelled [] x.0 x.1) (tokens text) t.1)
          (record { count = h.environment.headings; usual = λ _. t.0 })
    ]

-- ---- the usual number of headings

-- which of the two lists a text has is seen at its fourth token
said_by_tokens : (text : List ℕ) (e : Environment) (cells : List ℕ)
    → AllMean (spelled (spelled_headings e.headings) e cells) (words_of text)
    → says_headings text ≡ true
said_by_tokens text e cells t =
    said_by_fourth true e cells (tokens text)
    (all_begins (spelled (spelled_headings e.headings) e cells) (tokens text) t)

pub left_out_is_usual : (states : ℕ) (text : List ℕ) (e : Environment) (cells : List ℕ) → IsTextOf states text e cells
    → says_headings text ≡ false → e.headings ≡ usual_headings
left_out_is_usual states text e cells h none = elim h.tokens [
  | inl t ↦ let e = sym none ∙ said_by_tokens text e cells t in absurd cc
  | inr t ↦ t.0
]

usual_said : (states : ℕ) (plain full : List ℕ) (e : Environment) (cells : List ℕ) → LeavesOutUsual plain full
    → IsTextOf states plain e cells → IsTextOf states full e cells
usual_said states plain full e cells w h =
    let usual = left_out_is_usual states plain e cells h w.left_out in
    let tokens : AreTokensOf (words_of full) e cells = elim h.tokens [
      | inl t ↦ let e = sym w.left_out ∙ said_by_tokens plain e cells t in absurd cc
      | inr t ↦
          let m = subst (AllMean (spelled [] e cells)) w.plain_words t.1 in
          inl (subst (AllMean (spelled (spelled_headings e.headings) e cells)) (sym w.full_words)
          (m.0, (m.1.0, (m.1.1.0, (refl, (w.usual ∙ ap (λ n. Ok (pos n)) (sym usual), m.1.1.1))))))
    ] in
    record { tokens = tokens; environment = h.environment; few = h.few; grid = h.grid }

usual_left_out : (states : ℕ) (plain full : List ℕ) (e : Environment) (cells : List ℕ) → LeavesOutUsual plain full
    → IsTextOf states full e cells → IsTextOf states plain e cells
usual_left_out states plain full e cells w h =
    let tokens : AreTokensOf (words_of plain) e cells = elim h.tokens [
      | inl t ↦
          let m = subst (AllMean (spelled (spelled_headings e.headings) e cells)) w.full_words t in
          let same : pos usual_headings ≡ pos e.headings = let k = sym w.usual ∙ m.1.1.1.1.0 in cc in
          inr (
            sym (ap nat_abs same),
            subst (AllMean (spelled [] e cells)) (sym w.plain_words) (m.0, (m.1.0, (m.1.1.0, m.1.1.1.1.1))),
          )
      | inr t ↦ let m = subst (AllMean (spelled [] e cells)) w.full_words t.1 in let e = m.1.1.1.0 in absurd cc
    ] in
    record { tokens = tokens; environment = h.environment; few = h.few; grid = h.grid }

pub usual_may_be_left_out : (states : ℕ) (plain full : List ℕ) (e : Environment) (cells : List ℕ)
    → LeavesOutUsual plain full → IsTextOf states plain e cells ↔ IsTextOf states full e cells
usual_may_be_left_out states plain full e cells w =
    (usual_said states plain full e cells w, usual_left_out states plain full e cells w)
