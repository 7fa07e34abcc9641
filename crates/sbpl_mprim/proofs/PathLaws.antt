-- What the formats of poses say.
use Rattle.std.proofs.Common.{◌≡◌, ℕ, zero, suc, ◌+◌, ◌-◌, ◌≤◌, List, [], ◌∷◌, ◌++◌, length, refl, sym, ap, subst, ◌∙◌}
use Rattle.std.proofs.Common.{arith, append_assoc, append-nil, length-append}
use Rattle.std.proofs.lemmas.List.Concat.{flat_map-append}
use Rattle.std.specs.List.{flat_map, AllByRecursion}
use Rattle.sbpl_fixed.specs.Tokens.{Piece}
use Rattle.sbpl_fixed.specs.Formats.{Format, done, and_then, turns, Says}
use Rattle.sbpl_cfg.specs.declared.pose.Pose.{Pose}
use Rattle.sbpl_mprim.specs.declared.fault.PrimFault.{PrimFault}
use Rattle.sbpl_mprim.specs.declared.parts.PlacedPose.{PlacedPose}
use Rattle.sbpl_mprim.specs.Primitives.{IsOffsetInRange}
use Rattle.sbpl_mprim.specs.Reading.{path_format, pose_format, pose_turn}
use Rattle.sbpl_mprim.specs.Text.{spelled_pose}
use Rattle.sbpl_fixed.specs.Parts.{says_both, says_parts}
use Rattle.sbpl_mprim.proofs.Spelling.{Spells, SaysSome, found_done, found_nano, say_done, say_nano, spells_append}
use Rattle.sbpl_mprim.proofs.Spelling.{spells_none, spells_split, none_spelled}

-- ---- one pose

pub pose_found : (headings : ℕ) (ts : List Piece) (p : PlacedPose) (rest : List Piece) → Says pose_format ts p rest
    → Spells headings (spelled_pose p.pose) ts rest × IsOffsetInRange p.pose
unfolding pose_format
pose_found headings ts p rest h =
    let a = found_nano headings _ _ _ ts p rest h in
    let b = found_nano headings _ _ _ a.after p rest a.says in
    let c = found_nano headings _ _ _ b.after p rest b.says in
    let d = found_done PrimFault _ c.after p rest c.says in
    rw d.0 (
      a.front _ (b.front _ (c.front [] (spells_none headings c.after rest d.1))),
      record { x = a.within; y = b.within; theta = c.within },
    )

pub pose_said : (headings : ℕ) (ts : List Piece) (p : Pose) (rest : List Piece) → IsOffsetInRange p
    → Spells headings (spelled_pose p) ts rest → SaysSome (λ q. q.pose ≡ p) pose_format ts rest
unfolding pose_format
pose_said headings ts p rest range h =
    say_nano _ headings _ _ p.x _ _ ts rest range.x h (λ x_place us k.
    say_nano _ headings _ _ p.y _ _ us rest range.y k (λ _ vs l.
    say_nano _ headings _ _ p.theta _ _ vs rest range.theta l (λ theta_place ws m. (
      record { pose = p; x_place = x_place; theta_place = theta_place },
      refl,
      say_done PrimFault _ ws rest (none_spelled headings ws rest m),
    ))))

-- ---- several poses

-- what a round said: one more pose
pub turn_found : (headings : ℕ) (poses : List Pose) (ts : List Piece) (qs : List Pose) (rest : List Piece)
    → Says (pose_turn poses) ts qs rest
    → (p : Pose) × (qs ≡ poses ++ p ∷ []) × IsOffsetInRange p × Spells headings (spelled_pose p) ts rest
unfolding pose_turn
turn_found headings poses ts qs rest h =
    let a = says_parts pose_format (λ (p : PlacedPose). done (poses ++ p.pose ∷ [])) ts rest qs h in
    let b = pose_found headings ts a.0 a.1 a.2 in
    let c = found_done PrimFault (poses ++ a.0.pose ∷ []) a.1 qs rest a.3 in
    (a.0.pose, c.0, b.1, subst (λ (l : List Piece). Spells headings (spelled_pose a.0.pose) ts l) (sym c.1) b.0)

pub turn_said : (headings : ℕ) (poses : List Pose) (ts : List Piece) (p : Pose) (rest : List Piece) → IsOffsetInRange p
    → Spells headings (spelled_pose p) ts rest
    → Says (pose_turn poses) ts (poses ++ p ∷ []) rest
unfolding pose_turn
turn_said headings poses ts p rest range h =
    let a = pose_said headings ts p rest range h in
    let b : Says (done (poses ++ a.0.pose ∷ [])) rest (poses ++ p ∷ []) rest =
    rw a.1 (say_done PrimFault (poses ++ p ∷ []) rest rest refl) in
    says_both pose_format (λ (q : PlacedPose). done (poses ++ q.pose ∷ [])) ts rest rest a.0 (poses ++ p ∷ []) a.2 b

-- what some rounds said
pub record PosesFound (headings count : ℕ) (poses : List Pose) (ts : List Piece) (qs : List Pose)
    (rest : List Piece) : Type 0 where
  pub more : List Pose
  pub all : qs ≡ poses ++ more
  pub many : length more ≡ count
  pub range : AllByRecursion IsOffsetInRange more
  pub spells : Spells headings (flat_map spelled_pose more) ts rest

pub poses_found : (headings count : ℕ) (poses : List Pose) (ts : List Piece) (qs : List Pose) (rest : List Piece)
    → Says (turns count pose_turn poses) ts qs rest
    → PosesFound headings count poses ts qs rest
unfolding turns
poses_found headings zero poses ts qs rest h =
    let a = found_done PrimFault poses ts qs rest h in
    record {
      more = [];
      all = a.0 ∙ sym (append-nil poses);
      many = refl;
      range = tt;
      spells = spells_none headings ts rest a.1;
    }
poses_found headings (suc n) poses ts qs rest h =
    let a = says_parts (pose_turn poses) (turns n pose_turn) ts rest qs h in
    let b = turn_found headings poses ts a.0 a.1 a.2 in
    let c = poses_found headings n a.0 a.1 qs rest a.3 in
    record {
      more = b.0 ∷ c.more;
      all = c.all ∙ (ap (λ (l : List Pose). l ++ c.more) b.1 ∙ append_assoc poses (b.0 ∷ []) c.more);
      many = ap suc c.many;
      range = (b.2, c.range);
      spells = spells_append headings (spelled_pose b.0) (flat_map spelled_pose c.more) ts a.1 rest b.3 c.spells;
    }

pub poses_said : (headings : ℕ) (poses more : List Pose) (ts rest : List Piece) → AllByRecursion IsOffsetInRange more
    → Spells headings (flat_map spelled_pose more) ts rest
    → Says (turns (length more) pose_turn poses) ts (poses ++ more) rest
unfolding turns
poses_said headings poses [] ts rest range h =
    rw append-nil (say_done PrimFault poses ts rest (none_spelled headings ts rest h))
poses_said headings poses (p ∷ ps) ts rest range h =
    let a = spells_split headings (spelled_pose p) (flat_map spelled_pose ps) ts rest h in
    let b = turn_said headings poses ts p a.0 range.0 a.1 in
    let c = poses_said headings (poses ++ p ∷ []) ps a.0 rest range.1 a.2 in
    says_both (pose_turn poses) (turns (length ps) pose_turn) ts a.0 rest (poses ++ p ∷ []) (poses ++ p ∷ ps)
    b (rw append_assoc at c)

-- ---- a path

-- the poses and the last of them
pub record PathFound (headings count : ℕ) (ts : List Piece) (path : List Pose × PlacedPose)
    (rest : List Piece) : Type 0 where
  pub many : length path.0 ≡ count
  pub range : AllByRecursion IsOffsetInRange path.0
  pub front : List Pose
  pub ends : path.0 ≡ front ++ path.1.pose ∷ []
  pub spells : Spells headings (flat_map spelled_pose path.0) ts rest

all_more : (ps : List Pose) (p : Pose) → AllByRecursion IsOffsetInRange ps → IsOffsetInRange p
    → AllByRecursion IsOffsetInRange (ps ++ p ∷ [])
all_more [] p h k = (k, tt)
all_more (q ∷ qs) p h k = (h.0, all_more qs p h.1 k)

all_front : (ps : List Pose) (p : Pose) → AllByRecursion IsOffsetInRange (ps ++ p ∷ [])
    → AllByRecursion IsOffsetInRange ps × IsOffsetInRange p
all_front [] p h = (tt, h.0)
all_front (q ∷ qs) p h = let k = all_front qs p h.1 in ((h.0, k.0), k.1)

abbrev path_end : List Pose → Format PrimFault (List Pose × PlacedPose)
path_end poses = and_then pose_format (λ (last : PlacedPose). done (poses ++ last.pose ∷ [], last))

pub path_found : (headings count : ℕ) (ts : List Piece) (path : List Pose × PlacedPose) (rest : List Piece) → 1 ≤ count
    → Says (path_format count) ts path rest
    → PathFound headings count ts path rest
unfolding path_format
path_found headings count ts path rest some h =
    let a = says_parts (turns (count - 1) pose_turn []) path_end ts rest path h in
    let b = poses_found headings (count - 1) [] ts a.0 a.1 a.2 in
    let c = says_parts pose_format (λ (last : PlacedPose). done (a.0 ++ last.pose ∷ [], last)) a.1 rest path a.3 in
    let d = pose_found headings a.1 c.0 c.1 c.2 in
    let e = found_done PrimFault (a.0 ++ c.0.pose ∷ [], c.0) c.1 path rest c.3 in
    let front : List Pose = b.more in
    let spelled : Spells headings (flat_map spelled_pose (front ++ c.0.pose ∷ [])) ts c.1 =
    rw flat_map-append (spells_append headings (flat_map spelled_pose front) (flat_map spelled_pose (c.0.pose ∷ [])) ts
    a.1 c.1 b.spells (rw append-nil d.0)) in
    let there : PathFound headings count ts (front ++ c.0.pose ∷ [], c.0) c.1 = record {
      many = rw length-append (omega (arith, b.many));
      range = all_more front c.0.pose b.range d.1;
      front = front;
      ends = refl;
      spells = spelled;
    } in
    let same : (front ++ c.0.pose ∷ [], c.0) ≡ path = rw (← b.all) (sym e.0) in
    subst (λ (l : List Piece). PathFound headings count ts path l) (sym e.1)
    (subst (λ (p : List Pose × PlacedPose). PathFound headings count ts p c.1) same there)

pub path_said : (headings : ℕ) (front : List Pose) (last : Pose) (ts rest : List Piece)
    → AllByRecursion IsOffsetInRange (front ++ last ∷ [])
    → Spells headings (flat_map spelled_pose (front ++ last ∷ [])) ts rest
    → SaysSome (λ x. (x.0 ≡ front ++ last ∷ []) × (x.1.pose ≡ last)) (path_format (length front + 1)) ts rest
unfolding path_format
path_said headings front last ts rest range h =
    let ranges = all_front front last range in
    let parted : Spells headings (flat_map spelled_pose front ++ flat_map spelled_pose (last ∷ [])) ts rest =
    rw flat_map-append at h in
    let a = spells_split headings (flat_map spelled_pose front) (flat_map spelled_pose (last ∷ [])) ts rest parted in
    let one : Spells headings (spelled_pose last) a.0 rest = a.2 in
    let b = poses_said headings [] front ts a.0 ranges.0 a.1 in
    let c = pose_said headings a.0 last rest ranges.1 one in
    let end : Says (path_end front) a.0 (front ++ c.0.pose ∷ [], c.0) rest =
    says_both pose_format (λ (p : PlacedPose). done (front ++ p.pose ∷ [], p)) a.0 rest rest c.0
    (front ++ c.0.pose ∷ [], c.0) c.2 (say_done PrimFault (front ++ c.0.pose ∷ [], c.0) rest rest refl) in
    let count : length front + 1 - 1 ≡ length front = omega arith in
    let all : Says (and_then (turns (length front + 1 - 1) pose_turn []) path_end) ts
    (front ++ c.0.pose ∷ [], c.0) rest =
    rw count (says_both (turns (length front) pose_turn []) path_end ts a.0 rest front
    (front ++ c.0.pose ∷ [], c.0) b end) in
    ((front ++ c.0.pose ∷ [], c.0), (ap (λ (p : Pose). front ++ p ∷ []) c.1, c.1), all)
