use Rattle.std.proofs.Common.{◌≡◌, Bool, true, false, ◌&&◌, nat_eq, int_eq, refl, rules}
use Rattle.std.proofs.Math.Bool.{and-false, and-true, and_assoc}
use Rattle.sbpl_cfg.specs.declared.pose.Pose.{Pose}
use Rattle.sbpl_cfg.proofs.env.EnvPartialEq.eq.Goals as goal

abbrev pose_eq : Pose → Pose → Bool
pose_eq p q = int_eq p.x q.x && (int_eq p.y q.y && int_eq p.theta q.theta)

-- the derived test compares the headings before the poses
poses_first : (k i j : Bool) → k && (i && j) ≡ i && (j && k)
poses_first true i j = rw (and-true j) refl
poses_first false i j = rw (and-false j, and-false i) refl

-- whether the fields so far are the same, with one more that is tested
record Adds (before field after : Bool) : Type 0 where
  tested : after ≡ before && field

-- tests of eleven fields, one after the other
all_fields : {a b c d e f g h k i j r s t u v w x y z m n : Bool} → r ≡ a → Adds r b s → Adds s c t → Adds t d u
    → Adds u e v → Adds v f w → Adds w g x → Adds x h y → Adds y k z → Adds z i m → Adds m j n
    → n ≡ a && (b && (c && (d && (e && (f && (g && (h && (i && (j && k)))))))))
all_fields {k} {i} {j} p q r s t u v w x y z =
    rw (z.tested, y.tested, x.tested, w.tested, v.tested, u.tested, t.tested, s.tested, r.tested, q.tested, p)
    (simp and_assoc (rw (poses_first k i j) refl))

pub returns : goal.returns
returns c =
    let e = c.args.self.now in
    let d = c.args.other.now in
    let width : c.eq.result ≡ nat_eq e.width d.width = search rules in
    let height : Adds c.eq.result (nat_eq e.height d.height) c.and_eq.result = search rules in
    let obsthresh : Adds c.and_eq.result (nat_eq e.obsthresh d.obsthresh) c.and_eq-2.result = search rules in
    let inscribed : Adds c.and_eq-2.result (nat_eq e.inscribed d.inscribed) c.and_eq-3.result = search rules in
    let circumscribed : Adds c.and_eq-3.result (int_eq e.circumscribed d.circumscribed) c.and_eq-4.result =
    search rules in
    let cell : Adds c.and_eq-4.result (int_eq e.cell d.cell) c.and_eq-5.result = search rules in
    let speed : Adds c.and_eq-5.result (int_eq e.speed d.speed) c.and_eq-6.result = search rules in
    let turn45 : Adds c.and_eq-6.result (int_eq e.turn45 d.turn45) c.and_eq-7.result = search rules in
    let headings : Adds c.and_eq-7.result (nat_eq e.headings d.headings) c.and_eq-8.result = search rules in
    let start : Adds c.and_eq-8.result (pose_eq e.start d.start) c.and_eq-9.result = search rules in
    let end : Adds c.and_eq-9.result (pose_eq e.end d.end) c.and_eq-10.result = search rules in
    all_fields width height obsthresh inscribed circumscribed cell speed turn45 headings start end
