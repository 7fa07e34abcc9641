use Rattle.std.proofs.Common.{◌≡◌, ◌+◌, ◌≤◌, List, [], ◌∷◌, ◌++◌, length, sum_by, ap, ◌∙◌}
use Rattle.sbpl_mprim.specs.declared.prim.Primitive.{Primitive}
use Rattle.sbpl_mprim.specs.Primitives.{pose_count}
use Rattle.sbpl_mprim.proofs.EarlierLaws.{kept_more}
use Rattle.sbpl_mprim.proofs.earlier.Earlier.push.Goals as goal

pub invariant_of-self-2 : goal.invariant_of-self-2
invariant_of-self-2 c =
    let prims = c.self.inside.prims.items in
    let e : c.push.new.self.items ≡ prims ++ c.args.prim ∷ [] =
    c.in_ok-push.ensures.items ∙ ap (λ (ps : List Primitive). ps ++ c.args.prim ∷ []) c.reserve.ensures.items in
    let few : sum_by pose_count prims + length c.args.prim.poses ≤ 200000 = rw c.self.view_is c.requires.few in
    rw (e, c.as_slice.ensures.items)
    (kept_more prims c.args.prim _ _ _ c.self.invariant few c.in_ok-insert.ensures.updates)
