use Rattle.std.proofs.Common.{◌≡◌, ℕ, Option, Some, IfSome, ◌∙◌, ap, subst}
use Rattle.sbpl_promises.specs.sbpl_cfg.declared.pose.Pose.{Pose}
use Rattle.sbpl_promises.specs.sbpl_cfg.declared.pose.Place.{Place}
use Rattle.sbpl_promises.specs.sbpl_cfg.Environment.{Environment, IsPlaceOf}
use Rattle.sbpl_promises.specs.sbpl_cost.States.{state_number}
use Rattle.sbpl_promises.specs.LatticeSite.{IsStateOf}
use Rattle.sbpl_worlds.proofs.poses.LatticeWorkspace.ends.Goals as goal

-- the state of a place of a pose is the state of the pose
state_is : {e d : Environment} {p q : Pose} {found : Option Place} {place : Place} {number : Option ℕ} {s : ℕ} → e ≡ d
    → p ≡ q → IfSome found (IsPlaceOf e p) → found ≡ Some place → IfSome number (λ n. n ≡ state_number d place)
    → number ≡ Some s → IsStateOf d q s
state_is {e} {d} {p} {place} same like is has value at = record {
  place = place;
  of_pose =
      subst (λ x. IsPlaceOf d x place) like (subst (λ x. IsPlaceOf x p place) same
      (let P : Option Place → Type 0 = λ o. IfSome o (IsPlaceOf e p) in subst P has is));
  number = let P : Option ℕ → Type 0 = λ o. IfSome o (λ n. n ≡ state_number d place) in subst P at value;
}

pub returns-clause-start : goal.returns-clause-start
returns-clause-start c =
    let env = c.env-env.ensures.env in
    state_is env
    (ap (λ (e : Environment). e.start) c.env.view_is ∙ ap (λ (e : Environment). e.start) env) c.place_at.ensures.place
    c.unwrap-start.ensures c.state_of.ensures.value c.unwrap-start-2.ensures

pub returns-clause-goal : goal.returns-clause-goal
returns-clause-goal c =
    let env = c.env-env.ensures.env in
    state_is env (ap (λ (e : Environment). e.end) c.env.view_is ∙ ap (λ (e : Environment). e.end) env)
    c.place_at-2.ensures.place c.unwrap-goal.ensures c.state_of-2.ensures.value c.unwrap-goal-2.ensures
