use Rattle.std.proofs.Common.{◌≡◌, ap, ◌∙◌, arith, subst}
use Rattle.std.proofs.lemmas.Option.{none-some, same_Some}
use Rattle.sbpl_heur.specs.Followed.{distance, IsMarked}
use Rattle.sbpl_heur.proofs.Doubting.{no_marks}
use Rattle.sbpl_heur.proofs.walks.Walks.wake_after.Goals as goal

pub returns-in_default : goal.returns-in_default
returns-in_default c = record {
  marks = no_marks c.args.self.now;
  waits = λ a at near.
      let none = rw (← c.self.view_is) at at in absurd (none-some a (c.in_default.ensures.value ∙ none));
}

pub returns-clause-waits : goal.returns-clause-waits
returns-clause-waits c a at near =
    let here = rw (← c.self.view_is) at at in
    let same : c.in-Some.end ≡ a = same_Some c.in-Some.end a (c.in-Some.ensures.value ∙ here) in
    let even : distance c.args.self.now c.in-Some.end ≡ distance c.args.self.now a = ap (distance c.args.self.now) same in
    subst (λ x. IsMarked c.wake.new.self.waits x) same
    (c.wake.ensures.waits (omega (arith, near, even)))
