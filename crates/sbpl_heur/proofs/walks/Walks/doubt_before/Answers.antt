use Rattle.std.proofs.Common.{◌≡◌, ap, ◌∙◌, arith, subst}
use Rattle.std.proofs.lemmas.Option.{none-some, same_Some}
use Rattle.sbpl_heur.specs.Followed.{distance, IsMarked}
use Rattle.sbpl_heur.proofs.Doubting.{no_marks}
use Rattle.sbpl_heur.proofs.walks.Walks.doubt_before.Goals as goal

pub returns-in_default : goal.returns-in_default
returns-in_default c = record {
  marks = no_marks c.args.self.now;
  doubted = λ a at beyond near.
      let none = rw (← c.self.view_is) at at in absurd (none-some a (c.in_default.ensures.value ∙ none));
}

pub returns-clause-doubted : goal.returns-clause-doubted
returns-clause-doubted c a at beyond near =
    let here = rw (← c.self.view_is) at at in
    let same : c.in-Some.start ≡ a = same_Some c.in-Some.start a (c.in-Some.ensures.value ∙ here) in
    let even : distance c.args.self.now c.in-Some.start ≡ distance c.args.self.now a = ap (distance c.args.self.now) same in
    subst (λ x. IsMarked c.doubt.new.self.doubts x) same
    (c.doubt.ensures.doubted (omega (arith, beyond, even)) (omega (arith, near, even)))
