use Rattle.std.proofs.Common.{◌≡◌, ◌∙◌, length, arith}
use Rattle.std.proofs.lemmas.Bool.Decides.{nat_tests}
use Rattle.std.proofs.lemmas.Grind.{common_steps}
use Rattle.sbpl_map.proofs.Kept.{closed_none}
use Rattle.sbpl_map.proofs.read.Draft.close.Goals as goal

pub returns-then-is_none : goal.returns-then-is_none
returns-then-is_none c =
    let none : length c.self.inside.batch.items ≡ 0 = grind (arith, nat_tests, common_steps) in
    record { closed = λ d e. closed_none d _ (c.self.view_is ∙ e) none c.if-is_none.ensures }
