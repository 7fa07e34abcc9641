use Rattle.std.proofs.Common.{◌==◌, ◌++◌, ◌∷◌, [], ap, ◌∙◌, sym}
use Rattle.std.proofs.lemmas.Bool.{eq-eqb, ne_eqb}
use Rattle.sbpl_cost.proofs.Filling.{indices_yes, indices_no}
use Rattle.sbpl_cost.proofs.tables.places_entering.Goals as goal
use Rattle.sbpl_cost.proofs.tables.places_entering.Goals.{then-get-t+in_ok-push, else-get-t}

pub loop-i-preserved : goal.loop-i-preserved
loop-i-preserved c =
    elim c.if-get-t.branch [
      | then-get-t+in_ok-push w ↦
          let yes =
          indices_yes (λ p. p.to == c.args.t) c.args.prims.now.items c.loop-i.i c.get.result.now c.get.ensures.prim
          (eq-eqb _ _ w.if-get-t.true) in
          ap (λ v. v.items) w.places-is ∙ w.in_ok-push.ensures.items
          ∙ ap (λ l. l ++ c.loop-i.i ∷ []) c.loop-i.invariant ∙ sym yes
      | else-get-t w ↦
          let no =
          indices_no (λ p. p.to == c.args.t) c.args.prims.now.items c.loop-i.i c.get.result.now c.get.ensures.prim
          (ne_eqb _ _ w.if-get-t.false) in
          ap (λ v. v.items) w.places-is ∙ c.loop-i.invariant ∙ sym no
    ]
