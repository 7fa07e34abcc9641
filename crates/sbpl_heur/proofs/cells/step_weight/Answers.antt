use Rattle.std.proofs.Common.{◌≡◌, ℕ, ◌+◌, ◌*◌, max, MatchOption, Option, ap, sym, ◌∙◌, subst}
use Rattle.std.proofs.lemmas.Bool.{cond-true}
use Rattle.sbpl_serial.specs.sbpl_graph.declared.TheConstants.{FAR}
use Rattle.sbpl_heur.proofs.cells.step_weight.Goals as goal

pub returns-then-is_free : goal.returns-then-is_free
returns-then-is_free c =
    let value : c.from-cost.result ≡ c.args.hop.now.cost * (max c.args.start c.args.end + 1) =
    c.from-cost.ensures ∙ ap (λ n. c.args.hop.now.cost * (n + 1)) (c.from.ensures ∙ c.max.ensures) in
    record {
      weight = subst (λ (o : Option ℕ). MatchOption o (c.from-cost.result ≡ FAR) (λ cost. c.from-cost.result ≡ cost))
          (sym (cond-true _ _ _ (sym c.is_free.ensures.free ∙ c.if-is_free.true))) value;
    }
