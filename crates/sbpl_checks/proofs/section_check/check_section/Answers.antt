use Rattle.std.proofs.Common.{refl, sym, subst}
use Rattle.sbpl_worlds.specs.sbpl_cert.declared.outcome.Outcome.{Outcome}
use Rattle.sbpl_worlds.specs.sbpl_cert.Sound.{IsSo}
use Rattle.sbpl_worlds.specs.sbpl_cert.Versions.{IsOf, arcs_of}
use Rattle.sbpl_checks.proofs.section_check.check_section.Goals as goal

pub check_either-requires-clause-of : goal.check_either-requires-clause-of
check_either-requires-clause-of g c = (
  c.args.plan,
  subst (λ n. IsOf c.args.plan n c.in_ok-section.section) c.states.ensures.value c.in_ok-section.ensures.of,
)

pub returns-in-Ok-clause-holds : goal.returns-in-Ok-clause-holds
returns-in-Ok-clause-holds g c =
    record {
      holds = record {
        section = c.in_ok-section.section;
        of = subst (λ n. IsOf c.args.plan n c.in_ok-section.section) c.states.ensures.value c.in_ok-section.ensures.of;
        tokens = c.in_ok-section.ensures.tokens;
        same_end = refl;
        says = sym c.outcome.ensures.value;
        no_flaw = c.in-Ok.ensures.none;
      };
      shows = c.in-Ok.ensures.shows;
      so =
          subst (λ (o : Outcome). IsSo (g.G.Graph.network c.args.graph.now) c.args.start c.args.goal
          (arcs_of c.in_ok-section.section) o) (sym c.outcome.ensures.value) c.in-Ok.ensures.so;
    }
