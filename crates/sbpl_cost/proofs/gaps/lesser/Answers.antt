use Rattle.sbpl_cost.proofs.Lessers.{first_is_lesser, second_is_lesser, not_less}
use Rattle.sbpl_cost.proofs.gaps.lesser.Goals as goal

pub returns-then-is_less : goal.returns-then-is_less
returns-then-is_less c = record {
  floor =
      second_is_lesser c.args.a c.args.b c.in-Some.first c.in-Some-b.second c.in-Some.is c.in-Some-b.is
      (c.is_less.ensures.less.0 c.if-is_less.true);
}

pub returns-else-is_less : goal.returns-else-is_less
returns-else-is_less c = record {
  floor =
      first_is_lesser c.args.a c.args.b c.in-Some.first c.in-Some-b.second c.in-Some.is c.in-Some-b.is
      (not_less _ _ _ c.is_less.ensures.less.1 c.if-is_less.false);
}
