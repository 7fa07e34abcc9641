use Rattle.std.proofs.Common.{subst, arith}
use Rattle.sbpl_cfg.specs.Place.{turn_of, IsCellOf, IsInBin}
use Rattle.sbpl_cfg.proofs.PlaceLaws.{IsCellOf-cell_of, cell_of_is, IsTurnOf-turn_of}
use Rattle.sbpl_cfg.proofs.PlaceLaws.{IsInBin-heading_of, heading_of_is, heading_of-lt}
use Rattle.sbpl_cfg.proofs.place.places_in_plain_words.Goals as goal

pub returns-clause-cell : goal.returns-clause-cell
returns-clause-cell c size x q some =
    (λ e. subst (IsCellOf size x) e (IsCellOf-cell_of size x some), cell_of_is size x q some)

pub returns-clause-turn : goal.returns-clause-turn
returns-clause-turn c = IsTurnOf-turn_of

pub returns-clause-heading : goal.returns-clause-heading
returns-clause-heading c n t a small =
    (λ e. subst (λ t. IsInBin n t (turn_of a)) e (IsInBin-heading_of n a (omega arith)), heading_of_is n t a small)

pub returns-clause-some : goal.returns-clause-some
returns-clause-some c = heading_of-lt

pub returns-clause-no_tie : goal.returns-clause-no_tie
returns-clause-no_tie c n bin b h = omega arith
