-- What reading leaves of a text.
use Rattle.std.proofs.Common.{List, [], ◌∷◌, sym, ap}
use Rattle.sbpl_fixed.specs.Formats.{Format, item, ended, wrong, done, Says}
use Rattle.sbpl_fixed.specs.Tokens.{Piece}
use Rattle.sbpl_cert.specs.Text.{EndsWith}

-- what a format says of a prefix leaves the rest
pub said_leaves : {E A : Type 0} (f : Format E A) (ts : List Piece) (x : A) (rest : List Piece)
    → Says f ts x rest → EndsWith ts rest
unfolding Says
said_leaves (item i more) [] x rest h = absurd h
said_leaves (item i more) (t ∷ ts) x rest h =
    let w = said_leaves (more t.place h.0) ts x rest h.2 in (t ∷ w.0, ap (λ (l : List Piece). t ∷ l) w.1)
said_leaves (ended f) [] x rest h = said_leaves f [] x rest h
said_leaves (ended f) (t ∷ ts) x rest h = absurd h
said_leaves (wrong e) ts x rest h = absurd h
said_leaves (done y) ts x rest h = ([], sym h.1)
