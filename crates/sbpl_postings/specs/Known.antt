-- What the passes of the queue know.
use Rattle.std.specs.Prelude.{[]}
use Rattle.sbpl_postings.specs.Drained.{Drained}
use Rattle.sbpl_postings.specs.declared.post.Sent.{Sent}
use Rattle.sbpl_postings.specs.declared.known.Known.{Known}
use Rattle.sbpl_postings.specs.declared.known.Known.TheVariants.{Nothing, One, Whole}

-- the drain's pass knows this
abbrev pub whole : Drained → Known
whole now = Whole now.made now.came now.ended

-- what the drain's pass knows; for another nothing was made
abbrev pub drained_of : Known → Drained
drained_of (Whole made came ended) = record { made = made; came = came; ended = ended }
drained_of (One sent) = record { made = 0; came = []; ended = [] }
drained_of Nothing = record { made = 0; came = []; ended = [] }

-- what a sender's pass knows; for another nothing was put in
abbrev pub sent_of : Known → Sent
sent_of (Whole made came ended) = record { seat = 0; posts = [] }
sent_of (One sent) = sent
sent_of Nothing = record { seat = 0; posts = [] }
