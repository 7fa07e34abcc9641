-- What each step does to what the passes know.
use Rattle.std.specs.Prelude.{◌+◌, List, [], ◌∷◌, ◌++◌}
use Rattle.sbpl_postings.specs.Drained.{Drained}
use Rattle.sbpl_postings.specs.Known.{drained_of, sent_of, whole}
use Rattle.sbpl_postings.specs.declared.post.Post.{Post}
use Rattle.sbpl_postings.specs.declared.post.Sent.{Sent}
use Rattle.sbpl_postings.specs.declared.known.Known.{Known}
use Rattle.sbpl_postings.specs.declared.known.Known.TheVariants.{One}

-- at first there is no sender, and nothing came
abbrev pub nothing_came : Drained
nothing_came = record { made = 0; came = []; ended = [] }

abbrev pub none_made : Known
none_made = whole nothing_came

-- a posting is put in
abbrev pub sent_with : Sent → Post → Sent
sent_with sent post = record { seat = sent.seat; posts = sent.posts ++ post ∷ [] }

abbrev pub pushed : Known → Post → Known
pushed v post = One (sent_with (sent_of v) post)

-- a posting is taken out
abbrev pub drained_with : Drained → Post → Drained
drained_with now post = record { made = now.made; came = now.came ++ post ∷ []; ended = now.ended }

abbrev pub popped : Known → Post → Known
popped v post = whole (drained_with (drained_of v) post)

-- a sender is made, with the next seat; it put nothing in
abbrev pub one_more : Drained → Drained
one_more now = record { made = now.made + 1; came = now.came; ended = now.ended }

abbrev pub fresh_sender : Drained → Sent
fresh_sender now = record { seat = now.made; posts = [] }

abbrev pub seated : Known → Known
seated v = whole (one_more (drained_of v))

abbrev pub sender_made : Known → Known
sender_made v = One (fresh_sender (drained_of v))

-- a sender that ended last goes on: it is as it was
abbrev pub last_of : List Sent → Sent
last_of [] = record { seat = 0; posts = [] }
last_of (sent ∷ rest) = sent

abbrev pub before_last : List Sent → List Sent
before_last [] = []
before_last (sent ∷ rest) = rest

abbrev pub recalled : Known → Known
recalled v = whole (record (drained_of v) { ended = before_last (drained_of v).ended })

abbrev pub sender_recalled : Known → Known
sender_recalled v = One (last_of (drained_of v).ended)

-- a sender has ended
abbrev pub ended_with : Drained → Sent → Drained
ended_with now sent = record { made = now.made; came = now.came; ended = sent ∷ now.ended }

abbrev pub joined : (drain sender : Known) → Known
joined v w = whole (ended_with (drained_of v) (sent_of w))
