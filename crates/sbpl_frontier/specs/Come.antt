-- What came back.
use Rattle.std.specs.Prelude.{◌≡◌, Bool, true, false, List, map}
use Rattle.std.specs.List.{All, filter}
use Rattle.sbpl_postings.specs.sbpl_frontier_rules.declared.event.Event.{Event}
use Rattle.sbpl_postings.specs.sbpl_frontier_rules.declared.event.Event.TheVariants.{Posted}
use Rattle.sbpl_postings.specs.Posts.{of}
use Rattle.sbpl_postings.specs.declared.post.Post.{Post}
use Rattle.sbpl_frontier.specs.Tally.{Tally}

abbrev pub comes_back : Event → Bool
comes_back (Posted ticket cost) = true
comes_back _ = false

-- the judgements that came back among these events, in order
abbrev pub came_in : List Event → List Event
came_in events = filter comes_back events

abbrev pub event_of : Post → Event
event_of post = Posted post.ticket post.cost

-- Each judgement that came back was brought by the worker of a seat; and from each of these workers came just those
-- that it posted, in its order, whole and once.
pub record HaveCome (journal : List Event) (seats : List Tally) : Type 0 where
  pub came : List Post
  pub all : came_in journal ≡ map event_of came
  pub each : All (λ (seat : Tally). of seat.number came ≡ seat.posts) seats
