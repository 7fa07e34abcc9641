-- Counts over a list of events.
use Rattle.std.specs.Prelude.{ℕ, ◌+◌, cond, nat_eq, List, [], ◌∷◌}
use Rattle.sbpl_frontier_rules.specs.declared.event.Event.{Event}
use Rattle.sbpl_frontier_rules.specs.declared.event.Event.TheVariants.{Opened, Taken, Posted}

-- how often an event opens this state
abbrev pub opens : ℕ → Event → ℕ
opens s (Opened state) = cond (nat_eq state s) 1 0
opens s _ = 0

-- how often these events do
abbrev pub opened_times : ℕ → List Event → ℕ
opened_times s [] = 0
opened_times s (e ∷ rest) = opens s e + opened_times s rest

-- an event is the opening of a state, or not
abbrev pub is_opening : Event → ℕ
is_opening (Opened state) = 1
is_opening _ = 0

-- how many states these events open
abbrev pub openings : List Event → ℕ
openings [] = 0
openings (e ∷ rest) = is_opening e + openings rest

-- an event is the handing out of an arc, or not
abbrev pub is_taking : Event → ℕ
is_taking (Taken ticket seat state arc) = 1
is_taking _ = 0

-- how many arcs these events hand out
abbrev pub takes_in : List Event → ℕ
takes_in [] = 0
takes_in (e ∷ rest) = is_taking e + takes_in rest

-- an event is the return of a judgement, or not
abbrev pub is_posting : Event → ℕ
is_posting (Posted ticket cost) = 1
is_posting _ = 0

-- how many judgements these events bring back
abbrev pub posts_in : List Event → ℕ
posts_in [] = 0
posts_in (e ∷ rest) = is_posting e + posts_in rest

-- how often an event hands out the ticket with this number
abbrev pub takes : ℕ → Event → ℕ
takes n (Taken ticket seat state arc) = cond (nat_eq ticket n) 1 0
takes n _ = 0

-- how often these events do
abbrev pub taken_times : ℕ → List Event → ℕ
taken_times n [] = 0
taken_times n (e ∷ rest) = takes n e + taken_times n rest

-- how often an event brings the judgement of this ticket back
abbrev pub posts : ℕ → Event → ℕ
posts n (Posted ticket cost) = cond (nat_eq ticket n) 1 0
posts n _ = 0

-- how often these events do
abbrev pub posted_times : ℕ → List Event → ℕ
posted_times n [] = 0
posted_times n (e ∷ rest) = posts n e + posted_times n rest

-- how often an event hands out arc k of state s
abbrev pub hands_out : (s k : ℕ) → Event → ℕ
hands_out s k (Taken ticket seat state arc) = cond (nat_eq state s) (cond (nat_eq arc k) 1 0) 0
hands_out s k _ = 0

-- how often these events do
abbrev pub handed_out_times : (s k : ℕ) → List Event → ℕ
handed_out_times s k [] = 0
handed_out_times s k (e ∷ rest) = hands_out s k e + handed_out_times s k rest
