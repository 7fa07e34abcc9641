-- What is published on a board while a run goes on.
use Rattle.std.specs.Prelude.{◌≡◌, List}
use Rattle.sbpl_plans.specs.declared.live_board.LiveBoard.{LiveBoard}
use Rattle.sbpl_worlds.specs.sbpl_promises.Published.{Entry}

-- the entries that were published on a board, oldest first
abbrev pub entries_of : {R : Type 0} → LiveBoard R → List Entry
entries_of live = live.publisher.now.published

-- it has the same publisher, on the same board
abbrev pub IsSamePublisher : {R : Type 0} → (old new : LiveBoard R) → Type 0
IsSamePublisher old new = (new.publisher.ghost_name ≡ old.publisher.ghost_name) × (new.publisher.now.board ≡ old.publisher.now.board)
