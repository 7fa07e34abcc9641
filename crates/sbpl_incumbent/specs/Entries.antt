-- Entries, and which of them were published.
use Rattle.std.specs.Prelude.{◌≡◌, ℕ, zero, suc, ◌+◌, ◌-◌, ◌≤◌, List, [], ◌∷◌, Option, Some, None, slice_get, length, ⊤}
use Rattle.std.specs.List.{All}
use Rattle.sbpl_incumbent.specs.declared.entry.Entry.{Entry}

-- what a load finds before the first entry is published: number 0
abbrev pub no_entry : Entry
no_entry = record { number = 0; plan = 0; pass = 0; cost = 0; bound = 0 }

-- what a load found, where none stands for number 0
abbrev pub found : Option Entry → Entry
found (Some entry) = entry
found None = no_entry

-- the entry of a number among those published, oldest first; the first one has number 1
abbrev pub numbered : (number : ℕ) → (published : List Entry) → Option Entry
numbered zero published = Some no_entry
numbered (suc place) published = slice_get published place

-- the last of those published, or none
abbrev pub newest : (published : List Entry) → Option Entry
newest published = slice_get published (length published - 1)

-- the entry that is published next, after these
abbrev pub next_entry : (published : List Entry) → (plan pass cost bound : ℕ) → Entry
next_entry published plan pass cost bound = record { number = length published + 1; plan = plan; pass = pass; cost = cost; bound = bound }

-- it is the entry of its number among those published, where number 0 is none
abbrev pub IsPublished : (published : List Entry) → Entry → Type 0
IsPublished published entry = numbered entry.number published ≡ Some entry

-- along these entries the numbers never fall
abbrev pub NeverFall : List Entry → Type 0
NeverFall [] = ⊤
NeverFall (entry ∷ later) = All (λ other. entry.number ≤ other.number) later × NeverFall later

-- what a reader got, oldest first, was published, and its numbers never fall
pub record IsHistory (published got : List Entry) : Type 0 where
  pub entries : All (IsPublished published) got
  pub order : NeverFall got

-- An entry is as new as all those that a reader got, and as the number that it was told. One that it got with the same number is the
-- same entry.
pub record IsAsNew (got : List Entry) (told : ℕ) (entry : Entry) : Type 0 where
  pub after_got : All (λ before. before.number ≤ entry.number) got
  pub after_told : told ≤ entry.number
  pub same : All (λ before. before.number ≡ entry.number → before ≡ entry) got
