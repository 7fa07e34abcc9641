-- What is kept of what the lines gave, one line after another.
use Rattle.std.proofs.Common.{◌≡◌, ◌≢◌, ℕ, false, length, List, [], ◌∷◌, ◌++◌, map, Option, Some, None, Result, Ok, Err}
use Rattle.std.proofs.Common.{refl, sym, ap, ◌∙◌, inl, inr, arith, append-nil}
use Rattle.std.specs.Prelude.{is_some}
use Rattle.std.proofs.lemmas.Bool.{false≢true}
use Rattle.std.specs.List.{filter_map, last_or}
use Rattle.std.proofs.lemmas.List.Elements.{filter_map-append}
use Rattle.std.proofs.lemmas.List.{length-map}
use Rattle.sbpl_cfg.specs.declared.pose.Place.{Place}
use Rattle.sbpl_cfg.specs.sbpl_fixed.Formats.{Answers}
use Rattle.sbpl_map.specs.ChangeText.{Given, place_in, place_of, write_in, writes_of}
use Rattle.sbpl_map.specs.Reading.{Drafted, Kept, closed, drafted, kept_of, parted}
use Rattle.sbpl_map.specs.declared.write.Write.{Write}
use Rattle.sbpl_map.specs.declared.said.Said.TheVariants.{Cell, Start, Replan}
use Rattle.sbpl_map.specs.declared.fault.ChangeFault.{ChangeFault}
use Rattle.sbpl_map.specs.declared.fault.ChangeFault.TheVariants.{NoMemory}

-- ---- lists with one more element

pub map_pushed : {X Y : Type 0} (f : X → Y) (xs : List X) (x : X) → map f (xs ++ x ∷ []) ≡ map f xs ++ f x ∷ []
map_pushed f [] x = refl
map_pushed f (y ∷ ys) x = ap (λ l. f y ∷ l) (map_pushed f ys x)

last_pushed : {X : Type 0} (o : Option X) (xs : List X) (x : X) → last_or o (xs ++ x ∷ []) ≡ Some x
last_pushed o [] x = refl
last_pushed o (y ∷ ys) x = last_pushed (Some y) ys x

write_pushed : (batch : List Given) (w : Write) → writes_of (batch ++ inl w ∷ []) ≡ writes_of batch ++ w ∷ []
write_pushed batch w = filter_map-append write_in batch (inl w ∷ [])

write_placed : (batch : List Given) (p : Place) → writes_of (batch ++ inr p ∷ []) ≡ writes_of batch
write_placed batch p = filter_map-append write_in batch (inr p ∷ []) ∙ append-nil (writes_of batch)

place_written : (batch : List Given) (w : Write) → place_of (batch ++ inl w ∷ []) ≡ place_of batch
place_written batch w =
    ap (λ l. last_or None l) (filter_map-append place_in batch (inl w ∷ []) ∙ append-nil (filter_map place_in batch))

place_placed : (batch : List Given) (p : Place) → place_of (batch ++ inr p ∷ []) ≡ Some p
place_placed batch p =
    ap (λ l. last_or None l) (filter_map-append place_in batch (inr p ∷ []))
    ∙ last_pushed None (filter_map place_in batch) p

-- ---- one more line

cell_step : (d : Drafted) (at : ℕ) (w : Write)
    → record {
      batches = map writes_of d.done;
      moves = map place_of d.done;
      batch = writes_of d.batch ++ w ∷ [];
      start = place_of d.batch;
      last = at;
    } ≡ kept_of (drafted d at (Cell w))
cell_step d at w = rw (write_pushed d.batch w, place_written d.batch w) refl

pub cell_kept : (d : Drafted) (at : ℕ) (w : Write) (old : Kept) (batch : List Write) → old ≡ kept_of d
    → batch ≡ old.batch ++ w ∷ []
    → record { batches = old.batches; moves = old.moves; batch = batch; start = old.start; last = at } ≡ kept_of
    (drafted d at (Cell w))
cell_kept d at w old batch e b = rw (b, e) (cell_step d at w)

start_step : (d : Drafted) (at : ℕ) (p : Place)
    → record {
      batches = map writes_of d.done;
      moves = map place_of d.done;
      batch = writes_of d.batch;
      start = Some p;
      last = at;
    } ≡ kept_of (drafted d at (Start p))
start_step d at p = rw (write_placed d.batch p, place_placed d.batch p) refl

pub start_kept : (d : Drafted) (at : ℕ) (p : Place) (old : Kept) → old ≡ kept_of d
    → record { batches = old.batches; moves = old.moves; batch = old.batch; start = Some p; last = at } ≡ kept_of
    (drafted d at (Start p))
start_kept d at p old e = rw e (start_step d at p)

replan_step : (d : Drafted) (at : ℕ)
    → record {
      batches = map writes_of d.done ++ writes_of d.batch ∷ [];
      moves = map place_of d.done ++ place_of d.batch ∷ [];
      batch = [];
      start = None;
      last = d.last;
    } ≡ kept_of (drafted d at Replan)
replan_step d at = rw (map_pushed writes_of d.done d.batch, map_pushed place_of d.done d.batch) refl

pub replan_kept : (d : Drafted) (at : ℕ) (old : Kept) (batches : List (List Write)) (moves : List (Option Place))
    (batch : List Write)
    → old ≡ kept_of d → batches ≡ old.batches ++ old.batch ∷ [] → moves ≡ old.moves ++ old.start ∷ [] → batch ≡ []
    → record { batches = batches; moves = moves; batch = batch; start = None; last = old.last } ≡ kept_of
    (drafted d at Replan)
replan_kept d at old batches moves batch e b p n = rw (b, p, n, e) (replan_step d at)

-- ---- the end

some_last : {X : Type 0} (x : X) (xs : List X) → last_or (Some x) xs ≢ None
some_last x [] e = cc
some_last x (y ∷ ys) e = some_last y ys e

nothing_given : (batch : List Given) → writes_of batch ≡ [] → place_of batch ≡ None → batch ≡ []
nothing_given [] e n = refl
nothing_given (inl w ∷ gs) e n = absurd (let bad : w ∷ writes_of gs ≡ [] = e in cc)
nothing_given (inr p ∷ gs) e n = absurd (some_last p (filter_map place_in gs) n)

empty_list : {X : Type 0} (xs : List X) → length xs ≡ 0 → xs ≡ []
empty_list [] e = refl
empty_list (x ∷ xs) e = absurd (omega arith)

none_of : {X : Type 0} (o : Option X) → is_some o ≡ false → o ≡ None
none_of None e = refl
none_of (Some x) e = absurd (false≢true (sym e))

pub closed_none : (d : Drafted) (old : Kept) → old ≡ kept_of d → length old.batch ≡ 0 → is_some old.start ≡ false
    → Ok (old.batches, old.moves) ≡ parted (closed d)
closed_none d old e b p =
    let written = sym (ap (λ (k : Kept). k.batch) e) ∙ empty_list old.batch b in
    let placed = sym (ap (λ (k : Kept). k.start) e) ∙ none_of old.start p in
    let none = nothing_given d.batch written placed in
    rw e (rw none refl)

-- ---- answers

-- as many batches are kept as were read
pub as_long : (k : Kept) (d : Drafted) → k ≡ kept_of d → length k.batches ≡ length d.done
as_long k d e = ap (λ (x : Kept). length x.batches) e ∙ length-map d.done writes_of

pub answered : (r read : Result (List (List Write) × List (Option Place)) ChangeFault) → r ≡ read
    → Answers NoMemory (λ x. x) r read
answered (Ok x) read e = sym e
answered (Err f) read e = λ _. sym e
