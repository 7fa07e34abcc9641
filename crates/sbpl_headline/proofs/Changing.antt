-- What the lines of a change file say, and the updates that they give.
use Rattle.std.proofs.Common.{◌≡◌, ◌⊎◌, ℕ, suc, ◌<◌, nat_lt, List, [], ◌∷◌, ◌++◌, map, filter, length, codes}
use Rattle.std.proofs.Common.{Option, Some, None, MatchOption, IfSome, refl, sym, ap, subst, ◌∙◌, arith}
use Rattle.std.proofs.Common.{inl, inr}
use Rattle.std.proofs.Math.Path.{fun_ext}
use Rattle.std.specs.List.{AllByRecursion, AllZip, filter_map, flat_map, last_or, slice_split}
use Rattle.std.specs.Str.Lines.{lines}
use Rattle.std.proofs.lemmas.Bool.{lt-ltb}
use Rattle.std.proofs.lemmas.List.{length-map}
use Rattle.std.proofs.lemmas.Option.{none-some, same_Some}
use Rattle.sbpl_promises.specs.sbpl_cfg.declared.pose.Place.{Place}
use Rattle.sbpl_promises.specs.sbpl_map.CellMap.{CellMap}
use Rattle.sbpl_promises.specs.sbpl_map.ChangeText.{ArePlacesOnMap, Given, IsPlaceOnMap, LineTells, LinesTell, StandsFor}
use Rattle.sbpl_promises.specs.sbpl_map.ChangeText.{lines_with_fields, place_in, place_of, replan_line, said_by, spelled_batch}
use Rattle.sbpl_promises.specs.sbpl_map.ChangeText.{writes_alone, writes_of}
use Rattle.sbpl_promises.specs.sbpl_map.Fields.{fields, has_some, is_parting}
use Rattle.sbpl_promises.specs.sbpl_map.declared.write.Write.{Write}
use Rattle.sbpl_promises.specs.Causes.{ReadsUpdates}
use Rattle.sbpl_promises.specs.Texts.{IsTextOfUpdates, Scope}
use Rattle.sbpl_promises.specs.Writing.{Told}
use Rattle.sbpl_promises.specs.declared.updates.Updates.{Updates}
use Rattle.sbpl_headline.specs.Files.{IsChangeText, ChangeLine, Means, Said, between, line_words, word}
use Rattle.sbpl_headline.specs.Headline.{Read}
use Rattle.sbpl_headline.proofs.Numbering.{whole_says}
use Rattle.sbpl_headline.proofs.Told.{line_of, lines_of}

-- ---- the words of a line are its fields

-- a list has some element where it is not empty
some_is : {X : Type 0} (xs : List X) → has_some xs ≡ nat_lt 0 (length xs)
some_is [] = refl
some_is (x ∷ xs) = sym (lt-ltb 0 (suc (length xs)) (omega arith))

-- the lists that have some element
some_are : {X : Type 0} (lists : List (List X)) → filter has_some lists ≡ filter (λ l. nat_lt 0 (length l)) lists
some_are lists = ap (λ test. filter test lists) (fun_ext some_is)

-- the fields of a line are its words between spaces and tabs
fields_are : (line : List ℕ) → fields line ≡ between is_parting line
fields_are line = some_are (slice_split is_parting line)

-- and the lines that have fields are those that have words
lines_are : (lines_in : List (List ℕ))
    → lines_with_fields lines_in ≡ filter (λ f. nat_lt 0 (length f)) (map (between is_parting) lines_in)
lines_are lines_in =
    ap (λ f. filter has_some (map f lines_in)) (fun_ext fields_are) ∙ some_are (map (between is_parting) lines_in)

-- ---- what lines say

-- the fields of a line that gives something say it
given_tells : (states : ℕ) (m : CellMap) (headings : Option ℕ) (line : List (List ℕ)) (g : Given)
    → LineTells states m headings line (said_by g) → AllZip Means (line_words (line_of g)) line
given_tells states m headings line (inl w) h =
    let give = h.4 in
    subst (λ l. AllZip Means (line_words (line_of (inl w))) l) (sym h.3)
    (refl, (whole_says h.0 _ give.x_is.0, (whole_says h.1 _ give.y_is.0, (whole_says h.2 _ give.z_is.0, tt))))
given_tells states m headings line (inr p) h =
    let give = h.4.2 in
    subst (λ l. AllZip Means (line_words (line_of (inr p))) l) (sym h.3)
    (refl, (whole_says h.0 _ give.x_is.0, (whole_says h.1 _ give.y_is.0, (whole_says h.2 _ give.z_is.0, tt))))

-- the fields of the line that ends a batch
end_tells : (line : List (List ℕ)) → line ≡ replan_line → AllZip Means (word (codes "replan") ∷ []) line
end_tells line h = subst (λ l. AllZip Means (word (codes "replan") ∷ []) l) (sym h) (refl, tt)

-- the words of the lines of a batch, with `replan` after them
abbrev batch_words : List ChangeLine → List (List Said)
batch_words batch = map line_words batch ++ (word (codes "replan") ∷ []) ∷ []

-- the lines of a batch say what it gives, and those after them what the next ones do
batch_tells : (states : ℕ) (m : CellMap) (headings : Option ℕ) (batch : List Given) (told : List (List Given))
    → ((rest : List (List (List ℕ))) → LinesTell states m headings rest (flat_map spelled_batch told)
    → AllZip (AllZip Means) (flat_map batch_words (lines_of told)) rest)
    → (told_lines : List (List (List ℕ)))
    → LinesTell states m headings told_lines (spelled_batch batch ++ flat_map spelled_batch told)
    → AllZip (AllZip Means) (batch_words (map line_of batch) ++ flat_map batch_words (lines_of told)) told_lines
batch_tells states m headings [] told more [] h = absurd h
batch_tells states m headings [] told more (line ∷ others) h = (end_tells line h.0, more others h.1)
batch_tells states m headings (g ∷ batch) told more [] h = absurd h
batch_tells states m headings (g ∷ batch) told more (line ∷ others) h =
    (given_tells states m headings line g h.0, batch_tells states m headings batch told more others h.1)

-- so the lines of batches say what these give, one after another
batches_tell : (states : ℕ) (m : CellMap) (headings : Option ℕ) (told : List (List Given)) (told_lines : List (List (List ℕ)))
    → LinesTell states m headings told_lines (flat_map spelled_batch told)
    → AllZip (AllZip Means) (flat_map batch_words (lines_of told)) told_lines
batches_tell states m headings [] [] h = tt
batches_tell states m headings [] (line ∷ others) h = absurd h
batches_tell states m headings (batch ∷ told) told_lines h =
    batch_tells states m headings batch told (batches_tell states m headings told) told_lines h

-- a change file that stands for batches says their lines
pub lines_say : (states : ℕ) (m : CellMap) (headings : Option ℕ) (text : List ℕ) (told : List (List Given))
    → StandsFor states m headings text told → IsChangeText (lines_of told) text
lines_say states m headings text told h =
    let words = flat_map batch_words (lines_of told) in
    subst (λ told_lines. AllZip (AllZip Means) words told_lines) (lines_are (lines text))
    (batches_tell states m headings told (lines_with_fields (lines text)) h)

-- ---- the updates

-- no line of these batches is a place
abbrev pub HaveNoPlaces : List (List Given) → Type 0
HaveNoPlaces told = AllByRecursion (λ batch. AllByRecursion (λ g. place_in g ≡ None) batch) told

-- map updates have the places that the lines of these batches give, on the map, with headings below the number given
pub record HasPlacesOf (s : Scope) (c : Updates) (told : List (List Given)) : Type 0 where
  pub moves : c.moves ≡ Some (map place_of told)
  pub headings : ℕ
  pub given : s.headings ≡ Some headings
  pub on_map : ArePlacesOnMap s.map headings (map place_of told)

-- map updates are told by the lines of batches, which the change file says, where there is one
pub record AreUpdatesTold (held : Told) (changes : Option (List ℕ)) (s : Scope) (c : Updates) : Type 0 where
  pub told : List (List Given)
  pub says : MatchOption changes (lines_of told ≡ []) (λ name. Read held name (IsChangeText (lines_of told)))
  pub batches : c.batches ≡ map writes_of told
  pub moves : ((c.moves ≡ None) × HaveNoPlaces told) ⊎ HasPlacesOf s c told
  pub count : length told ≡ length c.batches

-- the writes of lines that are writes alone
writes_are : (batch : List Write) → batch ≡ writes_of (map (λ w. inl w) batch)
writes_are [] = refl
writes_are (w ∷ batch) = ap (λ l. w ∷ l) (writes_are batch)

-- and of batches of such lines
alone_are : (batches : List (List Write)) → batches ≡ map writes_of (writes_alone batches)
alone_are [] = refl
alone_are (batch ∷ batches) =
    ap (λ b. b ∷ batches) (writes_are batch)
    ∙ ap (λ l. writes_of (map (λ w. inl w) batch) ∷ l) (alone_are batches)

-- no line that is a write is a place
write_no_places : (batch : List Write) → AllByRecursion (λ (g : Given). place_in g ≡ None) (map (λ w. inl w) batch)
write_no_places [] = tt
write_no_places (w ∷ batch) = (refl, write_no_places batch)

-- nor is one of batches of writes
alone_no_places : (batches : List (List Write)) → HaveNoPlaces (writes_alone batches)
alone_no_places [] = tt
alone_no_places (batch ∷ batches) = (write_no_places batch, alone_no_places batches)

-- ---- the places of map updates are on the map

-- a place that a line gives is on the map
place_on_map : (states : ℕ) (m : CellMap) (n : ℕ) (line : List (List ℕ)) (p : Place)
    → LineTells states m (Some n) line (said_by (inr p)) → IsPlaceOnMap m n (Some p)
place_on_map states m n line p h = (h.5, subst (λ limit. p.t < limit) (sym (same_Some n h.4.0 h.4.1)) h.4.2.z_is.1)

-- the last of some places on the map is on the map
last_on_map : (m : CellMap) (n : ℕ) (o : Option Place) (places : List Place) → IsPlaceOnMap m n o
    → AllByRecursion (λ p. IsPlaceOnMap m n (Some p)) places → IsPlaceOnMap m n (last_or o places)
last_on_map m n o [] on h = on
last_on_map m n o (p ∷ places) on h = last_on_map m n (Some p) places h.0 h.1

-- the places that a batch gives are on the map, and those that the next ones give
batch_on_map : (states : ℕ) (m : CellMap) (n : ℕ) (batch : List Given) (told : List (List Given))
    → ((rest : List (List (List ℕ))) → LinesTell states m (Some n) rest (flat_map spelled_batch told)
    → ArePlacesOnMap m n (map place_of told))
    → (told_lines : List (List (List ℕ)))
    → LinesTell states m (Some n) told_lines (spelled_batch batch ++ flat_map spelled_batch told)
    → AllByRecursion (λ p. IsPlaceOnMap m n (Some p)) (filter_map place_in batch)
    × ArePlacesOnMap m n (map place_of told)
batch_on_map states m n [] told more [] h = absurd h
batch_on_map states m n [] told more (line ∷ others) h = (tt, more others h.1)
batch_on_map states m n (inl w ∷ batch) told more [] h = absurd h
batch_on_map states m n (inl w ∷ batch) told more (line ∷ others) h = batch_on_map states m n batch told more others h.1
batch_on_map states m n (inr p ∷ batch) told more [] h = absurd h
batch_on_map states m n (inr p ∷ batch) told more (line ∷ others) h =
    let both = batch_on_map states m n batch told more others h.1 in ((place_on_map states m n line p h.0, both.0), both.1)

-- so the last place of each batch is
places_on_map : (states : ℕ) (m : CellMap) (n : ℕ) (told : List (List Given)) (told_lines : List (List (List ℕ)))
    → LinesTell states m (Some n) told_lines (flat_map spelled_batch told) → ArePlacesOnMap m n (map place_of told)
places_on_map states m n [] told_lines h = tt
places_on_map states m n (batch ∷ told) told_lines h =
    let both = batch_on_map states m n batch told (places_on_map states m n told) told_lines h in
    (last_on_map m n None (filter_map place_in batch) tt both.0, both.1)

-- ---- the updates that were read

-- a change file that stands for map updates tells them
updates_by_text : (held : Told) (name : List ℕ) (states : ℕ) (m : CellMap) (headings : Option ℕ) (text : List ℕ) (c : Updates)
    → IfSome (held name) (λ bytes. text ≡ bytes) → IsTextOfUpdates states m headings text c
    → AreUpdatesTold held (Some name) (record { states = states; map = m; headings = headings }) c
updates_by_text held name states m None text c read h = record {
  told = writes_alone c.batches;
  says = (text, read, lines_say states m None text (writes_alone c.batches) h.0);
  batches = alone_are c.batches;
  moves = inl (h.1, alone_no_places c.batches);
  count = length-map c.batches (λ batch. map (λ w. inl w) batch);
}
updates_by_text held name states m (Some n) text c read h =
    let t = h.2 in
    let on = places_on_map states m n t.0 (lines_with_fields (lines text)) t.1 in
    record {
      told = t.0;
      says = (text, read, lines_say states m (Some n) text t.0 t.1);
      batches = t.2;
      moves = inr (record {
        moves = h.1 ∙ ap Some t.3;
        headings = n;
        given = refl;
        on_map = on;
      });
      count = sym (ap length t.2 ∙ length-map t.0 writes_of);
    }

-- map updates that were read are told by the lines of their change file, and by none where there is no such file
pub updates_told : (held : Told) (changes : Option (List ℕ)) (s : Scope) (c : Updates) → ReadsUpdates held changes s c
    → AreUpdatesTold held changes s c
updates_told held None s c h = record {
  told = [];
  says = refl;
  batches = ap (λ (d : Updates). d.batches) h;
  moves = inl (ap (λ (d : Updates). d.moves) h, tt);
  count = ap (λ (d : Updates). length d.batches) (sym h);
}
updates_told held (Some name) s c h = updates_by_text held name s.states s.map s.headings h.0 c h.1.told h.2

-- map updates whose change file may give no places have none
pub stays : (held : Told) (changes : Option (List ℕ)) (s : Scope) (c : Updates) → AreUpdatesTold held changes s c
    → s.headings ≡ None → c.moves ≡ None
stays held changes s c t none = elim t.moves [
  | inl h ↦ h.0
  | inr has ↦ absurd (none-some has.headings (sym none ∙ has.given))
]
