-- Writes that are made in turn, of which some are left.
use Rattle.std.proofs.Common.{◌≡◌, ℕ, ◌+◌, ◌<◌, ◌≤◌, suc, List, [], ◌∷◌, ◌++◌, length, map, drop, get_or, Result, Ok}
use Rattle.std.proofs.Common.{Err, refl, sym, ◌∙◌, ap, subst, append_assoc, add-one, drop-cons, arith}
use Rattle.std.proofs.lemmas.List.{drop_all}
use Rattle.std.proofs.lemmas.List.FromFn.{length-map-range_with_len, get_or-map-range_with_len}
use Rattle.sbpl_checks.specs.sbpl_desk.Desk.{NoneFalls}
use Rattle.sbpl_checks.specs.sbpl_desk.declared.desk.WriteStop.{WriteStop}
use Rattle.sbpl_checks.specs.sbpl_cost.World.{World}
use Rattle.sbpl_checks.specs.sbpl_promises.Intents.{last_write}
use Rattle.sbpl_checks.specs.sbpl_report.Listing.{listing_at, listings}
use Rattle.sbpl_checks.specs.sbpl_promises.Writing.{AreAppended, DeskState, EndsIn, IsOutput, Write, WritesOnly, to_output}
use Rattle.sbpl_checks.proofs.Writings.{ends_after, ends_first, made_both, none_made}

-- some of these writes were made, and these are left
pub record Makes (before now : DeskState) (whole left : List Write) : Type 0 where
  pub first : List Write
  pub parted : whole ≡ first ++ left
  pub made : AreAppended before now first
  pub low : NoneFalls before.write_faults now.write_faults

pub begins : (before : DeskState) (whole : List Write) → Makes before before whole whole
begins before whole =
    record { first = []; parted = refl; made = none_made before before (λ n. refl); low = λ n. omega arith }

-- what is left was made, or its making ended so
pub makes_rest : {before mid : DeskState} {whole left : List Write} (T : Type 0) (after : DeskState)
    (r : Result T WriteStop) → Makes before mid whole left → EndsIn {T = T} mid after left r
    → EndsIn {T = T} before after whole r
makes_rest {before} {mid} {left} T after r so ends =
    subst (λ (l : List Write). EndsIn {T = T} before after l r) (sym so.parted)
    (ends_after T before mid after so.first left r so.made so.low ends)

-- the next write was made
pub makes_one : (T : Type 0) (before mid after : DeskState) (whole left : List Write) (w : Write) (x : T)
    → Makes before mid whole (w ∷ left) → EndsIn {T = T} mid after (w ∷ []) (Ok x)
    → NoneFalls mid.write_faults after.write_faults → Makes before after whole left
makes_one T before mid after whole left w x so ends low = record {
  first = so.first ++ w ∷ [];
  parted = so.parted ∙ sym (append_assoc so.first (w ∷ []) left);
  made = made_both before mid after so.first (w ∷ []) so.made ends;
  low = λ n. let a = so.low n in let b = low n in omega arith;
}

-- the next write ended the making
pub makes_no_more : {before mid : DeskState} {whole left : List Write} {w : Write} (S T : Type 0) (after : DeskState)
    (e : WriteStop) → Makes before mid whole (w ∷ left) → EndsIn {T = S} mid after (w ∷ []) (Err e)
    → EndsIn {T = T} before after whole (Err e)
makes_no_more {mid} {left} {w} S T after e so ends =
    makes_rest T after (Err e) so (ends_first S T mid after (w ∷ []) left e ends)

-- the writes of a listing from a primitive on
abbrev pub writes_from : World → ℕ → List Write
writes_from w i = map to_output (drop i (listings w)) ++ last_write ∷ []

pub one_from : (w : World) (i : ℕ) → i < length w.prims.items
    → writes_from w i ≡ to_output (listing_at w i) ∷ writes_from w (i + 1)
one_from w i here =
    let long : i < length (listings w) = rw (length-map-range_with_len (listing_at w) 0 (length w.prims.items)) here in
    let at : get_or (listings w) i (listing_at w i) ≡ listing_at w i =
    get_or-map-range_with_len (listing_at w) 0 (length w.prims.items) i i (listing_at w i) here (omega arith) in
    let parts : drop i (listings w) ≡ listing_at w i ∷ drop (i + 1) (listings w) =
    rw (add-one, drop-cons (listings w) i (listing_at w i) long)
    (ap (λ (t : List ℕ). t ∷ drop (suc i) (listings w)) at) in
    ap (λ (l : List (List ℕ)). map to_output l ++ last_write ∷ []) parts

pub none_from : (w : World) (i : ℕ) → length w.prims.items ≤ i → writes_from w i ≡ last_write ∷ []
none_from w i past =
    let long : length (listings w) ≤ i = rw (length-map-range_with_len (listing_at w) 0 (length w.prims.items)) past in
    ap (λ (l : List (List ℕ)). map to_output l ++ last_write ∷ []) (drop_all i (listings w) long)

-- how far a listing has come
pub record IsListingTo (before now : DeskState) (w : World) (i : ℕ) : Type 0 where
  pub makes : Makes before now (writes_from w 0) (writes_from w i)
  pub frame : WritesOnly IsOutput before now
