-- How the making of writes ends, by its parts.
use Rattle.std.proofs.Common.{◌≡◌, ◌≤◌, ℕ, List, [], ◌∷◌, ◌++◌, Bool, true, false, if◌then◌else◌, Option, Some, None}
use Rattle.std.proofs.Common.{IsErrOf, OnOk, Result, Ok, Err, refl, sym, ◌∙◌, ap, subst, append_assoc, append-nil, arith, inl, inr}
use Rattle.std.proofs.lemmas.Slice.Eq.{bytes_eq-Decides}
use Rattle.std.specs.Bool.{Decides}
use Rattle.std.specs.Str.{bytes_eq}
use Rattle.sbpl_promises.specs.sbpl_desk.Desk.{Appends, AppendsPrefix, Keeps, NoneFalls, Rose, Stays}
use Rattle.sbpl_promises.specs.sbpl_desk.declared.desk.WriteStop.{WriteStop}
use Rattle.sbpl_promises.specs.sbpl_desk.declared.desk.WriteStop.TheVariants.{Failed, NoMemory}
use Rattle.sbpl_promises.specs.Writing.{AreAppended, DeskState, EndsAs, EndsIn, IsCutAt, RunsOutAt, StaysBut, Write}
use Rattle.sbpl_promises.specs.Writing.{WriteFailed, status_after, text_under}

-- told bytes that grow twice grow by both
pub appends_both : (a b c : Option (List ℕ)) (x y : List ℕ) → Appends a b x → Appends b c y → Appends a c (x ++ y)
appends_both None b c x y p q = tt
appends_both (Some a) None c x y p q = absurd p
appends_both (Some a) (Some b) None x y p q = absurd q
appends_both (Some a) (Some b) (Some c) x y p q = q ∙ ap (λ l. l ++ y) p ∙ append_assoc a x y

-- bytes that stay have grown by nothing
pub grows_by_nothing : (a b : Option (List ℕ)) → b ≡ a → Appends a b []
grows_by_nothing None b same = tt
grows_by_nothing (Some a) b same = rw same (sym (append-nil a))

pub rose_since : (f g h : ℕ) → f ≤ g → Rose g h → Rose f h
rose_since f g h below (inl more) = inl (omega arith)
rose_since f g h below (inr most) = inr most

-- what two lists of writes append is what each appends
pub text_of_both : (name : List ℕ) (ws vs : List Write)
    → text_under name (ws ++ vs) ≡ text_under name ws ++ text_under name vs
text_of_both name [] vs = refl
text_of_both name (w ∷ ws) vs =
    ap (λ l. (if bytes_eq w.name name then w.text else []) ++ l) (text_of_both name ws vs)
    ∙ sym (append_assoc (if bytes_eq w.name name then w.text else []) (text_under name ws) (text_under name vs))

-- no writes
pub none_made : (a b : DeskState) → Stays a.written b.written → AreAppended a b []
none_made a b same = record { grown = λ name. grows_by_nothing (a.written name) (b.written name) (same name) }

-- writes, and others after them
pub made_both : (a b c : DeskState) (ws vs : List Write) → AreAppended a b ws → AreAppended b c vs
    → AreAppended a c (ws ++ vs)
made_both a b c ws vs p q = record {
  grown = λ name. rw (text_of_both name ws vs)
      (appends_both (a.written name) (b.written name) (c.written name) _ _ (p.grown name) (q.grown name));
}

-- one write
pub one_made : (a b : DeskState) (name text : List ℕ) → Appends (a.written name) (b.written name) text
    → (StaysBut (λ other. other ≡ name) a.written b.written)
    → AreAppended a b (record { name = name; text = text } ∷ [])
one_made a b name text grows stay =
    record { grown = λ other. under (bytes_eq name other) other (bytes_eq-Decides name other) }
  where
    under : (test : Bool) (other : List ℕ) → Decides test (name ≡ other)
        → Appends (a.written other) (b.written other) ((if test then text else []) ++ [])
    under true other is =
        let same =
        is.0 refl in subst (λ n. Appends (a.written n) (b.written n) (text ++ [])) same (rw (append-nil text) grows)
    under false other is =
        grows_by_nothing (a.written other) (b.written other)
        (stay other (λ same. absurd (let no : false ≡ true = is.1 (sym same) in cc)))

-- a prefix of one write
pub one_cut : (a b : DeskState) (name text : List ℕ) → AppendsPrefix (a.written name) (b.written name) text
    → (StaysBut (λ other. other ≡ name) a.written b.written) → WriteFailed a b name
    → IsCutAt a b (record { name = name; text = text } ∷ [])
one_cut a b name text grows stay rose = record {
  first = [];
  cut = record { name = name; text = text };
  rest = [];
  whole = refl;
  prefix = grows.prefix;
  suffix = grows.rest;
  parted = grows.whole;
  rose = rose;
  made = one_made a b name grows.prefix grows.written stay;
}

-- a write that finds no memory writes nothing
pub none_kept : (a b : DeskState) (name : List ℕ) → Keeps (a.written name) (b.written name)
    → (StaysBut (λ other. other ≡ name) a.written b.written) → AreAppended a b []
none_kept a b name kept stay =
    record { grown = λ other. under (bytes_eq name other) other (bytes_eq-Decides name other) }
  where
    keeps : (o p : Option (List ℕ)) → Keeps o p → Appends o p []
    keeps None p kept = tt
    keeps (Some x) None kept = absurd kept
    keeps (Some x) (Some y) kept = kept ∙ sym (append-nil x)

    under : (test : Bool) (other : List ℕ) → Decides test (name ≡ other)
        → Appends (a.written other) (b.written other) []
    under true other is = let same = is.0 refl in
        subst (λ n. Appends (a.written n) (b.written n) []) same (keeps (a.written name) (b.written name) kept)
    under false other is =
        grows_by_nothing (a.written other) (b.written other)
        (stay other (λ same. absurd (let no : false ≡ true = is.1 (sym same) in cc)))

pub one_stopped : (a b : DeskState) (w : Write) → Keeps (a.written w.name) (b.written w.name)
    → (StaysBut (λ other. other ≡ w.name) a.written b.written) → RunsOutAt a b (w ∷ [])
one_stopped a b w kept stay = record { first = []; rest = w ∷ []; whole = refl; made = none_kept a b w.name kept stay }

-- how one write ends, from what a desk says of it
pub one_ends : (a b : DeskState) (w : Write) (r : Result (Unit {0}) WriteStop)
    → OnOk r (Appends (a.written w.name) (b.written w.name) w.text)
    → (IsErrOf r Failed → AppendsPrefix (a.written w.name) (b.written w.name) w.text)
    → (IsErrOf r Failed → WriteFailed a b w.name) → (IsErrOf r NoMemory → Keeps (a.written w.name) (b.written w.name))
    → (StaysBut (λ other. other ≡ w.name) a.written b.written) → EndsIn {T = Unit {0}} a b (w ∷ []) r
one_ends a b w (Ok x) grows prefix rose kept stay = one_made a b w.name w.text grows stay
one_ends a b w (Err Failed) grows prefix rose kept stay = one_cut a b w.name w.text (prefix refl) stay (rose refl)
one_ends a b w (Err NoMemory) grows prefix rose kept stay = one_stopped a b w (kept refl) stay

-- the writes end within the first of them
pub cut_first : (a b : DeskState) (ws vs : List Write) → IsCutAt a b ws → IsCutAt a b (ws ++ vs)
cut_first a b ws vs p = record {
  first = p.first;
  cut = p.cut;
  rest = p.rest ++ vs;
  whole = ap (λ l. l ++ vs) p.whole ∙ append_assoc p.first (p.cut ∷ p.rest) vs;
  prefix = p.prefix;
  suffix = p.suffix;
  parted = p.parted;
  rose = p.rose;
  made = p.made;
}

pub stopped_first : (a b : DeskState) (ws vs : List Write) → RunsOutAt a b ws → RunsOutAt a b (ws ++ vs)
stopped_first a b ws vs p = record {
  first = p.first;
  rest = p.rest ++ vs;
  whole = ap (λ l. l ++ vs) p.whole ∙ append_assoc p.first p.rest vs;
  made = p.made;
}

-- the writes end after the first of them
pub cut_after : (a b c : DeskState) (ws vs : List Write) → AreAppended a b ws → NoneFalls a.write_faults b.write_faults
    → IsCutAt b c vs → IsCutAt a c (ws ++ vs)
cut_after a b c ws vs p low q = record {
  first = ws ++ q.first;
  cut = q.cut;
  rest = q.rest;
  whole = ap (λ l. ws ++ l) q.whole ∙ sym (append_assoc ws q.first (q.cut ∷ q.rest));
  prefix = q.prefix;
  suffix = q.suffix;
  parted = q.parted;
  rose = rose_since _ _ _ (low q.cut.name) q.rose;
  made =
      rw (append_assoc ws q.first (record { name = q.cut.name; text = q.prefix } ∷ [])) (made_both a b c ws _ p q.made);
}

pub stopped_after : (a b c : DeskState) (ws vs : List Write) → AreAppended a b ws → RunsOutAt b c vs
    → RunsOutAt a c (ws ++ vs)
stopped_after a b c ws vs p q = record {
  first = ws ++ q.first;
  rest = q.rest;
  whole = ap (λ l. ws ++ l) q.whole ∙ sym (append_assoc ws q.first q.rest);
  made = made_both a b c ws q.first p q.made;
}

-- the first writes ended so, and no others were tried
pub ends_first : (S T : Type 0) (a b : DeskState) (ws vs : List Write) (e : WriteStop) → EndsIn {T = S} a b ws (Err e)
    → EndsIn {T = T} a b (ws ++ vs) (Err e)
ends_first S T a b ws vs Failed p = cut_first a b ws vs p
ends_first S T a b ws vs NoMemory p = stopped_first a b ws vs p

-- the first writes were made, and the others ended so
pub ends_after : (T : Type 0) (a b c : DeskState) (ws vs : List Write) (r : Result T WriteStop) → AreAppended a b ws
    → NoneFalls a.write_faults b.write_faults → EndsIn b c vs r → EndsIn a c (ws ++ vs) r
ends_after T a b c ws vs (Ok x) p low q = made_both a b c ws vs p q
ends_after T a b c ws vs (Err Failed) p low q = cut_after a b c ws vs p low q
ends_after T a b c ws vs (Err NoMemory) p low q = stopped_after a b c ws vs p q

-- the status that answers how writing ended
pub status_ends : {a b : DeskState} {ws : List Write} {wanted status : ℕ} (r : Result (Unit {0}) WriteStop)
    → EndsIn {T = Unit {0}} a b ws r → status ≡ status_after wanted r → EndsAs a b ws wanted status
status_ends (Ok x) p is = inl (is, p)
status_ends (Err Failed) p is = inr (inl (is, p))
status_ends (Err NoMemory) p is = inr (inr (is, p))

-- nothing was written before
pub ends_since : {a b c : DeskState} {ws : List Write} {wanted status : ℕ} → Stays a.written b.written
    → NoneFalls a.write_faults b.write_faults → EndsAs b c ws wanted status → EndsAs a c ws wanted status
ends_since {a} {b} {c} {ws} same low (inl (is, p)) = inl (is, made_both a b c [] ws (none_made a b same) p)
ends_since {a} {b} {c} {ws} same low (inr (inl (is, p))) =
    inr (inl (is, cut_after a b c [] ws (none_made a b same) low p))
ends_since {a} {b} {c} {ws} same low (inr (inr (is, p))) =
    inr (inr (is, stopped_after a b c [] ws (none_made a b same) p))

-- writes were made, and then a run ended so
pub ends_as_after : (a b c : DeskState) (ws vs : List Write) (wanted status : ℕ) → AreAppended a b ws
    → NoneFalls a.write_faults b.write_faults → EndsAs b c vs wanted status → EndsAs a c (ws ++ vs) wanted status
ends_as_after a b c ws vs wanted status made low (inl (is, p)) = inl (is, made_both a b c ws vs made p)
ends_as_after a b c ws vs wanted status made low (inr (inl (is, p))) = inr (inl (is, cut_after a b c ws vs made low p))
ends_as_after a b c ws vs wanted status made low (inr (inr (is, p))) = inr (inr (is, stopped_after a b c ws vs made p))
