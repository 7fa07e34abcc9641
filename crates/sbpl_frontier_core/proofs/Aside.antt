-- Entries of the queue are put aside and put back.
use Rattle.std.proofs.Common.{◌≡◌, ◌≢◌, ℕ, suc, ◌<◌, ◌⊎◌, Some, None, List, [], ◌∷◌, ◌++◌, length, slice_index_or}
use Rattle.std.proofs.Common.{arith, ⊎_elim, inl, inr, refl, sym, ◌∙◌, ap, length-append}
use Rattle.std.specs.List.{All, Contains}
use Rattle.std.proofs.lemmas.Bool.{cases_eq}
use Rattle.std.proofs.lemmas.Option.{none-some, same_Some}
use Rattle.std.proofs.lemmas.List.Elements.{All-cons, All-contains, All-get_or, All-head, All-nil}
use Rattle.std.proofs.lemmas.List.Elements.{All-push, All-tail, All-weaker}
use Rattle.std.proofs.lemmas.List.Quantifiers.{all_pairs_push}
use Rattle.sbpl_frontier_rules.specs.sbpl_graph.Network.{Network}
use Rattle.sbpl_frontier_rules.specs.sbpl_labels.Marks.{Marks}
use Rattle.sbpl_frontier_rules.specs.sbpl_open.declared.entry.Entry.{Entry}
use Rattle.sbpl_frontier_rules.specs.sbpl_open.Entries.{key_of}
use Rattle.sbpl_frontier_rules.specs.sbpl_open.KeyOrder.{ComesBefore, IsBelow}
use Rattle.sbpl_frontier_rules.specs.sbpl_open.OpenList.{ChangesKey, IsLeast, OpenList, key_at}
use Rattle.sbpl_frontier_rules.specs.declared.leg.Leg.{Leg}
use Rattle.sbpl_frontier_core.specs.Clear.{AreAside, ArePopped, HaveSameKeys, IsClear}
use Rattle.sbpl_frontier_core.specs.Clear.{IsClearIn, IsClearOfAll, NoneBelow}

-- one of the entries is of this state
abbrev pub IsAmong : List Entry → ℕ → Type 0
IsAmong entries s = (entry : Entry) × Contains entries entry × (entry.state ≡ s)

-- or none is
pub among_or_not : (entries : List Entry) (s : ℕ) → IsAmong entries s ⊎ All (λ (entry : Entry). entry.state ≢ s) entries
among_or_not [] s = inr (All-nil (λ (entry : Entry). entry.state ≢ s))
among_or_not (first ∷ rest) s =
    ⊎_elim
    (λ (at : first.state ≡ s). inl (first, (0, omega arith, refl), at))
    (λ (apart : first.state ≢ s).
    ⊎_elim
    (λ (among : IsAmong rest s). inl (among.0, (suc among.1.0, omega (arith, among.1.1), among.1.2), among.2))
    (λ none. inr (All-cons (λ (entry : Entry). entry.state ≢ s) first rest apart none))
    (among_or_not rest s))
    (cases_eq first.state s)

-- what holds of all but the last and of the last
pub all_front : (P : Entry → Type 0) (entries : List Entry) (entry : Entry)
    → All P (entries ++ entry ∷ []) → All P entries
all_front P [] entry all = All-nil P
all_front P (first ∷ rest) entry all =
    All-cons P first rest (All-head P first (rest ++ entry ∷ []) all)
    (all_front P rest entry (All-tail P first (rest ++ entry ∷ []) all))

pub all_last : (P : Entry → Type 0) (entries : List Entry) (entry : Entry) → All P (entries ++ entry ∷ []) → P entry
all_last P [] entry all = All-head P entry [] all
all_last P (first ∷ rest) entry all = all_last P rest entry (All-tail P first (rest ++ entry ∷ []) all)

-- nothing is aside
pub none_aside : (f : OpenList) → AreAside f [] f
none_aside f = record {
  states = refl;
  there = All-nil (λ (entry : Entry). key_at f entry.state ≡ Some (key_of entry));
  others = λ s none. refl;
}

-- the last entry is put back
pub aside_back : {f g g' : OpenList} (aside : List Entry) (entry : Entry) → AreAside f (aside ++ entry ∷ []) g
    → ChangesKey g g' entry.state (Some (key_of entry)) → AreAside f aside g'
aside_back {f} {g} {g'} aside entry here change = record {
  states = change.states ∙ here.states;
  there = all_front (λ (e : Entry). key_at f e.state ≡ Some (key_of e)) aside entry here.there;
  others = λ s none.
      ⊎_elim
      (λ (at : s ≡ entry.state).
      rw at (change.at ∙ sym (all_last (λ (e : Entry). key_at f e.state ≡ Some (key_of e)) aside entry here.there)))
      (λ (apart : s ≢ entry.state).
      change.others s apart
      ∙ here.others s (All-push (λ (e : Entry). e.state ≢ s) aside entry none (λ same. apart (sym same))))
      (cases_eq s entry.state);
}

-- once all are back the queue is as it was
pub all_back : {f g : OpenList} (aside : List Entry) → aside ≡ [] → AreAside f aside g → HaveSameKeys f g
all_back {f} {g} aside none here = record {
  states = here.states;
  each = λ s. here.others s (rw none (All-nil (λ (e : Entry). e.state ≢ s)));
}

-- of two states not each comes before the other
pub one_before : (a b : ℕ × ℕ) (s u : ℕ) → ComesBefore a s b u → ComesBefore b u a s → ⊥
one_before a b s u before later = grind arith

-- what comes before a key that is below a third is below the third too
pub before_below : (a b c : ℕ × ℕ) (s t : ℕ) → ComesBefore a s b t → IsBelow b c → IsBelow a c
before_below a b c s t before low = grind arith

module _ {n : Network} {eps : ℕ} {m : Marks} {out : List Leg} {goal : ℕ × ℕ} {f : OpenList} where
  -- at first nothing is popped
  pub popped_none : (aside : List Entry) → aside ≡ [] → ArePopped n eps m out goal f aside f
  popped_none aside none = rw none (record {
    aside = none_aside f;
    gone = All-nil (λ (entry : Entry). key_at f entry.state ≡ None);
    below = All-nil (λ (entry : Entry). IsBelow (key_of entry) goal);
    before =
        All-nil (λ (entry : Entry).
        (s : ℕ) (key : ℕ × ℕ) → key_at f s ≡ Some key → ComesBefore (key_of entry) entry.state key s);
    apart = λ i j d first inside. absurd (omega arith);
    held = All-nil (λ (entry : Entry). IsClearIn n eps m out f entry.state (key_of entry) → ⊥);
    few = omega arith;
  })

  module _ {popped : List Entry} {rest : OpenList} (here : ArePopped n eps m out goal f popped rest) where
    -- what is still in the queue was not popped
    pub left_not_popped : (s : ℕ) (key : ℕ × ℕ) → key_at rest s ≡ Some key
        → All (λ (entry : Entry). entry.state ≢ s) popped
    left_not_popped s key there =
        All-weaker (λ (entry : Entry). key_at rest entry.state ≡ None) (λ (entry : Entry). entry.state ≢ s)
        (λ entry gone at. none-some key (sym gone ∙ ap (key_at rest) at ∙ there)) popped here.gone

    -- and was there from the beginning
    pub left_was : (s : ℕ) (key : ℕ × ℕ) → key_at rest s ≡ Some key → key_at f s ≡ Some key
    left_was s key there = sym (here.aside.others s (left_not_popped s key there)) ∙ there

    -- what was there is popped, or is left
    pub popped_or_left : (s : ℕ) (key : ℕ × ℕ) → key_at f s ≡ Some key → IsAmong popped s ⊎ (key_at rest s ≡ Some key)
    popped_or_left s key there =
        ⊎_elim inl (λ none. inr (here.aside.others s none ∙ there)) (among_or_not popped s)

    -- the first that is left, where it is clear of the legs and of all popped ones, is clear of all that come before it
    pub clear_in : {s : ℕ} {key : ℕ × ℕ} → IsLeast rest s key → IsClearOfAll n eps m out popped s
        → IsClearIn n eps m out f s key
    clear_in {s} {key} least clear = record {
      of_legs = clear.of_legs;
      of_earlier = λ p other there before.
          ⊎_elim
          (λ (among : IsAmong popped p).
          rw (← among.2)
          (All-contains (λ (entry : Entry). IsClear n eps m s entry.state) popped among.0 clear.of_others among.1))
          (λ (left : key_at rest p ≡ Some other).
          ⊎_elim
          (λ (at : p ≡ s).
          let same : key ≡ other = same_Some key other (sym least.there ∙ sym (ap (key_at rest) at) ∙ left) in
          let again : ComesBefore key s key s = rw (sym same, at) at before in
          absurd (one_before key key s s again again))
          (λ (apart : p ≢ s). absurd (one_before key other s p (least.first p other left apart) before))
          (cases_eq p s))
          (popped_or_left p other there);
    }

    -- and the other way round
    pub clear_of_all : {s : ℕ} {key : ℕ × ℕ} → IsLeast rest s key → IsClearIn n eps m out f s key
        → IsClearOfAll n eps m out popped s
    clear_of_all {s} {key} least clear = record {
      of_legs = clear.of_legs;
      of_others = λ k d inside.
          let entry = slice_index_or popped k d in
          clear.of_earlier entry.state (key_of entry)
          (All-get_or (λ (e : Entry). key_at f e.state ≡ Some (key_of e)) popped k d inside here.aside.there)
          (All-get_or (λ (e : Entry). (u : ℕ) (other : ℕ × ℕ) → key_at rest u ≡ Some other
          → ComesBefore (key_of e) e.state other u) popped k d inside here.before s key least.there);
    }

    -- one more is popped
    pub popped_more : {rest' : OpenList} (entry : Entry) → IsLeast rest entry.state (key_of entry)
        → IsBelow (key_of entry) goal
        → (IsClearOfAll n eps m out popped entry.state → ⊥) → length popped < 64
        → ChangesKey rest rest' entry.state None
        → ArePopped n eps m out goal f (popped ++ entry ∷ []) rest'
    popped_more {rest'} entry least low not_clear few change =
        let s = entry.state in
        let apart : All (λ (e : Entry). e.state ≢ s) popped = left_not_popped s (key_of entry) least.there in
        record {
          aside = record {
            states = change.states ∙ here.aside.states;
            there =
                All-push (λ (e : Entry). key_at f e.state ≡ Some (key_of e)) popped entry here.aside.there
                (left_was s (key_of entry) least.there);
            others = λ u none.
                change.others u (λ at. all_last (λ (e : Entry). e.state ≢ u) popped entry none (sym at))
                ∙ here.aside.others u (all_front (λ (e : Entry). e.state ≢ u) popped entry none);
          };
          gone =
              All-push (λ (e : Entry). key_at rest' e.state ≡ None) popped entry
              (λ k d inside.
              change.others _ (All-get_or (λ (e : Entry). e.state ≢ s) popped k d inside apart)
              ∙ All-get_or (λ (e : Entry). key_at rest e.state ≡ None) popped k d inside here.gone)
              change.at;
          below = All-push (λ (e : Entry). IsBelow (key_of e) goal) popped entry here.below low;
          before =
              All-push (λ (e : Entry).
              (u : ℕ) (key : ℕ × ℕ) → key_at rest' u ≡ Some key → ComesBefore (key_of e) e.state key u) popped entry
              (λ k d inside u key there.
              let other : u ≢ s = λ at. none-some key (sym change.at ∙ sym (ap (key_at rest') at) ∙ there) in
              All-get_or (λ (e : Entry).
              (x : ℕ) (y : ℕ × ℕ) → key_at rest x ≡ Some y → ComesBefore (key_of e) e.state y x)
              popped k d inside here.before u key (sym (change.others u other) ∙ there))
              (λ u key there.
              let other : u ≢ s = λ at. none-some key (sym change.at ∙ sym (ap (key_at rest') at) ∙ there) in
              least.first u key (sym (change.others u other) ∙ there) other);
          apart =
              all_pairs_push (λ (a b : Entry). a.state ≢ b.state) popped entry here.apart
              (λ k d inside. All-get_or (λ (e : Entry). e.state ≢ s) popped k d inside apart);
          held =
              All-push (λ (e : Entry). IsClearIn n eps m out f e.state (key_of e) → ⊥) popped entry here.held
              (λ clear. not_clear (clear_of_all least clear));
          few = omega (arith, length-append popped (entry ∷ []));
        }

    -- nothing below the goal is left where the least is not, or where there is none
    pub none_left : {s : ℕ} {key : ℕ × ℕ} → IsLeast rest s key → (IsBelow key goal → ⊥) → NoneBelow rest goal
    none_left {s} {key} least high = λ u other there low.
        ⊎_elim
        (λ (at : u ≡ s). high (rw (same_Some key other (sym least.there ∙ sym (ap (key_at rest) at) ∙ there)) low))
        (λ (apart : u ≢ s). high (before_below key other goal s u (least.first u other there apart) low))
        (cases_eq u s)
