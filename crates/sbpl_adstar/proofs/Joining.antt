-- States that become underconsistent are listed in the order of the arcs on which they hung.
use Rattle.std.proofs.Common.{◌≡◌, ◌≢◌, ℕ, ◌+◌, ◌<◌, ◌≤◌, Option, Some, None, List, [], ◌∷◌, ◌++◌, length, get_or}
use Rattle.std.proofs.Common.{arith, ⊎_elim, refl, sym, ◌∙◌, ap, subst}
use Rattle.std.proofs.lemmas.Bool.{cases_eq, cases_lt}
use Rattle.std.proofs.lemmas.List.{append-nil, append_assoc, get_or_append_left, get_or-append-add, length-append}
use Rattle.std.proofs.lemmas.List.Elements.{All-append, All-contains, All-nil, All-weaker, Contains-append_cases}
use Rattle.std.proofs.lemmas.List.Elements.{Contains-append_right}
use Rattle.std.proofs.lemmas.List.Quantifiers.{all_pairs_push}
use Rattle.std.proofs.lemmas.Option.{none-some, same_Some}
use Rattle.std.specs.List.{All, AllPairs, Contains}
use Rattle.sbpl_ara.specs.sbpl_graph.declared.TheConstants.{FAR}
use Rattle.sbpl_ara.specs.sbpl_graph.Network.{Network}
use Rattle.sbpl_ara.specs.sbpl_labels.declared.row.Row.{Row}
use Rattle.sbpl_ara.specs.sbpl_labels.Marks.{Marks, AreLabels, states_of, g_of, v_of, back_of}
use Rattle.sbpl_ara.specs.sbpl_labels.Recomputed.{IsRecomputed}
use Rattle.sbpl_ara.specs.sbpl_serial.Raised.{IsRaising, IsReturned}
use Rattle.sbpl_ara.specs.sbpl_serial.Run.{IsUnder, RaisesState}
use Rattle.sbpl_adstar.specs.Listed.{AddsBecome, AddsUnder, AreListed}
use Rattle.sbpl_adstar.specs.Raised.{HangsBefore}
use Rattle.sbpl_adstar.proofs.Listing.{all_by}
use Rattle.sbpl_adstar.proofs.Raising.{far_not_under}

-- ---- lists without a number twice

abbrev AreApart : List ℕ → Type 0
AreApart xs = AllPairs (λ (a b : ℕ). a ≢ b) xs

-- no number is in both parts
not_in_both : (xs ys : List ℕ) (u : ℕ) → AreApart (xs ++ ys) → Contains xs u → Contains ys u → ⊥
not_in_both xs ys u apart one two =
    let long = length-append xs ys in
    let here : get_or (xs ++ ys) one.0 u ≡ u = get_or_append_left xs ys u one.0 one.1 ∙ one.2 in
    let there : get_or (xs ++ ys) (length xs + two.0) u ≡ u = get_or-append-add xs ys two.0 u ∙ two.2 in
    apart one.0 (length xs + two.0) u (omega (arith, one.1)) (omega (arith, two.1, long)) (here ∙ sym there)

-- the later part has none twice
apart_right : (xs ys : List ℕ) → AreApart (xs ++ ys) → AreApart ys
apart_right xs ys apart i j d before inside same =
    let long = length-append xs ys in
    apart (length xs + i) (length xs + j) d (omega (arith, before)) (omega (arith, inside, long))
    (get_or-append-add xs ys i d ∙ same ∙ sym (get_or-append-add xs ys j d))

-- a list that grows by one number at most
push_head : (R : ℕ → ℕ → Type 0) (xs more : List ℕ) (head : Option ℕ) → ((u : ℕ) → Contains more u → head ≡ Some u)
    → AreApart more → AllPairs R xs → ((u : ℕ) → Contains more u → All (λ (x : ℕ). R x u) xs) → AllPairs R (xs ++ more)
push_head R xs [] head own apart pairs below = subst (AllPairs R) (sym (append-nil xs)) pairs
push_head R xs (x ∷ []) head own apart pairs below =
    all_pairs_push R xs x pairs (below x (0, omega arith, refl))
push_head R xs (x ∷ y ∷ rest) head own apart pairs below =
    let first : head ≡ Some x = own x (0, omega arith, refl) in
    let second : head ≡ Some y = own y (1, omega arith, refl) in
    absurd (apart 0 1 0 (omega arith) (omega arith) (same_Some x y (sym first ∙ second)))

-- ---- over one arc

-- one back arc is an arc of one state, with one number
arc_state : (o : Option (ℕ × ℕ)) (p q : ℕ × ℕ) → o ≡ Some p → o ≡ Some q → p.0 ≡ q.0
arc_state o p q one two = ap (λ (arc : ℕ × ℕ). arc.0) (same_Some p q (sym one ∙ two))

arc_number : (o : Option (ℕ × ℕ)) (p q : ℕ × ℕ) → o ≡ Some p → o ≡ Some q → p.1 ≡ q.1
arc_number o p q one two = ap (λ (arc : ℕ × ℕ). arc.1) (same_Some p q (sym one ∙ two))

module _ (n : Network) (old m : Marks) (s i : ℕ) (raising : IsRaising n old m s i) where
  -- no back arc begins at s, whose v is infinite
  not_from_far : (t k : ℕ) (back : Option (ℕ × ℕ)) → IsRecomputed n (v_of m) t (g_of m t) back → back ≡ Some (s, k) → ⊥
  not_from_far t k None is same = none-some (s, k) same
  not_from_far t k (Some (a, b)) is same =
      let at : a ≡ s = arc_state (Some (a, b)) (a, b) (s, k) refl same in
      let near : v_of m a < FAR = is.2.way.near in
      let far : v_of m a ≡ FAR = ap (v_of m) at ∙ raising.raised in
      omega (arith, near, far)

  -- a state whose back arc is an arc of s hung on it before
  hung_by : (t k : ℕ) (back : Option (ℕ × ℕ)) → back_of old t ≡ back → back_of m t ≡ Some (s, k)
      → back_of old t ≡ Some (s, k)
  hung_by t k None was now =
      sym (raising.other_back t (λ j below by. none-some (s, j) (sym was ∙ by))) ∙ now
  hung_by t k (Some (a, b)) was now =
      ⊎_elim
      (λ (at : a ≡ s).
      ⊎_elim
      (λ (below : b < i).
      let by : back_of old t ≡ Some (s, b) = was ∙ ap (λ (x : ℕ). Some (x, b)) at in
      absurd (not_from_far t k (back_of m t) (raising.heads t b below by) now))
      (λ (past : i ≤ b).
      sym (raising.other_back t (λ j below by.
      let number : b ≡ j = arc_number (back_of old t) (a, b) (s, j) was by in
      omega (arith, below, past, number))) ∙ now)
      (cases_lt b i))
      (λ (other : a ≢ s).
      sym (raising.other_back t (λ j below by. other (arc_state (back_of old t) (a, b) (s, j) was by))) ∙ now)
      (cases_eq a s)

  -- the head of an arc before
  module _ (new : Marks) (k : ℕ) (list longer : List ℕ) (listed : AreListed m list) (listed_now : AreListed new longer)
      (added : AddsUnder new list longer) where
    parted : AreApart (list ++ added.more)
    parted = subst AreApart added.added listed_now.once

    -- what is added was not underconsistent
    not_before : (u : ℕ) → states_of new ≡ states_of m → Contains added.more u → IsUnder m u → ⊥
    not_before u states among under =
        let there : Contains longer u =
        subst (λ (xs : List ℕ). Contains xs u) (sym added.added) (Contains-append_right list added.more u among) in
        let inside = listed_now.inside u there in
        not_in_both list added.more u parted (listed.all u (omega (arith, inside, states)) under) among

    -- and it is the head of the arc, on which it hung
    is_head : (head : Option ℕ) → IsReturned n m new s k head → (u : ℕ) → Contains added.more u
        → (head ≡ Some u) × (back_of old u ≡ Some (s, k))
    is_head None returned u among =
        let under : IsUnder new u = All-contains (IsUnder new) added.more u added.under among in
        let was : IsUnder m u = subst (λ (a : Marks). IsUnder a u) returned.0 under in
        absurd (not_before u (ap (λ (a : Marks). states_of a) returned.0) among was)
    is_head (Some t) returned u among =
        let under : IsUnder new u = All-contains (IsUnder new) added.more u added.under among in
        ⊎_elim
        (λ (at : t ≡ u). (
          ap (λ (x : ℕ). Some x) at,
          hung_by u k (back_of old u) refl (ap (back_of m) (sym at) ∙ returned.by),
        ))
        (λ (other : t ≢ u).
        let row = returned.recomputes.others u (λ e. other (sym e)) in
        let same_g : g_of new u ≡ g_of m u = ap (λ (r : Row). r.g) row in
        let same_v : v_of new u ≡ v_of m u = ap (λ (r : Row). r.v) row in
        absurd (not_before u returned.recomputes.same_states among (omega (arith, under, same_g, same_v))))
        (cases_eq t u)

-- ---- over all arcs

-- what was added before arc i is underconsistent, hung on arcs of s before that, and comes in their order
pub record AddsBelow (old m : Marks) (s i : ℕ) (list longer : List ℕ) : Type 0 where
  pub more : List ℕ
  pub added : longer ≡ list ++ more
  pub under : All (IsUnder m) more
  pub hung : All (λ (t : ℕ). (k : ℕ) × (k < i) × (back_of old t ≡ Some (s, k))) more
  pub upwards : AllPairs (HangsBefore old s) more

pub below_none : (old m : Marks) (s : ℕ) (list : List ℕ) → AddsBelow old m s 0 list list
below_none old m s list = record {
  more = [];
  added = sym (append-nil list);
  under = All-nil (IsUnder m);
  hung = All-nil (λ (t : ℕ). (k : ℕ) × (k < 0) × (back_of old t ≡ Some (s, k)));
  upwards = λ a b d before inside. absurd (omega (arith, inside));
}

pub below_more : (n : Network) (old m new : Marks) (s i : ℕ) (first list longer : List ℕ) (head : Option ℕ)
    → IsRaising n old m s i → IsReturned n m new s i head → AddsBelow old m s i first list
    → ((u : ℕ) → IsUnder m u → IsUnder new u) → AreListed m list → AreListed new longer → AddsUnder new list longer
    → AddsBelow old new s (i + 1) first longer
below_more n old m new s i first list longer head raising returned before stay listed listed_now now =
    let own = is_head n old m s i raising new i list longer listed listed_now now head returned in
    record {
      more = before.more ++ now.more;
      added =
          now.added ∙ ap (λ (xs : List ℕ). xs ++ now.more) before.added ∙ append_assoc first before.more now.more;
      under =
          All-append (IsUnder new) before.more now.more
          (All-weaker (IsUnder m) (IsUnder new) stay before.more before.under) now.under;
      hung =
          All-append (λ (t : ℕ). (k : ℕ) × (k < i + 1) × (back_of old t ≡ Some (s, k))) before.more now.more
          (All-weaker (λ (t : ℕ). (k : ℕ) × (k < i) × (back_of old t ≡ Some (s, k)))
          (λ (t : ℕ). (k : ℕ) × (k < i + 1) × (back_of old t ≡ Some (s, k)))
          (λ t at. (at.0, omega (arith, at.1), at.2)) before.more before.hung)
          (all_by (λ (t : ℕ). (k : ℕ) × (k < i + 1) × (back_of old t ≡ Some (s, k))) now.more
          (λ u among. (i, omega arith, (own u among).1)));
      upwards =
          push_head (HangsBefore old s) before.more now.more head (λ u among. (own u among).0)
          (apart_right list now.more (subst AreApart now.added listed_now.once)) before.upwards
          (λ u among. All-weaker (λ (t : ℕ). (k : ℕ) × (k < i) × (back_of old t ≡ Some (s, k)))
          (λ (t : ℕ). HangsBefore old s t u)
          (λ t at j k one two.
          let number : at.0 ≡ j = arc_number (back_of old t) (s, at.0) (s, j) at.2 one in
          let last : i ≡ k = arc_number (back_of old u) (s, i) (s, k) (own u among).1 two in
          omega (arith, at.1, number, last)) before.more before.hung);
    }

-- after the last arc these are all that became underconsistent
pub become_all : (n : Network) (old new : Marks) (s i : ℕ) (first longer : List ℕ) → RaisesState n old new s
    → AreLabels new → AreListed old first → AreListed new longer → AddsBelow old new s i first longer
    → AddsBecome old new s first longer
become_all n old new s i first longer raises labels listed listed_now below =
    let parted : AreApart (first ++ below.more) = subst AreApart below.added listed_now.once in
    record {
      more = below.more;
      added = below.added;
      become = record {
        under = below.under;
        before = all_by (λ (t : ℕ). g_of old t ≤ v_of old t) below.more
            (λ t among.
            ⊎_elim
            (λ (under : v_of old t < g_of old t).
            let there : Contains longer t =
            subst (λ (xs : List ℕ). Contains xs t) (sym below.added) (Contains-append_right first below.more t among) in
            let inside = listed_now.inside t there in
            absurd (not_in_both first below.more t parted
            (listed.all t (omega (arith, inside, raises.same_states)) under) among))
            (λ (fine : g_of old t ≤ v_of old t). fine)
            (cases_lt (v_of old t) (g_of old t)));
        all = λ t inside under fine.
            let there : Contains (first ++ below.more) t =
            subst (λ (xs : List ℕ). Contains xs t) below.added (listed_now.all t inside under) in
            ⊎_elim
            (λ (was : Contains first t).
            absurd (⊎_elim
            (λ (before : IsUnder old t). omega (arith, before, fine))
            (λ (far : v_of old t ≡ FAR).
            far_not_under new t labels inside (⊎_elim
            (λ (at : t ≡ s). ap (v_of new) at ∙ raises.raised)
            (λ (other : t ≢ s). raises.other_v t other ∙ far)
            (cases_eq t s)) under)
            (listed.only t was)))
            (λ (now : Contains below.more t). now)
            (Contains-append_cases first below.more t there);
        hung = All-weaker (λ (t : ℕ). (k : ℕ) × (k < i) × (back_of old t ≡ Some (s, k)))
            (λ (t : ℕ). (k : ℕ) × (back_of old t ≡ Some (s, k)))
            (λ t at. (at.0, at.2)) below.more below.hung;
        upwards = below.upwards;
      };
    }
