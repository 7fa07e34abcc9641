-- The posts of one seat among others.
use Rattle.std.proofs.Common.{◌≡◌, ◌≢◌, ℕ, ◌+◌, ◌≤◌, Bool, true, false, not, nat_eq, cond, true≢false, List, [], ◌∷◌}
use Rattle.std.proofs.Common.{◌++◌, length, sum_by, arith, sym, refl, ap, ◌∙◌, append-nil}
use Rattle.std.specs.List.{All, filter}
use Rattle.std.proofs.lemmas.Bool.{eq-eqb, eqb-true, ne_eqb}
use Rattle.std.proofs.lemmas.List.Elements.{All-cons, All-head, All-nil, All-tail, filter-append}
use Rattle.std.proofs.lemmas.List.Filters.{length-filter_both}
use Rattle.std.proofs.lemmas.List.Sums.{sum_by-cons}
use Rattle.sbpl_postings.specs.Kept.{AreApart}
use Rattle.sbpl_postings.specs.Posts.{of}
use Rattle.sbpl_postings.specs.declared.post.Post.{Post}
use Rattle.sbpl_postings.specs.declared.post.Sent.{Sent}

pub all_with : {X : Type 0} (P Q R : X → Type 0) → ((x : X) → P x → Q x → R x) → (xs : List X)
    → All P xs → All Q xs → All R xs
all_with P Q R both [] first second = All-nil R
all_with P Q R both (x ∷ xs) first second =
    All-cons R x xs (both x (All-head P x xs first) (All-head Q x xs second))
    (all_with P Q R both xs (All-tail P x xs first) (All-tail Q x xs second))

-- ---- one more post

abbrev is_of : ℕ → Post → Bool
is_of seat p = nat_eq p.seat seat

pub of_both : (seat : ℕ) (first rest : List Post) → of seat (first ++ rest) ≡ of seat first ++ of seat rest
of_both seat first rest = filter-append (is_of seat) first rest

pub of_here : (seat : ℕ) (all : List Post) (p : Post) → p.seat ≡ seat → of seat (all ++ p ∷ []) ≡ of seat all ++ p ∷ []
of_here seat all p same =
    let one : of seat (p ∷ []) ≡ p ∷ [] = ap (λ (b : Bool). cond b (p ∷ []) []) (eq-eqb p.seat seat same) in
    filter-append (is_of seat) all (p ∷ []) ∙ ap (λ (ps : List Post). of seat all ++ ps) one

pub of_else : (seat : ℕ) (all : List Post) (p : Post) → p.seat ≢ seat → of seat (all ++ p ∷ []) ≡ of seat all
of_else seat all p other =
    let none : of seat (p ∷ []) ≡ [] = ap (λ (b : Bool). cond b (p ∷ []) []) (ne_eqb p.seat seat other) in
    filter-append (is_of seat) all (p ∷ []) ∙ ap (λ (ps : List Post). of seat all ++ ps) none ∙ append-nil (of seat all)

-- where all posts are of other seats, none is of this one
pub of_none : (seat : ℕ) (all : List Post) → All (λ (p : Post). p.seat ≢ seat) all → of seat all ≡ []
of_none seat [] none = refl
of_none seat (p ∷ rest) none =
    let Differs : Post → Type 0 = λ (q : Post). q.seat ≢ seat in
    ap (λ (b : Bool). cond b (p ∷ of seat rest) (of seat rest)) (ne_eqb p.seat seat (All-head Differs p rest none))
    ∙ of_none seat rest (All-tail Differs p rest none)

-- ---- how many

abbrev is_other : ℕ → Post → Bool
is_other seat p = not (nat_eq p.seat seat)

abbrev others : ℕ → List Post → List Post
others seat ps = filter (is_other seat) ps

not_false : (b : Bool) → not b ≡ false → b ≡ true
not_false true e = refl
not_false false e = absurd (true≢false e)

skipped : (seat : ℕ) (p : Post) (keeps : Bool) (rs rest : List Post) → (keeps ≡ false → nat_eq p.seat seat ≡ false)
    → of seat rs ≡ of seat rest
    → of seat (cond keeps (p ∷ rs) rs) ≡ of seat (p ∷ rest)
skipped seat p true rs rest none same = ap (λ (ps : List Post). cond (nat_eq p.seat seat) (p ∷ ps) ps) same
skipped seat p false rs rest none same =
    same ∙ ap (λ (b : Bool). cond b (p ∷ of seat rest) (of seat rest)) (sym (none refl))

of_others : (seat gone : ℕ) (all : List Post) → seat ≢ gone → of seat (others gone all) ≡ of seat all
of_others seat gone [] other = refl
of_others seat gone (p ∷ rest) other =
    skipped seat p (is_other gone p) (others gone rest) rest
    (λ e. ne_eqb p.seat seat (λ is. other (sym is ∙ eqb-true p.seat gone (not_false (nat_eq p.seat gone) e))))
    (of_others seat gone rest other)

abbrev Brings : List Post → Sent → Type 0
Brings all sent = of sent.seat all ≡ sent.posts

-- there are not fewer posts than different seats put in
pub brought_count : (sents : List Sent) (all : List Post) → AreApart sents → All (Brings all) sents
    → sum_by (λ (s : Sent). length s.posts) sents ≤ length all
brought_count [] all apart brings = omega arith
brought_count (s ∷ rest) all apart brings =
    let Other : Sent → Type 0 = λ (t : Sent). t.seat ≢ s.seat in
    let further : All (Brings (others s.seat all)) rest =
    all_with Other (Brings all) (Brings (others s.seat all)) (λ t other is. of_others t.seat s.seat all other ∙ is) rest
    apart.0 (All-tail (Brings all) s rest brings) in
    let less = brought_count rest (others s.seat all) apart.1 further in
    let mine : length (of s.seat all) ≡ length s.posts = ap length (All-head (Brings all) s rest brings) in
    let parted : length (of s.seat all) + length (others s.seat all) ≡ length all =
    length-filter_both (is_of s.seat) (is_other s.seat) (λ p. refl) all in
    omega (arith, sum_by-cons (λ (t : Sent). length t.posts) s rest, less, mine, parted)
