-- Each step of the queue keeps the rule.
use Rattle.std.proofs.Common.{◌≡◌, ◌≢◌, ℕ, zero, suc, ◌<◌, ◌⊎◌, List, [], ◌∷◌, ◌++◌, length, set, arith, subst, sym}
use Rattle.std.proofs.Common.{refl, ap, ◌∙◌, inl, inr, ⊎_elim, length-set, append_assoc}
use Rattle.std.specs.List.{All}
use Rattle.std.proofs.lemmas.List.Elements.{All-cons, All-head, All-nil, All-push, All-tail, All-weaker}
use mathlib.Core.Option.{some, some-injective, some-ne-none}
use lib.ListN.{get_elem?}
use Rattle.atomic_table.proofs.Lists.{at_longer, at_set, set_else, set_here}
use Rattle.sbpl_postings.specs.Drained.{Drained}
use Rattle.sbpl_postings.specs.Known.{drained_of, sent_of, whole}
use Rattle.sbpl_postings.specs.Kept.{AreApart, AreBrought, AreKept, IsDrain, IsKept, IsSender, IsWhole}
use Rattle.sbpl_postings.specs.Posts.{of}
use Rattle.sbpl_postings.specs.Steps.{before_last, drained_with, ended_with, fresh_sender, last_of, none_made}
use Rattle.sbpl_postings.specs.Steps.{nothing_came, one_more, sent_with}
use Rattle.sbpl_postings.specs.declared.post.Post.{Post}
use Rattle.sbpl_postings.specs.declared.post.Sent.{Sent}
use Rattle.sbpl_postings.specs.declared.known.Known.{Known}
use Rattle.sbpl_postings.specs.declared.known.Known.TheVariants.{Nothing, One}
use Rattle.sbpl_postings.proofs.Places.{at_end, at_inside}
use Rattle.sbpl_postings.proofs.Counting.{all_with, brought_count, of_both, of_else, of_here, of_none}

abbrev Other : Sent → Sent → Type 0
Other sent other = other.seat ≢ sent.seat

-- a drain's pass and a sender's are not the same
not_both : (views : List Known) (place : ℕ) (now : Drained) (sent : Sent) → IsDrain views place now
    → IsSender views place sent → ⊥
not_both views place now sent drain sender = absurd (cc (some-injective (whole now) (One sent) (sym drain ∙ sender)))

-- what the drain's pass knows is what the rule has of it
pub kept_at : (items : List Post) (views : List Known) (place : ℕ) (now : Drained) → IsKept items views
    → IsDrain views place now → AreKept place now (now.came ++ items) views
kept_at items views place now (drain, was, kept) at =
    let here : place ≡ drain = kept.alone place now at in
    let there : get_elem? views drain ≡ some (whole now) =
    subst (λ (p : ℕ). get_elem? views p ≡ some (whole now)) here at in
    let same : was ≡ now = ap drained_of (some-injective (whole was) (whole now) (sym kept.drains ∙ there)) in
    subst (λ (p : ℕ). AreKept p now (now.came ++ items) views) (sym here)
    (subst (λ (d : Drained). AreKept drain d (d.came ++ items) views) same kept)

-- ---- nothing is made

alone_at_first : (other : ℕ) (than : Drained) → IsDrain (none_made ∷ []) other than → other ≡ 0
alone_at_first zero than is = refl
alone_at_first (suc other) than is = absurd (some-ne-none (whole than) (sym is))

none_at_first : (at : ℕ) (sent : Sent) → IsSender (none_made ∷ []) at sent → ⊥
none_at_first zero sent is = absurd (cc (some-injective none_made (One sent) is))
none_at_first (suc at) sent is = some-ne-none (One sent) (sym is)

pub first_kept : IsKept [] (none_made ∷ [])
first_kept = (
  0,
  nothing_came,
  record {
    drains = refl;
    alone = alone_at_first;
    live = λ at sent is. absurd (none_at_first at sent is);
    ended = All-nil (IsWhole 0 []);
    apart = λ a b x y other is also. absurd (none_at_first a x is);
    left = λ at sent is. absurd (none_at_first at sent is);
    differ = tt;
    below = All-nil (λ (p : Post). p.seat < 0);
  },
)

-- ---- a posting is put in

module _ (items : List Post) (views : List Known) (at : ℕ) (sent : Sent) (post : Post) (mine : post.seat ≡ sent.seat)
    (is : IsSender views at sent) where
  abbrev then : Sent
  then = sent_with sent post

  abbrev after : List Known
  after = set views at (One then)

  -- a sender now: the one that put it in, or another that was there
  sender_then : (seat : ℕ) (x : Sent) → IsSender after seat x
      → ((seat ≡ at) × (then ≡ x)) ⊎ ((seat ≢ at) × IsSender views seat x)
  sender_then seat x now =
      ⊎_elim
      (λ (here : (seat ≡ at) × (One then ≡ One x)). inl (here.0, ap sent_of here.1))
      (λ (there : (seat ≢ at) × IsSender views seat x). inr there)
      (at_set views at seat (One then) (One x) now)

  module _ (place : ℕ) (now : Drained) (all : List Post) (kept : AreKept place now all views) where
    aside : place ≢ at
    aside e = not_both views place now sent kept.drains (subst (λ (p : ℕ). IsSender views p sent) (sym e) is)

    abbrev more : List Post
    more = all ++ post ∷ []

    live_then : (seat : ℕ) (x : Sent) → IsSender after seat x → IsWhole now.made more x
    live_then seat x has =
        ⊎_elim
        (λ (here : (seat ≡ at) × (then ≡ x)).
        subst (IsWhole now.made more) here.1 (
          (kept.live at sent is).0,
          of_here sent.seat all post mine ∙ ap (λ (ps : List Post). ps ++ post ∷ []) (kept.live at sent is).1,
        ))
        (λ (there : (seat ≢ at) × IsSender views seat x).
        let other : post.seat ≢ x.seat =
        λ e. kept.apart at seat sent x (λ same. there.0 (sym same)) is there.1 (sym mine ∙ e) in
        ((kept.live seat x there.1).0, of_else x.seat all post other ∙ (kept.live seat x there.1).1))
        (sender_then seat x has)

    apart_then : (a b : ℕ) (x y : Sent) → a ≢ b → IsSender after a x → IsSender after b y → x.seat ≢ y.seat
    apart_then a b x y differ has also =
        ⊎_elim
        (λ (here : (a ≡ at) × (then ≡ x)).
        ⊎_elim
        (λ (same : (b ≡ at) × (then ≡ y)). absurd (differ (here.0 ∙ sym same.0)))
        (λ (there : (b ≢ at) × IsSender views b y).
        λ e. kept.apart at b sent y (λ same. there.0 (sym same)) is there.1 (ap (λ (s : Sent). s.seat) here.1 ∙ e))
        (sender_then b y also))
        (λ (there : (a ≢ at) × IsSender views a x).
        ⊎_elim
        (λ (same : (b ≡ at) × (then ≡ y)).
        λ e. kept.apart a at x sent there.0 there.1 is (e ∙ sym (ap (λ (s : Sent). s.seat) same.1)))
        (λ (far : (b ≢ at) × IsSender views b y). kept.apart a b x y differ there.1 far.1)
        (sender_then b y also))
        (sender_then a x has)

    left_then : (seat : ℕ) (x : Sent) → IsSender after seat x → All (Other x) now.ended
    left_then seat x has =
        ⊎_elim
        (λ (here : (seat ≡ at) × (then ≡ x)).
        subst (λ (s : Sent). All (Other s) now.ended) here.1 (kept.left at sent is))
        (λ (there : (seat ≢ at) × IsSender views seat x). kept.left seat x there.1)
        (sender_then seat x has)

    pub pushed_then : AreKept place now more after
    pushed_then = record {
      drains = set_else views at place (One then) aside ∙ kept.drains;
      alone = λ other than drain.
          ⊎_elim
          (λ (here : (other ≡ at) × (One then ≡ whole than)). absurd (cc (here.1)))
          (λ (there : (other ≢ at) × IsDrain views other than). kept.alone other than there.1)
          (at_set views at other (One then) (whole than) drain);
      live = live_then;
      ended = all_with (Other sent) (IsWhole now.made all) (IsWhole now.made more)
          (λ e other whole. (whole.0, of_else e.seat all post (λ same. other (sym same ∙ mine)) ∙ whole.1)) now.ended
          (kept.left at sent is) kept.ended;
      apart = apart_then;
      left = left_then;
      differ = kept.differ;
      below =
          All-push (λ (p : Post). p.seat < now.made) all post kept.below
          (let fits : sent.seat < now.made = (kept.live at sent is).0 in omega (arith, mine));
    }

  pub pushed_kept : IsKept items views → IsKept (items ++ post ∷ []) after
  pushed_kept (place, now, kept) = (
    place,
    now,
    subst (λ (all : List Post). AreKept place now all after) (append_assoc now.came items (post ∷ []))
        (pushed_then place now (now.came ++ items) kept),
  )

-- ---- a posting is taken out

module _ (items : List Post) (views : List Known) (place : ℕ) (now : Drained) (post : Post)
    (kept : AreKept place now (now.came ++ post ∷ items) views) where
  abbrev taken : Drained
  taken = drained_with now post

  abbrev less : List Known
  less = set views place (whole taken)

  sender_kept : (at : ℕ) (x : Sent) → IsSender less at x → (at ≢ place) × IsSender views at x
  sender_kept at x is =
      ⊎_elim
      (λ (here : (at ≡ place) × (whole taken ≡ One x)). absurd (cc (here.1)))
      (λ (there : (at ≢ place) × IsSender views at x). there)
      (at_set views place at (whole taken) (One x) is)

  popped_same : AreKept place taken (now.came ++ post ∷ items) less
  popped_same = record {
    drains = set_here views place (whole taken) (at_inside views place (whole now) kept.drains);
    alone = λ other than drain.
        ⊎_elim
        (λ (here : (other ≡ place) × (whole taken ≡ whole than)). here.0)
        (λ (there : (other ≢ place) × IsDrain views other than). kept.alone other than there.1)
        (at_set views place other (whole taken) (whole than) drain);
    live = λ at x is. kept.live at x (sender_kept at x is).1;
    ended = kept.ended;
    apart = λ a b x y differ is also. kept.apart a b x y differ (sender_kept a x is).1 (sender_kept b y also).1;
    left = λ at x is. kept.left at x (sender_kept at x is).1;
    differ = kept.differ;
    below = kept.below;
  }

  pub popped_kept : IsKept items less
  popped_kept = (
    place,
    taken,
    subst (λ (all : List Post). AreKept place taken all less)
        (sym (append_assoc now.came (post ∷ []) items)) popped_same,
  )

-- ---- a pass is split off the drain's, which then knows this: a sender's

module _ (views : List Known) (place : ℕ) (then : Drained) (sent : Sent) where
  abbrev split : List Known
  split = set views place (whole then) ++ One sent ∷ []

  -- a sender now: one that was there, or the new one
  sender_now : (at : ℕ) (x : Sent) → IsSender split at x → IsSender views at x ⊎ ((at ≡ length views) × (sent ≡ x))
  sender_now at x is =
      ⊎_elim
      (λ (earlier : IsSender (set views place (whole then)) at x).
      ⊎_elim
      (λ (here : (at ≡ place) × (whole then ≡ One x)). absurd (cc (here.1)))
      (λ (there : (at ≢ place) × IsSender views at x). inl there.1)
      (at_set views place at (whole then) (One x) earlier))
      (λ (last : (at ≡ length (set views place (whole then))) × (One sent ≡ One x)).
      inr (last.0 ∙ length-set views place (whole then), ap sent_of last.1))
      (at_end (set views place (whole then)) (One sent) (One x) at is)

  drains_now : place < length views → IsDrain split place then
  drains_now inside =
      at_longer (set views place (whole then)) (One sent ∷ []) place (whole then)
      (set_here views place (whole then) inside)

  alone_now : ((other : ℕ) (than : Drained) → IsDrain views other than → other ≡ place) → (other : ℕ) (than : Drained)
      → IsDrain split other than → other ≡ place
  alone_now alone other than drain =
      ⊎_elim
      (λ (earlier : IsDrain (set views place (whole then)) other than).
      ⊎_elim
      (λ (here : (other ≡ place) × (whole then ≡ whole than)). here.0)
      (λ (there : (other ≢ place) × IsDrain views other than). alone other than there.1)
      (at_set views place other (whole then) (whole than) earlier))
      (λ (last : (other ≡ length (set views place (whole then))) × (One sent ≡ whole than)). absurd (cc (last.1)))
      (at_end (set views place (whole then)) (One sent) (whole than) other drain)

  apart_now : ((a b : ℕ) (x y : Sent) → a ≢ b → IsSender views a x → IsSender views b y → x.seat ≢ y.seat)
      → ((a : ℕ) (x : Sent) → IsSender views a x → sent.seat ≢ x.seat) → (a b : ℕ) (x y : Sent) → a ≢ b
      → IsSender split a x → IsSender split b y → x.seat ≢ y.seat
  apart_now apart new a b x y differ is also =
      ⊎_elim
      (λ (first : IsSender views a x).
      ⊎_elim
      (λ (second : IsSender views b y). apart a b x y differ first second)
      (λ (here : (b ≡ length views) × (sent ≡ y)).
      λ e. new a x first (ap (λ (s : Sent). s.seat) here.1 ∙ sym e))
      (sender_now b y also))
      (λ (here : (a ≡ length views) × (sent ≡ x)).
      ⊎_elim
      (λ (second : IsSender views b y). λ e. new b y second (ap (λ (s : Sent). s.seat) here.1 ∙ e))
      (λ (both : (b ≡ length views) × (sent ≡ y)). absurd (differ (here.0 ∙ sym both.0)))
      (sender_now b y also))
      (sender_now a x is)

  -- what holds of the senders that were there and of the new one holds of all
  each_now : (P : Sent → Type 0) → ((at : ℕ) (x : Sent) → IsSender views at x → P x) → P sent → (at : ℕ) (x : Sent)
      → IsSender split at x → P x
  each_now P earlier new at x is =
      ⊎_elim
      (λ (was : IsSender views at x). earlier at x was)
      (λ (here : (at ≡ length views) × (sent ≡ x)). subst P here.1 new)
      (sender_now at x is)

-- ---- a sender is made

module _ (items : List Post) (views : List Known) (place : ℕ) (now : Drained)
    (kept : AreKept place now (now.came ++ items) views) where
  abbrev next : Drained
  next = one_more now

  abbrev fresh : Sent
  fresh = fresh_sender now

  abbrev all : List Post
  all = now.came ++ items

  older : (at : ℕ) (x : Sent) → IsSender views at x → x.seat < now.made
  older at x is = (kept.live at x is).0

  none_yet : of now.made all ≡ []
  none_yet =
      of_none now.made all (All-weaker (λ (p : Post). p.seat < now.made) (λ (p : Post). p.seat ≢ now.made)
      (λ p less e. omega (arith, less, e)) all kept.below)

  newest : (at : ℕ) (x : Sent) → IsSender views at x → fresh.seat ≢ x.seat
  newest at x is e = let less = older at x is in omega (arith, less, e)

  wider : (sent : Sent) → IsWhole now.made all sent → IsWhole next.made all sent
  wider sent is = (let less = is.0 in omega (arith, less), is.1)

  pub seated_kept : IsKept items (set views place (whole next) ++ One fresh ∷ [])
  seated_kept = (
    place,
    next,
    record {
      drains = drains_now views place next fresh (at_inside views place (whole now) kept.drains);
      alone = alone_now views place next fresh kept.alone;
      live = each_now views place next fresh (IsWhole next.made all) (λ at x is. wider x (kept.live at x is))
          (omega arith, none_yet);
      ended = All-weaker (IsWhole now.made all) (IsWhole next.made all) wider now.ended kept.ended;
      apart = apart_now views place next fresh kept.apart newest;
      left = each_now views place next fresh (λ (s : Sent). All (Other s) now.ended) kept.left
          (All-weaker (IsWhole now.made all) (Other fresh)
          (λ s whole e. let less = whole.0 in omega (arith, less, e)) now.ended kept.ended);
      differ = kept.differ;
      below =
          All-weaker (λ (p : Post). p.seat < now.made) (λ (p : Post). p.seat < next.made)
          (λ p less. omega (arith, less)) all kept.below;
    },
  )

-- ---- a sender goes on that ended last

pub last_ended : (ended : List Sent) → 0 < length ended → ended ≡ last_of ended ∷ before_last ended
last_ended [] has = absurd (omega (arith, has))
last_ended (sent ∷ rest) has = refl

module _ (items : List Post) (views : List Known) (place : ℕ) (now : Drained) (sent : Sent) (rest : List Sent)
    (last : now.ended ≡ sent ∷ rest) (kept : AreKept place now (now.came ++ items) views) where
  abbrev fewer_ended : Drained
  fewer_ended = record now { ended = rest }

  abbrev Wholes : Sent → Type 0
  Wholes = IsWhole now.made (now.came ++ items)

  wholes : All Wholes (sent ∷ rest)
  wholes = subst (All Wholes) last kept.ended

  others : (at : ℕ) (x : Sent) → IsSender views at x → All (Other x) (sent ∷ rest)
  others at x is = subst (All (Other x)) last (kept.left at x is)

  apart_ended : AreApart (sent ∷ rest)
  apart_ended = subst AreApart last kept.differ

  pub recalled_kept : IsKept items (set views place (whole fewer_ended) ++ One sent ∷ [])
  recalled_kept = (
    place,
    fewer_ended,
    record {
      drains = drains_now views place fewer_ended sent (at_inside views place (whole now) kept.drains);
      alone = alone_now views place fewer_ended sent kept.alone;
      live = each_now views place fewer_ended sent Wholes kept.live (All-head Wholes sent rest wholes);
      ended = All-tail Wholes sent rest wholes;
      apart = apart_now views place fewer_ended sent kept.apart
          (λ at x is. All-head (Other x) sent rest (others at x is));
      left = each_now views place fewer_ended sent (λ (s : Sent). All (Other s) rest)
          (λ at x is. All-tail (Other x) sent rest (others at x is)) apart_ended.0;
      differ = apart_ended.1;
      below = kept.below;
    },
  )

-- ---- a pass is made that knows nothing

module _ (items : List Post) (views : List Known) where
  sender_before : (at : ℕ) (x : Sent) → IsSender (views ++ Nothing ∷ []) at x → IsSender views at x
  sender_before at x is =
      ⊎_elim
      (λ (earlier : IsSender views at x). earlier)
      (λ (last : (at ≡ length views) × (Nothing ≡ One x)). absurd (cc (last.1)))
      (at_end views Nothing (One x) at is)

  drain_before : (at : ℕ) (than : Drained) → IsDrain (views ++ Nothing ∷ []) at than → IsDrain views at than
  drain_before at than is =
      ⊎_elim
      (λ (earlier : IsDrain views at than). earlier)
      (λ (last : (at ≡ length views) × (Nothing ≡ whole than)). absurd (cc (last.1)))
      (at_end views Nothing (whole than) at is)

  pub spare_kept : IsKept items views → IsKept items (views ++ Nothing ∷ [])
  spare_kept (place, now, kept) = (
    place,
    now,
    record {
      drains = at_longer views (Nothing ∷ []) place (whole now) kept.drains;
      alone = λ other than drain. kept.alone other than (drain_before other than drain);
      live = λ at x is. kept.live at x (sender_before at x is);
      ended = kept.ended;
      apart = λ a b x y differ is also. kept.apart a b x y differ (sender_before a x is) (sender_before b y also);
      left = λ at x is. kept.left at x (sender_before at x is);
      differ = kept.differ;
      below = kept.below;
    },
  )

-- ---- a sender has ended

module _ (items : List Post) (views : List Known) (place : ℕ) (now : Drained) (at : ℕ) (sent : Sent)
    (kept : AreKept place now (now.came ++ items) views) (other : ¬ (at ≡ place))
    (there : IsSender (set views place (whole (ended_with now sent))) at sent) where
  abbrev gone : Drained
  gone = ended_with now sent

  abbrev fewer : List Known
  fewer = set (set views place (whole gone)) at Nothing

  was : IsSender views at sent
  was = sym (set_else views place at (whole gone) other) ∙ there

  sender_left : (seat : ℕ) (x : Sent) → IsSender fewer seat x → (seat ≢ at) × IsSender views seat x
  sender_left seat x is =
      ⊎_elim
      (λ (here : (seat ≡ at) × (Nothing ≡ One x)). absurd (cc (here.1)))
      (λ (rest : (seat ≢ at) × IsSender (set views place (whole gone)) seat x).
      ⊎_elim
      (λ (drain : (seat ≡ place) × (whole gone ≡ One x)). absurd (cc (drain.1)))
      (λ (far : (seat ≢ place) × IsSender views seat x). (rest.0, far.1))
      (at_set views place seat (whole gone) (One x) rest.1))
      (at_set (set views place (whole gone)) at seat Nothing (One x) is)

  pub joined_kept : IsKept items fewer
  joined_kept = (
    place,
    gone,
    record {
      drains =
          set_else (set views place (whole gone)) at place Nothing (λ e. other (sym e))
          ∙ set_here views place (whole gone) (at_inside views place (whole now) kept.drains);
      alone = λ seat than drain.
          ⊎_elim
          (λ (here : (seat ≡ at) × (Nothing ≡ whole than)). absurd (cc (here.1)))
          (λ (rest : (seat ≢ at) × IsDrain (set views place (whole gone)) seat than).
          ⊎_elim
          (λ (mine : (seat ≡ place) × (whole gone ≡ whole than)). mine.0)
          (λ (far : (seat ≢ place) × IsDrain views seat than). kept.alone seat than far.1)
          (at_set views place seat (whole gone) (whole than) rest.1))
          (at_set (set views place (whole gone)) at seat Nothing (whole than) drain);
      live = λ seat x is. kept.live seat x (sender_left seat x is).1;
      ended = All-cons (IsWhole now.made (now.came ++ items)) sent now.ended (kept.live at sent was) kept.ended;
      apart = λ a b x y differ is also. kept.apart a b x y differ (sender_left a x is).1 (sender_left b y also).1;
      left = λ seat x is.
          let left = sender_left seat x is in
          All-cons (Other x) sent now.ended (kept.apart at seat sent x (λ e. left.0 (sym e)) was left.1)
          (kept.left seat x left.1);
      differ = (kept.left at sent was, kept.differ);
      below = kept.below;
    },
  )

-- ---- what the rule tells the drain

pub brought : (items : List Post) (views : List Known) (place : ℕ) (now : Drained)
    → AreKept place now (now.came ++ items) views → AreBrought now items
brought items views place now kept =
    let all : List Post = now.came ++ items in
    let Brings : Sent → Type 0 = λ (s : Sent). of s.seat all ≡ s.posts in
    let each : All Brings now.ended =
    All-weaker (IsWhole now.made all) Brings (λ s whole. whole.1) now.ended kept.ended in
    record { each = each; count = brought_count now.ended all kept.differ each }

-- ---- what the rule says of a sender that has not ended

pub in_order : (items : List Post) (views : List Known) (place at : ℕ) (now : Drained) (sent : Sent)
    → IsKept items views → IsDrain views place now → IsSender views at sent
    → of sent.seat now.came ++ of sent.seat items ≡ sent.posts
in_order items views place at now sent kept drain sender =
    sym (of_both sent.seat now.came items) ∙ ((kept_at items views place now kept drain).live at sent sender).1
