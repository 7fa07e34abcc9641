-- Each step of the cell keeps the rule.
use Rattle.std.proofs.Common.{◌≡◌, ◌≢◌, ℕ, zero, suc, ◌+◌, ◌≤◌, max, Option, Some, None, List, [], ◌∷◌, ◌++◌, length}
use Rattle.std.proofs.Common.{length-append, set, arith, subst, sym, refl, ap, ◌∙◌, ⊎_elim}
use mathlib.Core.Option.{some, some-injective, some-ne-none}
use lib.ListN.{get_elem?}
use Rattle.atomic_table.proofs.Lists.{at_longer, at_set, at_snoc, set_again, set_else, set_here}
use Rattle.sbpl_incumbent.specs.declared.entry.Entry.{Entry}
use Rattle.sbpl_incumbent.specs.declared.known.Known.{Known}
use Rattle.sbpl_incumbent.specs.declared.known.Known.TheVariants.{Notes, Nothing, Publishes, Reads}
use Rattle.sbpl_incumbent.specs.Entries.{IsHistory, IsPublished, found, newest, no_entry}
use Rattle.sbpl_incumbent.specs.Kept.{AreKept, IsKept, IsPublisher, IsReader, IsSound}
use Rattle.sbpl_incumbent.specs.Known.{as_note, as_publisher, as_reader, got_of, joined_of, list_of, number_of}
use Rattle.sbpl_incumbent.specs.Known.{published_of, publishes, told_of, with_joined}
use Rattle.sbpl_incumbent.specs.Slips.{IsFit}
use Rattle.sbpl_incumbent.specs.Steps.{IsLoaded, IsSettled, got_with, joined, learnt, none_got}
use Rattle.sbpl_incumbent.specs.Steps.{none_published, note_of, published_with}
use Rattle.sbpl_incumbent.proofs.Places.{at_inside}
use Rattle.sbpl_incumbent.proofs.Histories.{as_new, held_newest, history_longer, history_push}
use Rattle.sbpl_incumbent.proofs.Histories.{none_history, none_numbered, numbered_last}

abbrev List? : Type 0
List? = Option (List Entry)

-- it is not the publisher's
abbrev IsOther : Known → Type 0
IsOther v = (published : List Entry) (list : List?) → v ≢ Publishes published list

-- ---- nothing was published

alone_at_first : (pass : ℕ) (other : List Entry) (list : List?)
    → IsPublisher (none_published ∷ []) pass other list → pass ≡ 0
alone_at_first zero other list is = refl
alone_at_first (suc pass) other list is = absurd (some-ne-none (Publishes other list) (sym is))

sound_at_first : (pass : ℕ) (v : Known) → get_elem? (none_published ∷ []) pass ≡ some v → IsSound [] v
sound_at_first zero v at = subst (IsSound []) (some-injective none_published v at) (none_history [])
sound_at_first (suc pass) v at = absurd (some-ne-none v (sym at))

pub first_kept : IsKept no_entry (none_published ∷ [])
first_kept = (
  0,
  [],
  None,
  record {
    publishes = refl;
    alone = alone_at_first;
    last = refl;
    held = refl;
    fit = record { plan = omega arith; pass = omega arith; bound = omega arith };
    sound = sound_at_first;
  },
)

-- ---- what the publisher's pass knows is what the rule has of it

pub kept_at : (cell : Entry) (views : List Known) (at : ℕ) (published : List Entry) (joined : List?) → IsKept cell views
    → IsPublisher views at published joined
    → AreKept at published joined cell views
kept_at cell views at published joined (publisher, was, list, kept) is =
    let here : at ≡ publisher = kept.alone at published joined is in
    let there : get_elem? views publisher ≡ some (Publishes published joined) =
    subst (λ (p : ℕ). get_elem? views p ≡ some (Publishes published joined)) here is in
    let same : Publishes was list ≡ Publishes published joined =
    some-injective (Publishes was list) (Publishes published joined) (sym kept.publishes ∙ there) in
    let logs : was ≡ published = ap published_of same in
    record {
      publishes = is;
      alone = λ pass other one of. kept.alone pass other one of ∙ sym here;
      last = kept.last ∙ ap length logs;
      held = subst (λ (l : List Entry). IsPublished l cell) logs kept.held;
      fit = kept.fit;
      sound = λ pass v at. subst (λ (l : List Entry). IsSound l v) logs (kept.sound pass v at);
    }

-- ---- the publisher's view changes, and the list of published entries stays

module _ (cell : Entry) (views : List Known) (at : ℕ) (published : List Entry) (was : List?)
    (kept : AreKept at published was cell views) where
  pub publisher_kept : (now : List?) → IsHistory published (list_of now)
      → AreKept at published now cell (set views at (Publishes published now))
  publisher_kept now history =
      let w : Known = Publishes published now in
      record {
        publishes = set_here views at w (at_inside views at (Publishes published was) kept.publishes);
        alone = λ pass other list is.
            ⊎_elim
            (λ (here : (pass ≡ at) × (w ≡ Publishes other list)). here.0)
            (λ (there : (pass ≢ at) × IsPublisher views pass other list). kept.alone pass other list there.1)
            (at_set views at pass w (Publishes other list) is);
        last = kept.last;
        held = kept.held;
        fit = kept.fit;
        sound = λ pass v is.
            ⊎_elim
            (λ (here : (pass ≡ at) × (w ≡ v)). subst (IsSound published) here.1 history)
            (λ (there : (pass ≢ at) × (get_elem? views pass ≡ some v)). kept.sound pass v there.1)
            (at_set views at pass w v is);
      }

-- ---- the view of another pass changes

module _ (cell : Entry) (views : List Known) (publisher : ℕ) (published : List Entry) (list : List?)
    (kept : AreKept publisher published list cell views) where
  pub other_kept : (at : ℕ) (v w : Known) → get_elem? views at ≡ some v → IsOther v → IsOther w → IsSound published w
      → AreKept publisher published list cell (set views at w)
  other_kept at v w is other still sound =
      let aside : publisher ≢ at = λ e.
      other published list (some-injective v (Publishes published list)
      (sym is ∙ subst (λ (p : ℕ). get_elem? views p ≡ some (Publishes published list)) e kept.publishes)) in
      record {
        publishes = set_else views at publisher w aside ∙ kept.publishes;
        alone = λ pass than one has.
            ⊎_elim
            (λ (here : (pass ≡ at) × (w ≡ Publishes than one)). absurd (still than one here.1))
            (λ (there : (pass ≢ at) × IsPublisher views pass than one). kept.alone pass than one there.1)
            (at_set views at pass w (Publishes than one) has);
        last = kept.last;
        held = kept.held;
        fit = kept.fit;
        sound = λ pass u has.
            ⊎_elim
            (λ (here : (pass ≡ at) × (w ≡ u)). subst (IsSound published) here.1 sound)
            (λ (there : (pass ≢ at) × (get_elem? views pass ≡ some u)). kept.sound pass u there.1)
            (at_set views at pass w u has);
      }

  -- a pass is made
  pub more_kept : (w : Known) → IsOther w → IsSound published w
      → AreKept publisher published list cell (views ++ w ∷ [])
  more_kept w other sound = record {
    publishes = at_longer views (w ∷ []) publisher (Publishes published list) kept.publishes;
    alone = λ pass than one has.
        ⊎_elim
        (λ (earlier : IsPublisher views pass than one). kept.alone pass than one earlier)
        (λ (new : w ≡ Publishes than one). absurd (other than one new))
        (at_snoc views w (Publishes than one) pass has);
    last = kept.last;
    held = kept.held;
    fit = kept.fit;
    sound = λ pass u has.
        ⊎_elim
        (λ (earlier : get_elem? views pass ≡ some u). kept.sound pass u earlier)
        (λ (new : w ≡ u). subst (IsSound published) new sound)
        (at_snoc views w u pass has);
  }

-- ---- an entry is published

sound_longer : (published : List Entry) (x : Entry) (v : Known) → IsSound published v → IsSound (published ++ x ∷ []) v
sound_longer published x (Publishes own list) sound = history_longer published (list_of list) x sound
sound_longer published x (Reads got told) sound =
    (history_longer published got x sound.0, let less = sound.1 in omega (arith, length-append published (x ∷ [])))
sound_longer published x (Notes number) sound = omega (arith, length-append published (x ∷ []))
sound_longer published x Nothing sound = tt

pub published_kept : (cell entry : Entry) (views : List Known) (at : ℕ) (published : List Entry)
    → AreKept at published None cell views → entry.number ≡ length published + 1 → IsFit entry
    → AreKept at (published ++ entry ∷ []) None entry (set views at (publishes (published ++ entry ∷ [])))
published_kept cell entry views at published kept next fit =
    let more : List Entry = published ++ entry ∷ [] in
    let w : Known = publishes more in
    record {
      publishes = set_here views at w (at_inside views at (publishes published) kept.publishes);
      alone = λ pass other list is.
          ⊎_elim
          (λ (here : (pass ≡ at) × (w ≡ Publishes other list)). here.0)
          (λ (there : (pass ≢ at) × IsPublisher views pass other list). kept.alone pass other list there.1)
          (at_set views at pass w (Publishes other list) is);
      last = omega (arith, length-append published (entry ∷ []));
      held = numbered_last entry.number published entry next;
      fit = fit;
      sound = λ pass v is.
          ⊎_elim
          (λ (here : (pass ≡ at) × (w ≡ v)). subst (IsSound more) here.1 (none_history more))
          (λ (there : (pass ≢ at) × (get_elem? views pass ≡ some v)).
          sound_longer published entry v (kept.sound pass v there.1))
          (at_set views at pass w v is);
    }

-- ---- no other pass is the publisher's

reads_other : (got : List Entry) (told : ℕ) → IsOther (Reads got told)
reads_other got told published list e = absurd (cc (e))

notes_other : (number : ℕ) → IsOther (Notes number)
notes_other number published list e = absurd (cc (e))

nothing_other : IsOther Nothing
nothing_other published list e = absurd (cc (e))

-- ---- the steps, from what the passes know

module _ (cell : Entry) (views : List Known) (at : ℕ) (v : Known) (kept : IsKept cell views)
    (is : get_elem? views at ≡ some v) where
  module _ (mine : v ≡ as_publisher v) where
    own : AreKept at (published_of v) None cell views
    own = kept_at cell views at (published_of v) None kept (is ∙ ap some mine)

    pub publish_step : (entry : Entry) → entry.number ≡ length (published_of v) + 1 → IsFit entry
        → IsKept entry (set views at (published_with v entry))
    publish_step entry next fit =
        (at, published_of v ++ entry ∷ [], None, published_kept cell entry views at (published_of v) own next fit)

    same : AreKept at (published_of v) None cell (set views at v)
    same = subst (λ (vs : List Known). AreKept at (published_of v) None cell vs) (sym (set_again views at v is)) own

    pub reader_step : IsKept cell (set views at v ++ none_got ∷ [])
    reader_step = (
      at,
      published_of v,
      None,
      more_kept cell (set views at v) at (published_of v) None same none_got (reads_other [] 0)
          (none_history (published_of v), omega arith),
    )

    pub note_step : IsKept cell (set views at v ++ note_of v ∷ [])
    note_step = (
      at,
      published_of v,
      None,
      more_kept cell (set views at v) at (published_of v) None same (note_of v)
          (notes_other (length (published_of v))) (omega arith),
    )

    pub join_step : (reader : ℕ) (w : Known) → w ≡ as_reader w → ¬ (reader ≡ at)
        → get_elem? (set views at (joined v w)) reader ≡ some w
        → IsKept cell (set (set views at (joined v w)) reader Nothing)
    join_step reader w one apart there =
        let now : List? = Some (got_of w) in
        let before : get_elem? views reader ≡ some w = sym (set_else views at reader (joined v w) apart) ∙ there in
        let sound : IsSound (published_of v) (as_reader w) = own.sound reader (as_reader w) (before ∙ ap some one) in
        let both : AreKept at (published_of v) now cell (set views at (joined v w)) =
        publisher_kept cell views at (published_of v) None own now sound.0 in (
          at,
          published_of v,
          now,
          other_kept cell (set views at (joined v w)) at (published_of v) now both reader (as_reader w) Nothing
              (there ∙ ap some one) (reads_other (got_of w) (told_of w)) nothing_other tt,
        )

  pub settle_step : v ≡ with_joined v → IsKept cell (set views at (as_publisher v)) × IsSettled v (as_publisher v)
  settle_step mine =
      let now : List? = Some (joined_of v) in
      let held : AreKept at (published_of v) now cell views =
      kept_at cell views at (published_of v) now kept (is ∙ ap some mine) in (
        (
          at,
          published_of v,
          None,
          publisher_kept cell views at (published_of v) now held None (none_history (published_of v)),
        ),
        record { history = held.sound at (with_joined v) (is ∙ ap some mine); settled = refl },
      )

  module _ (mine : v ≡ as_reader v) where
    there : get_elem? views at ≡ some (as_reader v)
    there = is ∙ ap some mine

    pub load_step : IsKept cell (set views at (got_with v cell)) × IsLoaded v cell (got_with v cell)
    load_step = go kept
      where
        go : IsKept cell views → IsKept cell (set views at (got_with v cell)) × IsLoaded v cell (got_with v cell)
        go (publisher, published, list, held) =
            let sound : IsSound published (as_reader v) = held.sound at (as_reader v) there in
            let longer = history_push published (got_of v) cell sound.0 held.last held.held in (
              (
                publisher,
                published,
                list,
                other_kept cell views publisher published list held at (as_reader v) (got_with v cell) there
                    (reads_other (got_of v) (told_of v))
                    (reads_other (got_of v ++ cell ∷ []) (told_of v)) (longer, sound.1),
              ),
              record {
                fit = held.fit;
                none = none_numbered cell.number published cell held.held;
                as_new = as_new published (got_of v) cell sound.0 held.last held.held (told_of v) sound.1;
                got = refl;
              },
            )

    pub move_step : IsKept cell (set views at Nothing ++ v ∷ [])
    move_step = go kept
      where
        go : IsKept cell views → IsKept cell (set views at Nothing ++ v ∷ [])
        go (publisher, published, list, held) =
            let sound : IsSound published (as_reader v) = held.sound at (as_reader v) there in
            let less =
            other_kept cell views publisher published list held at (as_reader v) Nothing there
            (reads_other (got_of v) (told_of v)) nothing_other tt in (
              publisher,
              published,
              list,
              subst (λ (u : Known). AreKept publisher published list cell (set views at Nothing ++ u ∷ [])) (sym mine)
                  (more_kept cell (set views at Nothing) publisher published list less (as_reader v)
                  (reads_other (got_of v) (told_of v)) sound),
            )

    pub learn_step : (note : ℕ) (w : Known) → w ≡ as_note w → ¬ (note ≡ at)
        → get_elem? (set views at (learnt v w)) note ≡ some w
        → IsKept cell (set (set views at (learnt v w)) note Nothing)
    learn_step note w one apart found = go kept
      where
        before : get_elem? views note ≡ some w
        before = sym (set_else views at note (learnt v w) apart) ∙ found

        go : IsKept cell views → IsKept cell (set (set views at (learnt v w)) note Nothing)
        go (publisher, published, list, held) =
            let sound : IsSound published (as_reader v) = held.sound at (as_reader v) there in
            let noted : number_of w ≤ length published = held.sound note (as_note w) (before ∙ ap some one) in
            let told : told_of v ≤ length published = sound.1 in
            let both : AreKept publisher published list cell (set views at (learnt v w)) =
            other_kept cell views publisher published list held at (as_reader v) (learnt v w) there
            (reads_other (got_of v) (told_of v)) (reads_other (got_of v) (max (told_of v) (number_of w)))
            (sound.0, omega arith) in (
              publisher,
              published,
              list,
              other_kept cell (set views at (learnt v w)) publisher published list both note (as_note w) Nothing
                  (found ∙ ap some one) (notes_other (number_of w)) nothing_other tt,
            )

-- ---- what the rule says of the board and of a reader

pub cell_newest : (cell : Entry) (views : List Known) (at : ℕ) (published : List Entry) (joined : List?)
    → IsKept cell views → IsPublisher views at published joined
    → cell ≡ found (newest published)
cell_newest cell views at published joined kept is =
    let own = kept_at cell views at published joined kept is in held_newest cell.number published cell own.last own.held

pub reader_sound : (cell : Entry) (views : List Known) (at reader : ℕ) (published got : List Entry) (joined : List?)
    (told : ℕ) → IsKept cell views → IsPublisher views at published joined
    → IsReader views reader got told → IsHistory published got × (told ≤ cell.number)
reader_sound cell views at reader published got joined told kept is reads =
    let own = kept_at cell views at published joined kept is in
    let sound : IsSound published (Reads got told) = own.sound reader (Reads got told) reads in
    let less : told ≤ length published = sound.1 in
    (sound.0, omega (arith, own.last))
