-- The steps of the queue, over the postings that it holds.
use Rattle.std.proofs.Common.{◌≡◌, ℕ, ◌<◌, List, [], ◌∷◌, ◌++◌, length, map, set, subst, sym, refl, ap, ◌∙◌}
use Rattle.std.proofs.lemmas.List.{map-append}
use mathlib.Core.Option.{some}
use Rattle.atomic_table.proofs.Lists.{set_again}
use Rattle.crossbeam_queue.specs.Fifo.{Forks, Learns, Merges, Pops, Pushes}
use Rattle.sbpl_postings.specs.Known.{drained_of, sent_of, whole}
use Rattle.sbpl_postings.specs.Kept.{AreBrought, IsKept}
use Rattle.sbpl_postings.specs.Steps.{before_last, joined, last_of, popped, pushed, recalled, seated}
use Rattle.sbpl_postings.specs.Steps.{sender_made, sender_recalled}
use Rattle.sbpl_postings.specs.declared.post.Post.{Post}
use Rattle.sbpl_postings.specs.declared.known.Known.{Known}
use Rattle.sbpl_postings.specs.declared.known.Known.TheVariants.{Nothing, One}
use Rattle.sbpl_postings.proofs.Keeping.{brought, joined_kept, kept_at, last_ended, popped_kept, pushed_kept}
use Rattle.sbpl_postings.proofs.Keeping.{recalled_kept, seated_kept, spare_kept}

module _ {T : Type 0} (f : T → Post) where
  abbrev Holds : List T → List Known → Type 0
  Holds items views = IsKept (map f items) views

  pub pushes : (n at : ℕ) (v : Known) (x : T) → v ≡ One (sent_of v) → (f x).seat ≡ (sent_of v).seat
      → Pushes Holds n at v x (λ w. w ≡ pushed v (f x))
  pushes n at v x one mine items views room kept is = (
    pushed v (f x),
    subst (λ (posts : List Post). IsKept posts (set views at (pushed v (f x)))) (sym (map-append f items (x ∷ [])))
        (pushed_kept (map f items) views at (sent_of v) (f x) mine (is ∙ ap some one) kept),
    refl,
  )

  pub pops : (at : ℕ) (v : Known) → v ≡ whole (drained_of v) → Pops Holds at v (λ x w. w ≡ popped v (f x))
  pops at v all x items views kept is = (
    popped v (f x),
    popped_kept (map f items) views at (drained_of v) (f x)
        (kept_at (f x ∷ map f items) views at (drained_of v) kept (is ∙ ap some all)),
    refl,
  )

  pub learns : (at : ℕ) (v : Known) → v ≡ whole (drained_of v)
      → Learns Holds at v (λ items. AreBrought (drained_of v) (map f items))
  learns at v all items views kept is =
      brought (map f items) views at (drained_of v)
      (kept_at (map f items) views at (drained_of v) kept (is ∙ ap some all))

  pub forks : (at : ℕ) (v : Known) → v ≡ whole (drained_of v) → Forks Holds at v (seated v) (sender_made v)
  forks at v all items views kept is =
      seated_kept (map f items) views at (drained_of v)
      (kept_at (map f items) views at (drained_of v) kept (is ∙ ap some all))

  pub spares : (at : ℕ) (v : Known) → Forks Holds at v v Nothing
  spares at v items views kept is =
      subst (λ (same : List Known). IsKept (map f items) (same ++ Nothing ∷ [])) (sym (set_again views at v is))
      (spare_kept (map f items) views kept)

  pub recalls : (at : ℕ) (v : Known) → v ≡ whole (drained_of v) → 0 < length (drained_of v).ended
      → Forks Holds at v (recalled v) (sender_recalled v)
  recalls at v all has items views kept is =
      recalled_kept (map f items) views at (drained_of v) (last_of (drained_of v).ended)
      (before_last (drained_of v).ended) (last_ended (drained_of v).ended has)
      (kept_at (map f items) views at (drained_of v) kept (is ∙ ap some all))

  pub merges : (at : ℕ) (v : Known) (other : ℕ) (w : Known) → v ≡ whole (drained_of v) → w ≡ One (sent_of w)
      → Merges Holds at v other w (joined v w) Nothing
  merges at v other w all one items views kept is apart there =
      joined_kept (map f items) views at (drained_of v) other (sent_of w)
      (kept_at (map f items) views at (drained_of v) kept (is ∙ ap some all)) apart (there ∙ ap some one)
