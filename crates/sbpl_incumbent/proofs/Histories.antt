-- What was published stays so, and what a reader got grows by what the cell holds.
use Rattle.std.proofs.Common.{◌≡◌, ℕ, zero, suc, ◌+◌, ◌-◌, ◌<◌, ◌≤◌, Option, Some, None, List, [], ◌∷◌, ◌++◌, length}
use Rattle.std.proofs.Common.{length-append, slice_get, IfSome, arith, sym, refl, ap, ◌∙◌}
use Rattle.std.specs.List.{All}
use Rattle.std.proofs.lemmas.Option.{none-some, same_Some}
use Rattle.std.proofs.lemmas.List.Elements.{All-head, All-nil, All-push, All-tail, All-weaker}
use Rattle.sbpl_incumbent.specs.declared.entry.Entry.{Entry}
use Rattle.sbpl_incumbent.specs.Entries.{IsAsNew, IsHistory, IsPublished, NeverFall, found, newest, no_entry, numbered}

got_inside : (log : List Entry) (place : ℕ) (e : Entry) → slice_get log place ≡ Some e → place < length log
got_inside [] place e at = absurd (none-some e at)
got_inside (x ∷ xs) zero e at = omega arith
got_inside (x ∷ xs) (suc place) e at = let rest = got_inside xs place e at in omega arith

got_longer : (log : List Entry) (place : ℕ) (e x : Entry) → slice_get log place ≡ Some e
    → slice_get (log ++ x ∷ []) place ≡ Some e
got_longer [] place e x at = absurd (none-some e at)
got_longer (y ∷ ys) zero e x at = at
got_longer (y ∷ ys) (suc place) e x at = got_longer ys place e x at

got_last : (log : List Entry) (x : Entry) (place : ℕ) → place ≡ length log → slice_get (log ++ x ∷ []) place ≡ Some x
got_last [] x zero e = refl
got_last [] x (suc place) e = absurd (omega arith)
got_last (y ∷ ys) x zero e = absurd (omega arith)
got_last (y ∷ ys) x (suc place) e = got_last ys x place (omega arith)

numbered_inside : (number : ℕ) (log : List Entry) (e : Entry) → numbered number log ≡ Some e → number ≤ length log
numbered_inside zero log e at = omega arith
numbered_inside (suc place) log e at = let less = got_inside log place e at in omega arith

numbered_longer : (number : ℕ) (log : List Entry) (e x : Entry) → numbered number log ≡ Some e
    → numbered number (log ++ x ∷ []) ≡ Some e
numbered_longer zero log e x at = at
numbered_longer (suc place) log e x at = got_longer log place e x at

pub numbered_last : (number : ℕ) (log : List Entry) (x : Entry) → number ≡ length log + 1
    → numbered number (log ++ x ∷ []) ≡ Some x
numbered_last zero log x e = absurd (omega arith)
numbered_last (suc place) log x e = got_last log x place (omega arith)

pub none_numbered : (number : ℕ) (log : List Entry) (e : Entry) → numbered number log ≡ Some e
    → number ≡ 0 → e ≡ no_entry
none_numbered zero log e at none = sym (same_Some no_entry e at)
none_numbered (suc place) log e at none = absurd (omega arith)

-- ---- along a history

never_fall_push : (got : List Entry) (e : Entry) → NeverFall got → All (λ (g : Entry). g.number ≤ e.number) got
    → NeverFall (got ++ e ∷ [])
never_fall_push [] e order below = (All-nil (λ (g : Entry). e.number ≤ g.number), tt)
never_fall_push (g ∷ later) e order below =
    let Below : Entry → Type 0 = λ (h : Entry). h.number ≤ e.number in
    let After : Entry → Type 0 = λ (h : Entry). g.number ≤ h.number in (
      All-push After later e order.0 (All-head Below g later below),
      never_fall_push later e order.1 (All-tail Below g later below),
    )

pub none_history : (log : List Entry) → IsHistory log []
none_history log = record { entries = All-nil (IsPublished log); order = tt }

pub history_longer : (log got : List Entry) (x : Entry) → IsHistory log got → IsHistory (log ++ x ∷ []) got
history_longer log got x history = record {
  entries =
      All-weaker (IsPublished log) (IsPublished (log ++ x ∷ []))
      (λ e at. numbered_longer e.number log e x at) got history.entries;
  order = history.order;
}

-- what a reader got is not newer than the last entry
module _ (log got : List Entry) (e : Entry) (history : IsHistory log got) (last : e.number ≡ length log)
    (held : IsPublished log e) where
  none_newer : All (λ (g : Entry). g.number ≤ e.number) got
  none_newer =
      All-weaker (IsPublished log) (λ (g : Entry). g.number ≤ e.number)
      (λ g at. let inside = numbered_inside g.number log g at in omega arith) got history.entries

  pub history_push : IsHistory log (got ++ e ∷ [])
  history_push = record {
    entries = All-push (IsPublished log) got e history.entries held;
    order = never_fall_push got e history.order none_newer;
  }

  pub as_new : (told : ℕ) → told ≤ length log → IsAsNew got told e
  as_new told less = record {
    after_got = none_newer;
    after_told = omega arith;
    same = All-weaker (IsPublished log) (λ (g : Entry). g.number ≡ e.number → g ≡ e)
        (λ g at equal. same_Some g e (sym at ∙ (ap (λ (n : ℕ). numbered n log) equal ∙ held))) got history.entries;
  }

-- ---- the newest entry

pub newest_last : (log : List Entry) (x : Entry) → newest (log ++ x ∷ []) ≡ Some x
newest_last log x = got_last log x (length (log ++ x ∷ []) - 1) (omega (arith, length-append log (x ∷ [])))

at_length : (number : ℕ) (log : List Entry) (e : Entry) → 0 < number → number ≡ length log
    → numbered number log ≡ Some e → Some e ≡ newest log
at_length zero log e some last at = absurd (omega arith)
at_length (suc place) log e some last at =
    let here : place ≡ length log - 1 = omega arith in sym at ∙ ap (λ (i : ℕ). slice_get log i) here

none_newest : (log : List Entry) → length log ≤ 0 → None ≡ newest log
none_newest [] less = refl
none_newest (x ∷ xs) less = absurd (omega arith)

pub answer_newest : (log : List Entry) (answer : Option Entry) → IfSome answer (λ (e : Entry). 0 < e.number)
    → length log ≤ (found answer).number → IsHistory log (found answer ∷ [])
    → answer ≡ newest log
answer_newest log (Some e) some told history =
    let at : IsPublished log e = All-head (IsPublished log) e [] history.entries in
    let inside = numbered_inside e.number log e at in
    at_length e.number log e some (omega arith) at
answer_newest log None some told history = none_newest log told

pub held_newest : (number : ℕ) (log : List Entry) (e : Entry) → number ≡ length log → numbered number log ≡ Some e
    → e ≡ found (newest log)
held_newest zero log e last at = sym (same_Some no_entry e at) ∙ ap found (none_newest log (omega arith))
held_newest (suc place) log e last at = ap found (at_length (suc place) log e (omega arith) last at)
