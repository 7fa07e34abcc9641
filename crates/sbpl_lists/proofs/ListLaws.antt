-- Lists that lie one after another in one table.
use Rattle.std.proofs.Common.{◌≡◌, ℕ, zero, suc, ◌+◌, ◌-◌, ◌<◌, ◌≤◌, List, [], ◌∷◌, ◌++◌, length, take, drop, slice_get}
use Rattle.std.proofs.Common.{slice_range, slice_index, Some, refl, ap, sym, ◌∙◌, arith, subst}
use Rattle.std.proofs.lemmas.List.{length-append, length-drop, drop-append-le, take-append-le, drop_at, take_all}
use Rattle.sbpl_lists.specs.Lists.{lists_from, lists_between, AreStarts}

pub length-lists_from : {X : Type 0} (items : List X) (a : ℕ) (starts : List ℕ)
    → length (lists_from items a starts) ≡ length starts
length-lists_from items a [] = refl
length-lists_from items a (b ∷ starts) = ap suc (length-lists_from items b starts)

-- there is one list fewer than starts
pub length-lists_between : {X : Type 0} (items : List X) (starts : List ℕ) → 1 ≤ length starts
    → length (lists_between items starts) + 1 ≡ length starts
length-lists_between items [] some = absurd (omega arith)
length-lists_between items (a ∷ starts) some = omega (arith, length-lists_from items a starts)

lists_from_at : {X : Type 0} (items : List X) (a : ℕ) (starts : List ℕ) (i : ℕ) → i < length starts
    → slice_get (lists_from items a starts) i
    ≡ Some (slice_range items (slice_index (a ∷ starts) i) (slice_index starts i))
lists_from_at items a [] i h = absurd (omega arith)
lists_from_at items a (b ∷ starts) zero h = refl
lists_from_at items a (b ∷ starts) (suc i) h = lists_from_at items b starts i (omega arith)

-- a list lies between its start and the next
pub list_at : {X : Type 0} (items : List X) (starts : List ℕ) (i j : ℕ) → j ≡ suc i → j < length starts
    → slice_get (lists_between items starts) i ≡ Some (slice_range items (slice_index starts i) (slice_index starts j))
list_at items [] i j e h = absurd (omega arith)
list_at items (a ∷ starts) i j e h =
    let below : i < length starts = omega arith in
    lists_from_at items a starts i below
    ∙ ap (λ n. Some (slice_range items (slice_index (a ∷ starts) i) (slice_index (a ∷ starts) n))) (sym e)

-- what lies before the end stays where it is
range_kept : {X : Type 0} (items more : List X) (a b : ℕ) → a ≤ length items → b ≤ length items
    → slice_range (items ++ more) a b ≡ slice_range items a b
range_kept items more a b ha hb =
    let inside : b - a ≤ length (drop a items) = omega (arith, length-drop a items) in
    ap (take (b - a)) (drop-append-le a items more ha) ∙ take-append-le (b - a) (drop a items) more inside

lists_from_push : {X : Type 0} (items more : List X) (a : ℕ) (starts : List ℕ) (e : ℕ)
    → ((i : ℕ) → slice_index (a ∷ starts) i ≤ length items)
    → lists_from (items ++ more) a (starts ++ e ∷ [])
    ≡ lists_from items a starts ++ slice_range (items ++ more) (slice_index (a ∷ starts) (length starts)) e ∷ []
lists_from_push items more a [] e h = refl
lists_from_push items more a (b ∷ starts) e h =
    let later = lists_from_push items more b starts e (λ i. h (suc i)) in
    let same = range_kept items more a b (h 0) (h 1) in
    ap (λ r. r ∷ lists_from (items ++ more) b (starts ++ e ∷ [])) same ∙ ap (λ l. slice_range items a b ∷ l) later

-- what is added at the table's end is one more list
pub lists_push : {X : Type 0} (items more : List X) (starts : List ℕ) (e : ℕ) → AreStarts (length items) starts
    → e ≡ length (items ++ more)
    → lists_between (items ++ more) (starts ++ e ∷ []) ≡ lists_between items starts ++ more ∷ []
lists_push items more [] e kept end = absurd (omega (arith, kept.some))
lists_push items more (a ∷ starts) e kept end =
    let last : suc (length starts) - 1 ≡ length starts = omega arith in
    let from = subst (λ n. slice_index (a ∷ starts) n ≡ length items) last kept.whole in
    let enough : length more ≤ e - slice_index (a ∷ starts) (length starts) = omega (arith, length-append items more) in
    let rest = drop_at items more (slice_index (a ∷ starts) (length starts)) (sym from) in
    let whole =
    ap (take (e - slice_index (a ∷ starts) (length starts))) rest
    ∙ take_all (e - slice_index (a ∷ starts) (length starts)) more enough in
    lists_from_push items more a starts e kept.inside ∙ ap (λ l. lists_from items a starts ++ l ∷ []) whole

-- where the list with a number lies
pub record LiesAt {X : Type 0} (items : List X) (starts : List ℕ) (lists : List (List X)) (i : ℕ) : Type 0 where
  pub next : i + 1 < length starts
  pub rising : slice_index starts i ≤ slice_index starts (i + 1)
  pub inside : slice_index starts (i + 1) ≤ length items
  pub at : slice_get lists i ≡ Some (slice_range items (slice_index starts i) (slice_index starts (i + 1)))

pub lies_at : {X : Type 0} (items : List X) (starts : List ℕ) (lists : List (List X)) (i : ℕ)
    → AreStarts (length items) starts → lists_between items starts ≡ lists → i < length lists
    → LiesAt items starts lists i
lies_at items starts lists i kept same h =
    let count = length-lists_between items starts kept.some in
    let next : i + 1 < length starts = omega (arith, count, ap length same) in
    let succ : i + 1 ≡ suc i = omega arith in
    record {
      next = next;
      rising = kept.rising i next;
      inside = kept.inside (i + 1);
      at = ap (λ l. slice_get l i) (sym same) ∙ list_at items starts i (i + 1) succ next;
    }

-- the same, by way of a table and starts that are named
pub pushed : {X : Type 0} (items more table : List X) (starts middle ends : List ℕ) (e : ℕ) (lists : List (List X))
    → AreStarts (length items) starts → lists_between items starts ≡ lists
    → table ≡ items ++ more → middle ≡ starts → ends ≡ middle ++ e ∷ [] → e ≡ length table
    → lists_between table ends ≡ lists ++ more ∷ []
pushed items more table starts middle ends e lists kept same in_table in_middle in_ends end =
    let there = lists_push items more starts e kept (end ∙ ap length in_table) in
    rw (in_table, in_ends, in_middle, ← same) there
