-- What is written is a prefix of what the writes in turn give.
use Rattle.std.proofs.Common.{◌≡◌, ℕ, Option, Some, None, List, [], ◌∷◌, ◌++◌, Bool, true, false, if◌then◌else◌, refl}
use Rattle.std.proofs.Common.{sym, ◌∙◌, ap, append_assoc, append-nil, inl, inr}
use Rattle.std.specs.Str.{bytes_eq}
use Rattle.sbpl_promises.specs.sbpl_desk.Desk.{Appends, Stays}
use Rattle.sbpl_promises.specs.Determined.{ArePrefixes}
use Rattle.sbpl_promises.specs.Writing.{AreAppended, DeskState, EndsAs, IsCutAt, RunsOutAt, Write, text_under}

-- what two lists of writes append is what each appends
text_of_both : (name : List ℕ) (ws vs : List Write)
    → text_under name (ws ++ vs) ≡ text_under name ws ++ text_under name vs
text_of_both name [] vs = refl
text_of_both name (w ∷ ws) vs =
    ap (λ l. (if bytes_eq w.name name then w.text else []) ++ l) (text_of_both name ws vs)
    ∙ sym (append_assoc (if bytes_eq w.name name then w.text else []) (text_under name ws) (text_under name vs))

-- no writes
pub none_made : (a b : DeskState) → Stays a.written b.written → AreAppended a b []
none_made a b same = record { grown = λ name. nothing (a.written name) (b.written name) (same name) }
  where
    nothing : (x y : Option (List ℕ)) → y ≡ x → Appends x y []
    nothing None y same = tt
    nothing (Some l) y same = rw same (sym (append-nil l))

module _ (before after : DeskState) where
  -- the first writes of a whole were made
  pub made_prefix : (ws rest whole : List Write) → whole ≡ ws ++ rest → AreAppended before after ws
      → ArePrefixes before after whole
  made_prefix ws rest whole parted made name = record {
    prefix = text_under name ws;
    rest = text_under name rest;
    whole = ap (λ (l : List Write). text_under name l) parted ∙ text_of_both name ws rest;
    written = made.grown name;
  }

  pub stopped_prefix : (ws rest whole : List Write) → whole ≡ ws ++ rest → RunsOutAt before after ws
      → ArePrefixes before after whole
  stopped_prefix ws rest whole parted stopped =
      made_prefix stopped.first (stopped.rest ++ rest) whole
      (parted ∙ ap (λ (l : List Write). l ++ rest) stopped.whole
      ∙ append_assoc stopped.first stopped.rest rest) stopped.made

  -- a text in two parts under a name, or nothing
  parts_under : (test : Bool) (text prefix suffix : List ℕ) → text ≡ prefix ++ suffix
      → (if test then text else []) ≡ (if test then prefix else []) ++ (if test then suffix else [])
  parts_under true text prefix suffix parted = parted
  parts_under false text prefix suffix parted = refl

  -- the first writes of a whole were made, and a prefix of the next
  pub cut_prefix : (ws rest whole : List Write) → whole ≡ ws ++ rest → IsCutAt before after ws
      → ArePrefixes before after whole
  cut_prefix ws rest whole parted cut name =
      let first : List ℕ = text_under name cut.first in
      let own : List ℕ = if bytes_eq cut.cut.name name then cut.cut.text else [] in
      let prefix : List ℕ = if bytes_eq cut.cut.name name then cut.prefix else [] in
      let suffix : List ℕ = if bytes_eq cut.cut.name name then cut.suffix else [] in
      let later : List Write = cut.rest ++ rest in
      let last : List ℕ = text_under name later in
      let begins : text_under name (cut.first ++ record { name = cut.cut.name; text = cut.prefix } ∷ [])
      ≡ first ++ (prefix ++ []) =
      text_of_both name cut.first (record { name = cut.cut.name; text = cut.prefix } ∷ [])
      in
      let whole_is : whole ≡ cut.first ++ (cut.cut ∷ later) =
      parted ∙ ap (λ (l : List Write). l ++ rest) cut.whole ∙ append_assoc cut.first (cut.cut ∷ cut.rest) rest
      in
      let text_is : text_under name whole ≡ first ++ (own ++ last) =
      ap (λ (l : List Write). text_under name l) whole_is ∙ text_of_both name cut.first (cut.cut ∷ later)
      in
      let own_is : own ≡ prefix ++ suffix =
      parts_under (bytes_eq cut.cut.name name) cut.cut.text cut.prefix cut.suffix cut.parted in
      record {
        prefix = text_under name (cut.first ++ record { name = cut.cut.name; text = cut.prefix } ∷ []);
        rest = suffix ++ last;
        whole =
            text_is
            ∙ ap (λ (l : List ℕ). first ++ (l ++ last)) own_is
            ∙ ap (λ (l : List ℕ). first ++ l) (append_assoc prefix suffix last)
            ∙ sym (append_assoc first prefix (suffix ++ last))
            ∙ ap (λ (l : List ℕ). (first ++ l) ++ (suffix ++ last)) (sym (append-nil prefix))
            ∙ ap (λ (l : List ℕ). l ++ (suffix ++ last)) (sym begins);
        written = cut.made.grown name;
      }

  -- however the making of the first writes of a whole ended
  pub ends_prefix : (wanted status : ℕ) (ws rest whole : List Write) → whole ≡ ws ++ rest
      → EndsAs before after ws wanted status → ArePrefixes before after whole
  ends_prefix wanted status ws rest whole parted ends = elim ends [
    | inl (is, made) ↦ made_prefix ws rest whole parted made
    | inr (inl (is, cut)) ↦ cut_prefix ws rest whole parted cut
    | inr (inr (is, stopped)) ↦ stopped_prefix ws rest whole parted stopped
  ]
