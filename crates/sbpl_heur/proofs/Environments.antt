-- Environments that agree in each number.
use Rattle.std.proofs.Common.{◌≡◌, ap, ◌∙◌}
use Rattle.sbpl_cost.specs.sbpl_cfg.Environment.{Environment}

pub same_environment : (e f : Environment) → e.width ≡ f.width → e.height ≡ f.height → e.obsthresh ≡ f.obsthresh
    → e.inscribed ≡ f.inscribed → e.circumscribed ≡ f.circumscribed → e.cell ≡ f.cell → e.speed ≡ f.speed
    → e.turn45 ≡ f.turn45 → e.start ≡ f.start → e.end ≡ f.end → e.headings ≡ f.headings → e ≡ f
same_environment e f h0 h1 h2 h3 h4 h5 h6 h7 h8 h9 h10 =
    ap (λ x. record e { width = x }) h0
    ∙ ap (λ x. record e { width = f.width; height = x }) h1
    ∙ ap (λ x. record e { width = f.width; height = f.height; obsthresh = x }) h2
    ∙ ap (λ x. record e { width = f.width; height = f.height; obsthresh = f.obsthresh; inscribed = x }) h3
    ∙ ap (λ x. record e {
      width = f.width;
      height = f.height;
      obsthresh = f.obsthresh;
      inscribed = f.inscribed;
      circumscribed = x;
    }) h4
    ∙ ap (λ x. record e {
      width = f.width;
      height = f.height;
      obsthresh = f.obsthresh;
      inscribed = f.inscribed;
      circumscribed = f.circumscribed;
      cell = x;
    }) h5
    ∙ ap (λ x. record e {
      width = f.width;
      height = f.height;
      obsthresh = f.obsthresh;
      inscribed = f.inscribed;
      circumscribed = f.circumscribed;
      cell = f.cell;
      speed = x;
    }) h6
    ∙ ap (λ x. record e {
      width = f.width;
      height = f.height;
      obsthresh = f.obsthresh;
      inscribed = f.inscribed;
      circumscribed = f.circumscribed;
      cell = f.cell;
      speed = f.speed;
      turn45 = x;
    }) h7
    ∙ ap (λ x. record e {
      width = f.width;
      height = f.height;
      obsthresh = f.obsthresh;
      inscribed = f.inscribed;
      circumscribed = f.circumscribed;
      cell = f.cell;
      speed = f.speed;
      turn45 = f.turn45;
      start = x;
    }) h8
    ∙ ap (λ x. record e {
      width = f.width;
      height = f.height;
      obsthresh = f.obsthresh;
      inscribed = f.inscribed;
      circumscribed = f.circumscribed;
      cell = f.cell;
      speed = f.speed;
      turn45 = f.turn45;
      start = f.start;
      end = x;
    }) h9
    ∙ ap (λ x. record e {
      width = f.width;
      height = f.height;
      obsthresh = f.obsthresh;
      inscribed = f.inscribed;
      circumscribed = f.circumscribed;
      cell = f.cell;
      speed = f.speed;
      turn45 = f.turn45;
      start = f.start;
      end = f.end;
      headings = x;
    }) h10
