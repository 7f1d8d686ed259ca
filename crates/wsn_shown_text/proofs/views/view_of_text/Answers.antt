use Rattle.std.proofs.Common.{ℕ, List, take, ap, ◌∙◌}
use Rattle.std.specs.Str.Lossy.{utf8_valid_len}
use Rattle.wsn_shown_text.specs.Views.Shown.{Text}
use Rattle.wsn_shown_text.proofs.TextFronts.{front_is_begun}
use Rattle.wsn_shown_text.proofs.HeldViews.{shown_part, characters_view}
use Rattle.wsn_shown_text.proofs.views.view_of_text.Goals as goal

pub returns : goal.returns
returns c = λ all holds begins.
    let n = c.args.view in
    let held = c.args.text.now.held.now in
    let front = c.front_of.ensures ∙ ap (λ (k : ℕ). take k held) c.bytes.ensures.is in
    let is = c.whole_characters-shown.ensures (front_is_begun n all held _ front holds.1 begins) ∙ ap (λ (bytes : List ℕ). take (utf8_valid_len bytes) bytes) front ∙ shown_part n all held holds.1 in
    characters_view Text n c.args.text.now.bytes all c.whole_characters-shown.result.now holds.0 is
