use Rattle.std.proofs.Common.{ℕ, Bool, [], if◌then◌else◌, sym, ap, ◌∙◌}
use Rattle.wsn_print.specs.ShownParts.{character_of}
use Rattle.wsn_shown_text.specs.CharacterText.{shown_bytes}
use Rattle.wsn_shown_text.proofs.HeldViews.{not_zero}
use Rattle.wsn_shown_text.proofs.characters.shown_bytes.Goals as goal

pub returns-then-bytes-eq0 : goal.returns-then-bytes-eq0
returns-then-bytes-eq0 c =
    ap (λ (n : ℕ). shown_bytes n (character_of c.args.character.now)) (sym (sym c.bytes.ensures.is ∙ c.if-bytes-eq0.true))

pub returns-else-bytes-eq0 : goal.returns-else-bytes-eq0
returns-else-bytes-eq0 c =
    sym (ap (λ (none : Bool). if none then [] else c.args.character.now.bytes.now) (not_zero c.args.view (λ none. c.if-bytes-eq0.false (c.bytes.ensures.is ∙ none))))
