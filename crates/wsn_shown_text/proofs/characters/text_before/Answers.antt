use Rattle.std.proofs.Common.{ℕ, List, ◌-◌, length, take, ap, ◌∙◌}
use Rattle.wsn_shown_text.specs.CharacterText.{from_character, first_characters}
use Rattle.wsn_shown_text.proofs.characters.text_before.Goals as goal

pub returns : goal.returns
returns c = λ n evidence is.
    let bytes = c.args.character.now.bytes.now in
    let before = c.front_of-before.ensures ∙ ap (λ (k : ℕ). take k c.args.end.now) c.saturating_sub.ensures ∙ ap (λ (last : List ℕ). take (length last - length bytes) last) is in
    c.first_characters.ensures ∙ ap first_characters (c.from_character.ensures ∙ ap from_character before)
