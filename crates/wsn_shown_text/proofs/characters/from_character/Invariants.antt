use Rattle.std.proofs.Common.{◌≡◌, drop}
use Rattle.wsn_shown_text.specs.CharacterText.{from_character}
use Rattle.wsn_shown_text.proofs.characters.from_character.Given as goal

-- No byte so far begins a character.
abbrev pub invariant-loop-start : goal.invariant-loop-start
invariant-loop-start l = from_character (drop l.start l.bytes) ≡ from_character l.bytes
