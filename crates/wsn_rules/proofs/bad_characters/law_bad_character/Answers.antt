use Rattle.wsn_rules.proofs.OpenPayloads.{one_offset, payload_so_far}
use Rattle.wsn_rules.proofs.BadCharacters.{text_bad_shown, other_shown, one_character}
use Rattle.wsn_rules.proofs.bad_characters.law_bad_character.Goals as goal

pub returns : goal.returns
returns c = record {
  text_bad = λ detail role limits bytes fs refusal shown in_bytes refused reason is. text_bad_shown detail role limits bytes fs refusal shown is in_bytes refused reason;
  other = λ detail role limits bytes fs refusal shown other is. other_shown detail role limits bytes fs refusal shown is other;
  one = one_character;
  one_offset = one_offset;
  payload = payload_so_far;
}
