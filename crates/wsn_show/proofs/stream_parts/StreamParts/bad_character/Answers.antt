use Rattle.std.proofs.Common.{◌≡◌, sym, subst, rules}
use Rattle.wsn_wire.specs.declared.refusal.Reason.{Reason}
use Rattle.wsn_show.specs.LastPayloads.{GoesWrongAt, character_at, character_held_in}
use Rattle.wsn_show.proofs.stream_parts.StreamParts.bad_character.Goals as goal

pub returns-in-TextBad-clause-character : goal.returns-in-TextBad-clause-character
returns-in-TextBad-clause-character c n fs at rest wrong keeps =
    let bytes = c.args.bytes.now in
    let found = c.character_in_frame.result in
    subst (λ (reason : Reason). GoesWrongAt reason fs at rest bytes → character_held_in found ≡ character_at reason fs at bytes) (sym c.in-TextBad.is)
    (λ is_wrong. c.character_in_frame.ensures.character n fs at rest is_wrong keeps) wrong

pub returns-in-TextBad-clause-others : goal.returns-in-TextBad-clause-others
returns-in-TextBad-clause-others c = search rules

pub returns-in_default-clause-character : goal.returns-in_default-clause-character
returns-in_default-clause-character c = search rules

pub returns-in_default-clause-others : goal.returns-in_default-clause-others
returns-in_default-clause-others c = search rules
