use Rattle.wsn_rules.specs.Meaning.{event_at, payload_in}
use Rattle.wsn_rules.specs.ShownStream.{event_offset}
use Rattle.wsn_rules.proofs.OneVerdict.{all_of_verdict}
use Rattle.wsn_parts.proofs.OneEvent.{some_whole}
use Rattle.wsn_parts.proofs.OnePayload.{whole_payload}
use Rattle.wsn_parts.proofs.laws.law_whole_payload.Goals as goal

pub returns : goal.returns
returns c = λ role limits all fs before later f verdict first after result is parts final within works given.
    let of_all = all_of_verdict role limits all fs verdict is in
    let whole = some_whole role limits all fs before later f verdict is parts final of_all.lawful of_all.rest of_all.whole within in
    whole_payload role limits (event_offset before f) all (payload_in (event_at before f)) whole first after result works given
