use Rattle.wsn_redact.proofs.OneRedaction.{redaction_length, one_redaction}
use Rattle.wsn_redact.proofs.EveryRedaction.{some_redaction_of}
use Rattle.wsn_redact.proofs.laws.law_one_redaction.Goals as goal

pub returns : goal.returns
returns c = record {
  some = λ role limits bytes range in_bytes. some_redaction_of role limits range bytes in_bytes;
  one = one_redaction;
  size = redaction_length;
}
