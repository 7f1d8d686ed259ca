use Rattle.std.proofs.Common.{◌≡◌, ◌+◌, length, get_or, ◌∙◌, arith}
use Rattle.std.proofs.lemmas.Grind.{common_steps}
use Rattle.wsn_frame.specs.Payloads.{unmasked_by}
use Rattle.wsn_redact.specs.Dues.{due_of}
use Rattle.wsn_redact.proofs.ReplacedParts.{refused, last_at}
use Rattle.wsn_redact.proofs.redacted_payload.Redactor.refuse_payload.Goals as goal

pub returns : goal.returns
returns c = λ front last is.
    let old = c.args.self.now in
    let bytes = c.args.bytes.now in
    let end = c.in-Some.end in
    let r = c.replace-bad.ensures.replaces in
    let size : end + 1 ≡ length bytes = grind (arith, common_steps) in
    let value = refused old.op old.text (due_of old.due) old.done c.goes_wrong.result front last (get_or bytes end 0) bytes c.replace-bad.new.payload c.replace_last.new.bytes is r.written (last_at bytes front last end is size)
    c.replace_last.ensures.wrong c.replace_last.ensures.right in
    (c.replace-bad.result, c.replace-bad.ensures.bad, (c.goes_wrong.result, c.goes_wrong.ensures, c.unmask.ensures ∙ (λ i. unmasked_by (r.key i) (r.done i) (value i))))
