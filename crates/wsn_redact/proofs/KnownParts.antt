-- A redaction by its verdict, and what is redacted of a frame that has begun by its head, where these are known.
use Rattle.std.proofs.Common.{◌≡◌, ℕ, ◌+◌, List, ◌++◌, sym, ap, ◌∙◌, subst}
use Rattle.wsn_wire.specs.declared.endpoint.Role.{Role}
use Rattle.wsn_wire.specs.Frame.{Frame, head_bytes, wire_payload}
use Rattle.wsn_rules.specs.declared.head_info.HeadInfo.{HeadInfo}
use Rattle.wsn_rules.specs.declared.verdict.Verdict.{Verdict}
use Rattle.wsn_rules.specs.Limits.{Limits}
use Rattle.wsn_rules.specs.Group.{unfinished}
use Rattle.wsn_rules.specs.Heads.{BeginsWithHead}
use Rattle.wsn_rules.specs.Verdict.{IsVerdict}
use Rattle.wsn_rules.proofs.OneHead.{one_begun}
use Rattle.wsn_rules.proofs.OneVerdict.{one_verdict}
use Rattle.wsn_rules.proofs.Prefixes.{append_cancel}
use Rattle.wsn_redact.specs.Redaction.{IsRedactedPayload, IsRedactedBegun, IsRedactionAt, IsRedaction}

module _ (role : Role) (limits : Limits) where
  -- The part of a payload after a head that is known.
  pub record IsBegunBy (fs : List Frame) (rest redacted : List ℕ) (info : HeadInfo) (begins : BeginsWithHead role limits fs rest info) : Type 0 where
    pub part : List ℕ
    pub is_part : IsRedactedPayload (unfinished fs) info.op (wire_payload info.key begins.following) part
    pub redacted_is : redacted ≡ begins.head ++ wire_payload info.key part

  pub begun_by : (fs : List Frame) (rest redacted : List ℕ) (info : HeadInfo) (begins : BeginsWithHead role limits fs rest info) → IsRedactedBegun role limits fs rest redacted → IsBegunBy fs rest redacted info begins
  begun_by fs rest redacted info c is =
      let b = is.begins in
      let info_is : is.info ≡ info = one_begun role limits fs rest is.info info b c in
      let head : b.head ≡ c.head = b.encoded ∙ ap (λ (i : HeadInfo). head_bytes i.fin i.op i.key i.form i.len) info_is ∙ sym c.encoded in
      let following : b.following ≡ c.following = append_cancel c.head b.following c.following (ap (λ (bs : List ℕ). bs ++ b.following) (sym head) ∙ sym b.whole ∙ c.whole) in
      let own : wire_payload is.info.key b.following ≡ wire_payload info.key c.following = λ i. wire_payload (info_is i).key (following i) in
      record {
        part = is.part;
        is_part = subst (λ (bs : List ℕ). IsRedactedPayload (unfinished fs) info.op bs is.part) own (subst (λ (i : HeadInfo). IsRedactedPayload (unfinished fs) i.op (wire_payload is.info.key b.following) is.part) info_is is.is_part);
        redacted_is = is.redacted_is ∙ (λ i. head i ++ wire_payload (info_is i).key is.part);
      }

  -- A redaction, by a verdict that is known.
  pub redaction_at : (bytes redacted : List ℕ) (fs : List Frame) (v : Verdict) → IsVerdict role limits bytes fs v → IsRedaction role limits bytes redacted → IsRedactionAt role limits bytes fs v redacted
  redaction_at bytes redacted fs v is r =
      let same = one_verdict role limits bytes r.frames fs r.verdict v r.is_verdict is in
      subst (λ (w : Verdict). IsRedactionAt role limits bytes fs w redacted) same.1 (subst (λ (hs : List Frame). IsRedactionAt role limits bytes hs r.verdict redacted) same.0 r.is)
