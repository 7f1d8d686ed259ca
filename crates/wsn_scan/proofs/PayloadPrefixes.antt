-- What is reported of a payload is a prefix of it, while the payload is coming and when it is refused.
use Rattle.std.proofs.Common.{◌≡◌, ℕ, ◌≤◌, List, ◌++◌, length, sym, ap, ◌∙◌, subst}
use Rattle.wsn_wire.specs.declared.endpoint.Role.{Role}
use Rattle.wsn_wire.specs.Frame.{Frame, stream}
use Rattle.wsn_rules.specs.declared.head_info.HeadInfo.{HeadInfo}
use Rattle.wsn_rules.specs.Limits.{Limits}
use Rattle.wsn_rules.specs.Group.{unfinished}
use Rattle.wsn_rules.specs.Evidence.{HasNoEvidence}
use Rattle.wsn_frame.specs.declared.heads.Head.{Head}
use Rattle.wsn_frame.specs.PartialHeads.{IsHead, info_at}
use Rattle.wsn_frame.specs.Payloads.{unmasked_by}
use Rattle.wsn_scan.specs.Positions.{Position, BetweenFrames, InFrame, IsPayloadPrefix}
use Rattle.wsn_scan.proofs.HeadsReported.{head_encoded}

-- The head came, this much of the payload, and more bytes that aren't reported.
pub handed_out : (role : Role) (limits : Limits) (fs : List Frame) (head : Head) (start wire later bytes rest payload : List ℕ) → IsHead role limits (unfinished fs) head start → HasNoEvidence role limits (unfinished fs) start
    → rest ≡ start ++ (wire ++ later) → bytes ≡ stream fs ++ rest → length wire ≤ head.len → payload ≡ unmasked_by head.key 0 wire → IsPayloadPrefix fs bytes (info_at (length (stream fs)) head) payload
handed_out role limits fs head start wire later bytes rest payload is_head has_no_evidence whole all within unmasked =
    let encoded = head_encoded role limits fs head start is_head has_no_evidence in
    record {
      wire = wire;
      later = later;
      whole = all ∙ ap (λ (bs : List ℕ). stream fs ++ bs) (whole ∙ ap (λ (bs : List ℕ). bs ++ (wire ++ later)) encoded);
      within = within;
      unmasked = unmasked;
    }

-- Within a head, nothing is taken of a payload.
pub none_taken : (fs : List Frame) (bytes : List ℕ) (at : Position) → at ≡ BetweenFrames → (head : HeadInfo) (payload : List ℕ) → at ≡ InFrame head payload → IsPayloadPrefix fs bytes head payload
none_taken fs bytes at between head payload is = let both : BetweenFrames ≡ InFrame head payload = sym between ∙ is in cc

-- The position has only one head, and one payload.
pub of_its_head : (fs : List Frame) (bytes : List ℕ) (at : Position) (own : HeadInfo) (taken : List ℕ) → at ≡ InFrame own taken → IsPayloadPrefix fs bytes own taken
    → (head : HeadInfo) (payload : List ℕ) → at ≡ InFrame head payload → IsPayloadPrefix fs bytes head payload
of_its_head fs bytes at own taken is prefix head payload also =
    let same : InFrame own taken ≡ InFrame head payload = sym is ∙ also in
    let head_is : own ≡ head = cc in
    let payload_is : taken ≡ payload = cc in
    subst (λ (i : HeadInfo). IsPayloadPrefix fs bytes i payload) head_is (subst (λ (bs : List ℕ). IsPayloadPrefix fs bytes own bs) payload_is prefix)
