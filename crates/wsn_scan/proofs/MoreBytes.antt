-- What a scan has consumed, after some bytes more.
use Rattle.std.proofs.Common.{◌≡◌, ℕ, ◌+◌, Option, List, ◌++◌, length, sym, ap, ◌∙◌, subst, arith, append_assoc, length-append}
use Rattle.wsn_wire.specs.declared.endpoint.Role.{Role}
use Rattle.wsn_wire.specs.Frame.{Frame, IsBytes, stream}
use Rattle.wsn_wire.proofs.FrameLemmas.{IsBytes-append}
use Rattle.wsn_scan.specs.declared.scan.Scan.{Scan}
use Rattle.wsn_frame.specs.declared.kept_message.OpenMessage.{OpenMessage}
use Rattle.wsn_frame.specs.declared.counts.Counts.{Counts}
use Rattle.wsn_frame.specs.declared.message_law.FrameContext.{FrameContext}
use Rattle.wsn_rules.specs.Limits.{Limits}
use Rattle.wsn_rules.specs.Group.{unfinished}
use Rattle.wsn_frame.specs.KeptMessages.{IsOpenMessage}
use Rattle.wsn_frame.specs.Counts.{AreCounts}
use Rattle.wsn_scan.specs.Scans.{HasConsumed}

-- Only the room and the stage have changed, for `count` bytes more.
pub record TakesMore (old new : Scan) (count : ℕ) : Type 0 where
  pub sender : new.context.role ≡ old.context.role
  pub under : new.context.limits ≡ old.context.limits
  pub room : new.room + count ≡ old.room
  pub used : new.used ≡ old.used
  pub counts : new.counts ≡ old.counts
  pub message : new.context.message ≡ old.context.message

pub knows_more : (role : Role) (limits : Limits) (old new : Scan) (bytes rest last : List ℕ) (fs : List Frame) → TakesMore old new (length last) → IsBytes last
    → HasConsumed role limits old bytes fs rest → HasConsumed role limits new (bytes ++ last) fs (rest ++ last)
knows_more role limits old new bytes rest last fs consumes in_bytes has_consumed = record {
  sender = consumes.sender ∙ has_consumed.sender;
  under = consumes.under ∙ has_consumed.under;
  in_range = has_consumed.in_range;
  lawful = has_consumed.lawful;
  whole = ap (λ (bs : List ℕ). bs ++ last) has_consumed.whole ∙ append_assoc (stream fs) rest last;
  in_bytes = IsBytes-append bytes last has_consumed.in_bytes in_bytes;
  room = let room = has_consumed.room in omega (arith, consumes.room, length-append bytes last);
  used = consumes.used ∙ has_consumed.used;
  counts = subst (λ (t : Counts). AreCounts t fs) (sym consumes.counts) has_consumed.counts;
  message = subst (λ (m : Option OpenMessage). IsOpenMessage m (unfinished fs)) (sym consumes.message) has_consumed.message;
}

-- What a scan has consumed doesn't depend on its stage.
pub same_scan : (role : Role) (limits : Limits) (old new : Scan) (bytes rest : List ℕ) (fs : List Frame) → new.context ≡ old.context → new.room ≡ old.room → new.used ≡ old.used → new.counts ≡ old.counts
    → HasConsumed role limits old bytes fs rest → HasConsumed role limits new bytes fs rest
same_scan role limits old new bytes rest fs context room used counts h = record {
  sender = ap (λ (x : FrameContext). x.role) context ∙ h.sender;
  under = ap (λ (x : FrameContext). x.limits) context ∙ h.under;
  in_range = h.in_range;
  lawful = h.lawful;
  whole = h.whole;
  in_bytes = h.in_bytes;
  room = ap (λ (n : ℕ). n + length bytes) room ∙ h.room;
  used = used ∙ h.used;
  counts = subst (λ (t : Counts). AreCounts t fs) (sym counts) h.counts;
  message = subst (λ (x : FrameContext). IsOpenMessage x.message (unfinished fs)) (sym context) h.message;
}
