-- Frames that differ in nothing but their payloads, as long, have as many bytes.
use Rattle.std.proofs.Common.{◌≡◌, length, sym, ap, ◌∙◌}
use Rattle.wsn_wire.specs.Frame.{Frame, frame_bytes}
use Rattle.wsn_redact.specs.Redaction.{with_payload}
use Rattle.wsn_redact.proofs.OneRedaction.{frame_length}

pub frame_size : (f g : Frame) → g ≡ with_payload f g.payload → length f.payload ≡ length g.payload → length (frame_bytes f) ≡ length (frame_bytes g)
frame_size f g is size = sym (ap (λ (h : Frame). length (frame_bytes h)) is ∙ frame_length f g.payload (sym size))
