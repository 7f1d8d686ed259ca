use Rattle.std.proofs.Common.{◌≡◌, ◌+◌, ◌<◌, ◌^◌, true, false, not, [], ◌∷◌, ◌++◌, length, sym, ap, ◌∙◌, subst, arith}
use Rattle.wsn_wire.specs.Frame.{is_control, stream}
use Rattle.wsn_rules.specs.declared.head_info.HeadInfo.{HeadInfo}
use Rattle.wsn_rules.specs.Heads.{info_of}
use Rattle.wsn_scan.specs.Positions.{InFrame}
use Rattle.wsn_show.specs.StreamParts.{KeepsMessage}
use Rattle.wsn_show.proofs.KeptParts.{part_of_data, part_of_control, with_message}
use Rattle.wsn_show.proofs.OpenMessages.{kept_after_control}
use Rattle.wsn_show.proofs.stream_parts.StreamParts.end.Goals as goal

pub returns-then-is_control : goal.returns-then-is_control
returns-then-is_control c n fs f rest is size small few kept =
    let head = info_of (length (stream fs)) f in
    let op = ap (λ (h : HeadInfo). h.op) is in
    let control : is_control f.op ≡ true = sym (ap is_control op) ∙ sym c.is_control.ensures ∙ c.if-is_control.true in
    let message = c.args.self.now.message in
    c.next.ensures n fs (fs ++ f ∷ []) (InFrame head f.payload) rest (omega (arith, size)) small kept.frame
    (kept_after_control n message fs f (ap not control) (subst (KeepsMessage n message fs) (part_of_control head f.payload control) kept.message))

pub returns-else-is_control : goal.returns-else-is_control
returns-else-is_control c n fs f rest is size small few kept =
    let own = c.args.self.now in
    let head = info_of (length (stream fs)) f in
    let op = ap (λ (h : HeadInfo). h.op) is in
    let other : is_control f.op ≡ false = sym (ap is_control op) ∙ sym c.is_control.ensures ∙ c.if-is_control.false in
    let offset = kept.frame.offset in
    let bytes = kept.frame.size in
    let fits : own.offset + own.size < 2 ^ 64 = omega (arith, offset, bytes, size, small) in
    let so_far = c.end_so_far-end.ensures fits in
    let end : c.end_so_far-end.result ≡ length (stream (fs ++ f ∷ [])) = omega (arith, so_far, offset, bytes, size) in
    let keeps = subst (KeepsMessage n own.message fs) (part_of_data head f.payload other) kept.message in
    let ended = c.end-else-is_control.ensures n fs f (ap not other) (sym (ap (λ (h : HeadInfo). h.fin) is)) (c.end.ensures.held ∙ kept.frame.last.held) end few keeps (kept.joined other) in
    c.next-else-is_control.ensures n fs (fs ++ f ∷ []) (InFrame head f.payload) rest (omega (arith, size)) small (with_message own c.end-else-is_control.new.self fs (InFrame head f.payload) rest kept.frame) ended
