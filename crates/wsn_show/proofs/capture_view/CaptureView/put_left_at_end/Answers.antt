use Rattle.std.specs.Prelude.{option_copied}
use Rattle.std.proofs.Common.{◌≡◌, [], ◌++◌, ap, true, false, inl, inr, refl, sym, ◌∙◌, subst, append-nil}
use Rattle.wsn_wire.specs.declared.endpoint.Role.{Role}
use Rattle.wsn_io.specs.Transfer.{IsWrittenUpToFailure}
use Rattle.wsn_rules.specs.Sides.{has_ended, sent}
use Rattle.wsn_print.specs.ShownParts.{EntryPosition}
use Rattle.wsn_print.specs.ShownParts.EntryPosition.{AtEnd}
use Rattle.wsn_show.specs.EndNotes.{last_time}
use Rattle.wsn_show.specs.Styles.{styled_items}
use Rattle.wsn_show.specs.ShownSoFar.{HasViewed}
use Rattle.wsn_show.proofs.capture_view.CaptureView.put_left_at_end.Goals as goal

pub returns-then-has_ended : goal.returns-then-has_ended
returns-then-has_ended g c limits style lines entries has =
    let over : has_ended c.args.role entries ≡ true =
    sym (c.has_ended.ensures limits lines entries has.accepted) ∙ c.if-has_ended.true in
    record {
      left = record { time = last_time c.args.role c.args.self.now.last_times; items = [] };
      is_left = record { time = has.times c.args.role; items = inl (over, refl) };
      printed = λ before text earlier. subst (IsWrittenUpToFailure before c.args.output.now) (sym (append-nil text)) earlier;
    }

pub returns-in-Client : goal.returns-in-Client
returns-in-Client g c limits style lines entries has =
    let going : has_ended c.args.role entries ≡ false =
    sym (c.has_ended.ensures limits lines entries has.accepted) ∙ c.if-has_ended.false in
    let viewed = subst (λ (r : Role). HasViewed r limits style c.args.self.now.client (sent r entries)) (sym c.in-Client.is) has.viewed.client in
    let left = c.put_left_over.ensures c.args.role limits style (sent c.args.role entries) viewed in
    let at : AtEnd (option_copied c.of.result) ≡ AtEnd (last_time c.args.role c.args.self.now.last_times) = ap AtEnd c.of.ensures in
    record {
      left = record { time = last_time c.args.role c.args.self.now.last_times; items = left.0 };
      is_left = record { time = has.times c.args.role; items = inr (going, left.1) };
      printed = λ before text earlier. subst (λ (p : EntryPosition). IsWrittenUpToFailure before c.put_left_over.new.output (text ++ styled_items style c.args.role p left.0)) at (left.2 before text earlier);
    }

pub returns-in-Server : goal.returns-in-Server
returns-in-Server g c limits style lines entries has =
    let going : has_ended c.args.role entries ≡ false =
    sym (c.has_ended.ensures limits lines entries has.accepted) ∙ c.if-has_ended.false in
    let viewed = subst (λ (r : Role). HasViewed r limits style c.args.self.now.server (sent r entries)) (sym c.in-Server.is) has.viewed.server in
    let left = c.put_left_over-in-Server.ensures c.args.role limits style (sent c.args.role entries) viewed in
    let at : AtEnd (option_copied c.of.result) ≡ AtEnd (last_time c.args.role c.args.self.now.last_times) = ap AtEnd c.of.ensures in
    record {
      left = record { time = last_time c.args.role c.args.self.now.last_times; items = left.0 };
      is_left = record { time = has.times c.args.role; items = inr (going, left.1) };
      printed = λ before text earlier. subst (λ (p : EntryPosition). IsWrittenUpToFailure before c.put_left_over-in-Server.new.output (text ++ styled_items style c.args.role p left.0)) at (left.2 before text earlier);
    }
