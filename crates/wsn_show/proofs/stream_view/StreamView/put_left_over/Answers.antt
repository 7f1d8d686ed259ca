use Rattle.std.proofs.Common.{◌≡◌, ◌+◌, ℕ, List, length, None, Some, sym, ap, ◌∙◌, subst, refl, arith}
use Rattle.wsn_wire.specs.Frame.{stream}
use Rattle.wsn_rules.specs.ShownStream.{Item, items_of_bytes}
use Rattle.wsn_rules.specs.ShownStream.Item.{Unread, Tail}
use Rattle.wsn_rules.specs.declared.verdict.Verdict.{Verdict}
use Rattle.wsn_rules.specs.Verdict.{IsVerdict}
use Rattle.wsn_scan.specs.Scans.{refusal_in, refusal_judged}
use Rattle.wsn_show.specs.declared.entry_context.EntryContext.{EntryContext}
use Rattle.wsn_show.specs.StreamParts.{items_left}
use Rattle.wsn_show.specs.ShownItems.{Prints}
use Rattle.wsn_show.specs.ShownSoFar.{Viewed, HasViewed}
use Rattle.wsn_show.proofs.ShownChunks.{frames_of}
use Rattle.wsn_show.proofs.StreamsShown.{leaves_unread, leaves_cut, leaves_accepted, leaves_tail, tail_held}
use Rattle.wsn_show.proofs.ViewedStreams.{own_shown, written_on}
use Rattle.wsn_show.proofs.stream_view.StreamView.put_left_over.Goals as goal

pub returns-in-Refused : goal.returns-in-Refused
returns-in-Refused g c role limits style came has =
    let v = c.self.inside in
    let viewed : Viewed = record { role = v.role; style = v.style; input = v.input; room = v.room; scan = v.scan; parts = v.parts } in
    let here = subst (λ (w : Viewed). HasViewed role limits style w came) (sym c.self.view_is) has in
    let context : EntryContext = record { role = v.role; style = v.style; origin = c.args.origin } in
    let new = c.put_remainder.new.output in
    let refusal = c.in-Refused.refusal in
    let is : refusal_in v.scan ≡ Some refusal = sym c.finish.ensures.reported ∙ ap refusal_judged c.in-Refused.is in
    let l = leaves_unread style role limits v.scan v.parts came here.shown refusal is here.has in
    let small = l.small in
    let offset : c.saturating_add-offset.result ≡ refusal.offset + 1 = let sum = c.saturating_add-offset.ensures in omega (arith, sum, small) in
    let left : List Item = items_of_bytes Unread (refusal.offset + 1) l.unread in
    let printed = subst (λ (m : ℕ). Prints context c.args.output.now new (items_of_bytes Unread m l.unread)) offset (c.put_remainder.ensures l.unread l.first) in
    (left, l.left_over, written_on role limits style viewed came here context c.args.output.now new left refl refl printed)

pub returns-in-Some : goal.returns-in-Some
returns-in-Some g c role limits style came has =
    let v = c.self.inside in
    let viewed : Viewed = record { role = v.role; style = v.style; input = v.input; room = v.room; scan = v.scan; parts = v.parts } in
    let here = subst (λ (w : Viewed). HasViewed role limits style w came) (sym c.self.view_is) has in
    let context : EntryContext = record { role = v.role; style = v.style; origin = c.args.origin } in
    let new = c.put_remainder-in-Some.new.output in
    let none : refusal_in v.scan ≡ None = sym c.finish.ensures.reported ∙ ap refusal_judged c.in-Accepted.is in
    let all = frames_of style role limits v.scan v.parts came here.shown none here.has in
    let judged = subst (λ (w : Verdict). IsVerdict role limits came all.done w) c.in-Accepted.is (c.finish.ensures.verdict role limits came all.rest all.done all.at all.followed.has_scanned) in
    let left : List Item = items_of_bytes Tail (length (stream all.done)) all.rest in
    let left_over = leaves_tail style role limits v.scan v.parts came here.shown all c.in-Accepted.summary c.in-Some.field-0 c.in-Some.is judged in
    let held = tail_held style role limits v.scan v.parts came here.shown all c.in-Accepted.summary judged in
    let printed = subst (λ (m : ℕ). Prints context c.args.output.now new (items_of_bytes Tail m all.rest)) all.keeps.frame.offset (c.put_remainder-in-Some.ensures all.rest held) in
    (left, left_over, written_on role limits style viewed came here context c.args.output.now new left refl refl printed)

pub returns-in-None : goal.returns-in-None
returns-in-None g c role limits style came has =
    let v = c.self.inside in
    let viewed : Viewed = record { role = v.role; style = v.style; input = v.input; room = v.room; scan = v.scan; parts = v.parts } in
    let here = subst (λ (w : Viewed). HasViewed role limits style w came) (sym c.self.view_is) has in
    let context : EntryContext = record { role = v.role; style = v.style; origin = c.args.origin } in
    let none : refusal_in v.scan ≡ None = sym c.finish.ensures.reported ∙ ap refusal_judged c.in-Accepted.is in
    let all = frames_of v.style role limits v.scan v.parts came here.shown none (own_shown role limits style viewed came here) in
    let judged = subst (λ (w : Verdict). IsVerdict role limits came all.done w) c.in-Accepted.is (c.finish.ensures.verdict role limits came all.rest all.done all.at all.followed.has_scanned) in
    let l = leaves_accepted v.style role limits v.scan v.parts came here.shown all c.in-Accepted.summary c.in-None.is judged in
    let left = items_left all.done all.at all.rest in
    (left, l.left_over, written_on role limits style viewed came here context c.args.output.now c.put_left.new.output left refl refl (c.put_left.ensures role limits all.done all.at all.rest l.lawful l.few_frames l.sound all.keeps))

pub returns-in-Cut : goal.returns-in-Cut
returns-in-Cut g c role limits style came has =
    let v = c.self.inside in
    let viewed : Viewed = record { role = v.role; style = v.style; input = v.input; room = v.room; scan = v.scan; parts = v.parts } in
    let here = subst (λ (w : Viewed). HasViewed role limits style w came) (sym c.self.view_is) has in
    let context : EntryContext = record { role = v.role; style = v.style; origin = c.args.origin } in
    let none : refusal_in v.scan ≡ None = sym c.finish.ensures.reported ∙ ap refusal_judged c.in-Cut.is in
    let all = frames_of v.style role limits v.scan v.parts came here.shown none (own_shown role limits style viewed came here) in
    let judged = subst (λ (w : Verdict). IsVerdict role limits came all.done w) c.in-Cut.is (c.finish.ensures.verdict role limits came all.rest all.done all.at all.followed.has_scanned) in
    let l = leaves_cut v.style role limits v.scan v.parts came here.shown all c.in-Cut.field-0 judged in
    let left = items_left all.done all.at all.rest in
    (left, l.left_over, written_on role limits style viewed came here context c.args.output.now c.put_left-in-Cut.new.output left refl refl (c.put_left-in-Cut.ensures role limits all.done all.at all.rest l.lawful l.few_frames l.sound all.keeps))
