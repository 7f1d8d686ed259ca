use Rattle.std.proofs.Common.{◌≡◌, ℕ, Option, None, Some, List, ◌++◌, sym, ap, ap₂, ◌∙◌, subst, append_assoc}
use Rattle.wsn_io.specs.Transfer.{IsWritten, IsPartlyWritten}
use Rattle.wsn_io.specs.declared.stop.Stop.TheVariants as stop
use Rattle.wsn_io.specs.Stops.{IsWrittenOrStops}
use Rattle.wsn_print.specs.ShownParts.{time_at, position_of}
use Rattle.wsn_shown_text.specs.declared.items.Rest.{Rest}
use Rattle.wsn_shown_text.specs.ShownItems.{IsRest}
use Rattle.wsn_shown_text.specs.Members.{item_type}
use Rattle.wsn_shown_text.specs.EntryFormats.{item_in, front_in, if_timed, if_untimed}
use Rattle.wsn_print.proofs.Pieces.{first_stops, second_stops, two_pieces, three_pieces}
use Rattle.wsn_shown_text.proofs.items.put_item_in.Goals as goal

-- The front is by itself, or in the line with the fields.
whole : (time : Option (List ℕ)) (front fields rest entry : List ℕ) → front ++ (fields ++ rest) ≡ entry → if_timed time front ++ ((if_untimed time front ++ fields) ++ rest) ≡ entry
whole (Some seconds) front fields rest entry is = is
whole None front fields rest entry is = append_assoc front fields rest ∙ is

pub returns-in_err-put_timed_front : goal.returns-in_err-put_timed_front
returns-in_err-put_timed_front g c = λ shown is.
    let front = c.args.front.now in
    let at = position_of front.origin in
    let time = time_at at in
    let start = front_in c.args.shape (item_type shown) front.role at in
    let entry = item_in c.args.shape c.args.view front.role at shown in
    let parts = c.push_item-rest.ensures shown is front.role at in
    let kind = ap (λ (k : List ℕ). if_timed time (front_in c.args.shape k front.role at)) (c.kind_of-kind.ensures.word c.args.view front.offset shown is) in
    first_stops c.args.to.now c.put_timed_front.new.to (if_timed time start) ((if_untimed time start ++ parts.0) ++ parts.1) entry c.in_err-put_timed_front.field-0.0 c.from_residual.result
    (whole time start parts.0 parts.1 entry parts.4) (subst (λ (t : List ℕ). (c.in_err-put_timed_front.field-0.0 ≡ stop.Write) × IsPartlyWritten c.args.to.now c.put_timed_front.new.to t) kind c.in_err-put_timed_front.ensures) c.from_residual.ensures.1

pub returns-in_err-put_line-in_default : goal.returns-in_err-put_line-in_default
returns-in_err-put_line-in_default g c = λ shown is.
    let front = c.args.front.now in
    let at = position_of front.origin in
    let time = time_at at in
    let start = front_in c.args.shape (item_type shown) front.role at in
    let entry = item_in c.args.shape c.args.view front.role at shown in
    let parts = c.push_item-rest.ensures shown is front.role at in
    let word = c.kind_of-kind.ensures.word c.args.view front.offset shown is in
    let kind = ap (λ (k : List ℕ). if_timed time (front_in c.args.shape k front.role at)) word in
    let line = c.bytes.ensures ∙ parts.2 ∙ ap (λ (bs : List ℕ). bs ++ parts.0) (c.push_front.ensures.text ∙ ap (λ (k : List ℕ). if_untimed time (front_in c.args.shape k front.role at)) word) in
    second_stops c.args.to.now c.put_timed_front.new.to c.put_line.new.to (if_timed time start) (if_untimed time start ++ parts.0) parts.1 entry c.in_err-put_line-in_default.field-0.0 c.from_residual-in_err-put_line-in_default.result
    (whole time start parts.0 parts.1 entry parts.4) (subst (IsWritten c.args.to.now c.put_timed_front.new.to) kind c.in_ok-put_timed_front.ensures)
    (subst (λ (t : List ℕ). (c.in_err-put_line-in_default.field-0.0 ≡ stop.Write) × IsPartlyWritten c.put_timed_front.new.to c.put_line.new.to t) line c.in_err-put_line-in_default.ensures) c.from_residual-in_err-put_line-in_default.ensures.1

pub returns-in_ok-put_line-in_default : goal.returns-in_ok-put_line-in_default
returns-in_ok-put_line-in_default g c = λ shown is.
    let front = c.args.front.now in
    let at = position_of front.origin in
    let time = time_at at in
    let start = front_in c.args.shape (item_type shown) front.role at in
    let entry = item_in c.args.shape c.args.view front.role at shown in
    let parts = c.push_item-rest.ensures shown is front.role at in
    let word = c.kind_of-kind.ensures.word c.args.view front.offset shown is in
    let kind = ap (λ (k : List ℕ). if_timed time (front_in c.args.shape k front.role at)) word in
    let line = c.bytes.ensures ∙ parts.2 ∙ ap (λ (bs : List ℕ). bs ++ parts.0) (c.push_front.ensures.text ∙ ap (λ (k : List ℕ). if_untimed time (front_in c.args.shape k front.role at)) word) in
    three_pieces c.args.to.now c.put_timed_front.new.to c.put_line.new.to c.put_rest.new.to (if_timed time start) (if_untimed time start ++ parts.0) parts.1 entry c.put_rest.result
    (whole time start parts.0 parts.1 entry parts.4) (subst (IsWritten c.args.to.now c.put_timed_front.new.to) kind c.in_ok-put_timed_front.ensures)
    (subst (IsWritten c.put_timed_front.new.to c.put_line.new.to) line c.in_ok-put_line-in_default.ensures)
    (c.put_rest.ensures parts.1 parts.3)

pub returns-in-Seen : goal.returns-in-Seen
returns-in-Seen g c = λ shown is.
    let shape = c.args.shape in
    let front = c.args.front.now in
    let at = position_of front.origin in
    let time = time_at at in
    let start = front_in shape (item_type shown) front.role at in
    let parts = c.push_item-rest.ensures shown is front.role at in
    let word = c.kind_of-kind.ensures.word c.args.view front.offset shown is in
    let kind = ap (λ (k : List ℕ). if_timed time (front_in shape k front.role at)) word in
    let line = parts.2 ∙ ap (λ (bs : List ℕ). bs ++ parts.0) (c.push_front.ensures.text ∙ ap (λ (k : List ℕ). if_untimed time (front_in shape k front.role at)) word) in
    let seen = subst (λ (r : Rest). IsRest shape c.args.view front.role at r parts.1) c.in-Seen.is parts.3 in
    two_pieces c.args.to.now c.put_timed_front.new.to c.put_seen_after.new.to (if_timed time start) ((if_untimed time start ++ parts.0) ++ parts.1) (item_in shape c.args.view front.role at shown) c.put_seen_after.result
    (whole time start parts.0 parts.1 (item_in shape c.args.view front.role at shown) parts.4) (subst (IsWritten c.args.to.now c.put_timed_front.new.to) kind c.in_ok-put_timed_front.ensures)
    (subst (λ (t : List ℕ). IsWrittenOrStops c.put_timed_front.new.to c.put_seen_after.new.to t c.put_seen_after.result) (ap₂ (λ (l r : List ℕ). l ++ r) line (sym seen.0)) (c.put_seen_after.ensures seen.1))
