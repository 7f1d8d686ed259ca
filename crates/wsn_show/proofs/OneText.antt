-- At most one text is printed of a capture.
use Rattle.std.proofs.Common.{◌≡◌, ℕ, ◌↔◌, Bool, true, false, IsTrue, Option, None, Some, List, [], refl, sym, ap, ◌∙◌, subst}
use Rattle.wsn_wire.specs.declared.endpoint.Role.{Role}
use Rattle.wsn_rules.specs.Limits.{Limits}
use Rattle.wsn_rules.specs.Entries.{Entry, AreEntries}
use Rattle.wsn_rules.specs.declared.closing_handshake.Report.{Report}
use Rattle.wsn_rules.specs.ShownCapture.{ShownLine, LeftAtEnd, IsShownCapture}
use Rattle.wsn_rules.proofs.OneEntry.{same_entries}
use Rattle.wsn_rules.proofs.OneShownCapture.{one_shown_capture}
use Rattle.wsn_rules.proofs.TextLines.{same_lines}
use Rattle.wsn_capture.proofs.AcceptedTexts.{taken_given}
use Rattle.wsn_capture.specs.declared.ended_by.EndedBy.{EndedBy}
use Rattle.wsn_print.specs.declared.style.Style.{Style}
use Rattle.wsn_capture.specs.EndedBy.{SayReset, IsEndedBy}
use Rattle.wsn_show.specs.Showing.{IsWholeText}
use Rattle.wsn_show.specs.Styles.{styled_capture}

-- ---- who ended the connection

one_reset : (b c : Bool) (P : Type 0) → (IsTrue b ↔ P) → (IsTrue c ↔ P) → b ≡ c
one_reset true true P is also = refl
one_reset true false P is also = sym (also.1 (is.0 refl))
one_reset false true P is also = is.1 (also.0 refl)
one_reset false false P is also = refl

pub one_ended_by : (lines : List (List ℕ)) (entries : List Entry) (report : Report) (by other : Option EndedBy) → IsEndedBy lines entries report by → IsEndedBy lines entries report other → by ≡ other
one_ended_by lines entries report None None is also = refl
one_ended_by lines entries report None (Some other) is also = absurd (is also.0)
one_ended_by lines entries report (Some by) None is also = absurd (also is.0)
one_ended_by lines entries report (Some by) (Some other) is also =
    let first : Some by.role ≡ Some other.role = sym is.1 ∙ also.1 in
    let roles : by.role ≡ other.role = cc in
    let resets = one_reset by.reset other.reset (SayReset lines by.role) is.2 (subst (λ (r : Role). IsTrue other.reset ↔ SayReset lines r) (sym roles) also.2) in
    ap Some (ap (λ (r : Role). record by { role = r }) roles ∙ ap (λ (b : Bool). record other { reset = b }) resets)

-- ---- the text

module _ (limits : Limits) (style : Style) (came : List ℕ) where
  pub one_text : (report other : Report) (text others : List ℕ) → IsWholeText limits style came report text → IsWholeText limits style came other others → (report ≡ other) × (text ≡ others)
  one_text report other text others is also =
      let lines : is.lines ≡ also.lines = same_lines came is.lines also.lines is.are_lines also.are_lines in
      let entries : is.entries ≡ also.entries =
      same_entries is.lines is.entries also.entries (taken_given limits [] is.lines is.entries is.taken)
      (subst (λ (ls : List (List ℕ)). AreEntries ls also.entries) (sym lines) (taken_given limits [] also.lines also.entries also.taken)) in
      let same = one_shown_capture style.detail limits is.lines is.shown also.shown is.client is.server also.client also.server report other is.is_shown
      (subst (λ (ls : List (List ℕ)). IsShownCapture style.detail limits ls also.shown also.client also.server other) (sym lines) also.is_shown) in
      let ended = one_ended_by is.lines is.entries report is.ended_by also.ended_by is.is_ended_by
      (subst (λ (r : Report). IsEndedBy is.lines is.entries r also.ended_by) (sym same.3)
      (subst (λ (es : List Entry). IsEndedBy is.lines es other also.ended_by) (sym entries)
      (subst (λ (ls : List (List ℕ)). IsEndedBy ls also.entries other also.ended_by) (sym lines) also.is_ended_by))) in (
        same.3,
        is.is
            ∙ ap (λ (shown : List ShownLine). styled_capture style shown is.client is.server is.ended_by report) same.0
            ∙ ap (λ (left : LeftAtEnd). styled_capture style also.shown left is.server is.ended_by report) same.1
            ∙ ap (λ (left : LeftAtEnd). styled_capture style also.shown also.client left is.ended_by report) same.2
            ∙ ap (λ (by : Option EndedBy). styled_capture style also.shown also.client also.server by report) ended
            ∙ ap (λ (r : Report). styled_capture style also.shown also.client also.server also.ended_by r) same.3
            ∙ sym also.is,
      )
