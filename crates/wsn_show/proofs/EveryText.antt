-- Every capture whose lines are accepted has a text.
use Rattle.std.proofs.Common.{◌≡◌, ℕ, ◌⊎◌, ◌↔◌, Bool, IsTrue, Option, None, Some, List, [], inl, inr, refl, subst}
use Rattle.std.specs.List.{list_any}
use Rattle.std.specs.Str.{bytes_eq}
use Rattle.std.proofs.lemmas.List.Folds.{Any-from_list_any, list_any-from_Any}
use Rattle.std.proofs.lemmas.Slice.Eq.{bytes_eq-Decides}
use Rattle.wsn_wire.specs.declared.endpoint.Role.{Role}
use Rattle.wsn_rules.specs.declared.closing_handshake.Report.{Report}
use Rattle.wsn_rules.specs.declared.closing_handshake.Side.{Side}
use Rattle.wsn_rules.specs.declared.closing_handshake.Side.TheVariants.{Closed, Refused, Ended, Cut, Running}
use Rattle.wsn_rules.specs.Limits.{Limits, InRange}
use Rattle.wsn_rules.specs.Entries.{Entry, without_cr}
use Rattle.wsn_rules.specs.ClosingHandshake.{IsEndedEarly, IsReportOf}
use Rattle.wsn_rules.specs.TextLines.{AreLines}
use Rattle.wsn_rules.proofs.EveryCapture.{some_shown_capture}
use Rattle.wsn_rules.proofs.OneEntry.{same_entries}
use Rattle.wsn_capture.specs.LineFaults.{AreAcceptedLines}
use Rattle.wsn_capture.proofs.AcceptedTexts.{taken_given}
use Rattle.wsn_capture.proofs.EveryReport.{has_report, sent_bytes}
use Rattle.wsn_capture.specs.declared.ended_by.EndedBy.{EndedBy}
use Rattle.wsn_print.specs.declared.style.Style.{Style}
use Rattle.wsn_capture.specs.EndedBy.{reset_comment, SayReset, HasEndedEarly, IsEndedBy}
use Rattle.wsn_show.specs.EndNotes.{first_marked}
use Rattle.wsn_show.specs.Showing.{IsWholeText}
use Rattle.wsn_show.specs.Styles.{styled_capture}
use Rattle.wsn_show.proofs.EndNotes.{none_early}

-- ---- who ended the connection

has_reset : (lines : List (List ℕ)) (role : Role) → (reset : Bool) × (IsTrue reset ↔ SayReset lines role)
has_reset lines role =
    let test : List ℕ → Bool = λ line. bytes_eq (without_cr line) (reset_comment role) in (
      list_any test lines,
      (
        λ yes. let (k, x, within, at, holds) = Any-from_list_any test lines yes in (k, x, within, at, (bytes_eq-Decides (without_cr x) (reset_comment role)).0 holds),
        λ said. let (k, x, within, at, says) = said in list_any-from_Any test lines (k, x, within, at, (bytes_eq-Decides (without_cr x) (reset_comment role)).1 says),
      ),
    )

early_or_not : (side : Side) → IsEndedEarly side ⊎ (IsEndedEarly side → ⊥)
early_or_not Ended = inl tt
early_or_not Cut = inl tt
early_or_not (Closed code) = inr (λ early. early)
early_or_not (Refused refusal) = inr (λ early. early)
early_or_not Running = inr (λ early. early)

module _ (limits : Limits) (lines : List (List ℕ)) (entries : List Entry) (report : Report) (is_report : IsReportOf limits entries report) where
  by_first : HasEndedEarly report → (first : Option Role) → first_marked entries ≡ first → (by : Option EndedBy) × IsEndedBy lines entries report by
  by_first early None first = absurd (none_early limits entries report is_report first early)
  by_first early (Some role) first =
      let reset = has_reset lines role in (Some (record { role = role; reset = reset.0 }), (early, first, reset.1))

  by_sides : (IsEndedEarly report.client ⊎ (IsEndedEarly report.client → ⊥)) → (IsEndedEarly report.server ⊎ (IsEndedEarly report.server → ⊥))
      → (by : Option EndedBy) × IsEndedBy lines entries report by
  by_sides (inl client) server = by_first (inl client) (first_marked entries) refl
  by_sides (inr client) (inl server) = by_first (inr server) (first_marked entries) refl
  by_sides (inr client) (inr server) = (None, λ early. elim early [ inl is ↦ client is | inr is ↦ server is ])

  some_ended_by : (by : Option EndedBy) × IsEndedBy lines entries report by
  some_ended_by = by_sides (early_or_not report.client) (early_or_not report.server)

-- ---- the text

pub some_text : (limits : Limits) (style : Style) (came : List ℕ) (lines : List (List ℕ)) (entries : List Entry) → InRange limits → AreLines came lines → AreAcceptedLines limits lines entries
    → (report : Report) × (text : List ℕ) × IsWholeText limits style came report text
some_text limits style came lines entries range are taken =
    let given = taken_given limits [] lines entries taken in
    let report = has_report limits lines entries range given in
    let is = report.1 in
    let shown = some_shown_capture style.detail limits range lines is.entries report.0 is.given (λ role. sent_bytes role lines is.entries is.given) is.is in
    let ended = some_ended_by limits lines is.entries report.0 is.is in
    let whole : IsWholeText limits style came report.0 (styled_capture style shown.0 shown.1 shown.2 ended.0 report.0) = record {
      lines = lines;
      are_lines = are;
      entries = is.entries;
      taken = subst (AreAcceptedLines limits lines) (same_entries lines entries is.entries given is.given) taken;
      shown = shown.0;
      client = shown.1;
      server = shown.2;
      is_shown = shown.3;
      ended_by = ended.0;
      is_ended_by = ended.1;
      is = refl;
    } in (report.0, styled_capture style shown.0 shown.1 shown.2 ended.0 report.0, whole)
