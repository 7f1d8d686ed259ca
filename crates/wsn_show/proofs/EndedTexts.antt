-- The end of a text that is shown.
use Rattle.std.proofs.Common.{◌≡◌, ℕ, true, false, Ok, Err, List, [], ◌∷◌, ◌++◌, flat_map, take, inl, inr, refl, sym, ap, ◌∙◌, subst, append-nil, append_assoc}
use Rattle.std.proofs.KnownBytes.{Appends-trans}
use Rattle.std.specs.Io.KnownBytes.{Appends}
use Rattle.wsn_io.specs.Transfer.{Outgoing, IsWritten, IsPartlyWritten}
use Rattle.wsn_io.proofs.PutTexts.{put_both, put_front, put_no_more}
use Rattle.wsn_rules.specs.Limits.{Limits}
use Rattle.wsn_rules.specs.TextLines.{ended, AreLines}
use Rattle.wsn_rules.proofs.TextLines.{lines_at_end}
use Rattle.wsn_rules.specs.declared.closing_handshake.Report.{Report}
use Rattle.wsn_wire.specs.declared.endpoint.Role.TheVariants.{Client, Server}
use Rattle.wsn_print.specs.declared.style.Style.{Style}
use Rattle.wsn_show.specs.Styles.{styled_line, styled_left, styled_ended_by, styled_capture, styled_report}
use Rattle.wsn_capture.specs.declared.capture_stop.CaptureStop.TheVariants as capture
use Rattle.wsn_capture.specs.declared.tail_counts.Tails.{Tails}
use Rattle.wsn_capture.specs.declared.refused_line.RefusedLines.{RefusedLines}
use Rattle.wsn_capture.specs.TailCounts.{AreTails}
use Rattle.wsn_capture.specs.RefusedLines.{AreRefusedLines}
use Rattle.wsn_capture.proofs.SplitLines.{unfaulted, faulty_last}
use Rattle.wsn_capture.proofs.AcceptedTexts.{taken_given}
use Rattle.wsn_show.specs.declared.capture_view.CaptureView.{CaptureView}
use Rattle.wsn_show.specs.declared.showing.ShowStop.{ShowStop}
use Rattle.wsn_show.specs.declared.showing.ShowStop.TheVariants as stop
use Rattle.wsn_show.specs.CaptureViews.{ShowsLine, Finishes}
use Rattle.wsn_show.specs.Showing.{IsTextOfLines, IsWholeText}
use Rattle.wsn_show.specs.PassedLines.{HasPrinted, HasPrintedLines, StopsAtLine, EndsShowing}
use Rattle.wsn_capture.proofs.WrittenTexts.{failed_part, more_after, whole_part}
use Rattle.wsn_show.proofs.PassedChunks.{text_so_far, text_with_line, partly_with_line, printed_with_line, one_more, at_least}

-- ---- the report

module _ (limits : Limits) (style : Style) (first : Outgoing) (came : List ℕ) (lines : List (List ℕ)) (are_lines : AreLines came lines)
    (view : CaptureView) (now : Outgoing) (has : HasPrintedLines limits style first view lines now) (after : Outgoing) (report : Report)
    (finishes : Finishes limits style lines has.entries now after report) where
  abbrev lines_text : List ℕ
  lines_text = flat_map (styled_line style) has.shown

  -- what is left over, and who ended the connection
  abbrev last_text : List ℕ
  last_text = styled_left style Client finishes.client ++ styled_left style Server finishes.server ++ styled_ended_by style finishes.ended_by

  -- the order in which it is written
  pub is_styled : lines_text ++ last_text ++ styled_report style report
      ≡ styled_capture style has.shown finishes.client finishes.server finishes.ended_by report
  is_styled =
      let client = styled_left style Client finishes.client in
      let server = styled_left style Server finishes.server in
      let ended = styled_ended_by style finishes.ended_by in
      ap (λ (bs : List ℕ). bs ++ styled_report style report)
      (sym (append_assoc lines_text (client ++ server) ended) ∙ ap (λ (bs : List ℕ). bs ++ ended) (sym (append_assoc lines_text client server)))

  abbrev pub whole_text : IsWholeText limits style came report (lines_text ++ last_text ++ styled_report style report)
  whole_text =
      record {
        lines = lines;
        are_lines = are_lines;
        entries = has.entries;
        taken = has.has_shown.accepted.taken;
        shown = has.shown;
        client = finishes.client;
        server = finishes.server;
        is_shown = record {
          entries = has.entries;
          given = taken_given limits [] lines has.entries has.has_shown.accepted.taken;
          each = has.are;
          of_client = finishes.of_client;
          of_server = finishes.of_server;
          is_report = finishes.is_report;
        };
        ended_by = finishes.ended_by;
        is_ended_by = finishes.is_ended_by;
        is = is_styled;
      }

  lines_are : IsTextOfLines limits style lines lines_text
  lines_are = record { entries = has.entries; taken = has.has_shown.accepted.taken; shown = has.shown; are = has.are; is = refl }

  -- a write failed before the report
  pub stopped_before : after.failed ≡ true → EndsShowing limits style first after came (Err stop.Write)
  stopped_before failed =
      let rest = more_after first now after lines_text last_text has.printed finishes.printed in (
        (
          lines_text ++ last_text ++ styled_report style report,
          inr (report, whole_text),
          put_no_more first after (lines_text ++ last_text) (styled_report style report)
              (put_front first now after lines_text last_text has.printed (failed_part now after last_text failed finishes.printed)),
        ),
        (lines_text, rest.0, (lines, inr are_lines, lines_are), rest.1),
      )

  module _ (out : Outgoing) (works : after.failed ≡ false) where
    all_before : IsWritten first after (lines_text ++ last_text)
    all_before = put_both first now after lines_text last_text has.printed (whole_part now after last_text works finishes.printed)

    pub reported : (tails : Tails) → AreTails limits has.entries tails → (refused : RefusedLines) → AreRefusedLines limits has.entries refused → IsWritten after out (styled_report style report)
        → EndsShowing limits style first out came (Ok (record { report = report; tails = tails; refused = refused }))
    reported tails are_tails refused are_refused written = (lines_text ++ last_text ++ styled_report style report, whole_text, are_tails, are_refused, put_both first after out (lines_text ++ last_text) (styled_report style report) all_before written)

    pub stopped_in : IsPartlyWritten after out (styled_report style report) → EndsShowing limits style first out came (Err stop.Write)
    stopped_in partly =
        let put = take partly.1.0 (styled_report style report) in (
          (
            lines_text ++ last_text ++ styled_report style report,
            inr (report, whole_text),
            put_front first after out (lines_text ++ last_text) (styled_report style report) all_before partly,
          ),
          (
            lines_text,
            last_text ++ put,
            (lines, inr are_lines, lines_are),
            subst (λ (bs : List ℕ). Appends first.written out.written bs) (append_assoc lines_text last_text put)
                (Appends-trans first.written after.written out.written (lines_text ++ last_text) put all_before.1 partly.1.1),
          ),
        )

-- ---- the last line

module _ (limits : Limits) (style : Style) (first : Outgoing) (view : CaptureView) (begun : List ℕ) (now : Outgoing) (came : List ℕ)
    (has : HasPrinted limits style first view begun now came) where
  -- there is none
  pub no_more_lines : begun ≡ [] → AreLines came has.lines
  no_more_lines none = record {
    each = has.passed.each;
    joined = inl (has.passed.whole ∙ ap (λ (bs : List ℕ). ended has.lines ++ bs) none ∙ append-nil (ended has.lines));
  }

  pub all_printed : HasPrintedLines limits style first view has.lines now
  all_printed = record { entries = has.entries; has_shown = has.has_shown; shown = has.shown; are = has.are; printed = has.printed }

  module _ (some : begun ≡ [] → ⊥) (new : CaptureView) (after : Outgoing) where
    pub with_last : AreLines came (has.lines ++ begun ∷ [])
    with_last =
        subst (λ (bs : List ℕ). AreLines bs (has.lines ++ begun ∷ [])) (sym has.passed.whole)
        (lines_at_end has.lines begun has.passed.each has.passed.in_line some)

    pub last_printed : (shows : ShowsLine limits style new has.lines has.entries begun now after) → after.failed ≡ false
        → HasPrintedLines limits style first new (has.lines ++ begun ∷ []) after
    last_printed shows works =
        let text = text_with_line limits style first view begun now came has new begun after shows in
        record {
          entries = has.entries ++ shows.entry ∷ [];
          has_shown = shows.has_shown;
          shown = text.shown;
          are = one_more limits style first view begun now came has new begun after shows;
          printed = subst (IsWritten first after) text.is
              (printed_with_line limits style first view begun now came has new begun after shows (whole_part now after (styled_line style shows.shown) works shows.printed));
        }

    pub last_stops : (s : ShowStop) → StopsAtLine limits style new has.lines has.entries begun now after s → EndsShowing limits style first after came (Err s)
    last_stops (stop.Capture (capture.Line number fault)) stops = (
      faulty_last limits has.lines begun came has.passed number fault some (stops.0, stops.1),
      unfaulted limits has.lines begun came has.passed,
      (
        has.lines,
        flat_map (styled_line style) has.shown,
        inl (begun, has.passed.each, has.passed.whole),
        stops.0,
        text_so_far limits style first view begun now came has,
        subst (λ (o : Outgoing). IsWritten first o (flat_map (styled_line style) has.shown)) (sym stops.2) has.printed,
      ),
    )
    last_stops (stop.Capture capture.Read) stops = absurd stops
    last_stops stop.Write stops = (
      (
        flat_map (styled_line style) has.shown ++ styled_line style stops.0.shown,
        inl (has.lines ++ begun ∷ [], inr with_last, text_with_line limits style first view begun now came has new begun after stops.0),
        partly_with_line limits style first view begun now came has new begun after stops.0 (failed_part now after (styled_line style stops.0.shown) stops.1 stops.0.printed),
      ),
      at_least limits style first view begun now came has after (styled_line style stops.0.shown) stops.0.printed,
    )
