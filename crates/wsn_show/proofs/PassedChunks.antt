-- A chunk of a text and the lines that it ends.
use Rattle.std.proofs.Common.{◌≡◌, ℕ, ◌+◌, ◌-◌, ◌<◌, false, List, [], ◌∷◌, ◌++◌, length, take, drop, flat_map, inl, inr, refl, sym, ap, ◌∙◌, subst, append_assoc, append-nil, length-append, length-drop, arith}
use Rattle.std.proofs.lemmas.List.{take-append-drop}
use Rattle.std.proofs.lemmas.List.Concat.{flat_map-append}
use Rattle.wsn_io.specs.Transfer.{Outgoing, IsWritten, IsPartlyWritten, IsWrittenUpToFailure, IsWrittenAtLeast}
use Rattle.wsn_io.proofs.PutTexts.{put_both, put_front}
use Rattle.wsn_rules.specs.declared.detail.Detail.{Detail}
use Rattle.wsn_rules.specs.Limits.{Limits}
use Rattle.wsn_rules.specs.Entries.{Entry}
use Rattle.wsn_rules.specs.TextLines.{IsLine, ended}
use Rattle.wsn_rules.proofs.TextLines.{ended-push, each_join}
use Rattle.wsn_rules.specs.ShownCapture.{ShownLine, AreShownAfter}
use Rattle.wsn_print.proofs.HeldParts.{rest_is}
use Rattle.wsn_print.specs.declared.style.Style.{Style}
use Rattle.wsn_show.specs.Styles.{styled_line}
use Rattle.wsn_capture.specs.declared.capture_stop.CaptureStop.TheVariants as capture
use Rattle.wsn_capture.specs.LineFaults.{AreAcceptedLines}
use Rattle.wsn_capture.specs.LineSplitters.{HasPassedOn, IsStopAt, IsStopWithin, ContinuesLine, EndsLine}
use Rattle.wsn_capture.proofs.SplitLines.{split_line, line_join, stop_line, stop_at_most, no_long}
use Rattle.wsn_capture.proofs.ChunkPrefixes.{goes_on, stop_in_rest, last_of}
use Rattle.wsn_capture.proofs.WrittenTexts.{whole_part, failed_part, more_after}
use Rattle.wsn_show.specs.declared.capture_view.CaptureView.{CaptureView}
use Rattle.wsn_show.specs.declared.showing.ShowStop.{ShowStop}
use Rattle.wsn_show.specs.declared.showing.ShowStop.TheVariants as stop
use Rattle.wsn_show.specs.CaptureViews.{ShowsLine}
use Rattle.wsn_show.specs.Showing.{IsTextOfLines, BeginWithLines, IsTextOf, IsTextSoFar}
use Rattle.wsn_show.specs.PassedLines.{HasPrinted, StopsAtLine, StopsWithin}

-- ---- lists

-- what one line more shows
pub shown_pushed : (detail : Detail) (limits : Limits) (before : List (List ℕ)) (given : List Entry) (lines : List (List ℕ)) (entries : List Entry) (shown : List ShownLine)
    (line : List ℕ) (entry : Entry) (s : ShownLine) → AreShownAfter detail limits before given lines entries shown
    → AreShownAfter detail limits (before ++ lines) (given ++ entries) (line ∷ []) (entry ∷ []) (s ∷ [])
    → AreShownAfter detail limits before given (lines ++ line ∷ []) (entries ++ entry ∷ []) (shown ++ s ∷ [])
shown_pushed detail limits before given [] [] [] line entry s are one =
    subst (λ (b : List (List ℕ)). AreShownAfter detail limits b given (line ∷ []) (entry ∷ []) (s ∷ [])) (append-nil before)
    (subst (λ (g : List Entry). AreShownAfter detail limits (before ++ []) g (line ∷ []) (entry ∷ []) (s ∷ [])) (append-nil given) one)
shown_pushed detail limits before given [] [] (t ∷ shown) line entry s are one = absurd are
shown_pushed detail limits before given [] (e ∷ entries) shown line entry s are one = absurd are
shown_pushed detail limits before given (l ∷ lines) [] shown line entry s are one = absurd are
shown_pushed detail limits before given (l ∷ lines) (e ∷ entries) [] line entry s are one = absurd are
shown_pushed detail limits before given (l ∷ lines) (e ∷ entries) (t ∷ shown) line entry s are one = (
  are.0,
  are.1,
  are.2,
  shown_pushed detail limits (before ++ l ∷ []) (given ++ e ∷ []) lines entries shown line entry s are.3
      (subst (λ (b : List (List ℕ)). AreShownAfter detail limits b ((given ++ e ∷ []) ++ entries) (line ∷ []) (entry ∷ []) (s ∷ [])) (sym (append_assoc before (l ∷ []) lines))
      (subst (λ (g : List Entry). AreShownAfter detail limits (before ++ l ∷ lines) g (line ∷ []) (entry ∷ []) (s ∷ [])) (sym (append_assoc given (e ∷ []) entries)) one)),
)

pub text_pushed : (style : Style) (shown : List ShownLine) (s : ShownLine) →
    flat_map (styled_line style) (shown ++ s ∷ []) ≡ flat_map (styled_line style) shown ++ styled_line style s
text_pushed style shown s =
    flat_map-append (styled_line style) shown (s ∷ []) ∙ ap (λ (bs : List ℕ). flat_map (styled_line style) shown ++ bs) (append-nil (styled_line style s))

-- ---- a view that has printed lines

module _ (limits : Limits) (style : Style) (first : Outgoing) (view : CaptureView) (begun : List ℕ) (now : Outgoing) (came : List ℕ)
    (has : HasPrinted limits style first view begun now came) where
  -- the text of the lines so far
  pub text_so_far : IsTextOfLines limits style has.lines (flat_map (styled_line style) has.shown)
  text_so_far = record { entries = has.entries; taken = has.has_shown.accepted.taken; shown = has.shown; are = has.are; is = refl }

  -- the line goes on
  pub printed_on : (after chunk : List ℕ) (k : ℕ) → ContinuesLine begun after chunk k → HasPrinted limits style first view after now (came ++ take k chunk)
  printed_on after chunk k goes = record {
    lines = has.lines;
    passed = goes_on limits has.lines begun came has.passed after chunk k goes;
    entries = has.entries;
    has_shown = has.has_shown;
    shown = has.shown;
    are = has.are;
    printed = has.printed;
  }

  -- one line more was shown
  module _ (new : CaptureView) (line : List ℕ) (after : Outgoing) (shows : ShowsLine limits style new has.lines has.entries line now after) where
    pub one_more : AreShownAfter style.detail limits [] [] (has.lines ++ line ∷ []) (has.entries ++ shows.entry ∷ []) (has.shown ++ shows.shown ∷ [])
    one_more = shown_pushed style.detail limits [] [] has.lines has.entries has.shown line shows.entry shows.shown has.are (shows.numbered, shows.at, shows.shows, tt)

    abbrev pub text_with_line : IsTextOfLines limits style (has.lines ++ line ∷ []) (flat_map (styled_line style) has.shown ++ styled_line style shows.shown)
    text_with_line = record {
      entries = has.entries ++ shows.entry ∷ [];
      taken = shows.has_shown.accepted.taken;
      shown = has.shown ++ shows.shown ∷ [];
      are = one_more;
      is = sym (text_pushed style has.shown shows.shown);
    }

    pub printed_with_line : IsWritten now after (styled_line style shows.shown) → IsWritten first after (flat_map (styled_line style) has.shown ++ styled_line style shows.shown)
    printed_with_line written = put_both first now after (flat_map (styled_line style) has.shown) (styled_line style shows.shown) has.printed written

    pub partly_with_line : IsPartlyWritten now after (styled_line style shows.shown) → IsPartlyWritten first after (flat_map (styled_line style) has.shown ++ styled_line style shows.shown)
    partly_with_line partly = put_front first now after (flat_map (styled_line style) has.shown) (styled_line style shows.shown) has.printed partly

    -- an LF ended it
    pub printed_line : (bytes : List ℕ) → line ≡ begun ++ bytes → IsLine bytes → length line < 8196 → IsWritten now after (styled_line style shows.shown)
        → HasPrinted limits style first new [] after (came ++ (bytes ++ 10 ∷ []))
    printed_line bytes is in_line short written =
        let lines = has.lines ++ line ∷ [] in
        let entries = has.entries ++ shows.entry ∷ [] in
        let size : length begun + length bytes < 8196 = omega (arith, short, length-append begun bytes, ap (λ (bs : List ℕ). length bs) is) in
        let taken = subst (λ (l : List ℕ). AreAcceptedLines limits (has.lines ++ l ∷ []) entries) is shows.has_shown.accepted.taken in
        record {
          lines = lines;
          passed = subst (λ (l : List ℕ). HasPassedOn limits (has.lines ++ l ∷ []) [] (came ++ (bytes ++ 10 ∷ []))) (sym is) (split_line limits has.lines begun came has.passed bytes entries in_line size taken);
          entries = entries;
          has_shown = shows.has_shown;
          shown = has.shown ++ shows.shown ∷ [];
          are = one_more;
          printed = subst (IsWritten first after) (sym (text_pushed style has.shown shows.shown)) (printed_with_line written);
        }

-- ---- stops

-- what the lines so far show was printed, and then more
pub at_least : (limits : Limits) (style : Style) (first : Outgoing) (view : CaptureView) (begun : List ℕ) (now : Outgoing) (came : List ℕ) (has : HasPrinted limits style first view begun now came) (after : Outgoing) (more : List ℕ)
    → IsWrittenUpToFailure now after more → IsWrittenAtLeast (IsTextSoFar limits style came) first after
at_least limits style first view begun now came has after more went =
    let rest = more_after first now after (flat_map (styled_line style) has.shown) more has.printed went in
    (flat_map (styled_line style) has.shown, rest.0, (has.lines, inl (has.passed.each, (begun, has.passed.in_line, has.passed.whole)), text_so_far limits style first view begun now came has), rest.1)

module _ (limits : Limits) (style : Style) (first : Outgoing) (view : CaptureView) (begun : List ℕ) (now : Outgoing) (came : List ℕ)
    (has : HasPrinted limits style first view begun now came) (new : CaptureView) (line bytes : List ℕ) (after : Outgoing) (is : line ≡ begun ++ bytes)
    (in_line : IsLine bytes) where
  begins : (chunk : List ℕ) → BeginWithLines (came ++ chunk) has.lines
  begins chunk = inl (begun ++ chunk, has.passed.each, ap (λ (bs : List ℕ). bs ++ chunk) has.passed.whole ∙ append_assoc (ended has.lines) begun chunk)

  begins_with : (ahead : List ℕ) → BeginWithLines (came ++ (bytes ++ 10 ∷ ahead)) (has.lines ++ line ∷ [])
  begins_with ahead =
      let lines = has.lines in
      inl (
        ahead,
        each_join lines (line ∷ []) has.passed.each (subst IsLine (sym is) (line_join begun bytes has.passed.in_line in_line), tt),
        ap (λ (bs : List ℕ). bs ++ (bytes ++ 10 ∷ ahead)) has.passed.whole ∙ append_assoc (ended lines) begun (bytes ++ 10 ∷ ahead)
            ∙ ap (λ (bs : List ℕ). ended lines ++ bs) (sym (append_assoc begun bytes (10 ∷ ahead)) ∙ ap (λ (bs : List ℕ). bs ++ 10 ∷ ahead) (sym is) ∙ sym (append_assoc line (10 ∷ []) ahead))
            ∙ sym (append_assoc (ended lines) (line ++ 10 ∷ []) ahead) ∙ ap (λ (bs : List ℕ). bs ++ ahead) (sym (ended-push lines line)),
      )

  before_line : (chunk : List ℕ) (number : ℕ) → number ≡ length has.lines + 1 → after ≡ now
      → (lines : List (List ℕ)) × (text : List ℕ) × BeginWithLines (came ++ chunk) lines × (number ≡ length lines + 1)
      × IsTextOfLines limits style lines text × IsWritten first after text
  before_line chunk number at same = (
    has.lines,
    flat_map (styled_line style) has.shown,
    begins chunk,
    at,
    text_so_far limits style first view begun now came has,
    subst (λ (o : Outgoing). IsWritten first o (flat_map (styled_line style) has.shown)) (sym same) has.printed,
  )

  -- an LF ends the line
  pub stops_lf : (ahead : List ℕ) (s : ShowStop) → length line < 8196 → StopsAtLine limits style new has.lines has.entries line now after s
      → StopsWithin limits style first after came (bytes ++ 10 ∷ ahead) s
  stops_lf ahead (stop.Capture (capture.Line number fault)) short stops =
      let size : length begun + length bytes < 8196 = omega (arith, short, length-append begun bytes, ap (λ (bs : List ℕ). length bs) is) in (
        stop_line limits has.lines begun came has.passed bytes ahead (capture.Line number fault) in_line size
            (subst (λ (bs : List ℕ). IsStopAt limits has.lines bs (capture.Line number fault)) is (stops.0, stops.1)),
        before_line (bytes ++ 10 ∷ ahead) number stops.0 stops.2,
      )
  stops_lf ahead (stop.Capture capture.Read) short stops = absurd stops
  stops_lf ahead stop.Write short stops = (
    (
      flat_map (styled_line style) has.shown ++ styled_line style stops.0.shown,
      inl (has.lines ++ line ∷ [], begins_with ahead, text_with_line limits style first view begun now came has new line after stops.0),
      partly_with_line limits style first view begun now came has new line after stops.0 (failed_part now after (styled_line style stops.0.shown) stops.1 stops.0.printed),
    ),
    record { done = came; last = bytes ++ 10 ∷ ahead; whole = refl; short = omega arith; written = at_least limits style first view begun now came has after (styled_line style stops.0.shown) stops.0.printed },
  )

  -- a line that is too long isn't shown
  pub not_long : length line ≡ 8196 → ShowsLine limits style new has.lines has.entries line now after → ⊥
  not_long size shows = no_long limits has.lines begun came has.passed (has.entries ++ shows.entry ∷ []) line size shows.has_shown.accepted.taken

  pub stops_long : (ahead : List ℕ) (s : ShowStop) → length line ≡ 8196 → StopsAtLine limits style new has.lines has.entries line now after s
      → StopsWithin limits style first after came (bytes ++ ahead) s
  stops_long ahead (stop.Capture (capture.Line number fault)) size stops =
      let sizes : length begun + length bytes ≡ 8196 = sym (length-append begun bytes) ∙ ap (λ (bs : List ℕ). length bs) (sym is) ∙ size in
      let parts = last_of bytes (omega (arith, sizes, has.passed.short)) in (
        subst (λ (bs : List ℕ). IsLine bs → length begun + length bs ≡ 8196 → IsStopAt limits has.lines (begun ++ bs) (capture.Line number fault)
            → IsStopWithin limits came (bs ++ ahead) (capture.Line number fault)) (sym parts.2)
            (stop_at_most limits has.lines begun came has.passed parts.0 parts.1 ahead (capture.Line number fault)) in_line sizes
            (subst (λ (bs : List ℕ). IsStopAt limits has.lines bs (capture.Line number fault)) is (stops.0, stops.1)),
        before_line (bytes ++ ahead) number stops.0 stops.2,
      )
  stops_long ahead (stop.Capture capture.Read) size stops = absurd stops
  stops_long ahead stop.Write size stops = absurd (not_long size stops.0)

-- ---- a prefix of a chunk

module _ (limits : Limits) (style : Style) (first : Outgoing) (view : CaptureView) (begun : List ℕ) (now : Outgoing) (came : List ℕ)
    (has : HasPrinted limits style first view begun now came) (new : CaptureView) (line : List ℕ) (after : Outgoing) (chunk : List ℕ) (k : ℕ)
    (ends : EndsLine begun line chunk k) where
  pub stops_in : (s : ShowStop) → StopsAtLine limits style new has.lines has.entries line now after s → StopsWithin limits style first after came chunk s
  stops_in s stops =
      let ahead = drop k chunk in
      elim ends.ends [
        | inl lf ↦
            subst (λ (bs : List ℕ). StopsWithin limits style first after came bs s)
            (sym (append_assoc ends.bytes (10 ∷ []) ahead) ∙ ap (λ (bs : List ℕ). bs ++ ahead) (sym lf.0) ∙ take-append-drop k chunk)
            (stops_lf limits style first view begun now came has new line ends.bytes after ends.is ends.in_line ahead s lf.1 stops)
        | inr long ↦
            subst (λ (bs : List ℕ). StopsWithin limits style first after came bs s)
            (ap (λ (bs : List ℕ). bs ++ ahead) (sym long.0) ∙ take-append-drop k chunk)
            (stops_long limits style first view begun now came has new line ends.bytes after ends.is ends.in_line ahead s long.1 stops)
      ]

  pub printed_in : ShowsLine limits style new has.lines has.entries line now after → after.failed ≡ false
      → HasPrinted limits style first new [] after (came ++ take k chunk)
  printed_in shows works =
      elim ends.ends [
        | inl lf ↦
            subst (λ (bs : List ℕ). HasPrinted limits style first new [] after (came ++ bs)) (sym lf.0)
            (printed_line limits style first view begun now came has new line after shows ends.bytes ends.is ends.in_line lf.1
            (whole_part now after (styled_line style shows.shown) works shows.printed))
        | inr long ↦ absurd (not_long limits style first view begun now came has new line ends.bytes after ends.is ends.in_line long.1 shows)
      ]

-- ---- the rest of a chunk

rest_whole : (came chunk : List ℕ) (at : ℕ) → (came ++ take at chunk) ++ take (length chunk - at) (drop at chunk) ≡ came ++ chunk
rest_whole came chunk at =
    append_assoc came (take at chunk) (take (length chunk - at) (drop at chunk))
    ∙ ap (λ (bs : List ℕ). came ++ (take at chunk ++ bs)) (rest_is at chunk) ∙ ap (λ (bs : List ℕ). came ++ bs) (take-append-drop at chunk)

pub stops_in_rest : (limits : Limits) (style : Style) (first now : Outgoing) (came chunk : List ℕ) (at : ℕ) (s : ShowStop)
    → StopsWithin limits style first now (came ++ take at chunk) (take (length chunk - at) (drop at chunk)) s → StopsWithin limits style first now came chunk s
stops_in_rest limits style first now came chunk at (stop.Capture (capture.Line number fault)) (within, (lines, text, begins, at_line, is, written)) = (
  stop_in_rest limits came chunk at (capture.Line number fault) within,
  (lines, text, subst (λ (bs : List ℕ). BeginWithLines bs lines) (rest_whole came chunk at) begins, at_line, is, written),
)
stops_in_rest limits style first now came chunk at (stop.Capture capture.Read) stops = absurd stops
stops_in_rest limits style first now came chunk at stop.Write ((text, is, partly), but) = (
  (text, subst (λ (bs : List ℕ). IsTextOf limits style bs text) (rest_whole came chunk at) is, partly),
  record {
    done = but.done;
    last = but.last;
    whole = sym (rest_whole came chunk at) ∙ but.whole;
    short = let size = ap (λ (bs : List ℕ). length bs) (rest_is at chunk) ∙ length-drop at chunk in let most = but.short in omega (arith, size, most);
    written = but.written;
  },
)
