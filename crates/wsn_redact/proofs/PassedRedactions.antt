-- A chunk of a text and the lines that it ends, redacted.
use Rattle.std.proofs.Common.{◌≡◌, ℕ, ◌+◌, ◌-◌, ◌<◌, false, Result, Ok, Err, List, [], ◌∷◌, ◌++◌, length, take, drop, inl, inr, refl, sym, ap, ◌∙◌, subst, append_assoc, append-nil, length-append, length-drop, arith}
use Rattle.std.specs.Prelude.{OnOk, IfErr}
use Rattle.std.proofs.lemmas.List.{take-append-drop, take_all}
use Rattle.wsn_io.specs.Transfer.{Outgoing, IsWritten, IsPartlyWritten, IsWrittenUpToFailure, IsWrittenAtLeast}
use Rattle.wsn_io.proofs.PutTexts.{put_both, put_front}
use Rattle.wsn_rules.specs.Limits.{Limits}
use Rattle.wsn_rules.specs.Entries.{Entry}
use Rattle.wsn_rules.specs.TextLines.{IsLine, ended, AreLines}
use Rattle.wsn_rules.proofs.TextLines.{ended-push, each_join, lines_at_end}
use Rattle.wsn_capture.specs.declared.capture_stop.CaptureStop.TheVariants as capture
use Rattle.wsn_capture.specs.LineFaults.{AreAcceptedLines}
use Rattle.wsn_capture.specs.LineSplitters.{HasPassedOn, IsStopAt, IsStopWithin, ContinuesLine, EndsLine}
use Rattle.wsn_capture.proofs.SplitLines.{split_line, line_join, stop_line, stop_at_most, no_long, unfaulted, faulty_last}
use Rattle.wsn_capture.proofs.ChunkPrefixes.{goes_on, stop_in_rest, last_of}
use Rattle.wsn_capture.proofs.WrittenTexts.{more_after, failed_part, whole_part}
use Rattle.wsn_redact.specs.declared.capture_redactor.CaptureRedactor.{CaptureRedactor}
use Rattle.wsn_redact.specs.declared.capture_redacting.RedactStop.{RedactStop}
use Rattle.wsn_redact.specs.declared.capture_redacting.RedactStop.TheVariants as stop
use Rattle.wsn_redact.specs.RedactedCaptures.{IsRedactedCapture}
use Rattle.wsn_redact.specs.RedactingCaptures.{IsTextOfLines, BeginWithLines, IsTextOf, IsWholeText, IsWrittenBefore, IsTextOfWhole}
use Rattle.wsn_redact.specs.PassedRedactions.{HasRedactedLines, HasWritten, PutsLine, StopsAtLine, StopsWithin, EndsRedacting}
use Rattle.wsn_redact.proofs.RedactedLines.{redacted_so_far}

pub rest_is : (n : ℕ) (bs : List ℕ) → take (length bs - n) (drop n bs) ≡ drop n bs
rest_is n bs = take_all (length bs - n) (drop n bs) (omega (arith, length-drop n bs))

-- ---- a redactor whose lines were written

module _ (limits : Limits) (first : Outgoing) (redactor : CaptureRedactor) (begun : List ℕ) (now : Outgoing) (came : List ℕ)
    (has : HasWritten limits first redactor begun now came) where
  pub so_far : IsRedactedCapture limits has.lines has.redacted
  so_far = redacted_so_far limits redactor has.lines has.entries has.others has.redacted has.has_redacted

  -- the text of the lines so far
  pub text_so_far : IsTextOfLines limits has.lines (ended has.redacted)
  text_so_far = (has.redacted, so_far, refl)

  -- the line goes on
  pub written_on : (after chunk : List ℕ) (k : ℕ) → ContinuesLine begun after chunk k → HasWritten limits first redactor after now (came ++ take k chunk)
  written_on after chunk k goes = record {
    lines = has.lines;
    passed = goes_on limits has.lines begun came has.passed after chunk k goes;
    entries = has.entries;
    others = has.others;
    redacted = has.redacted;
    has_redacted = has.has_redacted;
    written = has.written;
  }

  -- one line more was redacted
  module _ (new : CaptureRedactor) (line lf : List ℕ) (after : Outgoing) (puts : PutsLine limits new has.lines has.entries has.others has.redacted line lf now after) where
    pub with_line : IsRedactedCapture limits (has.lines ++ line ∷ []) (has.redacted ++ puts.became ∷ [])
    with_line = redacted_so_far limits new (has.lines ++ line ∷ []) (has.entries ++ puts.redacts.entry ∷ []) (has.others ++ puts.redacts.other ∷ []) (has.redacted ++ puts.became ∷ []) puts.redacts.has_redacted

    pub written_with_line : IsWritten now after (puts.became ++ lf) → IsWritten first after (ended has.redacted ++ (puts.became ++ lf))
    written_with_line written = put_both first now after (ended has.redacted) (puts.became ++ lf) has.written written

    pub partly_with_line : IsPartlyWritten now after (puts.became ++ lf) → IsPartlyWritten first after (ended has.redacted ++ (puts.became ++ lf))
    partly_with_line partly = put_front first now after (ended has.redacted) (puts.became ++ lf) has.written partly

  module _ (new : CaptureRedactor) (line : List ℕ) (after : Outgoing) (puts : PutsLine limits new has.lines has.entries has.others has.redacted line (10 ∷ []) now after) where
    pub text_with_line : IsTextOfLines limits (has.lines ++ line ∷ []) (ended has.redacted ++ (puts.became ++ 10 ∷ []))
    text_with_line = (has.redacted ++ puts.became ∷ [], with_line new line (10 ∷ []) after puts, sym (ended-push has.redacted puts.became))

    -- an LF ended it
    pub written_line : (bytes : List ℕ) → line ≡ begun ++ bytes → IsLine bytes → length line < 8196 → IsWritten now after (puts.became ++ 10 ∷ [])
        → HasWritten limits first new [] after (came ++ (bytes ++ 10 ∷ []))
    written_line bytes is in_line short written =
        let lines = has.lines ++ line ∷ [] in
        let entries = has.entries ++ puts.redacts.entry ∷ [] in
        let size : length begun + length bytes < 8196 = omega (arith, short, length-append begun bytes, ap (λ (bs : List ℕ). length bs) is) in
        let taken = subst (λ (l : List ℕ). AreAcceptedLines limits (has.lines ++ l ∷ []) entries) is puts.redacts.has_redacted.accepted.taken in
        record {
          lines = lines;
          passed = subst (λ (l : List ℕ). HasPassedOn limits (has.lines ++ l ∷ []) [] (came ++ (bytes ++ 10 ∷ []))) (sym is) (split_line limits has.lines begun came has.passed bytes entries in_line size taken);
          entries = entries;
          others = has.others ++ puts.redacts.other ∷ [];
          redacted = has.redacted ++ puts.became ∷ [];
          has_redacted = puts.redacts.has_redacted;
          written = subst (IsWritten first after) (sym (ended-push has.redacted puts.became)) (written_with_line new line (10 ∷ []) after puts written);
        }

  -- what the lines so far became was written, and then more
  pub at_least : (after : Outgoing) (more : List ℕ) → IsWrittenUpToFailure now after more → IsWrittenAtLeast (IsTextOfWhole limits came) first after
  at_least after more went =
      let rest = more_after first now after (ended has.redacted) more has.written went in
      (ended has.redacted, rest.0, (has.lines, begun, (has.passed.each, has.passed.whole), has.passed.in_line, text_so_far), rest.1)

-- ---- stops

module _ (limits : Limits) (first : Outgoing) (redactor : CaptureRedactor) (begun : List ℕ) (now : Outgoing) (came : List ℕ)
    (has : HasWritten limits first redactor begun now came) (new : CaptureRedactor) (line bytes : List ℕ) (after : Outgoing) (is : line ≡ begun ++ bytes)
    (in_line : IsLine bytes) where
  begins : (chunk : List ℕ) → BeginWithLines (came ++ chunk) has.lines (begun ++ chunk)
  begins chunk = (has.passed.each, ap (λ (bs : List ℕ). bs ++ chunk) has.passed.whole ∙ append_assoc (ended has.lines) begun chunk)

  begins_with : (ahead : List ℕ) → BeginWithLines (came ++ (bytes ++ 10 ∷ ahead)) (has.lines ++ line ∷ []) ahead
  begins_with ahead =
      let lines = has.lines in (
        each_join lines (line ∷ []) has.passed.each (subst IsLine (sym is) (line_join begun bytes has.passed.in_line in_line), tt),
        ap (λ (bs : List ℕ). bs ++ (bytes ++ 10 ∷ ahead)) has.passed.whole ∙ append_assoc (ended lines) begun (bytes ++ 10 ∷ ahead)
            ∙ ap (λ (bs : List ℕ). ended lines ++ bs) (sym (append_assoc begun bytes (10 ∷ ahead)) ∙ ap (λ (bs : List ℕ). bs ++ 10 ∷ ahead) (sym is) ∙ sym (append_assoc line (10 ∷ []) ahead))
            ∙ sym (append_assoc (ended lines) (line ++ 10 ∷ []) ahead) ∙ ap (λ (bs : List ℕ). bs ++ ahead) (sym (ended-push lines line)),
      )

  before_line : (chunk : List ℕ) (number : ℕ) → number ≡ length has.lines + 1 → after ≡ now → IsWrittenBefore limits (came ++ chunk) number first after
  before_line chunk number at same = (
    has.lines,
    begun ++ chunk,
    ended has.redacted,
    begins chunk,
    at,
    text_so_far limits first redactor begun now came has,
    subst (λ (o : Outgoing). IsWritten first o (ended has.redacted)) (sym same) has.written,
  )

  -- an LF ends the line
  pub stops_lf : (ahead : List ℕ) (s : RedactStop) → length line < 8196 → StopsAtLine limits new has.lines has.entries has.others has.redacted line (10 ∷ []) now after s
      → StopsWithin limits first after came (bytes ++ 10 ∷ ahead) s
  stops_lf ahead (stop.Capture (capture.Line number fault)) short stops =
      let size : length begun + length bytes < 8196 = omega (arith, short, length-append begun bytes, ap (λ (bs : List ℕ). length bs) is) in (
        stop_line limits has.lines begun came has.passed bytes ahead (capture.Line number fault) in_line size
            (subst (λ (bs : List ℕ). IsStopAt limits has.lines bs (capture.Line number fault)) is (stops.0, stops.1)),
        before_line (bytes ++ 10 ∷ ahead) number stops.0 stops.2,
      )
  stops_lf ahead (stop.Capture capture.Read) short stops = absurd stops
  stops_lf ahead stop.Write short stops = (
    (
      ended has.redacted ++ (stops.0.became ++ 10 ∷ []),
      inl (has.lines ++ line ∷ [], ahead, begins_with ahead, text_with_line limits first redactor begun now came has new line after stops.0),
      partly_with_line limits first redactor begun now came has new line (10 ∷ []) after stops.0 (failed_part now after (stops.0.became ++ 10 ∷ []) stops.1 stops.0.written),
    ),
    record { done = came; last = bytes ++ 10 ∷ ahead; whole = refl; short = omega arith; written = at_least limits first redactor begun now came has after (stops.0.became ++ 10 ∷ []) stops.0.written },
  )

  -- a line that is too long isn't redacted
  pub not_long : length line ≡ 8196 → PutsLine limits new has.lines has.entries has.others has.redacted line (10 ∷ []) now after → ⊥
  not_long size puts = no_long limits has.lines begun came has.passed (has.entries ++ puts.redacts.entry ∷ []) line size puts.redacts.has_redacted.accepted.taken

  pub stops_long : (ahead : List ℕ) (s : RedactStop) → length line ≡ 8196 → StopsAtLine limits new has.lines has.entries has.others has.redacted line (10 ∷ []) now after s
      → StopsWithin limits first after came (bytes ++ ahead) s
  stops_long ahead (stop.Capture (capture.Line number fault)) size stops =
      let sizes : length begun + length bytes ≡ 8196 = sym (length-append begun bytes) ∙ ap (λ (bs : List ℕ). length bs) (sym is) ∙ size in
      let parts = last_of bytes (omega (arith, sizes, has.passed.short)) in (
        subst (λ (bs : List ℕ). IsLine bs → length begun + length bs ≡ 8196 → IsStopAt limits has.lines (begun ++ bs) (capture.Line number fault)
            → IsStopWithin limits came (bs ++ ahead) (capture.Line number fault)) (sym parts.2)
            (stop_at_most limits has.lines begun came has.passed parts.0 parts.1 ahead (capture.Line number fault)) in_line sizes
            (subst (λ (bs : List ℕ). IsStopAt limits has.lines bs (capture.Line number fault)) is (stops.0, stops.1)),
        before_line (bytes ++ ahead) number stops.0 stops.2,
      )
  stops_long ahead (stop.Capture capture.Read) size stops = absurd stops
  stops_long ahead stop.Write size stops = absurd (not_long size stops.0)

-- ---- a prefix of a chunk

module _ (limits : Limits) (first : Outgoing) (redactor : CaptureRedactor) (begun : List ℕ) (now : Outgoing) (came : List ℕ)
    (has : HasWritten limits first redactor begun now came) (new : CaptureRedactor) (line : List ℕ) (after : Outgoing) (chunk : List ℕ) (k : ℕ)
    (ends : EndsLine begun line chunk k) where
  pub stops_in : (s : RedactStop) → StopsAtLine limits new has.lines has.entries has.others has.redacted line (10 ∷ []) now after s → StopsWithin limits first after came chunk s
  stops_in s stops =
      let ahead = drop k chunk in
      elim ends.ends [
        | inl lf ↦
            subst (λ (bs : List ℕ). StopsWithin limits first after came bs s)
            (sym (append_assoc ends.bytes (10 ∷ []) ahead) ∙ ap (λ (bs : List ℕ). bs ++ ahead) (sym lf.0) ∙ take-append-drop k chunk)
            (stops_lf limits first redactor begun now came has new line ends.bytes after ends.is ends.in_line ahead s lf.1 stops)
        | inr long ↦
            subst (λ (bs : List ℕ). StopsWithin limits first after came bs s)
            (ap (λ (bs : List ℕ). bs ++ ahead) (sym long.0) ∙ take-append-drop k chunk)
            (stops_long limits first redactor begun now came has new line ends.bytes after ends.is ends.in_line ahead s long.1 stops)
      ]

  pub written_in : PutsLine limits new has.lines has.entries has.others has.redacted line (10 ∷ []) now after → after.failed ≡ false
      → HasWritten limits first new [] after (came ++ take k chunk)
  written_in puts works =
      elim ends.ends [
        | inl lf ↦
            subst (λ (bs : List ℕ). HasWritten limits first new [] after (came ++ bs)) (sym lf.0)
            (written_line limits first redactor begun now came has new line after puts ends.bytes ends.is ends.in_line lf.1
            (whole_part now after (puts.became ++ 10 ∷ []) works puts.written))
        | inr long ↦ absurd (not_long limits first redactor begun now came has new line ends.bytes after ends.is ends.in_line long.1 puts)
      ]

-- ---- the rest of a chunk

rest_whole : (came chunk : List ℕ) (at : ℕ) → (came ++ take at chunk) ++ take (length chunk - at) (drop at chunk) ≡ came ++ chunk
rest_whole came chunk at =
    append_assoc came (take at chunk) (take (length chunk - at) (drop at chunk))
    ∙ ap (λ (bs : List ℕ). came ++ (take at chunk ++ bs)) (rest_is at chunk) ∙ ap (λ (bs : List ℕ). came ++ bs) (take-append-drop at chunk)

pub stops_in_rest : (limits : Limits) (first now : Outgoing) (came chunk : List ℕ) (at : ℕ) (s : RedactStop)
    → StopsWithin limits first now (came ++ take at chunk) (take (length chunk - at) (drop at chunk)) s → StopsWithin limits first now came chunk s
stops_in_rest limits first now came chunk at (stop.Capture (capture.Line number fault)) (within, before) = (
  stop_in_rest limits came chunk at (capture.Line number fault) within,
  subst (λ (bs : List ℕ). IsWrittenBefore limits bs number first now) (rest_whole came chunk at) before,
)
stops_in_rest limits first now came chunk at (stop.Capture capture.Read) stops = absurd stops
stops_in_rest limits first now came chunk at stop.Write ((text, is, partly), but) = (
  (text, subst (λ (bs : List ℕ). IsTextOf limits bs text) (rest_whole came chunk at) is, partly),
  record {
    done = but.done;
    last = but.last;
    whole = sym (rest_whole came chunk at) ∙ but.whole;
    short = let size = ap (λ (bs : List ℕ). length bs) (rest_is at chunk) ∙ length-drop at chunk in let most = but.short in omega (arith, size, most);
    written = but.written;
  },
)

-- ---- the end of the text

module _ (limits : Limits) (first : Outgoing) (redactor : CaptureRedactor) (begun : List ℕ) (now : Outgoing) (came : List ℕ)
    (has : HasWritten limits first redactor begun now came) where
  -- no line has begun
  pub ends_with_lf : begun ≡ [] → EndsRedacting limits first now came (Ok tt)
  ends_with_lf none =
      let all = has.passed.whole ∙ ap (λ (bs : List ℕ). ended has.lines ++ bs) none ∙ append-nil (ended has.lines) in (
        ended has.redacted,
        record {
          lines = has.lines;
          are_lines = record { each = has.passed.each; joined = inl all };
          redacted = has.redacted;
          is_redacted = so_far limits first redactor begun now came has;
          alike = inl (all, refl);
        },
        has.written,
      )

  module _ (some : begun ≡ [] → ⊥) (new : CaptureRedactor) (after : Outgoing) where
    with_last : AreLines came (has.lines ++ begun ∷ [])
    with_last =
        subst (λ (bs : List ℕ). AreLines bs (has.lines ++ begun ∷ [])) (sym has.passed.whole)
        (lines_at_end has.lines begun has.passed.each has.passed.in_line some)

    whole_text : (puts : PutsLine limits new has.lines has.entries has.others has.redacted begun [] now after) → IsWholeText limits came (ended has.redacted ++ (puts.became ++ []))
    whole_text puts = record {
      lines = has.lines ++ begun ∷ [];
      are_lines = with_last;
      redacted = has.redacted ++ puts.became ∷ [];
      is_redacted = with_line limits first redactor begun now came has new begun [] after puts;
      alike = inr (record {
        before = has.lines;
        last = begun;
        lines_are = refl;
        some = some;
        came_is = has.passed.whole;
        became = has.redacted;
        last_became = puts.became;
        redacted_are = refl;
        text_is = ap (λ (bs : List ℕ). ended has.redacted ++ bs) (append-nil puts.became);
      });
    }

    pub last_written : PutsLine limits new has.lines has.entries has.others has.redacted begun [] now after → after.failed ≡ false → EndsRedacting limits first after came (Ok tt)
    last_written puts works = (
      ended has.redacted ++ (puts.became ++ []),
      whole_text puts,
      written_with_line limits first redactor begun now came has new begun [] after puts (whole_part now after (puts.became ++ []) works puts.written),
    )

    pub last_stops : (s : RedactStop) → StopsAtLine limits new has.lines has.entries has.others has.redacted begun [] now after s → EndsRedacting limits first after came (Err s)
    last_stops (stop.Capture (capture.Line number fault)) stops = (
      faulty_last limits has.lines begun came has.passed number fault some (stops.0, stops.1),
      unfaulted limits has.lines begun came has.passed,
      (
        has.lines,
        begun,
        ended has.redacted,
        (has.passed.each, has.passed.whole),
        stops.0,
        text_so_far limits first redactor begun now came has,
        subst (λ (o : Outgoing). IsWritten first o (ended has.redacted)) (sym stops.2) has.written,
      ),
    )
    last_stops (stop.Capture capture.Read) stops = absurd stops
    last_stops stop.Write stops = (
      (
        ended has.redacted ++ (stops.0.became ++ []),
        inr (whole_text stops.0),
        partly_with_line limits first redactor begun now came has new begun [] after stops.0 (failed_part now after (stops.0.became ++ []) stops.1 stops.0.written),
      ),
      at_least limits first redactor begun now came has after (stops.0.became ++ []) stops.0.written,
    )

    -- the answer where the last line was redacted
    pub last_of_text : (result : Result (Unit {0}) RedactStop)
        → OnOk result ((l : Limits) (lines : List (List ℕ)) (entries others : List Entry) (redacted : List (List ℕ)) → HasRedactedLines l redactor lines entries others redacted → PutsLine l new lines entries others redacted begun [] now after)
        → OnOk result (after.failed ≡ false)
        → IfErr result (λ s. (l : Limits) (lines : List (List ℕ)) (entries others : List Entry) (redacted : List (List ℕ)) → HasRedactedLines l redactor lines entries others redacted → StopsAtLine l new lines entries others redacted begun [] now after s)
        → EndsRedacting limits first after came result
    last_of_text (Ok done) puts works stops = last_written (puts limits has.lines has.entries has.others has.redacted has.has_redacted) works
    last_of_text (Err s) puts works stops = last_stops s (stops limits has.lines has.entries has.others has.redacted has.has_redacted)
