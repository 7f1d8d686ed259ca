-- One more line of a capture: its entry, and the time that holds after it.
use Rattle.std.proofs.Common.{◌≡◌, ℕ, ◌+◌, ◌≤◌, ◌<◌, Option, None, Some, List, [], ◌∷◌, ◌++◌, length, inl, inr, refl, sym, ap, ◌∙◌, subst, append_assoc, append-nil, length-append, arith}
use Rattle.std.specs.List.{AllByRecursion}
use Rattle.wsn_io.specs.Transfer.{Outgoing}
use Rattle.wsn_rules.specs.Limits.{Limits}
use Rattle.wsn_rules.specs.Entries.{Entry, without_cr}
use Rattle.wsn_rules.specs.ShownCapture.{IsNoTime, IsTimeAfter}
use Rattle.wsn_capture.specs.declared.capture_lines.CaptureLines.{CaptureLines}
use Rattle.wsn_capture.specs.declared.line_fault.LineFault.TheVariants.{TooLong}
use Rattle.wsn_capture.specs.LineFaults.{IsAcceptedLine, AreAcceptedAfter}
use Rattle.wsn_capture.specs.CaptureLines.{HasAccepted, HasNotedCloses, count_of}
use Rattle.wsn_capture.proofs.AcceptedLines.{accepted_count}
use Rattle.wsn_print.specs.declared.style.Style.{Style}
use Rattle.wsn_show.specs.declared.capture_view.CaptureView.{CaptureView}
use Rattle.wsn_show.specs.declared.end_notes.EndNotes.{EndNotes}
use Rattle.wsn_show.specs.EndNotes.{HasNotedEnd, HasNotedTimes}
use Rattle.wsn_show.specs.declared.last_times.LastTimes.{LastTimes}
use Rattle.wsn_show.specs.CaptureViews.{HasShownLines, IsAcceptedText, CanShow, IsTimeNext, ShowsText, ShowsLine}

-- ---- the last of the accepted lines

last_line : (limits : Limits) (before : List Entry) (lines : List (List ℕ)) (entries : List Entry) (line : List ℕ) (entry : Entry) → AreAcceptedAfter limits before lines entries
    → AreAcceptedAfter limits before (lines ++ line ∷ []) (entries ++ entry ∷ []) → IsAcceptedLine limits (before ++ entries) line entry
last_line limits before [] [] line entry are taken = subst (λ (given : List Entry). IsAcceptedLine limits given line entry) (sym (append-nil before)) taken.0
last_line limits before [] (e ∷ entries) line entry are taken = absurd are
last_line limits before (l ∷ lines) [] line entry are taken = absurd are
last_line limits before (l ∷ lines) (e ∷ entries) line entry are taken =
    subst (λ (given : List Entry). IsAcceptedLine limits given line entry) (append_assoc before (e ∷ []) entries) (last_line limits (before ++ e ∷ []) lines entries line entry are.1 taken.1)

-- ---- times

all_pushed : (lines : List (List ℕ)) (line : List ℕ) → AllByRecursion IsNoTime lines → IsNoTime line → AllByRecursion IsNoTime (lines ++ line ∷ [])
all_pushed [] line all none = (none, tt)
all_pushed (l ∷ lines) line all none = (all.0, all_pushed lines line all.1 none)

none_pushed : (lines : List (List ℕ)) (line : List ℕ) (time : Option (List ℕ)) → IsTimeAfter lines time → IsNoTime line → IsTimeAfter (lines ++ line ∷ []) time
none_pushed lines line None all none = all_pushed lines line all none
none_pushed lines line (Some seconds) (before, after, last, whole, gives, all) none =
    (before, after ++ line ∷ [], last, ap (λ (ls : List (List ℕ)). ls ++ line ∷ []) whole ∙ append_assoc before (last ∷ after) (line ∷ []), gives, all_pushed after line all none)

time_pushed : (lines : List (List ℕ)) (line : List ℕ) (time next : Option (List ℕ)) → IsTimeAfter lines time → IsTimeNext time (without_cr line) next
    → IsTimeAfter (lines ++ line ∷ []) next
time_pushed lines line time next holds (inl (seconds, gives, is)) =
    subst (IsTimeAfter (lines ++ line ∷ [])) (sym is) (lines, [], line, refl, gives, tt)
time_pushed lines line time next holds (inr (none, is)) =
    subst (IsTimeAfter (lines ++ line ∷ [])) (sym is) (none_pushed lines line time holds none)

-- ---- a line

module _ (limits : Limits) (style : Style) (view : CaptureView) (lines : List (List ℕ)) (entries : List Entry)
    (has : HasShownLines limits style view lines entries) (new : CaptureLines) (ends : EndNotes) (times : LastTimes) (line : List ℕ) (entry : Entry) (taken : HasAccepted limits new (lines ++ line ∷ []) (entries ++ entry ∷ [])) where
  pub line_accepted : IsAcceptedText limits entries (without_cr line) entry
  line_accepted = let is = last_line limits [] lines entries line entry has.accepted.taken taken.taken in record { gives = is.gives; none = is.none }

  pub can_show : CanShow (record view { lines = new; ends = ends; last_times = times }) (without_cr line)
  can_show = record {
    limits = limits;
    style = style;
    given = entries;
    entry = entry;
    viewed = record { client = has.viewed.client; server = has.viewed.server };
    accepted = line_accepted;
  }

  pub line_short : length (without_cr line) ≤ 8194
  line_short =
      let long : 8194 < length (without_cr line) → ⊥ = λ more. line_accepted.none TooLong more in
      omega (arith, long)

  pub line_shown : (after : CaptureView) (written put : Outgoing) → HasAccepted limits after.lines (lines ++ line ∷ []) (entries ++ entry ∷ []) → HasNotedCloses limits after.lines (entries ++ entry ∷ [])
      → HasNotedEnd after.ends (lines ++ line ∷ []) (entries ++ entry ∷ []) → HasNotedTimes after.last_times (lines ++ line ∷ []) (entries ++ entry ∷ []) → ShowsText limits style (record view { lines = new; ends = ends; last_times = times }) after entries (without_cr line) entry written put → ShowsLine limits style after lines entries line written put
  line_shown after written put accepted noted ended timed shows = record {
    entry = entry;
    has_shown = record { accepted = accepted; noted = noted; viewed = shows.viewed; time = time_pushed lines line view.time after.time has.time shows.time; ends = ended; times = timed };
    shown = record { number = count_of new; time = view.time; items = shows.items };
    numbered = accepted_count limits new (lines ++ line ∷ []) (entries ++ entry ∷ []) taken ∙ length-append lines (line ∷ []);
    at = has.time;
    shows = shows.shows;
    printed = shows.printed;
  }

-- ---- the bytes of a line

pub counted : (old accepted new : CaptureLines) → (count_of accepted ≡ count_of old + 1) × (count_of accepted ≤ 1000000) → count_of new ≡ count_of accepted → (count_of new ≡ count_of old + 1) × (count_of new ≤ 1000000)
counted old accepted new more same = (omega (arith, more.0, same), omega (arith, more.1, same))
