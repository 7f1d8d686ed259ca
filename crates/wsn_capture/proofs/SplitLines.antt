-- Lines that are passed on as they come.
use Rattle.std.proofs.Common.{◌≡◌, ◌≢◌, ℕ, ◌+◌, ◌<◌, ◌≤◌, List, [], ◌∷◌, ◌++◌, length, inl, inr, refl, sym, ap, ◌∙◌, subst, append_assoc, append-nil, length-append, arith, ◌==◌, true, false, Err}
use Rattle.std.proofs.lemmas.Bool.{eqb-true}
use Rattle.wsn_rules.specs.Limits.{Limits}
use Rattle.wsn_capture.specs.declared.line_fault.LineFault.{LineFault}
use Rattle.wsn_capture.specs.declared.line_fault.LineFault.TheVariants.{TooManyLines, TooLong}
use Rattle.wsn_capture.specs.declared.capture_stop.CaptureStop.{CaptureStop}
use Rattle.wsn_capture.specs.declared.capture_stop.CaptureStop.TheVariants.{Read, Line}
use Rattle.wsn_capture.specs.declared.capture_report.CaptureReport.{CaptureReport}
use Rattle.wsn_rules.specs.TextLines.{IsLine, ended, AreLines}
use Rattle.wsn_rules.specs.Entries.{without_cr, Entry}
use Rattle.wsn_capture.specs.LineFaults.{fault_order, HasFault, IsFirstLineFault, IsAcceptedLine, AreAcceptedAfter, AreAcceptedLines, IsFaultAfter}
use Rattle.wsn_rules.specs.ClosingHandshake.{IsReport}
use Rattle.wsn_capture.specs.CaptureAnswers.{IsReported, IsFaulty, IsUnfaulted, IsCaptureAnswerOf}
use Rattle.wsn_capture.specs.TailCounts.{AreTails}
use Rattle.wsn_capture.specs.RefusedLines.{AreRefusedLines}
use Rattle.wsn_capture.specs.LineSplitters.{HasPassedOn, IsStopAt, IsStopBy, IsStopWithin}
use Rattle.wsn_rules.proofs.TextLines.{has_lines, ended-push, each_join, lines_in_front, lines_at_end, first_line}

-- ---- a line that is too long whatever follows

without_cr_long : (line : List ℕ) → length line ≤ length (without_cr line) + 1
without_cr_long (b ∷ c ∷ line) = let rest = without_cr_long (c ∷ line) in omega (arith, rest)
without_cr_long _ = omega arith

pub too_long : (line more : List ℕ) → 8196 ≤ length line → 8194 < length (without_cr (line ++ more))
too_long line more long = let kept = without_cr_long (line ++ more) in omega (arith, kept, length-append line more, long)

after_first : (limits : Limits) (given : List Entry) (text : List ℕ) → (HasFault limits given text TooManyLines → ⊥) → (other : LineFault) → HasFault limits given text other → 1 ≤ fault_order other
after_first limits given text few other held = grind arith

still_first : (limits : Limits) (given : List Entry) (line more : List ℕ) (fault : LineFault) → 8196 ≤ length line → fault_order fault ≤ 1 → IsFirstLineFault limits given line fault → IsFirstLineFault limits given (line ++ more) fault
still_first limits given line more fault long low is = grind (arith, too_long, after_first)

still_faulty : (limits : Limits) (lines : List (List ℕ)) (line more : List ℕ) (fault : LineFault) → 8196 ≤ length line → IsFaultAfter limits lines line fault → IsFaultAfter limits lines (line ++ more) fault
still_faulty limits lines line more fault long is =
    let here : 8194 < length (without_cr line) = subst (λ (bs : List ℕ). 8194 < length (without_cr bs)) (append-nil line) (too_long line [] long) in
    record { given = is.given; taken = is.taken; is = still_first limits is.given line more fault long (is.is.first TooLong here) is.is }

-- the last of accepted lines is accepted
last_taken : (limits : Limits) (before : List Entry) (lines : List (List ℕ)) (line : List ℕ) (entries : List Entry) → AreAcceptedAfter limits before (lines ++ line ∷ []) entries → (given : List Entry) × (entry : Entry) × IsAcceptedLine limits given line entry
last_taken limits before [] line [] are = absurd are
last_taken limits before [] line (entry ∷ entries) are = (before, entry, are.0)
last_taken limits before (l ∷ lines) line [] are = absurd are
last_taken limits before (l ∷ lines) line (entry ∷ entries) are = last_taken limits (before ++ entry ∷ []) lines line entries are.1

not_taken : (limits : Limits) (lines : List (List ℕ)) (line : List ℕ) (given : List Entry) → 8196 ≤ length line → AreAcceptedLines limits (lines ++ line ∷ []) given → ⊥
not_taken limits lines line given long taken =
    let last = last_taken limits [] lines line given taken in
    last.2.none TooLong (subst (λ (bs : List ℕ). 8194 < length (without_cr bs)) (append-nil line) (too_long line [] long))

-- ---- further bytes

pub line_join : (line more : List ℕ) → IsLine line → IsLine more → IsLine (line ++ more)
line_join [] more is also = also
line_join (b ∷ line) more is also = (is.0, line_join line more is.1 also)

line_left : (line more : List ℕ) → IsLine (line ++ more) → IsLine line
line_left [] more is = tt
line_left (b ∷ line) more is = (is.0, line_left line more is.1)

line_right : (line more : List ℕ) → IsLine (line ++ more) → IsLine more
line_right [] more is = is
line_right (b ∷ line) more is = line_right line more is.1

module _ (limits : Limits) (lines : List (List ℕ)) (begun came : List ℕ) (split : HasPassedOn limits lines begun came) where
  -- the line isn't finished
  pub split_more : (bytes : List ℕ) → IsLine bytes → length begun + length bytes < 8196 → HasPassedOn limits lines (begun ++ bytes) (came ++ bytes)
  split_more bytes line size = grind (arith, append_assoc, line_join, length-append)

  with_lf : came ++ 10 ∷ [] ≡ ended (lines ++ begun ∷ [])
  with_lf = ap (λ (bs : List ℕ). bs ++ 10 ∷ []) split.whole ∙ append_assoc (ended lines) begun (10 ∷ []) ∙ sym (ended-push lines begun)

  -- an LF ends it
  split_lf : (given : List Entry) → AreAcceptedLines limits (lines ++ begun ∷ []) given → HasPassedOn limits (lines ++ begun ∷ []) [] (came ++ 10 ∷ [])
  split_lf given consumes = grind (arith, with_lf, append-nil, each_join, length-append)

  stop_lf : (stop : CaptureStop) → IsStopAt limits lines begun stop → IsStopBy limits (came ++ 10 ∷ []) stop
  stop_lf Read is = is
  stop_lf (Line number fault) is = λ later.
      let rest = has_lines later in
      record {
        before = lines;
        line = begun;
        after = rest.0;
        are = subst (λ (ls : List (List ℕ)). AreLines ((came ++ 10 ∷ []) ++ later) ls) (append_assoc lines (begun ∷ []) rest.0)
            (subst (λ (bs : List ℕ). AreLines (bs ++ later) ((lines ++ begun ∷ []) ++ rest.0)) (sym with_lf)
            (lines_in_front (lines ++ begun ∷ []) later rest.0 (each_join lines (begun ∷ []) split.each (split.in_line, tt)) rest.1));
        at = is.0;
        is = is.1;
      }

  -- one more byte makes it too long
  stop_long : (byte : ℕ) (stop : CaptureStop) → IsLine (begun ++ byte ∷ []) → length (begun ++ byte ∷ []) ≡ 8196 → IsStopAt limits lines (begun ++ byte ∷ []) stop → IsStopBy limits (came ++ byte ∷ []) stop
  stop_long byte Read in_line size stops = stops
  stop_long byte (Line number fault) in_line size stops = λ later.
      let after = begun ++ byte ∷ [] in
      let found = has_lines (after ++ later) in
      let first = first_line after later found.0 in_line (omega (arith, size)) found.1 in
      let whole : came ++ byte ∷ [] ≡ ended lines ++ after = ap (λ (bs : List ℕ). bs ++ byte ∷ []) split.whole ∙ append_assoc (ended lines) begun (byte ∷ []) in
      record {
        before = lines;
        line = after ++ first.0;
        after = first.1;
        are = subst (λ (bs : List ℕ). AreLines bs (lines ++ (after ++ first.0) ∷ first.1)) (sym (ap (λ (bs : List ℕ). bs ++ later) whole ∙ append_assoc (ended lines) after later))
            (lines_in_front lines (after ++ later) ((after ++ first.0) ∷ first.1) split.each (subst (AreLines (after ++ later)) first.2 found.1));
        at = stops.0;
        is = still_faulty limits lines after first.0 fault (omega (arith, size)) stops.1;
      }

  pub no_long : (given : List Entry) (after : List ℕ) → length after ≡ 8196 → AreAcceptedLines limits (lines ++ after ∷ []) given → ⊥
  no_long given after size taken = not_taken limits lines after given (omega (arith, size)) taken

  abbrev pub unfaulted : IsUnfaulted limits came
  unfaulted = record {
    lines = lines;
    begun = begun;
    whole = split.whole;
    each = split.each;
    in_line = split.in_line;
    short = split.short;
    given = split.given;
    taken = split.taken;
  }

  -- ---- the end of the text

  pub reported_whole : (given : List Entry) (read : CaptureReport) → begun ≡ [] → AreAcceptedLines limits lines given → IsReport limits lines read.report → AreTails limits given read.tails → AreRefusedLines limits given read.refused → IsReported limits came read
  reported_whole given read none taken is tails refused = grind (arith, append-nil)

  at_end : begun ≢ [] → AreLines came (lines ++ begun ∷ [])
  at_end some = subst (λ (bs : List ℕ). AreLines bs (lines ++ begun ∷ [])) (sym split.whole) (lines_at_end lines begun split.each split.in_line some)

  pub reported_last : (given : List Entry) (read : CaptureReport) → begun ≢ [] → AreAcceptedLines limits (lines ++ begun ∷ []) given → IsReport limits (lines ++ begun ∷ []) read.report → AreTails limits given read.tails → AreRefusedLines limits given read.refused → IsReported limits came read
  reported_last given read some taken is tails refused = record { lines = lines ++ begun ∷ []; are = at_end some; given = given; taken = taken; is = is; tails = tails; refused = refused }

  pub faulty_last : (number : ℕ) (fault : LineFault) → begun ≢ [] → IsStopAt limits lines begun (Line number fault) → IsFaulty limits came number fault
  faulty_last number fault some is = record { before = lines; line = begun; after = []; are = at_end some; at = is.0; is = is.1 }

  pub stop_last : (stop : CaptureStop) → begun ≢ [] → IsStopAt limits lines begun stop → IsCaptureAnswerOf limits came (Err stop)
  stop_last stop fact is = grind (arith, faulty_last)

-- ---- the prefix of a chunk

module _ (limits : Limits) (lines : List (List ℕ)) (begun came : List ℕ) (split : HasPassedOn limits lines begun came) where
  -- the rest of a line, and its LF
  pub split_line : (bytes : List ℕ) (given : List Entry) → IsLine bytes → length begun + length bytes < 8196 → AreAcceptedLines limits (lines ++ (begun ++ bytes) ∷ []) given
      → HasPassedOn limits (lines ++ (begun ++ bytes) ∷ []) [] (came ++ (bytes ++ 10 ∷ []))
  unfolding split_more
  split_line bytes given line size consumes =
      subst (HasPassedOn limits (lines ++ (begun ++ bytes) ∷ []) []) (append_assoc came bytes (10 ∷ []))
      (split_lf limits lines (begun ++ bytes) (came ++ bytes) (split_more limits lines begun came split bytes line size) given consumes)

  pub stop_line : (bytes ahead : List ℕ) (stop : CaptureStop) → IsLine bytes → length begun + length bytes < 8196 → IsStopAt limits lines (begun ++ bytes) stop → IsStopWithin limits came (bytes ++ 10 ∷ ahead) stop
  unfolding split_more
  stop_line bytes ahead stop line size stops =
      let more = split_more limits lines begun came split bytes line size in
      record {
        earlier = bytes;
        last = 10;
        ahead = ahead;
        whole = refl;
        unfaulted = unfaulted limits lines (begun ++ bytes) (came ++ bytes) more;
        is_evident = inl refl;
        stops = stop_lf limits lines (begun ++ bytes) (came ++ bytes) more stop stops;
      }

  -- the bytes that make a line too long
  pub stop_at_most : (earlier : List ℕ) (last : ℕ) (ahead : List ℕ) (stop : CaptureStop) → IsLine (earlier ++ last ∷ []) → length begun + length (earlier ++ last ∷ []) ≡ 8196 → IsStopAt limits lines (begun ++ (earlier ++ last ∷ [])) stop → IsStopWithin limits came ((earlier ++ last ∷ []) ++ ahead) stop
  unfolding split_more
  stop_at_most earlier last ahead stop line size stops =
      let sizes = length-append earlier (last ∷ []) in
      let short : length begun + length earlier < 8196 = omega (arith, size, sizes) in
      let more = split_more limits lines begun came split earlier (line_left earlier (last ∷ []) line) short in
      let same = append_assoc begun earlier (last ∷ []) in
      record {
        earlier = earlier;
        last = last;
        ahead = ahead;
        whole = append_assoc earlier (last ∷ []) ahead;
        unfaulted = unfaulted limits lines (begun ++ earlier) (came ++ earlier) more;
        is_evident = inr (omega (arith, size, sizes, length-append begun earlier));
        stops = stop_long limits lines (begun ++ earlier) (came ++ earlier) more last stop
            (line_join (begun ++ earlier) (last ∷ []) more.in_line (line_right earlier (last ∷ []) line))
            (ap (λ (bs : List ℕ). length bs) same ∙ length-append begun (earlier ++ last ∷ []) ∙ size)
            (subst (λ (bs : List ℕ). IsStopAt limits lines bs stop) (sym same) stops);
      }

-- ---- lists

pub empty_is : (xs : List ℕ) → (length xs == 0) ≡ true → xs ≡ []
empty_is [] is = refl
empty_is (x ∷ xs) is = absurd (let none = eqb-true (length (x ∷ xs)) 0 is in omega (arith, none))

pub not_empty : (xs : List ℕ) → (length xs == 0) ≡ false → xs ≢ []
not_empty xs is none = let both : true ≡ false = sym (ap (λ (bs : List ℕ). length bs == 0) none) ∙ is in cc
