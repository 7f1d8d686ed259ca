-- A capture's text has exactly one correct answer.
use Rattle.std.proofs.Common.{◌≡◌, ℕ, ◌+◌, ◌⊎◌, Result, Ok, Err, List, [], ◌∷◌, ◌++◌, length, inl, inr, refl, sym, ap, ◌∙◌, subst, append_assoc, append-nil, arith}
use Rattle.wsn_rules.specs.Limits.{Limits, InRange}
use Rattle.wsn_rules.proofs.Prefixes.{two_fronts, head_same}
use Rattle.wsn_rules.specs.TextLines.{AreLines}
use Rattle.wsn_rules.proofs.TextLines.{has_lines, same_lines}
use Rattle.wsn_capture.specs.declared.line_fault.LineFault.{LineFault}
use Rattle.wsn_capture.specs.declared.capture_stop.CaptureStop.{CaptureStop}
use Rattle.wsn_capture.specs.declared.capture_stop.CaptureStop.TheVariants.{Read, Line}
use Rattle.wsn_rules.specs.declared.closing_handshake.Report.{Report}
use Rattle.wsn_capture.specs.declared.tail_counts.Tails.{Tails}
use Rattle.wsn_capture.specs.declared.capture_report.CaptureReport.{CaptureReport}
use Rattle.wsn_rules.specs.Entries.{Entry}
use Rattle.wsn_capture.specs.LineFaults.{IsFirstLineFault, IsAcceptedLine, AreAcceptedAfter, AreAcceptedLines, IsFaultAfter}
use Rattle.wsn_rules.specs.ClosingHandshake.{IsReport}
use Rattle.wsn_capture.specs.declared.refused_line.RefusedLines.{RefusedLines}
use Rattle.wsn_capture.specs.TailCounts.{AreTails}
use Rattle.wsn_capture.specs.RefusedLines.{AreRefusedLines}
use Rattle.wsn_capture.specs.CaptureAnswers.{IsReported, IsFaulty, IsCaptureAnswerOf}
use Rattle.wsn_rules.proofs.OneEntry.{same_entries}
use Rattle.wsn_capture.proofs.OneFault.{taken_or_faulty, one_first_fault}
use Rattle.wsn_rules.proofs.OneReport.{one_report}
use Rattle.wsn_capture.proofs.EveryReport.{has_report}
use Rattle.wsn_capture.proofs.TailCounts.{has_tails, one_tails}
use Rattle.wsn_capture.proofs.OffendingLines.{has_refused_lines, one_refused_lines}
use Rattle.wsn_capture.proofs.AcceptedTexts.{taken_given}

-- ---- some answer

-- All lines are accepted.
abbrev pub AllTaken : Limits → List Entry → List (List ℕ) → Type 0
AllTaken limits given lines = (entries : List Entry) × AreAcceptedAfter limits given lines entries

pub record HasFaulty (limits : Limits) (given : List Entry) (lines : List (List ℕ)) : Type 0 where
  pub before : List (List ℕ)
  pub line : List ℕ
  pub after : List (List ℕ)
  pub entries : List Entry
  pub fault : LineFault
  pub whole : lines ≡ before ++ line ∷ after
  pub taken : AreAcceptedAfter limits given before entries
  pub is : IsFirstLineFault limits (given ++ entries) line fault

pub all_or_faulty : (limits : Limits) (given : List Entry) (lines : List (List ℕ)) → AllTaken limits given lines ⊎ HasFaulty limits given lines
all_or_faulty limits given [] = inl ([], tt)
all_or_faulty limits given (line ∷ lines) =
    elim (taken_or_faulty limits given line) [
      | inl taken ↦ elim (all_or_faulty limits (given ++ taken.0 ∷ []) lines) [
        | inl all ↦ inl (taken.0 ∷ all.0, (taken.1, all.1))
        | inr later ↦ inr (record {
          before = line ∷ later.before;
          line = later.line;
          after = later.after;
          entries = taken.0 ∷ later.entries;
          fault = later.fault;
          whole = ap (λ (ls : List (List ℕ)). line ∷ ls) later.whole;
          taken = (taken.1, later.taken);
          is = subst (λ (es : List Entry). IsFirstLineFault limits es later.line later.fault) (append_assoc given (taken.0 ∷ []) later.entries) later.is;
        })
      ]
      | inr faulty ↦ inr (record {
        before = [];
        line = line;
        after = lines;
        entries = [];
        fault = faulty.0;
        whole = refl;
        taken = tt;
        is = subst (λ (es : List Entry). IsFirstLineFault limits es line faulty.0) (sym (append-nil given)) faulty.1;
      })
    ]

pub has_answer : (limits : Limits) (text : List ℕ) → InRange limits → (answer : Result CaptureReport CaptureStop) × IsCaptureAnswerOf limits text answer
has_answer limits text range =
    let found = has_lines text in
    elim (all_or_faulty limits [] found.0) [
      | inl all ↦
          let are = taken_given limits [] found.0 all.0 all.1 in
          let report = has_report limits found.0 all.0 range are in
          let tails = has_tails limits found.0 all.0 range are in
          let refused = has_refused_lines limits found.0 all.0 range are in (
            Ok (record { report = report.0; tails = tails.0; refused = refused.0 }),
            record { lines = found.0; are = found.1; given = all.0; taken = all.1; is = report.1; tails = tails.1; refused = refused.1 },
          )
      | inr faulty ↦ (
        Err (Line (length faulty.before + 1) faulty.fault),
        record {
          before = faulty.before;
          line = faulty.line;
          after = faulty.after;
          are = subst (AreLines text) faulty.whole found.1;
          at = refl;
          is = record { given = faulty.entries; taken = faulty.taken; is = faulty.is };
        },
      )
    ]

-- ---- no other answer

-- the lines before an accepted line are accepted, and this line gives one entry
taken_there : (limits : Limits) (given : List Entry) (before : List (List ℕ)) (line : List ℕ) (after : List (List ℕ)) (entries : List Entry) → AreAcceptedAfter limits given (before ++ line ∷ after) entries
    → (front : List Entry) × (entry : Entry) × AreAcceptedAfter limits given before front × IsAcceptedLine limits (given ++ front) line entry
taken_there limits given [] line after [] are = absurd are
taken_there limits given [] line after (entry ∷ entries) are = ([], entry, tt, subst (λ (es : List Entry). IsAcceptedLine limits es line entry) (sym (append-nil given)) are.0)
taken_there limits given (first ∷ before) line after [] are = absurd are
taken_there limits given (first ∷ before) line after (entry ∷ entries) are =
    let rest = taken_there limits (given ++ entry ∷ []) before line after entries are.1 in
    (entry ∷ rest.0, rest.1, (are.0, rest.2), subst (λ (es : List Entry). IsAcceptedLine limits es line rest.1) (append_assoc given (entry ∷ []) rest.0) rest.3)

same_taken : (limits : Limits) (lines : List (List ℕ)) (entries others : List Entry) → AreAcceptedLines limits lines entries → AreAcceptedLines limits lines others → entries ≡ others
same_taken limits lines entries others are also = same_entries lines entries others (taken_given limits [] lines entries are) (taken_given limits [] lines others also)

-- an accepted line has no fault
none_faulty : (limits : Limits) (before : List (List ℕ)) (line : List ℕ) (after : List (List ℕ)) (entries : List Entry) (fault : LineFault) → AreAcceptedLines limits (before ++ line ∷ after) entries → IsFaultAfter limits before line fault → ⊥
none_faulty limits before line after entries fault are is = grind (arith, taken_there, same_taken)

-- two first faulty lines of one list are the same line
one_faulty : (limits : Limits) (before others : List (List ℕ)) (line other : List ℕ) (after following : List (List ℕ)) (fault another : LineFault) → before ++ line ∷ after ≡ others ++ other ∷ following
    → IsFaultAfter limits before line fault → IsFaultAfter limits others other another → (length before ≡ length others) × (fault ≡ another)
one_faulty limits before others line other after following fault another same is also =
    elim (two_fronts before others (line ∷ after) (other ∷ following) same) [
      | inl on ↦ goes_on before others line other after following fault another is also on.0 on.1 on.2
      | inr on ↦ let back = goes_on others before other line following after another fault also is on.0 on.1 on.2 in (sym back.0, sym back.1)
    ]
  where
    goes_on : (before others : List (List ℕ)) (line other : List ℕ) (after following : List (List ℕ)) (fault another : LineFault)
        → IsFaultAfter limits before line fault → IsFaultAfter limits others other another
        → (more : List (List ℕ)) → others ≡ before ++ more → line ∷ after ≡ more ++ other ∷ following → (length before ≡ length others) × (fault ≡ another)
    goes_on before others line other after following fault another is also [] longer rest =
        let fronts : others ≡ before = longer ∙ append-nil before in
        let lines : line ≡ other = head_same _ _ _ _ rest in
        let there : IsFaultAfter limits before line another = subst (λ (ls : List (List ℕ)). IsFaultAfter limits ls line another) fronts (subst (λ (l : List ℕ). IsFaultAfter limits others l another) (sym lines) also) in
        let given = same_taken limits before there.given is.given there.taken is.taken in
        (ap length (sym fronts), one_first_fault limits is.given line fault another is.is (subst (λ (es : List Entry). IsFirstLineFault limits es line another) given there.is))
    goes_on before others line other after following fault another is also (next ∷ more) longer rest =
        let lines : line ≡ next = head_same _ _ _ _ rest in
        absurd (none_faulty limits before line more also.given fault (subst (λ (l : List ℕ). AreAcceptedLines limits (before ++ l ∷ more) also.given) (sym lines) (subst (λ (ls : List (List ℕ)). AreAcceptedLines limits ls also.given) longer also.taken)) is)

reported_or_faulty : (limits : Limits) (text : List ℕ) (read : CaptureReport) (number : ℕ) (fault : LineFault) → IsReported limits text read → IsFaulty limits text number fault → ⊥
reported_or_faulty limits text read number fault is also =
    let same = same_lines text is.lines (also.before ++ also.line ∷ also.after) is.are also.are in
    none_faulty limits also.before also.line also.after is.given fault (subst (λ (ls : List (List ℕ)). AreAcceptedLines limits ls is.given) same is.taken) also.is

pub one_answer : (limits : Limits) (text : List ℕ) (answer other : Result CaptureReport CaptureStop) → IsCaptureAnswerOf limits text answer → IsCaptureAnswerOf limits text other → answer ≡ other
one_answer limits text (Ok read) (Ok other) is also =
    let same = same_lines text also.lines is.lines also.are is.are in
    let given : also.given ≡ is.given = same_taken limits is.lines also.given is.given (subst (λ (ls : List (List ℕ)). AreAcceptedLines limits ls also.given) same also.taken) is.taken in
    let report : read.report ≡ other.report = one_report limits is.lines read.report other.report is.is (subst (λ (ls : List (List ℕ)). IsReport limits ls other.report) same also.is) in
    let tails : read.tails ≡ other.tails = one_tails limits is.given read.tails other.tails is.tails (subst (λ (es : List Entry). AreTails limits es other.tails) given also.tails) in
    let refused : read.refused ≡ other.refused = one_refused_lines limits is.given read.refused other.refused is.refused (subst (λ (es : List Entry). AreRefusedLines limits es other.refused) given also.refused) in
    ap (λ (r : Report). Ok (record { report = r; tails = read.tails; refused = read.refused })) report
    ∙ ap (λ (t : Tails). Ok (record { report = other.report; tails = t; refused = read.refused })) tails
    ∙ ap (λ (l : RefusedLines). Ok (record { report = other.report; tails = other.tails; refused = l })) refused
one_answer limits text (Ok read) (Err (Line number fault)) is also = absurd (reported_or_faulty limits text read number fault is also)
one_answer limits text (Err (Line number fault)) (Ok read) is also = absurd (reported_or_faulty limits text read number fault also is)
one_answer limits text (Err (Line number fault)) (Err (Line another other)) is also =
    let same = same_lines text (is.before ++ is.line ∷ is.after) (also.before ++ also.line ∷ also.after) is.are also.are in
    let one = one_faulty limits is.before also.before is.line also.line is.after also.after fault other same is.is also.is in
    cc (is.at ∙ ap (λ (n : ℕ). n + 1) one.0 ∙ sym also.at, one.1)
one_answer limits text (Err Read) other is also = absurd is
one_answer limits text _ (Err Read) is also = absurd also
