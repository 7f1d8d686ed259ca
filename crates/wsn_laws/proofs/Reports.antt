-- The value of a report's object, and that it determines the report.
use Rattle.std.proofs.Common.{◌≡◌, ℕ, Bool, true, false, if◌then◌else◌, Option, None, Some, List, [], ◌++◌, codes, refl, sym, ap, ◌∙◌, append_assoc}
use Rattle.std.specs.Str.{bytes_eq}
use Rattle.wsn_wire.specs.declared.endpoint.Role.{Role}
use Rattle.wsn_wire.specs.declared.endpoint.Role.TheVariants.{Client, Server}
use Rattle.wsn_rules.specs.declared.closing_handshake.Outcome.{Outcome}
use Rattle.wsn_rules.specs.declared.closing_handshake.Outcome.TheVariants as outcomes
use Rattle.wsn_rules.specs.declared.closing_handshake.Report.{Report}
use Rattle.wsn_rules.specs.declared.closing_handshake.Side.{Side}
use Rattle.wsn_rules.specs.declared.closing_handshake.Side.TheVariants as side
use Rattle.wsn_print.specs.Json.{field, string_field, number_or_null_field}
use Rattle.wsn_print.specs.Objects.{side_object, refusal_fields, first_value, echo_value, report_object}
use Rattle.wsn_print.specs.ReportText.{outcome_word}
use Rattle.wsn_laws.specs.JsonText.{Value, Null, String, Object, Members, End, Member}
use Rattle.wsn_laws.specs.Answers.{IsSideInRange, IsReportInRange}
use Rattle.wsn_laws.proofs.Strings.{are_unescaped}
use Rattle.wsn_laws.proofs.Written.{write, IsPlainValue}
use Rattle.wsn_laws.proofs.Fields.{optional_number, optional_written, plain_optional, one_optional, one_written}
use Rattle.wsn_laws.proofs.Members.{IsWritten, AreWritten, member, optional_is, word_is, boolean_json, boolean_is}
use Rattle.wsn_laws.proofs.Verdicts.{refusal_json, refusal_written, refusal_plain, one_refusal}

-- ---- outcomes

outcome_with : List ℕ → Outcome
outcome_with word =
    if bytes_eq word (codes "failed") then outcomes.Failed
    else if bytes_eq word (codes "clean") then outcomes.Clean
    else if bytes_eq word (codes "complete") then outcomes.Complete
    else if bytes_eq word (codes "abnormal") then outcomes.Abnormal
    else if bytes_eq word (codes "half") then outcomes.Half
    else outcomes.Live

outcome_back : (outcome : Outcome) → outcome_with (outcome_word outcome) ≡ outcome
unfolding outcome_with
outcome_back outcomes.Failed = refl
outcome_back outcomes.Clean = refl
outcome_back outcomes.Complete = refl
outcome_back outcomes.Abnormal = refl
outcome_back outcomes.Half = refl
outcome_back outcomes.Live = refl

one_outcome : (outcome other : Outcome) → outcome_word outcome ≡ outcome_word other → outcome ≡ other
one_outcome outcome other same = sym (outcome_back outcome) ∙ ap outcome_with same ∙ outcome_back other

plain_outcome : (outcome : Outcome) → are_unescaped (outcome_word outcome) ≡ true
plain_outcome outcomes.Failed = refl
plain_outcome outcomes.Clean = refl
plain_outcome outcomes.Complete = refl
plain_outcome outcomes.Abnormal = refl
plain_outcome outcomes.Half = refl
plain_outcome outcomes.Live = refl

-- ---- sides

abbrev pub side_members : Side → Members
side_members (side.Closed code) = Member (codes "state") (String (codes "closed")) (Member (codes "code") (optional_number code) End)
side_members (side.Refused refusal) = Member (codes "state") (String (codes "refused")) (refusal_json (codes "offset") refusal)
side_members side.Ended = Member (codes "state") (String (codes "ended")) End
side_members side.Cut = Member (codes "state") (String (codes "cut")) End
side_members side.Running = Member (codes "state") (String (codes "running")) End

abbrev pub side_json : Side → Value
side_json s = Object (side_members s)

three : (a b c rest : List ℕ) → a ++ (b ++ (c ++ rest)) ≡ (a ++ b ++ c) ++ rest
three a b c rest = simp append_assoc

side_is : (s : Side) → IsWritten (side_json s) (side_object s)
side_is (side.Closed code) = record {
  is = λ rest.
      ap (λ (bs : List ℕ). codes "{\"state\":\"closed\",\"code\":" ++ bs) (optional_written code (codes "}" ++ rest))
      ∙ three (codes "{\"state\":\"closed\"") (number_or_null_field (codes "code") code) (codes "}") rest;
}
side_is (side.Refused refusal) = record {
  is = λ rest.
      ap (λ (bs : List ℕ). codes "{\"state\":\"refused\"" ++ bs) (refusal_written (codes "offset") refusal (codes "}" ++ rest))
      ∙ three (codes "{\"state\":\"refused\"") (refusal_fields (codes "offset") refusal) (codes "}") rest;
}
side_is side.Ended = record { is = λ rest. refl }
side_is side.Cut = record { is = λ rest. refl }
side_is side.Running = record { is = λ rest. refl }

side_plain : (s : Side) → IsSideInRange s → IsPlainValue (side_json s)
side_plain (side.Closed code) fits = (refl, refl, (refl, plain_optional code fits, tt))
side_plain (side.Refused refusal) fits = (refl, refl, refusal_plain (codes "offset") refusal refl fits)
side_plain side.Ended fits = (refl, refl, tt)
side_plain side.Cut fits = (refl, refl, tt)
side_plain side.Running fits = (refl, refl, tt)

state_of : Value → List ℕ
state_of (Object (Member name (String word) others)) = word
state_of value = []

one_side : (s t : Side) → IsSideInRange s → IsSideInRange t → side_json s ≡ side_json t → s ≡ t
unfolding state_of
one_side (side.Closed code) (side.Closed other) fits also same =
    let same_codes : optional_number code ≡ optional_number other = cc in
    ap side.Closed (one_optional code other fits also same_codes)
one_side (side.Refused r) (side.Refused q) fits also same =
    let members : refusal_json (codes "offset") r ≡ refusal_json (codes "offset") q = cc in
    ap side.Refused (one_refusal (codes "offset") r q fits also members)
one_side side.Ended side.Ended fits also same = refl
one_side side.Cut side.Cut fits also same = refl
one_side side.Running side.Running fits also same = refl
one_side s t fits also same =
    let words : state_of (side_json s) ≡ state_of (side_json t) = ap state_of same in
    absurd cc

-- ---- the first Close, and the echo

abbrev pub first_json : Option Role → Value
first_json None = Null
first_json (Some Client) = String (codes "client")
first_json (Some Server) = String (codes "server")

first_is : (first : Option Role) → IsWritten (first_json first) (first_value first)
first_is None = record { is = λ rest. refl }
first_is (Some Client) = record { is = λ rest. refl }
first_is (Some Server) = record { is = λ rest. refl }

first_plain : (first : Option Role) → IsPlainValue (first_json first)
first_plain None = tt
first_plain (Some Client) = refl
first_plain (Some Server) = refl

first_with : Value → Option Role
first_with (String word) = if bytes_eq word (codes "client") then Some Client else Some Server
first_with value = None

first_back : (first : Option Role) → first_with (first_json first) ≡ first
unfolding first_with
first_back None = refl
first_back (Some Client) = refl
first_back (Some Server) = refl

one_first : (first other : Option Role) → first_json first ≡ first_json other → first ≡ other
one_first first other same = sym (first_back first) ∙ ap first_with same ∙ first_back other

abbrev pub echo_json : Option Bool → Value
echo_json None = Null
echo_json (Some echo) = boolean_json echo

echo_is : (echo : Option Bool) → IsWritten (echo_json echo) (echo_value echo)
echo_is None = record { is = λ rest. refl }
echo_is (Some echo) = boolean_is echo

echo_plain : (echo : Option Bool) → IsPlainValue (echo_json echo)
echo_plain None = tt
echo_plain (Some true) = tt
echo_plain (Some false) = tt

one_echo : (echo other : Option Bool) → echo_json echo ≡ echo_json other → echo ≡ other
one_echo None None same = refl
one_echo (Some true) (Some true) same = refl
one_echo (Some false) (Some false) same = refl
one_echo None (Some true) same = absurd cc
one_echo None (Some false) same = absurd cc
one_echo (Some true) None same = absurd cc
one_echo (Some false) None same = absurd cc
one_echo (Some true) (Some false) same = absurd cc
one_echo (Some false) (Some true) same = absurd cc

-- ---- the value

abbrev pub report_json : Report → Members
report_json report =
    Member (codes "client") (side_json report.client) (Member (codes "server") (side_json report.server)
    (Member (codes "first") (first_json report.first) (Member (codes "echo") (echo_json report.echo)
    (Member (codes "client_sees") (optional_number report.client_sees) (Member (codes "server_sees") (optional_number report.server_sees)
    (Member (codes "outcome") (String (outcome_word report.outcome)) End))))))

abbrev pub report_members : Report → Members
report_members report = Member (codes "type") (String (codes "report")) (report_json report)

nine : (a b c d e f g h i : List ℕ) → a ++ b ++ c ++ d ++ e ++ f ++ g ++ h ++ i ≡ a ++ (b ++ (c ++ (d ++ (e ++ (f ++ (g ++ (h ++ i)))))))
nine a b c d e f g h i = simp append_assoc

pub report_written : (report : Report) → report_object report ≡ write (Object (report_members report)) (codes "\n")
report_written report =
    let last : AreWritten End (codes "}\n") (codes "}\n") = record { are = refl } in
    let members =
    member (codes "client") (side_is report.client) (member (codes "server") (side_is report.server)
    (member (codes "first") (first_is report.first) (member (codes "echo") (echo_is report.echo)
    (member (codes "client_sees") (optional_is report.client_sees) (member (codes "server_sees") (optional_is report.server_sees)
    (member (codes "outcome") (word_is (outcome_word report.outcome)) last)))))) in
    nine (codes "{\"type\":\"report\"") (field (codes "client") (side_object report.client)) (field (codes "server") (side_object report.server))
    (field (codes "first") (first_value report.first)) (field (codes "echo") (echo_value report.echo))
    (number_or_null_field (codes "client_sees") report.client_sees) (number_or_null_field (codes "server_sees") report.server_sees)
    (string_field (codes "outcome") (outcome_word report.outcome)) (codes "}\n")
    ∙ ap (λ (bs : List ℕ). codes "{\"type\":\"report\"" ++ bs) (sym members.are)

pub report_plain : (report : Report) → IsReportInRange report → IsPlainValue (Object (report_members report))
report_plain report fits = (
  refl,
  refl,
  (
    refl,
    side_plain report.client fits.client,
    (
      refl,
      side_plain report.server fits.server,
      (
        refl,
        first_plain report.first,
        (
          refl,
          echo_plain report.echo,
          (
            refl,
            plain_optional report.client_sees fits.client_sees,
            (
              refl,
              plain_optional report.server_sees fits.server_sees,
              (refl, plain_outcome report.outcome, tt),
            ),
          ),
        ),
      ),
    ),
  ),
)

-- ---- what the value determines

report_of : Side → Side → Option Role → Option Bool → Option ℕ → Option ℕ → Outcome → Report
report_of client server first echo client_sees server_sees outcome = record {
  client = client;
  server = server;
  first = first;
  echo = echo;
  client_sees = client_sees;
  server_sees = server_sees;
  outcome = outcome;
}

reports : (a a' b b' : Side) (c c' : Option Role) (d d' : Option Bool) (e e' f f' : Option ℕ) (g g' : Outcome) → a ≡ a' → b ≡ b' → c ≡ c' → d ≡ d' → e ≡ e' → f ≡ f' → g ≡ g'
    → report_of a b c d e f g ≡ report_of a' b' c' d' e' f' g'
reports a a' b b' c c' d d' e e' f f' g g' same_a same_b same_c same_d same_e same_f same_g = cc

report_same : (r s : Report) → r.client ≡ s.client → r.server ≡ s.server → r.first ≡ s.first → r.echo ≡ s.echo → r.client_sees ≡ s.client_sees
    → r.server_sees ≡ s.server_sees → r.outcome ≡ s.outcome → r ≡ s
unfolding report_of
report_same r s = reports r.client s.client r.server s.server r.first s.first r.echo s.echo r.client_sees s.client_sees r.server_sees s.server_sees r.outcome s.outcome

pub one_report : (report other : Report) → IsReportInRange report → IsReportInRange other → report_object report ≡ report_object other → report ≡ other
one_report report other fits also same =
    let values : Object (report_members report) ≡ Object (report_members other) =
    one_written (Object (report_members report)) (Object (report_members other)) (report_object report) (report_object other)
    (report_plain report fits) (report_plain other also) (report_written report) (report_written other) same in
    let client : side_json report.client ≡ side_json other.client = cc in
    let server : side_json report.server ≡ side_json other.server = cc in
    let first : first_json report.first ≡ first_json other.first = cc in
    let echo : echo_json report.echo ≡ echo_json other.echo = cc in
    let client_sees : optional_number report.client_sees ≡ optional_number other.client_sees = cc in
    let server_sees : optional_number report.server_sees ≡ optional_number other.server_sees = cc in
    let outcome : outcome_word report.outcome ≡ outcome_word other.outcome = cc in
    report_same report other (one_side report.client other.client fits.client also.client client) (one_side report.server other.server fits.server also.server server)
    (one_first report.first other.first first) (one_echo report.echo other.echo echo)
    (one_optional report.client_sees other.client_sees fits.client_sees also.client_sees client_sees)
    (one_optional report.server_sees other.server_sees fits.server_sees also.server_sees server_sees)
    (one_outcome report.outcome other.outcome outcome)
