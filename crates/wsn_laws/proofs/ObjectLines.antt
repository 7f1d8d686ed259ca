-- Each object is JSON with distinct names.
use Rattle.std.proofs.Common.{ℕ, Bool, true, false, Option, None, Some, List, codes, refl}
use Rattle.wsn_wire.specs.declared.endpoint.Role.{Role}
use Rattle.wsn_wire.specs.declared.endpoint.Role.TheVariants.{Client, Server}
use Rattle.wsn_rules.specs.declared.compared.Compared.{Compared}
use Rattle.wsn_rules.specs.declared.compared.Compared.TheVariants.{Equal, Different, NotAccepted}
use Rattle.wsn_rules.specs.declared.head_info.HeadInfo.{HeadInfo}
use Rattle.wsn_rules.specs.declared.closing_handshake.Report.{Report}
use Rattle.wsn_rules.specs.declared.closing_handshake.Side.{Side}
use Rattle.wsn_rules.specs.declared.closing_handshake.Side.TheVariants as side
use Rattle.wsn_rules.specs.declared.verdict.Verdict.{Verdict}
use Rattle.wsn_rules.specs.declared.verdict.Verdict.TheVariants.{Accepted, Cut, Refused}
use Rattle.wsn_print.specs.Objects.{verdict_object, frame_object, report_object, comparison_object}
use Rattle.wsn_laws.specs.JsonText.{String, Member, HasDistinctNames, AreDistinct, IsObjectLine}
use Rattle.wsn_laws.specs.Answers.{IsVerdictInRange, IsHeadInRange, IsReportInRange, IsComparisonInRange}
use Rattle.wsn_laws.proofs.Fields.{optional_distinct, object_line}
use Rattle.wsn_laws.proofs.Members.{boolean_json}
use Rattle.wsn_laws.proofs.Distinct.{new, distinct}
use Rattle.wsn_laws.proofs.Verdicts.{close_json, verdict_json_members, verdict_plain, verdict_written}
use Rattle.wsn_laws.proofs.Keys.{key_json}
use Rattle.wsn_laws.proofs.Heads.{frame_members, frame_plain, frame_written}
use Rattle.wsn_laws.proofs.Reports.{side_json, side_members, first_json, echo_json, report_members, report_plain, report_written}
use Rattle.wsn_laws.proofs.Comparisons.{comparison_members, comparison_plain, comparison_written}

-- ---- values

close_distinct : (close : Option (Option ℕ)) → HasDistinctNames (close_json close)
close_distinct None = tt
close_distinct (Some code) = (tt, optional_distinct code, tt)

pub boolean_distinct : (b : Bool) → HasDistinctNames (boolean_json b)
boolean_distinct true = tt
boolean_distinct false = tt

pub key_distinct : (key : Option (List ℕ)) → HasDistinctNames (key_json key)
key_distinct None = tt
key_distinct (Some key) = tt

first_distinct : (first : Option Role) → HasDistinctNames (first_json first)
first_distinct None = tt
first_distinct (Some Client) = tt
first_distinct (Some Server) = tt

echo_distinct : (echo : Option Bool) → HasDistinctNames (echo_json echo)
echo_distinct None = tt
echo_distinct (Some echo) = boolean_distinct echo

side_distinct : (s : Side) → HasDistinctNames (side_json s)
side_distinct (side.Closed code) = distinct (side_members (side.Closed code)) refl (tt, (optional_distinct code, tt))
side_distinct (side.Refused refusal) = distinct (side_members (side.Refused refusal)) refl (tt, (tt, (tt, (tt, tt))))
side_distinct side.Ended = distinct (side_members side.Ended) refl (tt, tt)
side_distinct side.Cut = distinct (side_members side.Cut) refl (tt, tt)
side_distinct side.Running = distinct (side_members side.Running) refl (tt, tt)

-- ---- objects

members_distinct : (verdict : Verdict) → AreDistinct (verdict_json_members verdict)
members_distinct (Accepted s) =
    distinct (verdict_json_members (Accepted s)) refl
    (tt, (tt, (tt, (optional_distinct s.unfinished, (tt, (tt, (tt, (tt, (close_distinct s.close, tt)))))))))
members_distinct (Cut s) =
    distinct (verdict_json_members (Cut s)) refl (tt, (tt, (optional_distinct s.unfinished, (tt, (tt, (tt, (tt, tt)))))))
members_distinct (Refused refusal) = distinct (verdict_json_members (Refused refusal)) refl (tt, (tt, (tt, (tt, tt))))

verdict_distinct : (verdict : Verdict) → AreDistinct (Member (codes "type") (String (codes "verdict")) (verdict_json_members verdict))
verdict_distinct (Accepted s) = (new (codes "type") (verdict_json_members (Accepted s)) refl, tt, members_distinct (Accepted s))
verdict_distinct (Cut s) = (new (codes "type") (verdict_json_members (Cut s)) refl, tt, members_distinct (Cut s))
verdict_distinct (Refused refusal) =
    (new (codes "type") (verdict_json_members (Refused refusal)) refl, tt, members_distinct (Refused refusal))

pub verdict_line : (verdict : Verdict) → IsVerdictInRange verdict → IsObjectLine (verdict_object verdict)
verdict_line verdict fits =
    object_line (Member (codes "type") (String (codes "verdict")) (verdict_json_members verdict)) (verdict_object verdict)
    (verdict_plain verdict fits) (verdict_distinct verdict) (verdict_written verdict)

pub frame_line : (h : HeadInfo) → IsHeadInRange h → IsObjectLine (frame_object h)
frame_line h fits =
    object_line (frame_members h) (frame_object h) (frame_plain h fits)
    (distinct (frame_members h) refl (tt, (tt, (boolean_distinct h.fin, (tt, (key_distinct h.key, (tt, (tt, tt))))))))
    (frame_written h)

pub report_line : (report : Report) → IsReportInRange report → IsObjectLine (report_object report)
report_line report fits =
    object_line (report_members report) (report_object report) (report_plain report fits)
    (distinct (report_members report) refl (
      tt,
      (
        side_distinct report.client,
        (
          side_distinct report.server,
          (
            first_distinct report.first,
            (
              echo_distinct report.echo,
              (optional_distinct report.client_sees, (optional_distinct report.server_sees, (tt, tt))),
            ),
          ),
        ),
      ),
    ))
    (report_written report)

comparison_distinct : (compared : Compared) → AreDistinct (comparison_members compared)
comparison_distinct Equal = distinct (comparison_members Equal) refl (tt, (tt, tt))
comparison_distinct (Different k) = distinct (comparison_members (Different k)) refl (tt, (tt, (tt, tt)))
comparison_distinct (NotAccepted second verdict) =
    distinct (comparison_members (NotAccepted second verdict)) refl (tt, (tt, (members_distinct verdict, tt)))

pub comparison_line : (compared : Compared) → IsComparisonInRange compared → IsObjectLine (comparison_object compared)
comparison_line compared fits =
    object_line (comparison_members compared) (comparison_object compared) (comparison_plain compared fits) (comparison_distinct compared) (comparison_written compared)
