-- Exit statuses: 0 for a positive answer, 1 for any other answer, 2 for a stop.
use Rattle.std.specs.Prelude.{ℕ, Result, Ok, Err}
use Rattle.wsn_io.specs.declared.stop.Stop.{Stop}
use Rattle.wsn_rules.specs.declared.verdict.Verdict.{Verdict, TheVariants.{Accepted}}
use Rattle.wsn_rules.specs.declared.compared.Compared.{Compared, TheVariants.{Equal}}
use Rattle.wsn_rules.specs.declared.closing_handshake.Outcome.{Outcome, TheVariants.{Clean, Complete}}

-- 0 if the stream is accepted.
abbrev pub verdict_status : Result Verdict Stop → ℕ
verdict_status (Ok (Accepted summary)) = 0
verdict_status (Ok verdict) = 1
verdict_status (Err stopped) = 2

-- 0 if both streams are accepted and mean the same.
abbrev pub comparison_status : Result Compared Stop → ℕ
comparison_status (Ok Equal) = 0
comparison_status (Ok compared) = 1
comparison_status (Err stopped) = 2

-- 0 if both sides sent a Close.
abbrev pub outcome_status : Outcome → ℕ
outcome_status Clean = 0
outcome_status Complete = 0
outcome_status outcome = 1
