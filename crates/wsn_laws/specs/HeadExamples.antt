-- The form of the examples of printed heads.
use Rattle.std.specs.Prelude.{◌≡◌, ℕ, List}
use Rattle.wsn_wire.specs.declared.endpoint.Role.{Role}
use Rattle.wsn_wire.specs.Frame.{Frame}
use Rattle.wsn_rules.specs.declared.verdict.Verdict.{Verdict}
use Rattle.wsn_rules.specs.declared.head_info.HeadInfo.{HeadInfo}
use Rattle.wsn_rules.specs.Limits.{Limits}
use Rattle.wsn_rules.specs.Heads.{AreHeads}
use Rattle.wsn_rules.specs.Verdict.{IsVerdict}
use Rattle.wsn_print.specs.HeadText.{head_lines}

-- This text is the printed heads of the bytes, whatever their verdict.
pub record Lists (role : Role) (limits : Limits) (bytes text : List ℕ) : Type 0 where
  pub frames : List Frame
  pub verdict : Verdict
  pub is : IsVerdict role limits bytes frames verdict
  pub heads : List HeadInfo
  pub are : AreHeads role limits bytes frames heads
  pub lines : head_lines heads ≡ text
