use Rattle.std.proofs.Common.{ap, ◌∙◌, subst, rules}
use Rattle.wsn_io.specs.Transfer.{IsWrittenUpToFailure}
use Rattle.wsn_io.proofs.PutTexts.{prints_on, prints_no_more, went_out}
use Rattle.wsn_show.specs.EndedByTexts.{ended_by_text}
use Rattle.wsn_show.specs.Styles.{styled_ended_by}
use Rattle.wsn_print.specs.declared.style.Style.{Style}
use Rattle.wsn_show.proofs.capture_view.CaptureView.put_who_ended.Goals as goal

pub returns-then-not-failed : goal.returns-then-not-failed
returns-then-not-failed g c limits style lines entries has is = record {
  ended_by = c.ended_by.result;
  is_ended_by = c.ended_by.ensures limits lines entries has.ends is;
  printed = λ before text earlier. prints_on before c.args.output.now c.put_line-stop.new.to text (styled_ended_by style c.ended_by.result) (search rules) earlier
      (subst (IsWrittenUpToFailure c.args.output.now c.put_line-stop.new.to)
      (c.text_of-text.ensures ∙ ap (λ (s : Style). ended_by_text s.format c.ended_by.result) (c.style.ensures limits style lines entries has))
      (went_out c.args.output.now c.put_line-stop.new.to _ c.put_line-stop.result c.put_line-stop.ensures));
}

pub returns-else-not-failed : goal.returns-else-not-failed
returns-else-not-failed g c limits style lines entries has is = record {
  ended_by = c.ended_by.result;
  is_ended_by = c.ended_by.ensures limits lines entries has.ends is;
  printed = λ before text earlier. prints_no_more before c.args.output.now text (styled_ended_by style c.ended_by.result) (search rules) earlier;
}
