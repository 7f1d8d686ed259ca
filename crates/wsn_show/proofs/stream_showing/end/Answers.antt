use Rattle.std.proofs.Common.{◌∙◌, [], inl, subst, rules}
use Rattle.std.proofs.KnownBytes.{Appends-nil}
use Rattle.wsn_parts.specs.Listing.{IsEnded}
use Rattle.wsn_print.specs.declared.style.Style.{Style}
use Rattle.wsn_show.proofs.ShownStreamInputs.{left_unwritten, ends}
use Rattle.wsn_show.proofs.stream_showing.end.Goals as goal

pub returns-then-failed : goal.returns-then-failed
returns-then-failed g c role limits style came first text viewed unrefused is_text written =
    let put = c.put_left_over.ensures role limits style came viewed in
    left_unwritten role limits style came first c.args.output.now c.put_left_over.new.output c.put_left_over.new.output text unrefused is_text written put.0 put.1
    (put.2 first text (inl written)) (search rules) (put.2 c.args.output.now [] (inl (c.requires, Appends-nil c.args.output.now.written)))

pub put_answer-requires : goal.put_answer-requires
put_answer-requires g c = search rules

pub returns : goal.returns
returns g c role limits style came first text viewed unrefused is_text written =
    let put = c.put_left_over.ensures role limits style came viewed in
    let is = c.verdict.ensures role limits style came viewed in
    ends role limits style came first c.args.output.now c.put_left_over.new.output c.put_answer.new.output text unrefused is_text written put.0 put.1
    (put.2 first text (inl written)) (search rules) is.0 c.verdict.result is.1 c.put_answer.result
    (subst (λ (s : Style). IsEnded s.format c.put_left_over.new.output c.put_answer.new.output c.verdict.result c.put_answer.result) (c.style.ensures ∙ viewed.in_style) c.put_answer.ensures)
