use Rattle.std.proofs.Common.{rules, ◌≡◌, ℕ, List, inl, inr, subst}
use Rattle.wsn_print.specs.FaultText.{line_fault_line}
use Rattle.wsn_capture.specs.LineFaults.{fault_word}
use Rattle.wsn_job.specs.Calls.{Call, Gives}
use Rattle.wsn_c.specs.Calls.{call}
use Rattle.wsn_c.proofs.MemoryRuns.{before_sentinel}
use Rattle.wsn_c.proofs.sides.give_sent.Goals as goal

pub returns-in-Some-Line : goal.returns-in-Some-Line
returns-in-Some-Line c =
    let done : Call = call c.args.output.now c.give-in-Some-Line.new.output c.args.message.now
    c.give-in-Some-Line.new.message c.give-in-Some-Line.result in
    let line : List ℕ = line_fault_line c.in-Some-Line.number (fault_word c.in-Some-Line.fault) in
    let is_line : c.bytes.result.now ≡ line = search rules in
    let is_sent : c.as_slice-in-Some-Line.result.now ≡ c.read_to_end.new.buf.items = search rules in
    let told = subst (λ (said : List ℕ). Gives done c.as_slice-in-Some-Line.result.now said 2) is_line c.give-in-Some-Line.ensures in
    inr (inl (record {
      sent = c.read_to_end.new.buf.items;
      number = c.in-Some-Line.number;
      fault = c.in-Some-Line.fault;
      before = before_sentinel _ _ c.read_to_end.new.self.remaining _ (search rules)
          (c.in-Some-Line.ensures.line c.in-Some-Line.number c.in-Some-Line.fault (search rules));
      gives = subst (λ (sent : List ℕ). Gives done sent line 2) is_sent told;
    }))
