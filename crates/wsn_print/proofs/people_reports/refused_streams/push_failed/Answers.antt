use Rattle.std.proofs.Common.{◌≡◌, ℕ, Bool, true, List, [], ◌++◌, ◌∙◌, ap, sym, codes, arith}
use Rattle.std.proofs.lemmas.Grind.{common_steps}
use Rattle.std.specs.Prelude.{if◌then◌else◌}
use Rattle.wsn_wire.specs.declared.endpoint.Role.TheVariants.{Client, Server}
use Rattle.wsn_rules.specs.declared.closing_handshake.Side.{Side}
use Rattle.wsn_print.specs.Sentences.{exchanged_sentence, exchange_command}
use Rattle.wsn_print.specs.PeopleReport.{next_line, next_or, refused_line, are_exchanged, failed_lines}
use Rattle.wsn_print.proofs.Appended.{four}
use Rattle.wsn_print.proofs.people_reports.refused_streams.push_failed.Goals as goal

-- what is said of sides that are exchanged
exchanged : (lines : List ℕ) (client server : Side) → are_exchanged client server ≡ true
    → lines ++ (exchanged_sentence ++ codes "\n" ++ next_line exchange_command) ≡ lines ++ failed_lines client server
exchanged lines client server is =
    ap (λ (b : Bool). lines ++ (if b then exchanged_sentence ++ codes "\n" ++ next_line exchange_command
    else refused_line Client client ++ refused_line Server server ++ next_or client (next_or server []))) (sym is)

pub returns-then-are_exchanged : goal.returns-then-are_exchanged
returns-then-are_exchanged c =
    four c.args.lines.now c.push.new.self c.push-then-are_exchanged.new.self c.push-then-are_exchanged-2.new.self c.push-then-are_exchanged-3.new.self
    exchanged_sentence (codes "\nNext: ") exchange_command (codes "\n")
    c.push.ensures.text c.push-then-are_exchanged.ensures.text c.push-then-are_exchanged-2.ensures.text c.push-then-are_exchanged-3.ensures.text
    ∙ exchanged c.args.lines.now c.args.client.now c.args.server.now (sym c.are_exchanged.ensures ∙ c.if-are_exchanged.true)

pub returns-else-are_exchanged : goal.returns-else-are_exchanged
returns-else-are_exchanged c = grind (arith, common_steps)
