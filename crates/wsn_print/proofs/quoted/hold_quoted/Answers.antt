use Rattle.std.proofs.Common.{◌≡◌, ◌++◌, ℕ, List, codes, sym, ap₂, ◌∙◌, subst, append_assoc, arith}
use Rattle.std.proofs.lemmas.Grind.{common_steps}
use Rattle.std.specs.Prelude.{flat_map}
use Rattle.std.specs.Str.{IsUtf8, chars}
use Rattle.wsn_io.specs.Transfer.{IsPartlyWritten}
use Rattle.wsn_io.specs.declared.stop.Stop.TheVariants as stop
use Rattle.wsn_io.specs.Stops.{IsWrittenOrStops}
use Rattle.wsn_print.specs.declared.escapes.Escapes.TheVariants.{Quoted}
use Rattle.wsn_print.specs.EscapedText.{quoted, quoted_character}
use Rattle.wsn_print.specs.Runs.{escaped}
use Rattle.wsn_print.proofs.Gathered.{IsGathered, gathers_on, gathering_stopped, adding_stopped, held_stopped}
use Rattle.wsn_print.proofs.RunTexts.{text_written}
use Rattle.wsn_print.proofs.quoted.hold_quoted.Goals as goal

-- What is held, a quotation mark, and a text.
abbrev begun_text : List ℕ → List ℕ → List ℕ
begun_text before text = before ++ (codes "\"" ++ flat_map quoted_character (chars text))

begun : (before text held : List ℕ) → held ≡ before ++ codes "\"" → IsUtf8 text → held ++ escaped Quoted text ≡ begun_text before text
begun before text held is utf8 =
    ap₂ (λ (front rest : List ℕ). front ++ rest) is (text_written Quoted text utf8) ∙ append_assoc before (codes "\"") (flat_map quoted_character (chars text))

-- And the other quotation mark.
ended : (before text : List ℕ) → begun_text before text ++ codes "\"" ≡ before ++ quoted text
ended before text = append_assoc before (codes "\"" ++ flat_map quoted_character (chars text)) (codes "\"")

pub returns-in_err-hold_escaped-clause-text : goal.returns-in_err-hold_escaped-clause-text
returns-in_err-hold_escaped-clause-text g c = λ utf8.
    let before : List ℕ = c.args.held.now in
    let text : List ℕ = c.args.text.now in
    let put = subst (λ (t : List ℕ). (c.in_err-hold_escaped.field-0.0 ≡ stop.Write) × IsPartlyWritten c.args.to.now c.hold_escaped.new.to t)
    (begun before text c.add_mark.new.self c.add_mark.ensures utf8) c.in_err-hold_escaped.ensures in
    held_stopped c.args.to.now c.hold_escaped.new.to before c.hold_escaped.new.held (quoted text) c.in_err-hold_escaped.field-0.0 c.from_residual.result c.from_residual.ensures.1
    (subst (λ (t : List ℕ). IsWrittenOrStops c.args.to.now c.hold_escaped.new.to t c.from_residual.result) (ended before text)
    (adding_stopped c.args.to.now c.hold_escaped.new.to (begun_text before text) (codes "\"") c.in_err-hold_escaped.field-0.0 c.from_residual.result put c.from_residual.ensures.1))

pub returns-in_err-make_room-clause-text : goal.returns-in_err-make_room-clause-text
returns-in_err-make_room-clause-text g c = λ utf8.
    let before : List ℕ = c.args.held.now in
    let text : List ℕ = c.args.text.now in
    let held = c.in_ok-hold_escaped.ensures in
    let room = c.in_err-make_room.ensures.kept in
    let one : IsGathered c.args.to.now c.hold_escaped.new.to (begun_text before text) c.hold_escaped.new.held = (
      held.0,
      held.1 ∙ begun before text c.add_mark.new.self c.add_mark.ensures utf8,
      held.2,
    ) in
    held_stopped c.args.to.now c.make_room.new.to before c.make_room.new.self (quoted text) c.in_err-make_room.field-0.0 c.from_residual-in_err-make_room.result c.from_residual-in_err-make_room.ensures.1
    (gathering_stopped c.args.to.now c.hold_escaped.new.to c.make_room.new.to (begun_text before text) c.hold_escaped.new.held room.0 c.make_room.new.self (codes "\"") (before ++ quoted text)
    c.in_err-make_room.field-0.0 c.from_residual-in_err-make_room.result one (sym (ended before text)) room.1 room.2 c.from_residual-in_err-make_room.ensures.1)

pub returns-clause-text : goal.returns-clause-text
returns-clause-text g c = λ utf8.
    let before : List ℕ = c.args.held.now in
    let held = c.in_ok-hold_escaped.ensures in
    let room = c.in_ok-make_room.ensures.kept in
    let one : IsGathered c.args.to.now c.hold_escaped.new.to (begun_text before c.args.text.now) c.hold_escaped.new.held = (
      held.0,
      held.1 ∙ begun before c.args.text.now c.add_mark.new.self c.add_mark.ensures utf8,
      held.2,
    ) in
    let all = gathers_on c.args.to.now c.hold_escaped.new.to c.make_room.new.to (begun_text before c.args.text.now) c.hold_escaped.new.held c.make_room.new.self c.add_mark-2.new.self (codes "\"") one
    (room.0, room.1, room.2) c.add_mark-2.ensures in
    (all.0, all.1 ∙ ended before c.args.text.now, all.2)

pub returns-clause-room : goal.returns-clause-room
returns-clause-room g c = grind (arith, common_steps)

pub returns-in_err-make_room-clause-unfailed : goal.returns-in_err-make_room-clause-unfailed
returns-in_err-make_room-clause-unfailed g c = grind (arith, common_steps)
