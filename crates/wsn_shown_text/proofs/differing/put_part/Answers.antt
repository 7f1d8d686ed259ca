use Rattle.std.proofs.Common.{◌≡◌, ◌≢◌, ℕ, List, [], ◌++◌, codes, sym, ap, ◌∙◌, subst, refl}
use Rattle.wsn_io.specs.Transfer.{IsWritten, IsPartlyWritten}
use Rattle.wsn_io.specs.declared.stop.Stop.TheVariants as stop
use Rattle.wsn_rules.specs.Meaning.{MeantEvent}
use Rattle.wsn_print.specs.DifferingPayloads.{view_start}
use Rattle.wsn_shown_text.specs.declared.fields.Shape.{Shape}
use Rattle.wsn_shown_text.specs.DifferingText.{start_in, part_in}
use Rattle.wsn_shown_text.specs.EntryFormats.{seen_in, piece_in}
use Rattle.wsn_shown_text.specs.Views.{PayloadView, view_of_part, IsReadable}
use Rattle.wsn_shown_text.proofs.TextFronts.{part_readable}
use Rattle.wsn_shown_text.proofs.DifferingParts.{no_part, part_is}
use Rattle.wsn_print.proofs.Pieces.{first_stops, second_stops, third_stops, two_pieces, four_pieces}
use Rattle.wsn_shown_text.proofs.differing.put_part.Goals as goal

whole : (key : List ℕ) (shape : Shape) (n place : ℕ) (event : MeantEvent) → n ≢ 0
    → key ++ (start_in shape (view_start place event) ++ (seen_in shape n (view_of_part n place event) ++ piece_in shape [] (codes "}"))) ≡ key ++ part_in shape n place event
whole key shape n place event some = ap (λ (t : List ℕ). key ++ t) (part_is shape n place event some)

pub returns-in_err-put_piece-clause-text : goal.returns-in_err-put_piece-clause-text
returns-in_err-put_piece-clause-text g c = λ place event is.
    first_stops c.args.to.now c.put_piece.new.to _ (part_in c.args.shape c.args.view place event) _ _ _ refl c.in_err-put_piece.ensures.text c.from_residual.ensures.1

pub returns-then-bytes-eq0-clause-text : goal.returns-then-bytes-eq0-clause-text
returns-then-bytes-eq0-clause-text g c = λ place event is.
    two_pieces c.args.to.now c.put_piece.new.to c.put_piece-then-bytes-eq0.new.to _ _ _ _ (ap (λ (t : List ℕ). piece_in c.args.shape (codes " ") c.args.key.now ++ t) (no_part c.args.shape c.args.view place event (sym c.bytes.ensures.is ∙ c.if-bytes-eq0.true)))
    c.in_ok-put_piece.ensures.text c.put_piece-then-bytes-eq0.ensures.text

pub returns-in_err-put_start-clause-text : goal.returns-in_err-put_start-clause-text
returns-in_err-put_start-clause-text g c = λ place event is.
    second_stops c.args.to.now c.put_piece.new.to c.put_start.new.to _ _ _ _ _ _ (whole _ c.args.shape c.args.view place event (λ none. c.if-bytes-eq0.false (c.bytes.ensures.is ∙ none))) c.in_ok-put_piece.ensures.text
    (subst (λ (t : List ℕ). (c.in_err-put_start.field-0.0 ≡ stop.Write) × IsPartlyWritten c.put_piece.new.to c.put_start.new.to t) (ap (start_in c.args.shape) is.start) c.in_err-put_start.ensures.text) c.from_residual-in_err-put_start.ensures.1

pub returns-in_err-put_shown-clause-text : goal.returns-in_err-put_shown-clause-text
returns-in_err-put_shown-clause-text g c = λ place event is.
    let shape = c.args.shape in
    let n = c.args.view in
    let view = c.view_of_part.ensures place event is in
    third_stops c.args.to.now c.put_piece.new.to c.put_start.new.to c.put_shown.new.to _ _ _ _ _ _ _ (whole _ shape n place event (λ none. c.if-bytes-eq0.false (c.bytes.ensures.is ∙ none))) c.in_ok-put_piece.ensures.text
    (subst (IsWritten c.put_piece.new.to c.put_start.new.to) (ap (start_in shape) is.start) c.in_ok-put_start.ensures.text)
    (subst (λ (v : PayloadView). (c.in_err-put_shown.field-0.0 ≡ stop.Write) × IsPartlyWritten c.put_start.new.to c.put_shown.new.to (seen_in shape n v)) view
    (c.in_err-put_shown.ensures.text (subst (λ (v : PayloadView). IsReadable v.shown) (sym view) (part_readable n place event)))) c.from_residual-in_err-put_shown.ensures.1

pub returns-clause-text : goal.returns-clause-text
returns-clause-text g c = λ place event is.
    let shape = c.args.shape in
    let n = c.args.view in
    let view = c.view_of_part.ensures place event is in
    four_pieces c.args.to.now c.put_piece.new.to c.put_start.new.to c.put_shown.new.to c.put_piece-2.new.to _ _ _ _ _ _ (whole _ shape n place event (λ none. c.if-bytes-eq0.false (c.bytes.ensures.is ∙ none))) c.in_ok-put_piece.ensures.text
    (subst (IsWritten c.put_piece.new.to c.put_start.new.to) (ap (start_in shape) is.start) c.in_ok-put_start.ensures.text)
    (subst (λ (v : PayloadView). IsWritten c.put_start.new.to c.put_shown.new.to (seen_in shape n v)) view
    (c.in_ok-put_shown.ensures.text (subst (λ (v : PayloadView). IsReadable v.shown) (sym view) (part_readable n place event))))
    c.put_piece-2.ensures.text
