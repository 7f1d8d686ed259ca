use Rattle.std.proofs.Common.{◌≡◌, ℕ, ◌==◌, ◌&&◌, Bool, true, false, List, [], ◌++◌, codes, sym, ap, ◌∙◌, subst, append_assoc}
use Rattle.wsn_io.specs.Stops.{IsWrittenOrStops}
use Rattle.wsn_io.specs.Transfer.{IsPartlyWritten}
use Rattle.wsn_io.specs.declared.stop.Stop.TheVariants as stop
use Rattle.wsn_print.specs.EscapedText.{quoted}
use Rattle.wsn_print.proofs.Gathered.{adding_stopped, gathering_ended}
use Rattle.wsn_shown_text.specs.declared.fields.Shape.{Shape, TheVariants.{Line, Object}}
use Rattle.wsn_shown_text.specs.Views.Shown.{Text}
use Rattle.wsn_shown_text.specs.EntryFormats.{seen_in, text_key_in, more_in, end_in}
use Rattle.wsn_shown_text.proofs.HeldViews.{as_view, seen}
use Rattle.wsn_shown_text.proofs.seen.put_text_after.Goals as goal

-- A text that is shown, and the end of the entry.
text_is : (shape : Shape) (n : ℕ) (text : List ℕ) (more : Bool) → (n == 0) ≡ false
    → text_key_in shape ++ (quoted text ++ (more_in shape more ++ end_in shape)) ≡ seen_in shape n (as_view (Text text) more) ++ end_in shape
text_is Line n text more some =
    let shown : (n == 0 && more) ≡ false = ap (λ (b : Bool). b && more) some in
    sym (append_assoc (quoted text) (more_in Line more) (codes "\n")) ∙ ap (λ (t : List ℕ). t ++ codes "\n") (seen n (as_view (Text text) more) shown)
text_is Object n text more some = simp append_assoc

parts : (line key text more end : List ℕ) → ((line ++ key) ++ text) ++ (more ++ end) ≡ line ++ (key ++ (text ++ (more ++ end)))
parts line key text more end = simp append_assoc

whole : (shape : Shape) (n : ℕ) (line held text : List ℕ) (more : Bool) → (n == 0) ≡ false → held ≡ line ++ text_key_in shape
    → (held ++ quoted text) ++ (more_in shape more ++ end_in shape) ≡ line ++ (seen_in shape n (as_view (Text text) more) ++ end_in shape)
whole shape n line held text more some is =
    ap (λ (h : List ℕ). (h ++ quoted text) ++ (more_in shape more ++ end_in shape)) is
    ∙ parts line (text_key_in shape) (quoted text) (more_in shape more) (end_in shape)
    ∙ ap (λ (t : List ℕ). line ++ t) (text_is shape n text more some)

pub returns-in_err-hold_quoted : goal.returns-in_err-hold_quoted
returns-in_err-hold_quoted g c = λ n some utf8.
    let shape = c.args.shape in
    let text : List ℕ = c.args.text.now in
    subst (λ (t : List ℕ). IsWrittenOrStops c.args.to.now c.hold_quoted.new.to t c.from_residual.result)
    (whole shape n c.args.line.now c.push_text_key.new.line text c.args.more some c.push_text_key.ensures.text)
    (adding_stopped c.args.to.now c.hold_quoted.new.to (c.push_text_key.new.line ++ quoted text) (more_in shape c.args.more ++ end_in shape) c.in_err-hold_quoted.field-0.0 c.from_residual.result
    (c.in_err-hold_quoted.ensures.text utf8) c.from_residual.ensures.1)

joined : (front left more end : List ℕ) → front ++ ((left ++ more) ++ end) ≡ (front ++ left) ++ (more ++ end)
joined front left more end = simp append_assoc

pub returns : goal.returns
returns g c = λ n some utf8.
    let shape = c.args.shape in
    let text : List ℕ = c.args.text.now in
    let more = more_in shape c.args.more in
    let held = c.in_ok-hold_quoted.ensures.text utf8 in
    let left : List ℕ = c.hold_quoted.new.held in
    let last : List ℕ = (left ++ more) ++ end_in shape in
    let line : c.bytes.result.now ≡ last =
    c.bytes.ensures ∙ c.push.ensures.text ∙ ap (λ (t : List ℕ). c.push_more.new.line ++ t) c.end_of.ensures.text
    ∙ ap (λ (t : List ℕ). t ++ end_in shape) c.push_more.ensures.text in
    let all = joined held.0 left more (end_in shape) ∙ ap (λ (t : List ℕ). t ++ (more ++ end_in shape)) held.1
    ∙ whole shape n c.args.line.now c.push_text_key.new.line text c.args.more some c.push_text_key.ensures.text in
    gathering_ended c.args.to.now c.hold_quoted.new.to c.put_line.new.to (c.args.line.now ++ (seen_in shape n (as_view (Text text) c.args.more) ++ end_in shape)) last c.put_line.result
    (held.0, all, held.2)
    (subst (λ (t : List ℕ). IsWrittenOrStops c.hold_quoted.new.to c.put_line.new.to t c.put_line.result) line c.put_line.ensures)
