-- The recut by a plan with one more step, and the bytes of that step's frame.
use Rattle.std.proofs.Common.{◌≡◌, ℕ, zero, suc, ◌+◌, ◌-◌, ◌≤◌, true, false, Option, List, [], ◌∷◌, ◌++◌, length, take, drop, refl, sym, ap, ◌∙◌, append-nil, arith}
use Rattle.std.proofs.lemmas.List.{length-take, length-drop}
use Rattle.wsn_wire.specs.declared.endpoint.Role.{Role}
use Rattle.wsn_wire.specs.declared.opcode.Op.TheVariants.{Continue}
use Rattle.wsn_wire.specs.declared.opcode.Kind.{Kind}
use Rattle.wsn_wire.specs.declared.length_encoding.Form.{Form}
use Rattle.wsn_wire.specs.Frame.{Frame, frame_bytes, head_bytes, wire_payload, stream}
use Rattle.wsn_rules.specs.declared.step.Step.{Step}
use Rattle.wsn_rules.specs.declared.step.Step.TheVariants.{Piece, Last}
use Rattle.wsn_rules.specs.Limits.{Limits}
use Rattle.wsn_rules.specs.Meaning.{MeantEvent}
use Rattle.wsn_rules.specs.Meaning as meant
use Rattle.wsn_rules.specs.WalkedPlan.{HasWalked}
use Rattle.wsn_rules.specs.Recut.{next_message, op_after, step_frame, frame_at, frames_after, recut, recut_bytes}
use Rattle.wsn_rules.proofs.Prefixes.{push-append}
use Rattle.wsn_rules.proofs.Walk.{stream_push}

frames_push : (events : List MeantEvent) (before plan : List Step) (step : Step) → frames_after events before (plan ++ step ∷ []) ≡ frames_after events before plan ++ frame_at events (before ++ plan) step ∷ []
frames_push events before [] step = ap (λ (steps : List Step). frame_at events steps step ∷ []) (sym (append-nil before))
frames_push events before (s ∷ plan) step =
    ap (λ (fs : List Frame). frame_at events before s ∷ fs) (frames_push events (before ++ s ∷ []) plan step)
    ∙ ap (λ (steps : List Step). frame_at events before s ∷ (frames_after events (before ++ s ∷ []) plan ++ frame_at events steps step ∷ [])) (push-append before s plan)

module _ (role : Role) (limits : Limits) (events : List MeantEvent) (plan : List Step) (count held : ℕ) (left : List MeantEvent) (walked : HasWalked role limits events plan count held left) (step : Step) where
  frame_is : frame_at events plan step ≡ step_frame count held left step
  frame_is = λ i. step_frame (sym walked.counted i) (sym walked.summed i) (sym walked.remaining i) step

  pub recut_goes_on : recut (plan ++ step ∷ []) events ≡ recut plan events ++ step_frame count held left step ∷ []
  recut_goes_on = frames_push events [] plan step ∙ ap (λ (f : Frame). recut plan events ++ f ∷ []) frame_is

  pub bytes_go_on : recut_bytes (plan ++ step ∷ []) events ≡ recut_bytes plan events ++ frame_bytes (step_frame count held left step)
  bytes_go_on = ap stream recut_goes_on ∙ stream_push (recut plan events) (step_frame count held left step)

pub op_after_others : (count : ℕ) (kind : Kind) → 1 ≤ count → op_after count kind ≡ Continue
op_after_others zero kind some = absurd (omega arith)
op_after_others (suc count) kind some = refl

pub bytes_of_piece : (count held : ℕ) (left : List MeantEvent) (kind : Kind) (text : List ℕ) (len : ℕ) (key : Option (List ℕ)) (form : Form) → next_message left ≡ (kind, text) → held + len ≤ length text
    → frame_bytes (step_frame count held left (Piece len key form)) ≡ head_bytes false (op_after count kind) key form len ++ wire_payload key (take len (drop held text))
bytes_of_piece count held left kind text len key form next fits =
    let taken = length-take len (drop held text) in
    let dropped = length-drop held text in
    let size : length (take len (drop held text)) ≡ len = omega arith in
    ap (λ (message : Kind × List ℕ). head_bytes false (op_after count message.0) key form (length (take len (drop held message.1))) ++ wire_payload key (take len (drop held message.1))) next
    ∙ ap (λ (n : ℕ). head_bytes false (op_after count kind) key form n ++ wire_payload key (take len (drop held text))) size

pub bytes_of_last : (count held : ℕ) (later : List MeantEvent) (kind : Kind) (text : List ℕ) (key : Option (List ℕ)) (form : Form)
    → frame_bytes (step_frame count held (meant.Message kind text ∷ later) (Last key form)) ≡ head_bytes true (op_after count kind) key form (length text - held) ++ wire_payload key (drop held text)
bytes_of_last count held later kind text key form = ap (λ (n : ℕ). head_bytes true (op_after count kind) key form n ++ wire_payload key (drop held text)) (length-drop held text)
