-- Laws of normal forms: they determine lawful events, they are accepted, and the normal form of their meaning is the
-- same.
use Rattle.std.proofs.Common.{◌≡◌, ℕ, ◌-◌, ◌↔◌, None, List, [], length, map, refl, sym, ap, ◌∙◌}
use Rattle.wsn_wire.specs.declared.endpoint.Role.{Role}
use Rattle.wsn_wire.specs.declared.length_encoding.Lengths.TheVariants as encodings
use Rattle.wsn_wire.specs.Frame.{Frame, stream}
use Rattle.wsn_rules.specs.declared.verdict.Verdict.{Verdict}
use Rattle.wsn_rules.specs.declared.verdict.Verdict.TheVariants.{Accepted}
use Rattle.wsn_rules.specs.Limits.{Limits, InRange}
use Rattle.wsn_rules.specs.Group.{unfinished}
use Rattle.wsn_rules.specs.Lawful.{IsLawful}
use Rattle.wsn_rules.specs.Accepted.{IsAccepted}
use Rattle.wsn_rules.specs.Meaning.{MeantEvent, meaning}
use Rattle.wsn_rules.specs.Summary.{counted}
use Rattle.wsn_rules.specs.Verdict.{IsVerdict}
use Rattle.wsn_rules.proofs.LawfulLists.{finished_is_accepted}
use Rattle.wsn_rules.proofs.OneVerdict.{same_bytes}
use Rattle.wsn_rules.specs.LawfulEvents.{AreLawful}
use Rattle.wsn_rules.specs.NormalForm.{normal_frame, normal_form}
use Rattle.wsn_rules.proofs.LawfulMeaning.{lawful_meaning}
use Rattle.wsn_rules.proofs.NormalFrames.{AllowsOneFrame, normal_finished, normal_lawful, normal_meaning}
use Rattle.wsn_rules.proofs.OneReport.{same_accepted}

-- ---- an accepted input has one list of frames, and one meaning

-- The verdict on bytes that are accepted with these frames.
abbrev verdict_with : List ℕ → List Frame → Verdict
verdict_with bytes fs = Accepted (counted fs (length (stream fs)) (length bytes - length (stream fs)))

accepted_verdict : (role : Role) (limits : Limits) (bytes : List ℕ) (fs : List Frame) → IsAccepted role limits bytes fs → IsVerdict role limits bytes fs (verdict_with bytes fs)
accepted_verdict role limits bytes fs accepted = (accepted, refl)

pub accepted_meaning : (role : Role) (limits : Limits) (bytes : List ℕ) (fs gs : List Frame) → IsAccepted role limits bytes fs → IsAccepted role limits bytes gs → meaning fs ≡ meaning gs
accepted_meaning role limits bytes fs gs accepted other = ap meaning (same_accepted role limits bytes fs gs accepted other)

-- ---- normal forms determine the events

-- Limits that limit only messages.
abbrev limiting : ℕ → Limits
limiting most = record { message = most; input = 0; frames = None; lengths = encodings.Shortest }

limiting_allows : (most : ℕ) → AllowsOneFrame (limiting most)
limiting_allows most limit is = cc

lawful_limiting : (role : Role) (most : ℕ) (events : List MeantEvent) → AreLawful most events → IsLawful role (limiting most) (map (normal_frame role) events)
lawful_limiting role most events lawful = normal_lawful role (limiting most) events (limiting_allows most) lawful

pub normal_form_reports : (role : Role) (most : ℕ) (events others : List MeantEvent) → AreLawful most events → AreLawful most others → normal_form role events ≡ normal_form role others → events ≡ others
normal_form_reports role most events others lawful also same =
    let frames = same_bytes role (limiting most) (map (normal_frame role) events) (map (normal_frame role) others)
    (lawful_limiting role most events lawful) (lawful_limiting role most others also) same in
    sym (normal_meaning role (limiting most) events (limiting_allows most) lawful) ∙ ap meaning frames ∙ normal_meaning role (limiting most) others (limiting_allows most) also

pub normal_form_iff : (role : Role) (most : ℕ) (events others : List MeantEvent) → AreLawful most events → AreLawful most others → (normal_form role events ≡ normal_form role others) ↔ (events ≡ others)
normal_form_iff role most events others lawful also = (normal_form_reports role most events others lawful also, λ same. ap (normal_form role) same)

pub inputs_iff : (role : Role) (limits : Limits) (bytes others : List ℕ) (fs gs : List Frame) → InRange limits → IsAccepted role limits bytes fs → IsAccepted role limits others gs
    → (normal_form role (meaning fs) ≡ normal_form role (meaning gs)) ↔ (meaning fs ≡ meaning gs)
inputs_iff role limits bytes others fs gs range accepted other =
    normal_form_iff role limits.message (meaning fs) (meaning gs) (lawful_meaning role limits fs accepted.lawful range) (lawful_meaning role limits gs other.lawful range)

-- ---- normal forms are accepted

-- A limit on frames allows one frame.
pub one_frame : (limits : Limits) → InRange limits → AllowsOneFrame limits
one_frame limits range = λ most is. (range.frames most is).0

pub frames_of_events : (role : Role) (limits : Limits) (events : List MeantEvent) → InRange limits → AreLawful limits.message events
    → IsLawful role limits (map (normal_frame role) events) × (unfinished (map (normal_frame role) events) ≡ []) × (meaning (map (normal_frame role) events) ≡ events)
frames_of_events role limits events range lawful =
    let one = one_frame limits range in
    (normal_lawful role limits events one lawful, normal_finished role limits events one lawful, normal_meaning role limits events one lawful)

pub normal_accepted : (role : Role) (limits : Limits) (events : List MeantEvent) → InRange limits → AreLawful limits.message events
    → IsAccepted role limits (normal_form role events) (map (normal_frame role) events)
normal_accepted role limits events range lawful =
    let frames = frames_of_events role limits events range lawful in
    finished_is_accepted role limits (map (normal_frame role) events) frames.0 frames.1

pub own_frames : (role : Role) (limits : Limits) (bytes : List ℕ) (fs : List Frame) → InRange limits → IsAccepted role limits bytes fs
    → (gs : List Frame) × IsAccepted role limits (normal_form role (meaning fs)) gs × (normal_form role (meaning fs) ≡ stream gs) × (unfinished gs ≡ []) × (meaning gs ≡ meaning fs)
own_frames role limits bytes fs range accepted =
    let lawful = lawful_meaning role limits fs accepted.lawful range in
    let frames = frames_of_events role limits (meaning fs) range lawful in
    (map (normal_frame role) (meaning fs), normal_accepted role limits (meaning fs) range lawful, refl, frames.1, frames.2)

-- Whatever frames the normal form is accepted with.
pub own_normal_form : (role : Role) (limits : Limits) (bytes : List ℕ) (fs gs : List Frame) → InRange limits → IsAccepted role limits bytes fs
    → IsAccepted role limits (normal_form role (meaning fs)) gs → normal_form role (meaning gs) ≡ normal_form role (meaning fs)
own_normal_form role limits bytes fs gs range accepted again =
    let lawful = lawful_meaning role limits fs accepted.lawful range in
    let same = accepted_meaning role limits (normal_form role (meaning fs)) gs (map (normal_frame role) (meaning fs)) again (normal_accepted role limits (meaning fs) range lawful) in
    ap (normal_form role) (same ∙ (frames_of_events role limits (meaning fs) range lawful).2)
