-- The frames of a normal form are a recut, by the plan with one step for each event. So they are lawful, leave no
-- message unfinished, and mean the same events.
use Rattle.std.proofs.Common.{◌≡◌, ◌≤◌, List, [], ◌∷◌, map, IsSome, IfSome, ◌↔◌, refl, sym, ap, ◌∙◌, subst, zero-le, arith}
use Rattle.std.specs.Option.{ForSome}
use Rattle.wsn_wire.specs.declared.endpoint.Role.{Role}
use Rattle.wsn_wire.specs.declared.endpoint.Role.TheVariants.{Client, Server}
use Rattle.wsn_wire.specs.Frame.{Frame, IsKey}
use Rattle.wsn_rules.specs.Limits.{Limits}
use Rattle.wsn_rules.specs.Group.{unfinished}
use Rattle.wsn_rules.specs.Lawful.{IsLawful}
use Rattle.wsn_rules.specs.Meaning.{MeantEvent, Message, Control, meaning}
use Rattle.wsn_rules.specs.LawfulEvents.{AreLawful}
use Rattle.wsn_rules.specs.NormalForm.{normal_key, normal_frame}
use Rattle.wsn_rules.specs.Plan.{IsPlan}
use Rattle.wsn_rules.specs.Fitting.{Fits}
use Rattle.wsn_rules.specs.Recut.{recut, normal_step, normal_plan}
use Rattle.wsn_rules.proofs.PlanTheory.FromTheFront.{StepLaw, BeginsToFitFrom, left_following, recut_from}
use Rattle.wsn_rules.proofs.PlanTheory.Context.{recut_is}
use Rattle.wsn_rules.proofs.PlanTheory.FitsFromTheFront.{fits_iff}
use Rattle.wsn_rules.proofs.PlanTheory.RecutFrames.{recut_is_lawful, recut_is_finished, recut_means}

-- ---- the plan is a plan, and fits

masked : (role : Role) → IsSome (normal_key role) ↔ (role ≡ Client)
masked Client = (λ is. refl, λ is. refl)
masked Server = (λ is. (cc), λ is. (cc))

is_key : (role : Role) → IfSome (normal_key role) IsKey
is_key Client = (refl, (omega arith, (omega arith, (omega arith, (omega arith, tt)))))
is_key Server = tt

pub normal_is_plan : (role : Role) (events : List MeantEvent) → IsPlan (normal_plan role events)
normal_is_plan role [] = tt
normal_is_plan role (Message kind text ∷ events) = (is_key role, normal_is_plan role events)
normal_is_plan role (Control o body ∷ events) = (is_key role, normal_is_plan role events)

-- The limit on frames allows one frame.
abbrev pub AllowsOneFrame : Limits → Type 0
AllowsOneFrame limits = ForSome limits.frames (λ most. 1 ≤ most)

step_law : (role : Role) (limits : Limits) (e : MeantEvent) (events : List MeantEvent) → AllowsOneFrame limits → StepLaw role limits [] (e ∷ events) (normal_step role e)
step_law role limits (Message kind text) events one = (masked role, (kind, text, events, refl, record { size = zero-le; count = one }, (λ _. refl, tt)))
step_law role limits (Control o body) events one = (masked role, (o, body, events, refl))

begins : (role : Role) (limits : Limits) (events : List MeantEvent) → AllowsOneFrame limits → BeginsToFitFrom role limits [] events (normal_plan role events)
begins role limits [] one = tt
begins role limits (Message kind text ∷ events) one = (step_law role limits (Message kind text) events one, begins role limits events one)
begins role limits (Control o body ∷ events) one = (step_law role limits (Control o body) events one, begins role limits events one)

none_left : (role : Role) (events : List MeantEvent) → left_following events (normal_plan role events) ≡ []
none_left role [] = refl
none_left role (Message kind text ∷ events) = none_left role events
none_left role (Control o body ∷ events) = none_left role events

pub normal_fits : (role : Role) (limits : Limits) (events : List MeantEvent) → AllowsOneFrame limits → Fits role limits (normal_plan role events) events
normal_fits role limits events one = (fits_iff role limits events (normal_plan role events)).1 (begins role limits events one, none_left role events)

-- ---- the recut is the normal frames

recut_from_is : (role : Role) (events : List MeantEvent) → recut_from [] events (normal_plan role events) ≡ map (normal_frame role) events
recut_from_is role [] = refl
recut_from_is role (Message kind text ∷ events) = ap (λ (fs : List Frame). normal_frame role (Message kind text) ∷ fs) (recut_from_is role events)
recut_from_is role (Control o body ∷ events) = ap (λ (fs : List Frame). normal_frame role (Control o body) ∷ fs) (recut_from_is role events)

pub normal_recut : (role : Role) (events : List MeantEvent) → recut (normal_plan role events) events ≡ map (normal_frame role) events
normal_recut role events = recut_is (normal_plan role events) events ∙ recut_from_is role events

-- ---- so they have the properties of recuts

pub normal_lawful : (role : Role) (limits : Limits) (events : List MeantEvent) → AllowsOneFrame limits → AreLawful limits.message events → IsLawful role limits (map (normal_frame role) events)
normal_lawful role limits events one lawful =
    subst (IsLawful role limits) (normal_recut role events) (recut_is_lawful role limits events (normal_plan role events) lawful (normal_is_plan role events) (normal_fits role limits events one))

pub normal_finished : (role : Role) (limits : Limits) (events : List MeantEvent) → AllowsOneFrame limits → AreLawful limits.message events → unfinished (map (normal_frame role) events) ≡ []
normal_finished role limits events one lawful =
    ap unfinished (sym (normal_recut role events)) ∙ recut_is_finished role limits events (normal_plan role events) lawful (normal_is_plan role events) (normal_fits role limits events one)

pub normal_meaning : (role : Role) (limits : Limits) (events : List MeantEvent) → AllowsOneFrame limits → AreLawful limits.message events → meaning (map (normal_frame role) events) ≡ events
normal_meaning role limits events one lawful =
    ap meaning (sym (normal_recut role events)) ∙ recut_means role limits events (normal_plan role events) lawful (normal_is_plan role events) (normal_fits role limits events one)
