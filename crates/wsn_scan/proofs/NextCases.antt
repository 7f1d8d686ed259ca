-- What a call finds, by what was taken before it.
use Rattle.std.proofs.Common.{◌≡◌, ◌≢◌, ℕ, Bool, true, false, Option, None, Some, List, [], ◌∷◌, ◌++◌, length, take, drop, refl, sym, ap, ◌∙◌, subst, append_assoc}
use Rattle.std.specs.Prelude.{◌↔◌, IfSome, IsSome}
use Rattle.wsn_wire.specs.declared.endpoint.Role.{Role}
use Rattle.wsn_wire.specs.Frame.{Frame, IsBytes}
use Rattle.wsn_rules.specs.declared.head_info.HeadInfo.{HeadInfo}
use Rattle.wsn_rules.specs.declared.verdict.Refusal.{Refusal}
use Rattle.wsn_rules.specs.Limits.{Limits}
use Rattle.wsn_rules.specs.Lawful.{IsLawful}
use Rattle.wsn_rules.specs.AfterClose.{HasNoClose, EndsWithClose}
use Rattle.wsn_scan.specs.declared.part.Part.{Part}
use Rattle.wsn_scan.specs.declared.part.Taken.{Taken}
use Rattle.wsn_scan.specs.declared.part.Taken.TheVariants as taken
use Rattle.wsn_scan.specs.declared.scan.Scan.{Scan}
use Rattle.wsn_scan.specs.declared.stage.Stage.{Stage}
use Rattle.wsn_scan.specs.declared.stage.Stage.TheVariants as stages
use Rattle.wsn_scan.specs.Positions.{Position, BetweenFrames, InFrame}
use Rattle.wsn_scan.specs.Parts.{ContinuesFrame, Finds, FindsByCase, Consumes}
use Rattle.wsn_scan.specs.Scans.{IsAt, HasScanned, IsReachedBy, ScanCall, IsAnswered, refusal_at, refusal_in}

no_close_and_close : (fs : List Frame) → HasNoClose fs → EndsWithClose fs → ⊥
no_close_and_close fs none ends = none ends.0 [] ends.1 ends.3 ends.2

-- no frame comes after a Close
none_after_close : (role : Role) (limits : Limits) (fs : List Frame) (f : Frame) → IsLawful role limits (fs ++ f ∷ []) → EndsWithClose fs → ⊥
none_after_close role limits fs f lawful ends =
    let whole : fs ++ f ∷ [] ≡ ends.0 ++ ends.1 ∷ f ∷ [] = ap (λ (gs : List Frame). gs ++ f ∷ []) ends.3 ∙ append_assoc ends.0 (ends.1 ∷ []) (f ∷ []) in
    let none : f ∷ [] ≡ [] = lawful.close_last ends.0 (f ∷ []) ends.1 whole ends.2 in
    cc

-- at each stage but a refusal: in a frame there was no Close
no_close_in_frame : (role : Role) (limits : Limits) (stage : Stage) (bytes : List ℕ) (fs : List Frame) (rest : List ℕ) (at : Position) (head : HeadInfo) (payload : List ℕ) → IsAt role limits stage bytes fs rest at
    → (IsSome (refusal_at stage) → ⊥) → at ≡ InFrame head payload → HasNoClose fs
no_close_in_frame role limits stages.Between bytes fs rest at head payload is unrefused in_frame = is.0
no_close_in_frame role limits (stages.Head part) bytes fs rest at head payload is unrefused in_frame = is.0
no_close_in_frame role limits (stages.Payload inside) bytes fs rest at head payload is unrefused in_frame = is.0
no_close_in_frame role limits (stages.Closed code) bytes fs rest at head payload is unrefused in_frame = let both : BetweenFrames ≡ InFrame head payload = sym is.2 ∙ in_frame in absurd cc
no_close_in_frame role limits (stages.Refused refusal) bytes fs rest at head payload is unrefused in_frame = absurd (unrefused refl)

-- a refusal comes after no Close
no_close_refused : (role : Role) (limits : Limits) (stage : Stage) (bytes : List ℕ) (fs : List Frame) (rest : List ℕ) (at : Position) → IsAt role limits stage bytes fs rest at → IsSome (refusal_at stage) → HasNoClose fs
no_close_refused role limits stages.Between bytes fs rest at is refused = is.0
no_close_refused role limits (stages.Head part) bytes fs rest at is refused = is.0
no_close_refused role limits (stages.Payload inside) bytes fs rest at is refused = is.0
no_close_refused role limits (stages.Closed code) bytes fs rest at is refused = let both : false ≡ true = refused in absurd cc
no_close_refused role limits (stages.Refused refusal) bytes fs rest at is refused = (is.refused []).no_close

again_of : (held : Option Refusal) (found : Taken) (n : ℕ) → IfSome held (λ _. (found ≡ taken.Refused) × (n ≡ 0)) → (refusal : Refusal) → held ≡ Some refusal → (found ≡ taken.Refused) × (n ≡ 0)
again_of None found n again refusal is = absurd cc
again_of (Some held) found n again refusal is = again

module _ (role : Role) (limits : Limits) (new : Scan) (bytes : List ℕ) (fs : List Frame) (at : Position) (part : Part) (payload : List ℕ) (size n : ℕ) where
  -- a part of a frame comes after no Close
  no_part_after : (frames : List Frame) (since : List ℕ) (position : Position) (before : List ℕ) → HasScanned role limits new bytes frames since position → ContinuesFrame fs before part payload frames position
      → (IsSome (refusal_in new) → ⊥) → EndsWithClose fs → (ends : Bool) → part.ends ≡ ends → ⊥
  no_part_after frames since position before has_scanned goes_on unrefused close true is =
      let ended = goes_on.ends is in
      none_after_close role limits fs ended.0 (subst (IsLawful role limits) ended.3 has_scanned.has_consumed.lawful) close
  no_part_after frames since position before has_scanned goes_on unrefused close false is =
      let within = goes_on.within is in
      let none = no_close_in_frame role limits new.stage bytes frames since position part.head (before ++ payload) has_scanned.is_at unrefused within.1 in
      no_close_and_close fs (subst HasNoClose within.0 none) close

  tail_of : (found : Taken) → IsReachedBy role limits new bytes (Finds found part payload fs at) → Consumes found part size n → IsSome (refusal_in new) ↔ (found ≡ taken.Refused) → EndsWithClose fs → (found ≡ taken.Closed) × (n ≡ size)
  tail_of taken.More reached consumes reported close = absurd (no_close_and_close fs reached.found.2 close)
  tail_of taken.Part reached consumes reported close =
      absurd (no_part_after reached.frames reached.since reached.position reached.found.before reached.has_scanned reached.found.goes_on (λ some. let both : taken.Part ≡ taken.Refused = reported.0 some in cc) close part.ends refl)
  tail_of taken.Closed reached consumes reported close = (refl, consumes)
  tail_of taken.Refused reached consumes reported close =
      let none = no_close_refused role limits new.stage bytes reached.frames reached.since reached.position reached.has_scanned.is_at (reported.1 refl) in
      absurd (no_close_and_close fs (subst HasNoClose reached.found.0 none) close)

  open_of : (found : Taken) → IsReachedBy role limits new bytes (Finds found part payload fs at) → HasNoClose fs → found ≢ taken.Closed
  open_of taken.More reached none is = cc
  open_of taken.Part reached none is = cc
  open_of taken.Closed reached none is = no_close_and_close fs none reached.found.2
  open_of taken.Refused reached none is = cc

pub next_cases : (role : Role) (limits : Limits) (bytes : List ℕ) (fs : List Frame) (rest : List ℕ) (at : Position) (call : ScanCall) → HasScanned role limits call.before bytes fs rest at → IsBytes call.chunk → IsAnswered call
    → FindsByCase fs (refusal_in call.before) (length call.chunk) call.count call.found call.part
next_cases role limits bytes fs rest at call has_scanned in_bytes answered =
    let reached = answered.advances role limits bytes rest fs at in_bytes has_scanned in
    let all = bytes ++ take call.count call.chunk in
    let shown = drop call.part.start (take call.count call.chunk_after) in
    record {
      again = again_of (refusal_in call.before) call.found call.count answered.again;
      tail = λ unrefused close. tail_of role limits call.after all fs at call.part shown (length call.chunk) call.count call.found reached.0 reached.1 answered.reported close;
      frame = λ unrefused none. (open_of role limits call.after all fs at call.part shown (length call.chunk) call.count call.found reached.0 none, reached.1);
    }
