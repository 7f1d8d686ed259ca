-- What a part of a frame says of the event that begins at an offset.
use Rattle.std.proofs.Common.{◌≡◌, ℕ, ◌⊎◌, Bool, true, false, List, [], ◌∷◌, ◌++◌, length, inl, inr, refl, sym, ap, subst, arith}
use Rattle.std.proofs.lemmas.Bool.{cases_Bool}
use Rattle.wsn_wire.specs.declared.endpoint.Role.{Role}
use Rattle.wsn_wire.specs.Frame.{Frame, stream}
use Rattle.wsn_rules.specs.declared.head_info.HeadInfo.{HeadInfo}
use Rattle.wsn_rules.specs.Limits.{Limits}
use Rattle.wsn_rules.specs.Heads.{info_of}
use Rattle.wsn_rules.specs.Lawful.{IsLawful}
use Rattle.wsn_rules.specs.ShownStream.{event_offset, frame_so_far}
use Rattle.wsn_scan.specs.declared.part.Part.{Part}
use Rattle.wsn_scan.specs.Parts.{IsPartAt}
use Rattle.wsn_scan.specs.Positions.{Position, BetweenFrames, InFrame}
use Rattle.wsn_parts.specs.declared.event_at.EventAt.{EventAt}
use Rattle.wsn_parts.specs.EventsAt.{IsBegunAt, EndBefore, EndsEvent}
use Rattle.wsn_scan.specs.FollowedScans.{IsTaken}
use Rattle.wsn_scan.proofs.FollowedScans.{begins_at, goes_on_at}
use Rattle.wsn_parts.specs.Following.{HasBegunAt, KeepsEventAt, EndsFrame, own_part}
use Rattle.wsn_parts.proofs.OpenMessages.{offset_within}
use Rattle.wsn_parts.proofs.KeptEvents.{goes_on, content_whole, begun_own}

-- What is kept when the part's payload has been written: the frame has begun.
pub into_frame : (kept : EventAt) (at : ℕ) (fs : List Frame) (from : Position) (part : Part) (before text : List ℕ) → part.begins ≡ false → IsPartAt from part before → KeepsEventAt kept at fs from text
    → KeepsEventAt kept at fs (InFrame part.head before) text
into_frame kept at fs from part before text goes is_at k = subst (λ (p : Position). KeepsEventAt kept at fs p text) (goes_on_at from part before is_at goes) k

-- A part that begins a frame comes between frames.
pub begins_between : (kept : EventAt) (at : ℕ) (fs : List Frame) (from : Position) (part : Part) (before text : List ℕ) → part.begins ≡ true → IsPartAt from part before → KeepsEventAt kept at fs from text
    → KeepsEventAt kept at fs BetweenFrames text × (before ≡ [])
begins_between kept at fs from part before text begins is_at k = let is = begins_at from part before is_at begins in (subst (λ (p : Position). KeepsEventAt kept at fs p text) is.0 k, is.1)

module _ (role : Role) (limits : Limits) (kept : EventAt) (at : ℕ) (fs frames : List Frame) (position : Position) (rest before share since text : List ℕ) (part : Part) (payload : List ℕ)
    (t : IsTaken role limits fs rest before part payload share frames position since) (offset : part.head.offset ≡ length (stream fs))
    (k : KeepsEventAt kept at fs (InFrame part.head before) text) where
  abbrev more : List ℕ
  more = own_part kept payload

  further : KeepsEventAt kept at fs (InFrame part.head (before ++ payload)) (text ++ more)
  further = goes_on kept at fs part.head before payload text offset k

  -- the frame isn't complete
  pub within_frame : part.ends ≡ false → KeepsEventAt kept at frames position (text ++ more)
  within_frame goes =
      let there = t.goes_on.within goes in
      subst (λ (p : Position). KeepsEventAt kept at frames p (text ++ more)) (sym there.1) (subst (λ (hs : List Frame). KeepsEventAt kept at hs (InFrame part.head (before ++ payload)) (text ++ more)) (sym there.0) further)

  -- the frame is complete
  module _ (ends : part.ends ≡ true) where
    abbrev pub frame : Frame
    frame = (t.goes_on.ends ends).0

    pub head_is : part.head ≡ info_of (length (stream fs)) frame
    head_is = (t.goes_on.ends ends).1

    pub frames_are : frames ≡ fs ++ frame ∷ []
    frames_are = (t.goes_on.ends ends).3

    pub at_end : position ≡ BetweenFrames
    at_end = (t.goes_on.ends ends).4

    pub lawful : IsLawful role limits (fs ++ frame ∷ [])
    lawful = subst (IsLawful role limits) frames_are t.lawful

    pub whole_frame : KeepsEventAt kept at fs (InFrame (info_of (length (stream fs)) frame) frame.payload) (text ++ more)
    whole_frame =
        subst (λ (bs : List ℕ). KeepsEventAt kept at fs (InFrame (info_of (length (stream fs)) frame) bs) (text ++ more)) (sym (t.goes_on.ends ends).2)
        (subst (λ (i : HeadInfo). KeepsEventAt kept at fs (InFrame i (before ++ payload)) (text ++ more)) head_is further)

    pub ended : (new : EventAt) → EndsFrame new at fs frame (text ++ more) false → KeepsEventAt new at frames position (text ++ more)
    ended new is =
        subst (λ (p : Position). KeepsEventAt new at frames p (text ++ more)) (sym at_end) (subst (λ (hs : List Frame). KeepsEventAt new at hs BetweenFrames (text ++ more)) (sym frames_are) is)

  -- the frame belongs to the event, whose payload so far this is
  pub so_far : event_offset fs (frame_so_far part.head before) ≡ at → IsBegunAt frames position at (text ++ more) ⊎ ((f : Frame) × (frames ≡ fs ++ f ∷ []) × EndsEvent fs f at (text ++ more))
  so_far same = by (cases_Bool part.ends)
    where
      own_holds : kept.own ≡ true
      own_holds = k.frame.2.1 same

      at_part : (b : Bool) → HasBegunAt b fs (InFrame part.head (before ++ payload)) at (text ++ more) → kept.begun ≡ b → IsBegunAt fs (InFrame part.head (before ++ payload)) at (text ++ more)
      at_part true is begun = is
      at_part false is begun =
          let begun_so : HasBegunAt false fs (InFrame part.head before) at text = subst (λ (b : Bool). HasBegunAt b fs (InFrame part.head before) at text) begun k.begun in
          absurd (before_it begun_so.0)
        where
          before_it : EndBefore fs (InFrame part.head before) at → ⊥
          before_it after = let within = offset_within fs (frame_so_far part.head before) in omega (arith, after, within, same, offset)

      by : (part.ends ≡ true) ⊎ (part.ends ≡ false) → IsBegunAt frames position at (text ++ more) ⊎ ((f : Frame) × (frames ≡ fs ++ f ∷ []) × EndsEvent fs f at (text ++ more))
      by (inr goes) =
          let there = t.goes_on.within goes in
          inl (subst (λ (p : Position). IsBegunAt frames p at (text ++ more)) (sym there.1)
          (subst (λ (hs : List Frame). IsBegunAt hs (InFrame part.head (before ++ payload)) at (text ++ more)) (sym there.0) (at_part kept.begun further.begun refl)))
      by (inl ends) = of_end (cases_Bool (frame ends).fin)
        where
          same_end : event_offset fs (frame ends) ≡ at
          same_end = (whole_frame ends).frame.2.0 own_holds

          of_end : ((frame ends).fin ≡ true) ⊎ ((frame ends).fin ≡ false) → IsBegunAt frames position at (text ++ more) ⊎ ((f : Frame) × (frames ≡ fs ++ f ∷ []) × EndsEvent fs f at (text ++ more))
          of_end (inl final) = inr (frame ends, frames_are ends, record { final = final; begins = same_end; payload_is = content_whole role limits kept at fs (frame ends) (text ++ more) (lawful ends) (whole_frame ends) same_end })
          of_end (inr unended) =
              inl (subst (λ (p : Position). IsBegunAt frames p at (text ++ more)) (sym (at_end ends))
              (subst (λ (hs : List Frame). IsBegunAt hs BetweenFrames at (text ++ more)) (sym (frames_are ends)) (begun_own role limits kept at fs (frame ends) (text ++ more) (lawful ends) (whole_frame ends) same_end unended)))
