use Rattle.std.proofs.Common.{◌≡◌, Bool, true, false, Some, ◌∙◌, ◌++◌, ◌∷◌, [], List, ℕ, refl, sym, ap, subst, length}
use Rattle.wsn_wire.specs.declared.endpoint.Role.{Role}
use Rattle.wsn_wire.specs.Frame.{Frame, stream}
use Rattle.wsn_rules.specs.declared.head_info.HeadInfo.{HeadInfo}
use Rattle.wsn_rules.specs.Heads.{info_of}
use Rattle.wsn_rules.specs.Lawful.{IsLawful}
use Rattle.wsn_rules.specs.Limits.{Limits}
use Rattle.wsn_scan.specs.Positions.{InFrame}
use Rattle.wsn_parts.specs.declared.event_at.EventAt.{EventAt}
use Rattle.wsn_parts.specs.EventsAt.{end_of}
use Rattle.wsn_parts.specs.Following.{EndsFrame, KeepsEventAt}
use Rattle.wsn_parts.proofs.KeptEvents.{ends_own, ends_other}
use Rattle.wsn_parts.proofs.event_at.EventAt.end.Goals as goal

-- what is kept after a frame that ends where this head's does
abbrev after : EventAt → ℕ → EventAt
after kept ends = record kept { own = false; next = Some ends }

module _ (role : Role) (limits : Limits) (kept : EventAt) (at : ℕ) (fs : List Frame) (f : Frame) (text : List ℕ) (head : HeadInfo) (ends : ℕ) (same : head ≡ info_of (length (stream fs)) f) (ends_is : ends ≡ end_of head)
    (lawful : IsLawful role limits (fs ++ f ∷ [])) (k : KeepsEventAt kept at fs (InFrame (info_of (length (stream fs)) f) f.payload) text) where
  there : ends ≡ end_of (info_of (length (stream fs)) f)
  there = ends_is ∙ ap end_of same

  own_frame : kept.own ≡ true → EndsFrame (after kept ends) at fs f text head.fin
  own_frame own = subst (λ (n : ℕ). EndsFrame (after kept n) at fs f text head.fin) (sym there) (subst (λ (b : Bool). EndsFrame (after kept (end_of (info_of (length (stream fs)) f))) at fs f text b) (sym (ap (λ (i : HeadInfo). i.fin) same)) (by f.fin refl))
    where
      by : (b : Bool) → f.fin ≡ b → EndsFrame (after kept (end_of (info_of (length (stream fs)) f))) at fs f text b
      by true final = ends_own role limits kept at fs f text lawful k own final
      by false more = ends_other role limits kept at fs f text lawful k (λ own. more)

  other_frame : kept.own ≡ false → EndsFrame (after kept ends) at fs f text false
  other_frame other = subst (λ (n : ℕ). EndsFrame (after kept n) at fs f text false) (sym there) (ends_other role limits kept at fs f text lawful k (λ own. let both : true ≡ false = sym own ∙ other in cc))

pub returns-then-own : goal.returns-then-own
returns-then-own c role limits at fs f text same may lawful k =
    own_frame role limits c.args.self.now at fs f text c.args.head.now c.end_of.result same (c.end_of.ensures may.few may.size may.key) lawful k c.if-own.true

pub returns-else-own : goal.returns-else-own
returns-else-own c role limits at fs f text same may lawful k =
    subst (λ (b : Bool). EndsFrame (after c.args.self.now c.end_of.result) at fs f text b) (sym c.if-own.false)
    (other_frame role limits c.args.self.now at fs f text c.args.head.now c.end_of.result same (c.end_of.ensures may.few may.size may.key) lawful k c.if-own.false)
