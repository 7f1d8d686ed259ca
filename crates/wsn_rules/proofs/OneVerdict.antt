-- No input has two verdicts.
use Rattle.std.proofs.Common.{◌≡◌, ℕ, List, [], ◌∷◌, ◌++◌, length, sym, ap, ◌∙◌, subst, inl, inr, append_assoc, append-nil, arith, refl}
use Rattle.wsn_wire.specs.declared.endpoint.Role.{Role}
use Rattle.wsn_wire.specs.declared.refusal.Reason.{Reason}
use Rattle.wsn_wire.specs.Frame.{Frame, frame_bytes, stream}
use Rattle.wsn_wire.specs.ReceivedHead.{HasLayout}
use Rattle.wsn_wire.proofs.FrameLemmas.{layout_of_frame, layouts_agree}
use Rattle.wsn_rules.specs.Limits.{Limits}
use Rattle.wsn_rules.specs.Group.{unfinished}
use Rattle.wsn_rules.specs.Lawful.{IsLawful}
use Rattle.wsn_rules.specs.AfterClose.{HasNoClose, EndsWithClose, Ends}
use Rattle.wsn_rules.specs.Accepted.{IsAccepted}
use Rattle.wsn_rules.specs.Meaning.{meaning, events_after}
use Rattle.wsn_rules.specs.Evidence.{Evidence}
use Rattle.wsn_wire.specs.Refusal.{number_of}
use Rattle.wsn_rules.specs.Verdict.{ComesFirst, IsRefused, IsCut, IsVerdict}
use Rattle.wsn_rules.specs.declared.verdict.Refusal.{Refusal}
use Rattle.wsn_rules.specs.declared.verdict.Verdict.{Verdict}
use Rattle.wsn_rules.specs.declared.verdict.Verdict.TheVariants.{Accepted, Cut, Refused}
use Rattle.wsn_rules.proofs.Prefixes.{nil-cons, nil-parts, append_cancel}
use Rattle.wsn_rules.proofs.LawfulLists.{no_close_before, law_at_split}
use Rattle.wsn_rules.proofs.Groups.{meaning-append}
use Rattle.wsn_rules.proofs.Walk.{walk, spellable_of_lawful}
use Rattle.wsn_rules.proofs.RowsOfLayout.{evidence_is_row}
use Rattle.wsn_rules.proofs.LawfulRows.{lawful_shows_no_row}
use Rattle.wsn_rules.proofs.LeastEvident.{same_number, evidence_is_some}

-- A layout with more bytes after it, part by part.
layout_then : (bytes following : List ℕ) (l : HasLayout bytes) → bytes ++ following ≡ l.first ∷ l.second ∷ (l.len ++ (l.key ++ (l.payload ++ following)))
layout_then bytes following l =
    ap (λ (bs : List ℕ). bs ++ following) l.whole
    ∙ ap (λ (bs : List ℕ). l.first ∷ l.second ∷ bs) (append_assoc l.len (l.key ++ l.payload) following ∙ ap (λ (bs : List ℕ). l.len ++ bs) (append_assoc l.key l.payload following))

close_ends : (fs : List Frame) → HasNoClose fs → EndsWithClose fs → ⊥
close_ends fs none close = none close.0 [] close.1 close.3 close.2

module _ (role : Role) (limits : Limits) where
  -- After lawful frames, no prefix of a frame that is lawful there is evidence.
  pub lawful_frame_shows_nothing : (fs : List Frame) (f : Frame) (gs : List Frame) → IsLawful role limits (fs ++ f ∷ gs) → (seen later following : List ℕ) (reason : Reason) → seen ++ later ≡ frame_bytes f ++ following → Evidence role limits (unfinished fs) reason seen → ⊥
  lawful_frame_shows_nothing fs f gs lawful seen later following reason e evidence =
      let law = law_at_split role limits fs f gs lawful in
      let l = layout_of_frame f law.frame.encoded.encodable in
      let row = evidence_is_row role limits (unfinished fs) reason (frame_bytes f) following seen later (layout_of_frame f law.frame.encoded.encodable) (e ∙ layout_then (frame_bytes f) following (layout_of_frame f law.frame.encoded.encodable)) evidence in
      lawful_shows_no_row role limits fs f law reason row.row

  -- Lawful frames at the start of the bytes, which no other frame continues.
  pub record AreAll (bytes : List ℕ) (fs : List Frame) : Type 0 where
    pub lawful : IsLawful role limits fs
    pub rest : List ℕ
    pub whole : bytes ≡ stream fs ++ rest
    pub last : (f : Frame) (gs : List Frame) (following : List ℕ) → IsLawful role limits (fs ++ f ∷ gs) → rest ≡ frame_bytes f ++ following → ⊥

  all_of_accepted : (bytes : List ℕ) (fs : List Frame) → IsAccepted role limits bytes fs → AreAll bytes fs
  all_of_accepted bytes fs a = by_end a.ends
    where
      by_end : Ends fs bytes → AreAll bytes fs
      by_end (inl p) = record {
        lawful = a.lawful;
        rest = [];
        whole = p.2 ∙ sym (append-nil (stream fs));
        last = λ f gs following lawful e. nil-cons _ _ e;
      }
      by_end (inr p) = record {
        lawful = a.lawful;
        rest = p.1.0;
        whole = p.1.1;
        last = λ f gs following lawful e. close_ends fs (no_close_before role limits fs f gs lawful) p.0;
      }

  all_of_cut : (bytes : List ℕ) (fs : List Frame) → IsCut role limits bytes fs → AreAll bytes fs
  all_of_cut bytes fs c = record {
    lawful = c.lawful;
    rest = c.rest;
    whole = c.whole;
    last = λ f gs following lawful e.
        let encodable = (law_at_split role limits fs f gs lawful).frame.encoded.encodable in
        let missing = c.within.0 in
        let same : frame_bytes f ++ (following ++ c.within.0) ≡ (c.rest ++ c.within.0) ++ [] =
        sym (append_assoc (frame_bytes f) following c.within.0) ∙ ap (λ (bs : List ℕ). bs ++ c.within.0) (sym e) ∙ sym (append-nil (c.rest ++ c.within.0)) in
        let agree = layouts_agree (frame_bytes f) (c.rest ++ c.within.0) (following ++ c.within.0) [] (layout_of_frame f encodable) c.within.2 same in
        c.within.1 (nil-parts following c.within.0 (sym agree.1)).1;
  }

  all_of_refused : (bytes : List ℕ) (fs : List Frame) (offset : ℕ) (reason : Reason) → IsRefused role limits bytes fs offset reason → AreAll bytes fs
  all_of_refused bytes fs offset reason r = record {
    lawful = r.lawful;
    rest = r.is_evident.seen ++ r.is_evident.later;
    whole = r.is_evident.whole;
    last = λ f gs following lawful e. lawful_frame_shows_nothing fs f gs lawful r.is_evident.seen r.is_evident.later following reason e r.is_evident.evidence;
  }

  pub all_of_verdict : (bytes : List ℕ) (fs : List Frame) (v : Verdict) → IsVerdict role limits bytes fs v → AreAll bytes fs
  all_of_verdict bytes fs (Accepted s) is = all_of_accepted bytes fs is.0
  all_of_verdict bytes fs (Cut s) is = all_of_cut bytes fs is.0
  all_of_verdict bytes fs (Refused r) is = all_of_refused bytes fs r.offset r.reason is

  -- ---- one list of frames

  -- Lawful frames at the start of the bytes continue to the complete list.
  pub all_go_on : (bytes : List ℕ) (fs gs : List Frame) (r : List ℕ) → IsLawful role limits fs → bytes ≡ stream fs ++ r → AreAll bytes gs → (more : List Frame) × (gs ≡ fs ++ more)
  all_go_on bytes fs gs r lawful whole a =
      elim (walk fs gs r a.rest (spellable_of_lawful role limits fs lawful) (spellable_of_lawful role limits gs a.lawful) (sym whole ∙ a.whole)) [
        | inl p ↦ (p.0, p.1)
        | inr p ↦ following p.0 p.1 p.2
      ]
    where
      following : (more : List Frame) → fs ≡ gs ++ more → a.rest ≡ stream more ++ r → (more : List Frame) × (gs ≡ fs ++ more)
      following [] is rests = ([], sym (append-nil gs) ∙ sym is ∙ sym (append-nil fs))
      following (f ∷ more) is rests = absurd (a.last f more (stream more ++ r) (subst (IsLawful role limits) is lawful) (rests ∙ append_assoc (frame_bytes f) (stream more) r))

  pub same_frames : (bytes : List ℕ) (fs gs : List Frame) → AreAll bytes fs → AreAll bytes gs → fs ≡ gs
  same_frames bytes fs gs a b =
      let on = all_go_on bytes fs gs a.rest a.lawful a.whole b in
      let back = all_go_on bytes gs fs b.rest b.lawful b.whole a in
      let round : fs ++ [] ≡ fs ++ (on.0 ++ back.0) = append-nil fs ∙ back.1 ∙ ap (λ (hs : List Frame). hs ++ back.0) on.1 ∙ append_assoc fs on.0 back.0 in
      let none = nil-parts on.0 back.0 (append_cancel fs [] (on.0 ++ back.0) round) in
      sym (on.1 ∙ ap (λ (hs : List Frame). fs ++ hs) none.0 ∙ append-nil fs)

  -- ---- one verdict with these frames

  module _ (bytes : List ℕ) (fs : List Frame) where
    accepted_not_cut : IsAccepted role limits bytes fs → IsCut role limits bytes fs → ⊥
    accepted_not_cut a c = by_end a.ends
      where
        by_end : Ends fs bytes → ⊥
        by_end (inl p) =
            let none : c.rest ≡ [] = append_cancel (stream fs) c.rest [] (sym c.whole ∙ p.2 ∙ sym (append-nil (stream fs))) in
            elim c.more [ inl some ↦ some none | inr is_open ↦ is_open p.1 ]
        by_end (inr p) = close_ends fs c.no_close p.0

    accepted_not_refused : (offset : ℕ) (reason : Reason) → IsAccepted role limits bytes fs → IsRefused role limits bytes fs offset reason → ⊥
    accepted_not_refused offset reason a r = by_end a.ends
      where
        by_end : Ends fs bytes → ⊥
        by_end (inl p) =
            let none : r.is_evident.seen ++ r.is_evident.later ≡ [] = append_cancel (stream fs) (r.is_evident.seen ++ r.is_evident.later) [] (sym r.is_evident.whole ∙ p.2 ∙ sym (append-nil (stream fs))) in
            let seen_none : r.is_evident.seen ≡ [] = (nil-parts r.is_evident.seen r.is_evident.later (sym none)).0 in
            let some = evidence_is_some role limits (unfinished fs) reason r.is_evident.seen r.is_evident.evidence in
            let count : length r.is_evident.seen ≡ 0 = ap (λ (bs : List ℕ). length bs) seen_none in
            omega arith
        by_end (inr p) = close_ends fs r.no_close p.0

    one_refusal : (r s : Refusal) → IsRefused role limits bytes fs r.offset r.reason → IsRefused role limits bytes fs s.offset s.reason → r ≡ s
    one_refusal r s is_r is_s =
        let pair = first_of_both (is_r.least s.offset s.reason is_s.is_evident) (is_s.least r.offset r.reason is_r.is_evident) in
        λ i. record { offset = pair.0 i; reason = same_number r.reason s.reason pair.1 i }
      where
        first_of_both : ComesFirst r.offset r.reason s.offset s.reason → ComesFirst s.offset s.reason r.offset r.reason → (r.offset ≡ s.offset) × (number_of r.reason ≡ number_of s.reason)
        first_of_both (inl a) (inl b) = absurd (omega arith)
        first_of_both (inl a) (inr b) = absurd (omega (arith, b.0))
        first_of_both (inr a) (inl b) = absurd (omega (arith, a.0))
        first_of_both (inr a) (inr b) = (a.0, omega (arith, a.1, b.1))

    pub same_verdict : (v w : Verdict) → IsVerdict role limits bytes fs v → IsVerdict role limits bytes fs w → v ≡ w
    same_verdict (Accepted s) (Accepted t) is also = ap Accepted (is.1 ∙ sym also.1)
    same_verdict (Accepted s) (Cut t) is also = absurd (accepted_not_cut is.0 also.0)
    same_verdict (Accepted s) (Refused r) is also = absurd (accepted_not_refused r.offset r.reason is.0 also)
    same_verdict (Cut s) (Accepted t) is also = absurd (accepted_not_cut also.0 is.0)
    same_verdict (Cut s) (Cut t) is also = ap Cut (is.1 ∙ sym also.1)
    same_verdict (Cut s) (Refused r) is also = absurd (is.0.has_no_evidence r.offset r.reason also.is_evident)
    same_verdict (Refused r) (Accepted t) is also = absurd (accepted_not_refused r.offset r.reason also.0 is)
    same_verdict (Refused r) (Cut t) is also = absurd (also.0.has_no_evidence r.offset r.reason is.is_evident)
    same_verdict (Refused r) (Refused s) is also = ap Refused (one_refusal r s is also)

  pub one_verdict : (bytes : List ℕ) (fs gs : List Frame) (v w : Verdict) → IsVerdict role limits bytes fs v → IsVerdict role limits bytes gs w → (fs ≡ gs) × (v ≡ w)
  one_verdict bytes fs gs v w is also =
      let same = same_frames bytes fs gs (all_of_verdict bytes fs v is) (all_of_verdict bytes gs w also) in
      (same, same_verdict bytes fs v w is (subst (λ (hs : List Frame). IsVerdict role limits bytes hs w) (sym same) also))

  -- ---- a longer input

  pub longer_goes_on : (bytes more : List ℕ) (fs gs : List Frame) (v w : Verdict) → IsVerdict role limits bytes fs v → IsVerdict role limits (bytes ++ more) gs w →
      (extra : List Frame) × (gs ≡ fs ++ extra) × (meaning gs ≡ meaning fs ++ events_after fs extra)
  longer_goes_on bytes more fs gs v w is also =
      let a = all_of_verdict bytes fs v is in
      let b = all_of_verdict (bytes ++ more) gs w also in
      let on = all_go_on (bytes ++ more) fs gs (a.rest ++ more) a.lawful (ap (λ (bs : List ℕ). bs ++ more) a.whole ∙ append_assoc (stream fs) a.rest more) b in
      (on.0, on.1, ap meaning on.1 ∙ meaning-append fs on.0)

  -- ---- the same bytes

  pub same_bytes : (fs gs : List Frame) → IsLawful role limits fs → IsLawful role limits gs → stream fs ≡ stream gs → fs ≡ gs
  same_bytes fs gs lawful also same = same_frames (stream fs) fs gs (all fs lawful (stream fs) refl) (all gs also (stream fs) same)
    where
      all : (hs : List Frame) → IsLawful role limits hs → (bytes : List ℕ) → bytes ≡ stream hs → AreAll bytes hs
      all hs lawful bytes whole = record {
        lawful = lawful;
        rest = [];
        whole = whole ∙ sym (append-nil (stream hs));
        last = λ f gs following more e. nil-cons _ _ e;
      }
