-- What is noted of the end of a capture, once more lines came, and who ended the connection by it.
use Rattle.std.proofs.Common.{◌≡◌, ℕ, ◌⊎◌, ◌↔◌, Bool, true, false, IsTrue, Option, None, Some, List, [], ◌∷◌, ◌++◌, inl, inr, refl, sym, ap, ◌∙◌, subst, append-nil}
use Rattle.std.specs.Prelude.{slice_get}
use Rattle.std.specs.Option.{option_or}
use Rattle.std.proofs.lemmas.List.Concat.{flat_map-append}
use Rattle.std.proofs.lemmas.List.Elements.{Contains-append_left, Contains-push_cases}
use Rattle.std.proofs.lemmas.List.Quantifiers.{Any-push}
use Rattle.wsn_wire.specs.declared.endpoint.Role.{Role}
use Rattle.wsn_wire.specs.declared.endpoint.Role.TheVariants.{Client, Server}
use Rattle.wsn_rules.specs.declared.verdict.Verdict.{Verdict}
use Rattle.wsn_rules.specs.declared.verdict.Verdict.TheVariants.{Accepted, Cut, Refused}
use Rattle.wsn_rules.specs.declared.closing_handshake.Report.{Report}
use Rattle.wsn_rules.specs.declared.closing_handshake.Side.{Side}
use Rattle.wsn_rules.specs.Limits.{Limits}
use Rattle.wsn_rules.specs.Entries.{Entry, without_cr}
use Rattle.wsn_rules.specs.Entries.Entry.{Nothing, Bytes, Mark}
use Rattle.wsn_rules.specs.Sides.{sent, has_ended, accepted_side, side_of, IsSide}
use Rattle.wsn_rules.specs.ClosingHandshake.{IsEndedEarly, IsReportOf}
use Rattle.wsn_capture.specs.EndedBy.{marks_in, end_marks, reset_comment, SayReset, HasEndedEarly}
use Rattle.wsn_show.specs.declared.end_notes.EndNotes.{EndNotes}
use Rattle.wsn_show.specs.EndNotes.{first_marked, noted_reset, HasNotedEnd}

-- ---- the first end mark

first_or : (roles more : List Role) → slice_get (roles ++ more) 0 ≡ option_or (slice_get roles 0) (slice_get more 0)
first_or [] more = refl
first_or (role ∷ roles) more = refl

pub first_pushed : (entries : List Entry) (entry : Entry) → first_marked (entries ++ entry ∷ []) ≡ option_or (first_marked entries) (slice_get (marks_in entry) 0)
first_pushed entries entry =
    ap (λ (roles : List Role). slice_get roles 0)
    (flat_map-append marks_in entries (entry ∷ []) ∙ ap (λ (roles : List Role). end_marks entries ++ roles) (append-nil (marks_in entry)))
    ∙ first_or (end_marks entries) (marks_in entry)

-- ---- a comment that an endpoint reset the connection

module _ (lines : List (List ℕ)) (line : List ℕ) (role : Role) where
  abbrev Says : List ℕ → Type 0
  Says l = without_cr l ≡ reset_comment role

  said_before : SayReset lines role → SayReset (lines ++ line ∷ []) role
  said_before (k, x, within, at, says) =
      let found = Contains-append_left lines (line ∷ []) x (k, within, at) in (found.0, x, found.1, found.2, says)

  said_in : SayReset (lines ++ line ∷ []) role → SayReset lines role ⊎ Says line
  said_in (k, x, within, at, says) =
      elim (Contains-push_cases lines line x (k, within, at))
      [ inl found ↦ inl (found.0, x, found.1, found.2, says) | inr same ↦ inr (subst Says (sym same) says) ]

  pub reset_pushed : (text : List ℕ) (before after : Bool) → text ≡ without_cr line → (IsTrue before ↔ SayReset lines role)
      → (IsTrue after ↔ ((before ≡ true) ⊎ (text ≡ reset_comment role))) → IsTrue after ↔ SayReset (lines ++ line ∷ []) role
  reset_pushed text before after is earlier noted = (
    λ holds. elim (noted.0 holds)
        [ inl known ↦ said_before (earlier.0 known) | inr says ↦ Any-push Says lines line (sym is ∙ says) ],
    λ said. noted.1 (elim (said_in said)
        [ inl known ↦ inl (earlier.1 known) | inr says ↦ inr (is ∙ says) ]),
  )

-- ---- a line

pub noted_end : (lines : List (List ℕ)) (entries : List Entry) (old : EndNotes) → HasNotedEnd old lines entries → (line : List ℕ) (entry : Entry) (text : List ℕ) (new : EndNotes) → text ≡ without_cr line
    → new.first ≡ option_or old.first (slice_get (marks_in entry) 0)
    → (IsTrue new.client_reset ↔ ((old.client_reset ≡ true) ⊎ (text ≡ reset_comment Client)))
    → (IsTrue new.server_reset ↔ ((old.server_reset ≡ true) ⊎ (text ≡ reset_comment Server)))
    → HasNotedEnd new (lines ++ line ∷ []) (entries ++ entry ∷ [])
noted_end lines entries old has line entry text new is first client server = record {
  first = first ∙ ap (λ (o : Option Role). option_or o (slice_get (marks_in entry) 0)) has.first ∙ sym (first_pushed entries entry);
  resets = λ role. elim role as (λ r. IsTrue (noted_reset r new) ↔ SayReset (lines ++ line ∷ []) r) [
    | Client ↦ reset_pushed lines line Client text old.client_reset new.client_reset is (has.resets Client) client
    | Server ↦ reset_pushed lines line Server text old.server_reset new.server_reset is (has.resets Server) server
  ];
}

-- ---- a stream that ended without a Close has an end mark

accepted_early : (close : Option (Option ℕ)) → IsEndedEarly (accepted_side close false) → ⊥
accepted_early (Some code) early = early
accepted_early None early = early

early_by : (verdict : Verdict) (ended : Bool) → IsEndedEarly (side_of verdict ended) → ended ≡ true
early_by verdict true early = refl
early_by (Accepted summary) false early = absurd (accepted_early summary.close early)
early_by (Cut summary) false early = absurd early
early_by (Refused refusal) false early = absurd early

early_ended : (role : Role) (limits : Limits) (entries : List Entry) (side : Side) → IsSide role limits (sent role entries) (has_ended role entries) side → IsEndedEarly side
    → has_ended role entries ≡ true
early_ended role limits entries side is early = early_by is.1 (has_ended role entries) (subst IsEndedEarly is.3 early)

has_mark : (role : Role) (entries : List Entry) → has_ended role entries ≡ true → first_marked entries ≡ None → ⊥
has_mark role [] ended none = cc
has_mark Client (Nothing ∷ entries) ended none = has_mark Client entries ended none
has_mark Server (Nothing ∷ entries) ended none = has_mark Server entries ended none
has_mark Client (Bytes sender bytes ∷ entries) ended none = has_mark Client entries ended none
has_mark Server (Bytes sender bytes ∷ entries) ended none = has_mark Server entries ended none
has_mark role (Mark sender ∷ entries) ended none = cc

pub none_early : (limits : Limits) (entries : List Entry) (report : Report) → IsReportOf limits entries report → first_marked entries ≡ None → HasEndedEarly report → ⊥
none_early limits entries report is none (inl early) = has_mark Client entries (early_ended Client limits entries report.client is.client early) none
none_early limits entries report is none (inr early) = has_mark Server entries (early_ended Server limits entries report.server is.server early) none
