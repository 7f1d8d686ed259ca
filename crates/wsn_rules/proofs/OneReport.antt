-- Lines have at most one report.
use Rattle.std.proofs.Common.{◌≡◌, ℕ, zero, suc, ◌+◌, ◌-◌, ◌<◌, ◌≤◌, ◌⊎◌, Bool, Option, None, Some, List, [], ◌∷◌, ◌++◌, length, take, drop, inl, inr, refl, sym, ap, ◌∙◌, subst, arith, length-append, take-append-drop}
use Rattle.std.proofs.lemmas.Bool.{cases_lt}
use Rattle.std.proofs.lemmas.List.{take-take}
use Rattle.std.proofs.lemmas.List.Concat.{flat_map-append}
use Rattle.wsn_wire.specs.declared.endpoint.Role.{Role}
use Rattle.wsn_wire.specs.declared.endpoint.Role.TheVariants.{Client, Server}
use Rattle.wsn_wire.specs.Frame.{Frame, stream}
use Rattle.wsn_rules.specs.declared.verdict.Verdict.{Verdict}
use Rattle.wsn_rules.specs.declared.verdict.Verdict.TheVariants.{Accepted}
use Rattle.wsn_rules.specs.Limits.{Limits}
use Rattle.wsn_rules.specs.Accepted.{IsAccepted}
use Rattle.wsn_rules.specs.Summary.{counted}
use Rattle.wsn_rules.proofs.OneVerdict.{one_verdict}
use Rattle.wsn_rules.specs.declared.closing_handshake.Side.{Side}
use Rattle.wsn_rules.specs.declared.closing_handshake.Outcome.{Outcome}
use Rattle.wsn_rules.specs.declared.closing_handshake.Report.{Report}
use Rattle.wsn_rules.specs.Entries.{Entry}
use Rattle.wsn_rules.specs.Entries.Entry.{Nothing, Bytes, Mark}
use Rattle.wsn_rules.specs.Sides.{bytes_in, sent, side_of, has_ended, IsSide}
use Rattle.wsn_rules.specs.ClosingHandshake.{ClosesIn, IsFirst, other_endpoint, echo_of, seen_of, outcome_order, IsOutcome, IsReportOf, IsReport, SendAlike}
use Rattle.wsn_rules.proofs.OneEntry.{same_entries}
use Rattle.wsn_rules.proofs.Outcomes.{outcome_at, at_its_place}

-- ---- a side

pub one_side : (role : Role) (limits : Limits) (bytes : List ℕ) (ended : Bool) (side other : Side) → IsSide role limits bytes ended side → IsSide role limits bytes ended other → side ≡ other
one_side role limits bytes ended side other is also =
    is.3 ∙ ap (λ (v : Verdict). side_of v ended) (one_verdict role limits bytes is.0 also.0 is.1 also.1 is.2 also.2).1 ∙ sym also.3

-- accepted bytes have one list of frames
pub same_accepted : (role : Role) (limits : Limits) (bytes : List ℕ) (fs gs : List Frame) → IsAccepted role limits bytes fs → IsAccepted role limits bytes gs → fs ≡ gs
same_accepted role limits bytes fs gs is also =
    (one_verdict role limits bytes fs gs (Accepted (counted fs (length (stream fs)) (length bytes - length (stream fs)))) (Accepted (counted gs (length (stream gs)) (length bytes - length (stream gs)))) (is, refl) (also, refl)).0

-- ---- which line a Close ends in

-- more lines have no fewer bytes
pub sent_grows : (role : Role) (entries : List Entry) (j k : ℕ) → j ≤ k → length (sent role (take j entries)) ≤ length (sent role (take k entries))
sent_grows role entries j k le =
    let parts : sent role (take j (take k entries) ++ drop j (take k entries)) ≡ sent role (take j (take k entries)) ++ sent role (drop j (take k entries)) = flat_map-append (bytes_in role) (take j (take k entries)) (drop j (take k entries)) in
    let whole : sent role (take k entries) ≡ sent role (take j entries) ++ sent role (drop j (take k entries)) =
    ap (sent role) (sym (take-append-drop j (take k entries))) ∙ parts ∙ ap (λ (es : List Entry). sent role es ++ sent role (drop j (take k entries))) (take-take j k entries le) in
    let sizes = ap (λ (bs : List ℕ). length bs) whole ∙ length-append (sent role (take j entries)) (sent role (drop j (take k entries))) in
    omega (arith, sizes)

not_later : (role : Role) (limits : Limits) (entries : List Entry) (j k : ℕ) → ClosesIn role limits entries j → ClosesIn role limits entries k → j < k → ⊥
not_later role limits entries j k is also less =
    let same = ap (λ (fs : List Frame). length (stream fs)) (same_accepted role limits (sent role entries) is.frames also.frames is.accepted also.accepted) in
    let grows = sent_grows role entries (suc j) k (omega (arith, less)) in
    omega (arith, same, grows, is.following, also.before)

pub one_line : (role : Role) (limits : Limits) (entries : List Entry) (j k : ℕ) → ClosesIn role limits entries j → ClosesIn role limits entries k → j ≡ k
one_line role limits entries j k is also =
    elim (cases_lt j k) [
      | inl less ↦ absurd (not_later role limits entries j k is also less)
      | inr le ↦ elim (cases_lt k j) [
        | inl more ↦ absurd (not_later role limits entries k j also is more)
        | inr ge ↦ omega (arith, le, ge)
      ]
    ]

-- This line adds no bytes of the endpoint.
abbrev AddsNothing : Role → List Entry → ℕ → Type 0
AddsNothing role entries k = length (sent role (take (suc k) entries)) ≡ length (sent role (take k entries))

one_of_both : (entry : Entry) → (bytes_in Client entry ≡ []) ⊎ (bytes_in Server entry ≡ [])
one_of_both Nothing = inl refl
one_of_both (Bytes Client bytes) = inr refl
one_of_both (Bytes Server bytes) = inl refl
one_of_both (Mark role) = inl (no_bytes role)
  where
    no_bytes : (role : Role) → bytes_in Client (Mark role) ≡ []
    no_bytes Client = refl
    no_bytes Server = refl

adds_after : (role : Role) (entry : Entry) (entries : List Entry) (k : ℕ) → AddsNothing role entries k → AddsNothing role (entry ∷ entries) (suc k)
adds_after role entry entries k is =
    length-append (bytes_in role entry) (sent role (take (suc k) entries)) ∙ ap (λ (n : ℕ). length (bytes_in role entry) + n) is ∙ sym (length-append (bytes_in role entry) (sent role (take k entries)))

adds_first : (role : Role) (entry : Entry) (entries : List Entry) → bytes_in role entry ≡ [] → AddsNothing role (entry ∷ entries) 0
adds_first role entry entries none = ap (λ (bs : List ℕ). length (bs ++ [])) none

pub adds_to_one : (entries : List Entry) (k : ℕ) → AddsNothing Client entries k ⊎ AddsNothing Server entries k
adds_to_one [] zero = inl refl
adds_to_one [] (suc k) = inl refl
adds_to_one (entry ∷ entries) zero =
    elim (one_of_both entry) [
      | inl none ↦ inl (adds_first Client entry entries none)
      | inr none ↦ inr (adds_first Server entry entries none)
    ]
adds_to_one (entry ∷ entries) (suc k) =
    elim (adds_to_one entries k) [
      | inl none ↦ inl (adds_after Client entry entries k none)
      | inr none ↦ inr (adds_after Server entry entries k none)
    ]

adds_some : (role : Role) (limits : Limits) (entries : List Entry) (k : ℕ) → ClosesIn role limits entries k → AddsNothing role entries k → ⊥
adds_some role limits entries k is none = omega (arith, none, is.before, is.following)

-- the Closes of both endpoints don't end in one line
pub two_lines : (limits : Limits) (entries : List Entry) (j k : ℕ) → ClosesIn Client limits entries j → ClosesIn Server limits entries k → j ≡ k → ⊥
two_lines limits entries j k client server same =
    elim (adds_to_one entries k) [
      | inl none ↦ adds_some Client limits entries k (subst (ClosesIn Client limits entries) same client) none
      | inr none ↦ adds_some Server limits entries k server none
    ]

-- ---- which came first

not_both : (role : Role) (limits : Limits) (entries : List Entry) → IsFirst limits entries (Some role) → IsFirst limits entries (Some (other_endpoint role)) → (line : ℕ) × ClosesIn (other_endpoint role) limits entries line → ⊥
not_both Client limits entries is also closes =
    let less = is.2 also.0 also.1 in let more = also.2 is.0 is.1 in omega (arith, less, more)
not_both Server limits entries is also closes =
    let less = is.2 also.0 also.1 in let more = also.2 is.0 is.1 in omega (arith, less, more)

pub one_first : (limits : Limits) (entries : List Entry) (first other : Option Role) → IsFirst limits entries first → IsFirst limits entries other → first ≡ other
one_first limits entries None None is also = refl
one_first limits entries None (Some role) is also = absurd (is role also.0 also.1)
one_first limits entries (Some role) None is also = absurd (also role is.0 is.1)
one_first limits entries (Some Client) (Some Client) is also = refl
one_first limits entries (Some Client) (Some Server) is also = absurd (not_both Client limits entries is also (also.0, also.1))
one_first limits entries (Some Server) (Some Client) is also = absurd (not_both Server limits entries is also (also.0, also.1))
one_first limits entries (Some Server) (Some Server) is also = refl

-- ---- the outcome

pub one_outcome : (client server : Side) (client_ended server_ended : Bool) (outcome other : Outcome) → IsOutcome client server client_ended server_ended outcome → IsOutcome client server client_ended server_ended other → outcome ≡ other
one_outcome client server client_ended server_ended outcome other is also =
    let up = is.first other also.fits in
    let down = also.first outcome is.fits in
    let same : outcome_order outcome ≡ outcome_order other = omega (arith, up, down) in
    sym (at_its_place outcome) ∙ ap outcome_at same ∙ at_its_place other

-- ---- the report

-- reports of the same streams and end marks are equal but for `first`
pub alike : (limits : Limits) (entries others : List Entry) (report other : Report) → ((role : Role) → sent role entries ≡ sent role others) → ((role : Role) → has_ended role entries ≡ has_ended role others)
    → IsReportOf limits entries report → IsReportOf limits others other → other ≡ record report { first = other.first }
alike limits entries others report other bytes marks is also =
    let client : other.client ≡ report.client = one_side Client limits (sent Client others) (has_ended Client others) other.client report.client also.client
    (subst (λ (b : Bool). IsSide Client limits (sent Client others) b report.client) (marks Client) (subst (λ (bs : List ℕ). IsSide Client limits bs (has_ended Client entries) report.client) (bytes Client) is.client)) in
    let server : other.server ≡ report.server = one_side Server limits (sent Server others) (has_ended Server others) other.server report.server also.server
    (subst (λ (b : Bool). IsSide Server limits (sent Server others) b report.server) (marks Server) (subst (λ (bs : List ℕ). IsSide Server limits bs (has_ended Server entries) report.server) (bytes Server) is.server)) in
    let outcome_moved = subst (λ (b : Bool). IsOutcome report.client report.server (has_ended Client others) b report.outcome) (marks Server) (subst (λ (b : Bool). IsOutcome report.client report.server b (has_ended Server entries) report.outcome) (marks Client) is.outcome) in
    let other_moved = subst (λ (s : Side). IsOutcome report.client s (has_ended Client others) (has_ended Server others) other.outcome) server (subst (λ (s : Side). IsOutcome s other.server (has_ended Client others) (has_ended Server others) other.outcome) client also.outcome) in
    let echo : other.echo ≡ report.echo = also.echo ∙ ap (λ (s : Side). echo_of s other.server) client ∙ ap (λ (s : Side). echo_of report.client s) server ∙ sym is.echo in
    let client_sees : other.client_sees ≡ report.client_sees = also.client_sees ∙ ap seen_of server ∙ sym is.client_sees in
    let server_sees : other.server_sees ≡ report.server_sees = also.server_sees ∙ ap seen_of client ∙ sym is.server_sees in
    let outcome : other.outcome ≡ report.outcome = one_outcome report.client report.server (has_ended Client others) (has_ended Server others) other.outcome report.outcome other_moved outcome_moved in
    λ i. record {
      client = client i;
      server = server i;
      first = other.first;
      echo = echo i;
      client_sees = client_sees i;
      server_sees = server_sees i;
      outcome = outcome i;
    }

pub one_report_of : (limits : Limits) (entries : List Entry) (report other : Report) → IsReportOf limits entries report → IsReportOf limits entries other → other ≡ report
one_report_of limits entries report other is also =
    alike limits entries entries report other (λ role. refl) (λ role. refl) is also ∙ ap (λ (f : Option Role). record report { first = f }) (one_first limits entries other.first report.first also.first is.first)

pub one_report : (limits : Limits) (lines : List (List ℕ)) (report other : Report) → IsReport limits lines report → IsReport limits lines other → report ≡ other
one_report limits lines report other is also =
    one_report_of limits is.entries other report (subst (λ (es : List Entry). IsReportOf limits es other) (same_entries lines also.entries is.entries also.given is.given) also.is) is.is

pub all_but_first : (limits : Limits) (lines others : List (List ℕ)) (report other : Report) → SendAlike lines others → IsReport limits lines report → IsReport limits others other → other ≡ record report { first = other.first }
all_but_first limits lines others report other same is also =
    let here = subst (λ (es : List Entry). IsReportOf limits es report) (same_entries lines is.entries same.entries is.given same.given) is.is in
    let there = subst (λ (es : List Entry). IsReportOf limits es other) (same_entries others also.entries same.other_entries also.given same.other_given) also.is in
    alike limits same.entries same.other_entries report other same.bytes same.marks here there
